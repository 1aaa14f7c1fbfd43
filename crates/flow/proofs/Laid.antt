-- What the first links are after they were laid from rows: heads and capacities as they stand there, costs 0 and its negation in turn.
use mathlib.Core.Path.{◌≡◌, refl, sym, ap, ap₂, ◌∙◌}
use mathlib.Core.Logic.{◌⊎◌, inl, inr}
use Prim.Native.Nat.{ℕ, zero, suc, ◌+◌, ◌≤◌, ◌<◌}
use mathlib.Core.List.{List, map}
use native.Mathlib.Omega.{arith}
use native.Mathlib.Nat.{not-suc-le-zero}
use native.Mathlib.Numerals.{add-one}
use lib.ListN.{length, get_or, set, take, length-map, length-set}
use lib.Seq.{length-take-le, get_or-take, get_or-set_same, get_or-set_other, ext_get_or}
use lib.Ieee.{Float, nan, neg, of_bits}
use Rattle.numbers.specs.Real.{nought}
use Rattle.numbers.proofs.Bools.{lt_or_ge}
use Rattle.flow_theory.proofs.Lists.{at_map}
use Rattle.flow.specs.declared.network.Link.{Link}
use Rattle.flow.specs.declared.network.FlowNetwork.{FlowNetwork}
use Rattle.flow.specs.Network.{heads_of, caps_of, costs_of, with_links}
use Rattle.flow.specs.Filled.{cost_at, laid}
use Rattle.flow.proofs.Packing.{past_end}

module _ (ls : List Link) (H : List ℕ) (c : List Float) where
  pub laid_length : (i : ℕ) → length (laid ls H c i) ≡ length ls
  unfolding laid
  laid_length zero = refl
  laid_length (suc i) = rw length-set (laid_length i)

  -- link i as it is laid
  abbrev link : ℕ → Link
  link i = record { head = get_or H i 0; cap = get_or c i nan; cost = cost_at i }

  laid_at : (n i : ℕ) → i < n → n ≤ length ls → get_or (laid ls H c n) i past_end ≡ link i
  unfolding laid
  laid_at zero i h k = absurd (not-suc-le-zero h)
  laid_at (suc n) i h k = pick (lt_or_ge i n) (laid_at n i)
    where
      pick : (i < n) ⊎ (n ≤ i) → (i < n → n ≤ length ls → get_or (laid ls H c n) i past_end ≡ link i) → get_or (set (laid ls H c n) n (link n)) i past_end ≡ link i
      pick (inl l) rec = get_or-set_other (laid ls H c n) n i (link n) past_end (omega arith) ∙ rec l (omega arith)
      pick (inr g) rec =
          let e : n ≡ i = omega arith in
          let q = laid_length n in
          ap (λ (j : ℕ). get_or (set (laid ls H c n) n (link n)) j past_end) (sym e) ∙ get_or-set_same (laid ls H c n) n (link n) past_end (omega arith) ∙ ap link e

  module _ (n : ℕ) (there : n ≤ length ls) where
    pub row_laid : {A : Type 0} (f : Link → A) → length (take n (map f (laid ls H c n))) ≡ n
    row_laid f = let l = laid_length n in let m = length-map (laid ls H c n) f in length-take-le n (map f (laid ls H c n)) (omega arith)

    at_laid : {A : Type 0} (f : Link → A) (i : ℕ) → i < n → get_or (take n (map f (laid ls H c n))) i (f past_end) ≡ f (link i)
    at_laid f i h = get_or-take n (map f (laid ls H c n)) i (f past_end) h ∙ at_map f past_end (laid ls H c n) i ∙ ap f (laid_at n i h there)

    pub heads_laid : n ≤ length H → heads_of n (laid ls H c n) ≡ take n H
    heads_laid k =
        let r = row_laid (λ (l : Link). l.head) in
        ext_get_or 0 (heads_of n (laid ls H c n)) (take n H) (r ∙ sym (length-take-le n H k)) (λ i h. at_laid (λ (l : Link). l.head) i (omega arith) ∙ sym (get_or-take n H i 0 (omega arith)))

    pub caps_laid : n ≤ length c → caps_of n (laid ls H c n) ≡ take n c
    caps_laid k =
        let r = row_laid (λ (l : Link). l.cap) in
        ext_get_or nan (caps_of n (laid ls H c n)) (take n c) (r ∙ sym (length-take-le n c k)) (λ i h. at_laid (λ (l : Link). l.cap) i (omega arith) ∙ sym (get_or-take n c i nan (omega arith)))

    pub cost_laid : (i : ℕ) → i < n → get_or (costs_of n (laid ls H c n)) i nan ≡ cost_at i
    cost_laid i h = at_laid (λ (l : Link). l.cost) i h

-- the network and the next cost while links are laid in it
abbrev pub LaidTo : FlowNetwork → List ℕ → List Float → FlowNetwork → Float → ℕ → ℕ → Type 0
LaidTo N H c N' cost i n = (i ≤ n) × (N' ≡ with_links N (laid N.links H c i)) × (cost ≡ cost_at i)

module _ (N : FlowNetwork) (H : List ℕ) (c : List Float) where
  pub lay_begins : (n : ℕ) → LaidTo N H c N nought 0 n
  unfolding cost_at laid
  lay_begins n = (omega arith, refl, refl)

  module _ {N' : FlowNetwork} {cost : Float} {i n : ℕ} (I : LaidTo N H c N' cost i n) where
    pub lay_on : i < n → LaidTo N H c (with_links N' (set N'.links i (record { head = get_or H i 0; cap = get_or c i nan; cost = cost }))) (neg cost) (i + 1) n
    unfolding cost_at laid
    lay_on h = (
      omega arith,
      ap₂ (λ (M : FlowNetwork) (x : Float). with_links M (set M.links i (record { head = get_or H i 0; cap = get_or c i nan; cost = x }))) I.1 I.2 ∙ ap (λ (m : ℕ). with_links N (laid N.links H c m)) (sym (add-one i)),
      ap neg I.2 ∙ ap cost_at (sym (add-one i)),
    )

-- the cost of an added link is 0, and that of its reverse the negation
pub cost_added : (k : ℕ) → cost_at (k + k) ≡ nought
unfolding cost_at neg of_bits
cost_added zero = refl
cost_added (suc k) = let e : suc k + suc k ≡ suc (suc (k + k)) = omega arith in ap cost_at e ∙ ap (λ (x : Float). neg (neg x)) (cost_added k)

pub cost_reverse : (k : ℕ) → cost_at (k + k + 1) ≡ neg nought
unfolding cost_at
cost_reverse k = let e : k + k + 1 ≡ suc (k + k) = omega arith in ap cost_at e ∙ ap neg (cost_added k)
