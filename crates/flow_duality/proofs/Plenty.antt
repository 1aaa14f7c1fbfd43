-- Words of private contracts: how much is plenty, so that the flow test back passes too, and a relation that stays symmetric from the marks on.
use mathlib.Core.Path.{◌≡◌, sym, ap, subst⁻¹, ◌∙◌}
use Prim.Native.Nat.{ℕ, suc, ◌≤◌, ◌<◌, ◌+◌, ◌*◌}
use mathlib.Core.Bool.{Bool, true}
use mathlib.Core.Logic.{◌⊎◌, inl, inr}
use mathlib.Core.List.{List, [], ◌∷◌}
use native.Mathlib.Omega.{arith}
use lib.Dec.{T}
use lib.Ieee.{Float, nan, binary64, add, fits}
use lib.ListN.{length, get_or, take}
use lib.Seq.{slice, length-slice, get_or-take, get_or-drop}
use Rattle.std.specs.Prelude.{Option, Some, IfSome}
use Rattle.numbers.specs.Lists.{In}
use Rattle.numbers.specs.Bits.{packed, bit_at, cleared}
use Rattle.epsdelta_theory.specs.Jumps.{Jump, jumps_of}
use Rattle.epsdelta_theory.specs.Relation.{holds, clear}
use Rattle.epsdelta_theory.specs.Claim.{Symmetric}
use Rattle.epsdelta_theory.proofs.Pairs.{packed_holds, packed_cleared, clear_there, clear_back, clear_other, pair_cases}
use Rattle.epsdelta_theory.proofs.RowReads.{jumps_length}
use Rattle.epsdelta_theory.proofs.TasksIn.{row_in, RowsFit, test_in}
use Rattle.flow_duality.specs.Spare.{row_most, is_share, spare}
use Rattle.flow_duality.proofs.Networks.{Share, Shares, share_of_lem}
use Rattle.flow_duality.proofs.Duality.{Mutual, passes_both}

-- ---- plenty

-- a flow that is plenty, between rows of at most `row_most` jumps against a symmetric relation, is enough, and so is the one back
abbrev pub Plenty : ℕ → List ℕ → List ℕ → List Float → Float → Float → Type 0
Plenty n S T P need plenty = (R : List Bool) → Symmetric n R → (s t : ℕ) → s < n → t < n → get_or S (s + 1) 0 ≤ get_or S s 0 + row_most → get_or S (t + 1) 0 ≤ get_or S t 0 + row_most → test_in n S T P plenty R s t ≡ true → (test_in n S T P need R s t ≡ true) × (test_in n S T P need R t s ≡ true)

-- a number of the format
abbrev pub Formed : Float → Type 0
Formed x = T (fits binary64 x)

-- a jump to a state, with a rate above 0 and at most 1
abbrev pub Light : ℕ → List ℕ → List Float → ℕ → Type 0
Light n T P i = (get_or T i 0 < n) × Formed (get_or P i nan) × (is_share (get_or P i nan) ≡ true)

-- all jumps of s are such
abbrev pub LightRow : ℕ → List ℕ → List ℕ → List Float → ℕ → Type 0
LightRow n S T P s = (i : ℕ) → get_or S s 0 ≤ i → i < get_or S (s + 1) 0 → Light n T P i

shares_of_lem : (us : List ℕ) (vs : List Float) → ((i : ℕ) → i < length vs → Share (get_or vs i nan)) → Shares (jumps_of us vs)
unfolding jumps_of
shares_of_lem [] vs h = tt
shares_of_lem (u ∷ us) [] h = tt
shares_of_lem (u ∷ us) (v ∷ vs) h = (h 0 (omega arith), shares_of_lem us vs (λ i l. h (suc i) (omega arith)))

targets_of : (n : ℕ) (us : List ℕ) (vs : List Float) → ((i : ℕ) → i < length us → get_or us i 0 < n) → (j : Jump) → In j (jumps_of us vs) → j.target < n
unfolding jumps_of
targets_of n [] vs h j p = absurd p
targets_of n (u ∷ us) [] h j p = absurd p
targets_of n (u ∷ us) (v ∷ vs) h j (inl e) = subst⁻¹ (λ (k : Jump). k.target < n) e (h 0 (omega arith))
targets_of n (u ∷ us) (v ∷ vs) h j (inr p) = targets_of n us vs (λ i l. h (suc i) (omega arith)) j p

part_at : {A : Type 0} (f t : ℕ) (l : List A) (z : A) (j : ℕ) → f + j < t → get_or (slice f t l) j z ≡ get_or l (f + j) z
part_at f t l z j h = get_or-drop f (take t l) j z ∙ get_or-take t l (f + j) z h

module _ {n : ℕ} {S T : List ℕ} {P : List Float} (F : RowsFit n S T P) where
  module _ (s : ℕ) (h : s < n) (L : LightRow n S T P s) where
    row_shares : Shares (row_in S T P s)
    row_shares =
        let a = get_or S s 0 in
        let b = get_or S (s + 1) 0 in
        let z = length-slice a b P (F.probs_long s h) in
        let r = F.rise s h in
        shares_of_lem (slice a b T) (slice a b P) (λ i l. share i (omega arith))
      where
        share : (i : ℕ) → get_or S s 0 + i < get_or S (s + 1) 0 → Share (get_or (slice (get_or S s 0) (get_or S (s + 1) 0) P) i nan)
        share i l =
            let (_, f, p) = L (get_or S s 0 + i) (omega arith) l in
            subst⁻¹ Share (part_at (get_or S s 0) (get_or S (s + 1) 0) P nan i l) (share_of_lem (get_or P (get_or S s 0 + i) nan) f p)

    row_few : get_or S (s + 1) 0 ≤ get_or S s 0 + row_most → length (row_in S T P s) ≤ row_most
    row_few f =
        let a = get_or S s 0 in
        let b = get_or S (s + 1) 0 in
        let y = length-slice a b T (F.targets_long s h) in
        let z = length-slice a b P (F.probs_long s h) in
        let e = jumps_length (slice a b T) (slice a b P) (y ∙ sym z) in
        omega arith

    row_targets_lem : (j : Jump) → In j (row_in S T P s) → j.target < n
    row_targets_lem =
        let a = get_or S s 0 in
        let b = get_or S (s + 1) 0 in
        let y = length-slice a b T (F.targets_long s h) in
        let r = F.rise s h in
        targets_of n (slice a b T) (slice a b P) (λ i l. target i (omega arith))
      where
        target : (i : ℕ) → get_or S s 0 + i < get_or S (s + 1) 0 → get_or (slice (get_or S s 0) (get_or S (s + 1) 0) T) i 0 < n
        target i l = subst⁻¹ (λ (u : ℕ). u < n) (part_at (get_or S s 0) (get_or S (s + 1) 0) T 0 i l) (L (get_or S s 0 + i) (omega arith) l).0

  -- `spare` more than what is needed is plenty
  pub plenty_of : (need : Float) → Formed need → ((s : ℕ) → s < n → LightRow n S T P s) → Plenty n S T P need (add binary64 need spare)
  plenty_of need f L R sym-R s t hs ht fs ft p =
      let m : Mutual n R (row_in S T P s) (row_in S T P t) = λ j k x y. sym-R j.target k.target (row_targets_lem s hs (L s hs) j x) (row_targets_lem t ht (L t ht) k y) in
      passes_both n R (row_in S T P s) (row_in S T P t) (row_shares s hs (L s hs)) (row_shares t ht (L t ht)) (row_few s hs (L s hs) fs) (row_few t ht (L t ht) ft) m need f p

-- what is plenty between rows of so many jumps: where both have at most `row_most`
abbrev pub Between : ℕ → ℕ → Option Float → Option Float → Type 0
Between a b plenty here = IfSome here (λ x. (plenty ≡ Some x) × (a ≤ row_most) × (b ≤ row_most))

-- ---- a relation that stays symmetric

-- the bytes hold v with u as they hold u with v
abbrev pub Even : ℕ → List ℕ → Type 0
Even n store = (u v : ℕ) → u < n → v < n → bit_at store (u * n + v) ≡ bit_at store (v * n + u)

pub even_symmetric : (n : ℕ) (store : List ℕ) (R : List Bool) → store ≡ packed R → Even n store → Symmetric n R
even_symmetric n store R e E u v hu hv =
    sym (packed_holds n R u v) ∙ ap (λ (l : List ℕ). bit_at l (u * n + v)) (sym e) ∙ E u v hu hv ∙ ap (λ (l : List ℕ). bit_at l (v * n + u)) e ∙ packed_holds n R v u

pub symmetric_even : (n : ℕ) (store : List ℕ) (R : List Bool) → store ≡ packed R → Symmetric n R → Even n store
symmetric_even n store R e E u v hu hv =
    ap (λ (l : List ℕ). bit_at l (u * n + v)) e ∙ packed_holds n R u v ∙ E u v hu hv ∙ sym (packed_holds n R v u) ∙ ap (λ (l : List ℕ). bit_at l (v * n + u)) (sym e)

clear_symmetric : (n : ℕ) (R : List Bool) (s t : ℕ) → s < n → t < n → Symmetric n R → Symmetric n (clear n R s t)
clear_symmetric n R s t hs ht E u v hu hv = pick (pair_cases u v s t) (pair_cases u v t s)
  where
    pick : ((u ≡ s) × (v ≡ t)) ⊎ ((u ≡ s) → (v ≡ t) → ⊥) → ((u ≡ t) × (v ≡ s)) ⊎ ((u ≡ t) → (v ≡ s) → ⊥) → holds n (clear n R s t) u v ≡ holds n (clear n R s t) v u
    pick (inl (p, q)) c = rw (p, q) (clear_there n R s t ∙ sym (clear_back n R s t))
    pick (inr f) (inl (p, q)) = rw (p, q) (clear_back n R s t ∙ sym (clear_there n R s t))
    pick (inr f) (inr g) = clear_other n R s t u v hs ht hv f g ∙ E u v hu hv ∙ sym (clear_other n R s t v u hs ht hu (λ p q. g q p) (λ p q. f q p))

-- both orders of a pair are cleared
pub even_strike : {n : ℕ} {store store' : List ℕ} (R : List Bool) → store ≡ packed R → (s t : ℕ) → s < n → t < n → store' ≡ cleared (cleared store (s * n + t)) (t * n + s) → Even n store → Even n store'
even_strike {n} {store} {store'} R p s t hs ht e E =
    symmetric_even n store' (clear n R s t) (e ∙ ap (λ (l : List ℕ). cleared (cleared l (s * n + t)) (t * n + s)) p ∙ packed_cleared n R s t) (clear_symmetric n R s t hs ht (even_symmetric n store R p E))
