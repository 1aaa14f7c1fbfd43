-- The turns of `write_offsets`: the triples rise, so the edges with a source below s are those before the first triple from s * 2^19 on (`below_is`).
use mathlib.Core.Path.{◌≡◌, refl, sym, subst, ap, ◌∙◌}
use mathlib.Core.Logic.{◌⊎◌, inl, inr, ◌≢◌}
use Prim.Native.Nat.{ℕ, zero, suc, ◌+◌, ◌*◌, ◌/◌, ◌≤◌, ◌<◌}
use mathlib.Core.List.{List, [], ◌∷◌, ◌++◌, map, append-nil}
use native.Mathlib.Omega.{arith}
use native.Mathlib.Numerals.{add-one}
use lib.Dec.{ltb}
use lib.Ieee.{Float, nan}
use lib.ListN.{length, get_or, take, drop, set, length-set, length-map}
use lib.Seq.{length-take-le}
use Rattle.std.proofs.lemmas.List.{drop_all}
use borrow.Author.Tests.{lt-ltb, le-ltb}
use Rattle.numbers.proofs.Over.{over, over_next, over_done}
use Rattle.bisim_core.specs.Data.{Edge}
use Rattle.build_theory.specs.Edges.{one, below, offsets}
use Rattle.numbers.specs.Lists.{span}
use Rattle.build_theory.proofs.Steps.{edge_in, first_edges, edges_in, Rising, FirstFrom}
use Rattle.numbers.proofs.Bools.{eq_or_ne}
use Rattle.numbers.proofs.Spans.{span_length, span_at}

pub below_snoc : (s : ℕ) (E : List Edge) (a : Edge) → below s (E ++ (a ∷ [])) ≡ below s E + one (ltb a.source s)
unfolding below
below_snoc s [] a = let z : one (ltb a.source s) + 0 ≡ 0 + one (ltb a.source s) = omega arith in z
below_snoc s (b ∷ E) a = let e = below_snoc s E a in omega arith

module _ (T : List ℕ) (U : List Float) (s : ℕ) where
  all_below : (k : ℕ) → ((j : ℕ) → j < k → get_or T j 0 < s * 524288) → below s (first_edges T U k) ≡ k
  unfolding first_edges below
  all_below zero h = refl
  all_below (suc k) h =
      let a = h k (omega arith) in
      let e = all_below k (λ j l. h j (omega arith)) in
      let o : one (ltb (get_or T k 0 / 524288) s) ≡ 1 = ap one (lt-ltb (get_or T k 0 / 524288) s (omega arith)) in
      below_snoc s (first_edges T U k) (edge_in (get_or T k 0) (get_or U k nan)) ∙ omega arith

  none_below : (p d : ℕ) → below s (first_edges T U p) ≡ p → ((j : ℕ) → p ≤ j → j < p + d → s * 524288 ≤ get_or T j 0) → below s (first_edges T U (p + d)) ≡ p
  unfolding first_edges
  none_below p zero e h = ap (λ (x : ℕ). below s (first_edges T U x)) (let z : p + 0 ≡ p = omega arith in z) ∙ e
  none_below p (suc d) e h =
      let a = h (p + d) (omega arith) (omega arith) in
      let f = none_below p d e (λ j l k. h j l (omega arith)) in
      let o : one (ltb (get_or T (p + d) 0 / 524288) s) ≡ 0 = ap one (le-ltb (get_or T (p + d) 0 / 524288) s (omega arith)) in
      ap (λ (x : ℕ). below s (first_edges T U x)) (let z : p + suc d ≡ suc (p + d) = omega arith in z)
      ∙ below_snoc s (first_edges T U (p + d)) (edge_in (get_or T (p + d) 0) (get_or U (p + d) nan)) ∙ omega arith

  pub below_is : (r : ℕ) → r ≤ length T → Rising T → ((j : ℕ) → j < r → get_or T j 0 < s * 524288) → (r < length T → s * 524288 ≤ get_or T r 0) → below s (edges_in T U) ≡ r
  below_is r h R low high =
      pick (Prim.Native.Nat.◌-◌ (length T) r) (let z : length T ≡ r + Prim.Native.Nat.◌-◌ (length T) r = omega arith in z)
    where
      upper : (j : ℕ) → r ≤ j → j < length T → s * 524288 ≤ get_or T j 0
      upper j l k = choose (eq_or_ne r j)
        where
          choose : (r ≡ j) ⊎ (r ≢ j) → s * 524288 ≤ get_or T j 0
          choose (inl e) = subst (λ (x : ℕ). s * 524288 ≤ get_or T x 0) e (high (omega arith))
          choose (inr e) = let a = R r j (omega arith) k in let b = high (omega arith) in omega arith

      pick : (d : ℕ) → length T ≡ r + d → below s (edges_in T U) ≡ r
      pick d e = ap (λ (x : ℕ). below s (first_edges T U x)) e ∙ none_below r d (all_below r low) (λ j l k. upper j l (omega arith))

-- of each of n states, how many edges have a source below it
abbrev counted : ℕ → List Edge → List ℕ
counted n E = map (λ s. below s E) (span 0 n)

counted_length : (n : ℕ) (E : List Edge) → length (counted n E) ≡ n
counted_length n E = length-map (span 0 n) (λ x. below x E) ∙ span_length 0 n

pub record Offsetting (T off₀ off : List ℕ) (s p : ℕ) : Type 0 where
  pub s_in : s ≤ length off₀
  pub size : length off ≡ length off₀
  pub p_in : p ≤ length T
  pub low : (j : ℕ) → j < p → get_or T j 0 < s * 524288
  pub out : (U : List Float) → off ≡ over (counted (length off₀) (edges_in T U)) s off₀

module _ {T off₀ off : List ℕ} {s p : ℕ} (I : Offsetting T off₀ off s p) where
  module _ (R : Rising T) (h : s < length off₀) (r : ℕ) (F : FirstFrom T p (s * 524288) r) where
    lower : (j : ℕ) → j < r → get_or T j 0 < s * 524288
    lower j l = pick (Rattle.numbers.proofs.Bools.lt_or_ge j p)
      where
        pick : (j < p) ⊎ (p ≤ j) → get_or T j 0 < s * 524288
        pick (inl k) = I.low j k
        pick (inr k) = F.low j k l

    pub offset_next : Offsetting T off₀ (set off s r) (s + 1) r
    offset_next = record {
      s_in = omega arith;
      size = length-set off s r ∙ I.size;
      p_in = F.within;
      low = λ j l. let a = lower j l in omega arith;
      out = λ U. over_next (counted (length off₀) (edges_in T U)) off₀ off s 0 r (I.out U)
          (sym (span_at (λ x. below x (edges_in T U)) 0 (length off₀) s h ∙ ap (λ (x : ℕ). below x (edges_in T U)) (let y : 0 + s ≡ s = omega arith in y)
          ∙ below_is T U s r F.within R lower F.high))
          (let y = counted_length (length off₀) (edges_in T U) in omega arith) h;
    }

  pub offsets_done : length off₀ ≤ s → (U : List Float) → off ≡ map (λ x. below x (edges_in T U)) (span 0 (length off₀))
  offsets_done h U =
      let l = counted_length (length off₀) (edges_in T U) in
      over_done (counted (length off₀) (edges_in T U)) off₀ off s (I.out U) (let a = I.s_in in omega arith)
      ∙ ap (λ (x : List ℕ). counted (length off₀) (edges_in T U) ++ x) (drop_all (length (counted (length off₀) (edges_in T U))) off₀ (omega arith)) ∙ append-nil (counted (length off₀) (edges_in T U))

-- written over the front of a list they are its offsets
pub offsets_cut : (states : ℕ) (E : List Edge) (off₀ N : List ℕ) → states < length off₀ → N ≡ map (λ x. below x E) (span 0 (length (take (states + 1) off₀))) → N ++ drop (states + 1) off₀ ≡ offsets states E ++ drop (length (offsets states E)) off₀
offsets_cut states E off₀ N h e =
    let l : length (take (states + 1) off₀) ≡ suc states = length-take-le (states + 1) off₀ (omega arith) ∙ add-one states in
    let n : N ≡ offsets states E = e ∙ ap (λ (k : ℕ). counted k E) l in
    let m : states + 1 ≡ length (offsets states E) = add-one states ∙ sym (counted_length (suc states) E) in
    ap (λ (x : List ℕ). x ++ drop (states + 1) off₀) n ∙ ap (λ (k : ℕ). offsets states E ++ drop k off₀) m
