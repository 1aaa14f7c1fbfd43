-- What the pairs of a label and a target answer, each beside the next, is whether the edges that they are of rise.
use Rattle.std.proofs.Common.{◌≡◌, rules, refl, sym, ap, ap₂, subst, ◌∙◌, ℕ, zero, suc, ◌+◌, ◌-◌, ◌≤◌, Bool, true, false, ◌&&◌, List, [], ◌∷◌, map, length, take, drop, drop-cons, ltb, eqb, Some, None, arith, Bor}
use borrow.Author.Tests.{tests}
use denote.Param.Members.{Mut}
use mathlib.Core.Logic.{inl, inr}
use Rattle.std.specs.Prelude.{Option, MatchOption, ◌||◌}
use Rattle.std.specs.Fn.{CalledAtTwo}
use Rattle.std.specs.Iterator.{Yields, AlwaysYields}
use Rattle.std.specs.Iterator.Order.{ChecksNeighbours, OrderTurn}
use Rattle.std.specs.List.{FoldsTo, zip}
use Rattle.std.proofs.lemmas.Iterator.{YieldsList, YieldsList-from_slice, YieldsList-from_zip}
use Rattle.numbers.specs.Lists.{span}
use Rattle.bisim_core.specs.Data.{Edge, Columns, columns_of}
use Rattle.bisim_core.specs.Model.{rises, edge_at, follows}
use Rattle.bisim_core.proofs.Models.{row_is}
use Rattle.bisim_core.proofs.check.row_rises.Goals as goal

abbrev before : ℕ × ℕ → ℕ × ℕ → Bool
before p q = ltb p.0 q.0 || (eqb p.0 q.0 && ltb p.1 q.1)

abbrev ascend : List (ℕ × ℕ) → Bool
ascend [] = true
ascend (p ∷ []) = true
ascend (p ∷ (q ∷ l)) = before p q && ascend (q ∷ l)

-- what `is_sorted_by` answers, item by item
module _ {S F A : Type 0} (steps : S → Option A → S → Type 0) (g : Mut F (Bor A × (Bor A × Unit {0})) Bool) (v : A → ℕ × ℕ) (f : F)
    (k : (x y : A) (b : Bool) (q : F) → CalledAtTwo g f x y b q → (q ≡ f) × (b ≡ before (v x) (v y))) where
  after : (x : A) (xs : List A) (o : Option A) (s t u : S) (q : F × A) (r : Bool) (all : List (ℕ × ℕ)) → Yields steps s xs t → steps t o u → FoldsTo {P = F × A} (OrderTurn g) (f, x) xs q
      → MatchOption o (r ≡ true) (λ y. (r ≡ false) × ((h : F) × CalledAtTwo g q.0 q.1 y false h)) → AlwaysYields steps v s all → r ≡ ascend (v x ∷ all)
  after x [] None s t u q r [] e n w m a = m
  after x [] None s t u q r (b ∷ all) e n w m a = absurd (a.0 u (subst (λ z. steps z None u) (sym e) n))
  after x [] (Some y) s t u q r [] e n w m a = absurd (a y u (subst (λ z. steps z (Some y) u) (sym e) n))
  after x [] (Some y) s t u q r (b ∷ all) e n w (m, (h, c)) a =
      let z = a.1 y u (subst (λ z. steps z (Some y) u) (sym e) n) in
      let d = subst (λ (p : F × A). CalledAtTwo g p.0 p.1 y false h) (sym w) c in
      m ∙ ap (λ b'. b' && ascend (b ∷ all)) ((k x y false h d).1 ∙ ap (before (v x)) z.0)
  after x (y ∷ ys) o s t u q r [] (j, p, e) n w m a = absurd (a y j p)
  after x (y ∷ ys) o s t u q r (b ∷ all) (j, p, e) n (i, (c, l), w) m a =
      let z = a.1 y j p in
      let d = k x y true i.0 c in
      after y ys o j t u q r all e n (subst (λ (p : F × A). FoldsTo {P = F × A} (OrderTurn g) p ys q) (ap₂ (λ (a : F) (b : A). (a, b)) d.0 l) w) m z.1
      ∙ ap (λ w. ascend (w ∷ all)) z.0 ∙ ap (λ b'. b' && ascend (b ∷ all)) (d.1 ∙ ap (before (v x)) z.0)

  answer : (s : S) (r : Bool) (all : List (ℕ × ℕ)) → ChecksNeighbours g steps s f r → YieldsList steps v s all → r ≡ ascend all
  answer s r all c y = by all c y.runs
    where
      by : (all : List (ℕ × ℕ)) → ChecksNeighbours g steps s f r → AlwaysYields steps v s all → r ≡ ascend all
      by [] (inl (d, e)) a = e
      by (b ∷ all) (inl ((u, (t, e, n)), d)) a = absurd (a.0 u (subst (λ z. steps z None u) (sym e) n))
      by [] (inr (x, xs, o, u, q, (t, (j, p, e), n), w, m)) a = absurd (a x j p)
      by (b ∷ all) (inr (x, xs, o, u, q, (t, (j, p, e), n), w, m)) a =
          let z = a.1 x j p in
          after x xs o j t u q r all e n w m z.1 ∙ ap (λ w. ascend (w ∷ all)) z.0

abbrev pair : Edge → ℕ × ℕ
pair a = (a.label, a.target)

ascends : (E : List Edge) → ascend (map pair E) ≡ rises E
unfolding rises
ascends [] = refl
ascends (a ∷ []) = refl
ascends (a ∷ (b ∷ E)) = ap (λ r. follows a b && r) (ascends (b ∷ E))

paired : (M : Columns) (s n i : ℕ) → i + n ≤ length M.edge_labels → i + n ≤ length M.edge_targets → zip (take n (drop i M.edge_labels)) (take n (drop i M.edge_targets)) ≡ map pair (map (edge_at M s) (span i n))
unfolding span
paired M s zero i h j = refl
paired M s (suc n) i h j =
    ap₂ (λ l t. zip (take (suc n) l) (take (suc n) t)) (drop-cons M.edge_labels i 0 (omega arith)) (drop-cons M.edge_targets i 0 (omega arith))
    ∙ ap (λ l. pair (edge_at M s i) ∷ l) (paired M s n (suc i) (omega arith) (omega arith))

pub returns : goal.returns
returns c =
    let M = columns_of c.args.model.now in
    let from = c.edges_of-edges.result.start in
    let n = c.edges_of-edges.result.end - from in
    answer _ _ (λ p. (p.0.now, p.1.now)) _ (λ x y b q h. search (rules, tests)) _ _ _ c.is_sorted_by.ensures.ran
    (YieldsList-from_zip (YieldsList-from_slice (take n (drop from M.edge_labels)) cc) (YieldsList-from_slice (take n (drop from M.edge_targets)) cc))
    ∙ ap ascend (paired M c.args.s n from (omega arith) (omega arith)) ∙ ascends _ ∙ ap rises (row_is M c.args.s from _ c.edges_of-edges.ensures.0 c.edges_of-edges.ensures.1)
