-- No state before the one asked is crowded, and no mark is above it.
use Rattle.std.proofs.Common.{◌≡◌, rules, refl, sym, ap, subst, ◌∙◌, ℕ, ◌+◌, ◌-◌, ◌≤◌, ◌<◌, Bool, true, false, List, [], ◌∷◌, length, get_or, ltb, Some, None, arith, Bor, MutBor}
use lib.ListN.{length-replicate}
use borrow.Author.Tests.{tests}
use borrow.Author.Count.{below_more}
use Rattle.std.specs.Prelude.{Option, MatchOption}
use Rattle.std.specs.Iterator.{Yields}
use Rattle.std.specs.List.{FoldsTo}
use Rattle.std.specs.declared.ops.Range.{Range}
use Rattle.std.proofs.iter.Yields.{nat_range_steps}
use Rattle.bisim_core.specs.declared.wlts.Wlts.{Wlts}
use Rattle.bisim_core.specs.Data.{columns_of, HasOffsets, NeverFalls}
use Rattle.bisim_core.specs.Ids.{distinct}
use Rattle.numbers.specs.Lists.{span}
use Rattle.bisim_core.specs.Edges.{others, crowded_at, crowded_in}
use Rattle.bisim_core.specs.Model.{begins, row, rows}
use Rattle.bisim_core.proofs.Models.{begins_up, crowded_at_lem, crowded_not, crowded_by}
use Rattle.bisim_core.proofs.RowChecks.{unmarked}
use Rattle.bisim_core.proofs.check.crowded.Goals as goal

-- what a turn of a range keeps, all of its turns keep
module _ {P : Type 0} {R : P → ℕ → P → Type 0} (J : ℕ → P → Type 0) (n : ℕ) (turn : (x : ℕ) (p q : P) → x < n → J x p → R p x q → J (x + 1) q) where
  along : (xs : List ℕ) (s t : Range ℕ) (p q : P) → s.end ≡ n → J s.start p → Yields nat_range_steps s xs t → FoldsTo R p xs q → (t.end ≡ n) × J t.start q
  along [] s t p q e j y w = subst (λ (k : Range ℕ). (k.end ≡ n) × J k.start q) y (e, subst (J s.start) w j)
  along (x ∷ xs) s t p q e j (u, (f, (a, b, d)), y) (m, c, w) =
      along xs u t m q (f ∙ e) (subst (λ k. J k m) (sym d) (turn s.start p m (omega arith) j (subst (λ k. R p k m) b c))) y w

-- a turn of the closure, at state x
abbrev Turn : Bor Wlts × MutBor (List ℕ) → ℕ → Bool → Bor Wlts × MutBor (List ℕ) → Type 0
Turn p x b q = (q.0 ≡ p.0) × (length q.1.now ≡ length p.1.now) × (b ≡ ltb 31 (length (distinct (others x (row (columns_of p.0.now) x))))) × ((y : ℕ) → get_or q.1.now y 0 ≤ x + 1)

module _ (M : Wlts) where
  abbrev n : ℕ
  n = M.shape.states

  abbrev Kept : ℕ → Bor Wlts × MutBor (List ℕ) → Type 0
  Kept i p = (p.0.now ≡ M) × (length p.1.now ≡ 2000) × ((y : ℕ) → get_or p.1.now y 0 ≤ i) × ((k : ℕ) → k < i → crowded_at (rows (columns_of M) 0 n) k ≡ false)

  told : (x : ℕ) (b : Bool) (p q : Bor Wlts × MutBor (List ℕ)) → x < n → Kept x p → Turn p x b q → crowded_at (rows (columns_of M) 0 n) x ≡ b
  told x b p q h (same, size, low, none) (e, l, c, m) = crowded_at_lem (columns_of M) n x h ∙ ap (λ (W : Wlts). ltb 31 (length (distinct (others x (row (columns_of W) x))))) (sym same) ∙ sym c

  kept : (x : ℕ) (p q : Bor Wlts × MutBor (List ℕ)) → x < n → Kept x p → Turn p x false q → Kept (x + 1) q
  kept x p q h (same, size, low, none) (e, l, c, m) = (ap (λ (B : Bor Wlts). B.now) e ∙ same, l ∙ size, m, below_more _ _ none (told x false p q h (same, size, low, none) (e, l, c, m)))

  abbrev Asked : Wlts → ℕ → List ℕ → Type 0
  Asked W x marks = (x + 1 < length W.offsets.now) × (begins (columns_of W) x ≤ begins (columns_of W) (x + 1)) × (begins (columns_of W) (x + 1) ≤ length W.edge_targets.now) × (x < length marks) × (length marks ≤ 2000)
      × ((i : ℕ) → i < begins (columns_of W) (x + 1) → get_or W.edge_targets.now i 0 < length marks) × ((y : ℕ) → get_or marks y 0 ≤ x)

  module _ (few : n ≤ 2000) (long : HasOffsets M) (up : NeverFalls M) (targets : get_or M.offsets.now n 0 ≤ length M.edge_targets.now) (in_states : (i : ℕ) → i < get_or M.offsets.now n 0 → get_or M.edge_targets.now i 0 < n) where
    asked : (x : ℕ) (q : Bor Wlts × MutBor (List ℕ)) → x < n → Kept x q → Asked q.0.now x q.1.now
    asked x q h (same, size, low, none) =
        let a = up x h in
        let b = begins_up (columns_of M) n up (x + 1) n (omega arith) (omega arith) in
        subst (λ (W : Wlts). Asked W x q.1.now) (sym same) (omega arith, a, omega arith, omega arith, omega arith, λ i k. let t = in_states i (omega arith) in omega arith, low)

  ended : (X : Type 0) (Y : ℕ → Type 0) {D : ℕ → Type 0} (i e : ℕ) (q : Bor Wlts × MutBor (List ℕ)) (o : Option ℕ) (r : Bool) → e ≡ n → Kept i q → MatchOption o ((e - i ≡ 0) × X) (λ x. (0 < e - i) × (x ≡ i) × Y x)
      → MatchOption o (r ≡ false) (λ x. (r ≡ true) × D x) → ((x : ℕ) → D x → (h : Bor Wlts × MutBor (List ℕ)) × Turn q x true h) → r ≡ crowded_in (rows (columns_of M) 0 n) (span 0 n)
  ended X Y i e q None r z (same, size, low, none) (l, w) m t = m ∙ sym (crowded_not _ n (λ k h. none k (omega arith)))
  ended X Y i e q (Some x) r z k (l, y, w) (m, d) t =
      let (h, u) = t x d in
      m ∙ sym (crowded_by _ n x (omega arith) (told x true q h (omega arith) (subst (λ j. Kept j q) (sym y) k) u))

pub any-requires-clause-callable : goal.any-requires-clause-callable
any-requires-clause-callable c = record {
  at = λ xs t q x u y w m.
      let M = c.args.model.now in
      let (few, long, up, targets, in_states) = c.requires in
      let (e, k) = along (Kept M) M.shape.states (λ x p q l k h. kept M x p q l k (search (rules, tests))) xs _ t _ q refl (refl, length-replicate {A = ℕ} 2000 0, unmarked 2000, λ k h. absurd (omega arith)) y w in
      let (f, (a, b, d)) = m in
      let j : Kept M x q = subst (λ i. Kept M i q) (sym b) k in
      let r = asked M few long up targets in_states x q (omega arith) j in
      search (rules, tests);
}

pub returns : goal.returns
returns c =
    let M = c.args.model.now in
    let (xs, o, q, (t, y, m), w, z) = c.any.ensures.ran in
    let (e, k) = along (Kept M) M.shape.states (λ x p q l k h. kept M x p q l k (search (rules, tests))) xs _ t _ q refl (refl, length-replicate {A = ℕ} 2000 0, unmarked 2000, λ k h. absurd (omega arith)) y w in
    ended M _ _ t.start t.end q o _ e k m.1 z (λ x d. (d.0, search (rules, tests)))
