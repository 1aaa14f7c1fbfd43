-- The words of the strikes say of each target of s, and of each target of t, that nothing is noted.
use Rattle.std.proofs.Common.{◌≡◌, sym, ◌∙◌, ℕ, ◌<◌, ◌*◌, false, eqb, length, get_or, arith}
use mathlib.Core.Bool.{Bool, true, true≢false}
use Rattle.std.specs.Prelude.{Option, None, Some, IfSome}
use Rattle.std.specs.Option.{MatchOption}
use borrow.Author.Tests.{eqb-false}
use Rattle.epsdelta_theory.proofs.Unchanged.{told_missed}
use Rattle.flow_links.proofs.RowsRead.{states_of}
use Rattle.epsdelta_sweeps.specs.Place.{words_of, Untouched}
use Rattle.epsdelta_sweeps.specs.declared.changes.Strikes.{Strikes}
use Rattle.epsdelta_sweeps.proofs.Words.{again_at}
use Rattle.epsdelta_sweeps.proofs.Turns.{quiet_parts}
use Rattle.epsdelta_sweeps.proofs.changes.unchanged.Goals as goal

positive : (n : ℕ) → eqb n 0 ≡ false → 0 < n
positive n e = let h = eqb-false n 0 e in omega arith

-- what was told of a value, and what a test of it said
held_true : {A Z : Type 0} {P : A → Type 0} (Q : A → Bool → Type 0) (o : Option A) {r : Bool} → IfSome o P → MatchOption o (r ≡ false) (λ m. Q m r) → r ≡ true → ((m : A) → P m → Q m r → Z) → Z
held_true Q None p q e f = absurd (true≢false (sym e ∙ q))
held_true Q (Some m) p q e f = f m p q

pub returns : goal.returns
returns c = λ e.
    let a = c.args in
    let p = c.requires in
    let n = states_of a.rows.now in
    let us = c.row.result.targets.now in
    let vs = c.row-2.result.targets.now in
    let x = positive (length us) (sym c.is_empty.ensures ∙ c.if-is_empty.false) in
    let y = positive (length vs) (sym c.is_empty-else-is_empty.ensures ∙ c.if-is_empty-2.false) in
    let w : 0 < get_or (words_of n a.memory.now) (2 * n) 0 = rw (again_at n a.memory.now.strikes.now a.memory.now.again p.1, c.if-not-memory.false) (omega arith) in
    let told = rw p.1 at c.strikes_of.ensures in
    held_true (λ (m : Strikes) r. r ≡ true → Untouched vs n m a.s) c.strikes_of.result told c.is_some_and.ensures e (λ m told missed.
    quiet_parts a.rows.now.starts.now a.rows.now.targets.now a.s a.t c.row.ensures.0 c.row-2.ensures.0 (p.0.0.targets_long a.s p.0.1) (p.0.0.targets_long a.t p.0.2) x y
    (λ i k h l. told_missed n (words_of n a.memory.now) a.s (get_or us i 0) (get_or vs k 0) m.recent m.before w (told i h) (missed e k l)))
