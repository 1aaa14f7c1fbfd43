use mathlib.Core.Path.{◌≡◌, subst, ◌∙◌}
use mathlib.Core.Bool.{Bool, false}
use Prim.Native.Nat.{ℕ, ◌+◌, ◌*◌, ◌≤◌, ◌<◌}
use native.Mathlib.Omega.{arith}
use Rattle.numbers.specs.Bits.{bit_at}
use Rattle.flow_links.proofs.RowsRead.{Fitting, states_of}
use Rattle.epsdelta_sweeps.specs.declared.place.Place.{Place}
use Rattle.epsdelta_sweeps.specs.declared.place.Terms.{Terms}
use Rattle.epsdelta_sweeps.specs.declared.changes.Memory.{Memory}
use Rattle.epsdelta_sweeps.specs.Place.{Alone}
use Rattle.epsdelta_sweeps.specs.Leading.{FromTurn, ToTurn}
use Rattle.epsdelta_sweeps.proofs.Words.{words_long}
use Rattle.epsdelta_sweeps.proofs.Resuming.{handed, moves_then, turns_absent, row_ends_lem}
use Rattle.epsdelta_sweeps.proofs.sweeps.sweep_row.Goals as goal

-- to the next pair of the row that stands, or past the last
come : (terms : Terms) (old new : Memory) (at : Place) (from u : ℕ) (struck : Bool) → Fitting terms.rows → at.s < states_of terms.rows → from ≤ u → u ≤ states_of terms.rows → Alone new at.s from u
    → FromTurn terms old at new at.s from false struck false → FromTurn terms old at new at.s u false struck false
come terms old new at from u struck F l h k A M =
    let e = words_long _ _ _ M.held.noted.long in
    moves_then M (omega arith) (turns_absent F struck l u h k (λ v i j. subst (λ (n : ℕ). bit_at new.relation.now (at.s * n + v) ≡ false) e (A v i j)) M.held)

pub next-requires : goal.next-requires
next-requires c =
    let l = c.loop-t.invariant in
    let e = words_long _ _ _ l.0.held.noted.long in
    let F = c.requires.0 in
    let f = F.few in
    let k = c.requires.1 in
    (omega arith, omega arith)

pub turn-requires : goal.turn-requires
turn-requires c =
    let a = c.args in
    let l = c.loop-t.invariant in
    let x = c.in-Some.ensures in
    let e = words_long _ _ _ l.0.held.noted.long in
    let k = c.requires.1 in
    let M = come a.terms.now a.memory.now c.loop-t.memory a.at c.loop-t.from c.in-Some.t c.loop-t.struck c.requires.0 (omega arith) x.0 (omega (arith, x.1)) x.3 l.0 in
    (c.requires.0, omega (arith, x.0), omega (arith, x.1), M.held, x.2)

pub overflow_add-from : goal.overflow_add-from
overflow_add-from c =
    let l = c.loop-t.invariant in
    let x = c.in-Some.ensures in
    let e = words_long _ _ _ l.0.held.noted.long in
    let F = c.requires.0 in
    let f = F.few in
    record { fits = omega (arith, x.1) }

pub loop-t-smaller : goal.loop-t-smaller
loop-t-smaller c =
    let l = c.loop-t.invariant in
    let x = c.in-Some.ensures in
    let e = words_long _ _ _ l.0.held.noted.long in
    omega (arith, x.0, x.1)

pub loop-t-preserved : goal.loop-t-preserved
loop-t-preserved c =
    let a = c.args in
    let l = c.loop-t.invariant in
    let x = c.in-Some.ensures in
    let e = words_long _ _ _ l.0.held.noted.long in
    let k = c.requires.1 in
    let M = come a.terms.now a.memory.now c.loop-t.memory a.at c.loop-t.from c.in-Some.t c.loop-t.struck c.requires.0 (omega arith) x.0 (omega (arith, x.1)) x.3 l.0 in
    (moves_then M (omega arith) c.in_ok-struck.ensures.0, omega (arith, x.0), omega (arith, x.1), c.turn.ensures.1 ∙ l.3)

pub returns-in_err-struck : goal.returns-in_err-struck
returns-in_err-struck c =
    let a = c.args in
    let l = c.loop-t.invariant in
    let x = c.in-Some.ensures in
    let e = words_long _ _ _ l.0.held.noted.long in
    let k = c.requires.1 in
    let M = come a.terms.now a.memory.now c.loop-t.memory a.at c.loop-t.from c.in-Some.t c.loop-t.struck c.requires.0 (omega arith) x.0 (omega (arith, x.1)) x.3 l.0 in
    (handed (ToTurn (FromTurn a.terms.now a.memory.now a.at c.turn.new.memory) (a.at.s + 1) (a.at.s + 1 + 1)) _ c.from_residual.ensures.1 (moves_then M (omega arith) c.in_err-struck.ensures.0), c.turn.ensures.1 ∙ l.3)

pub returns : goal.returns
returns c =
    let a = c.args in
    let l = c.loop-t.invariant in
    let n = states_of a.terms.now.rows in
    let e = words_long _ _ _ l.0.held.noted.long in
    let k = c.requires.1 in
    let M = come a.terms.now a.memory.now c.loop-t.memory a.at c.loop-t.from n c.loop-t.struck c.requires.0 (omega arith) l.2 (omega arith) (subst (λ (m : ℕ). Alone c.loop-t.memory a.at.s c.loop-t.from m) e c.in_default.ensures) l.0 in
    (moves_then M (omega arith) (row_ends_lem c.requires.0 c.loop-t.struck (omega arith) (omega arith) M.held), l.3)
