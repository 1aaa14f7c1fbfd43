use mathlib.Core.Path.{◌≡◌, ap, subst, ◌∙◌}
use mathlib.Core.Bool.{Bool}
use native.Mathlib.Omega.{arith}
use Rattle.numbers.proofs.Bools.{one_if}
use Rattle.flow_links.proofs.RowsRead.{states_of}
use Rattle.epsdelta_sweeps.specs.Leading.{FromTurn, Past, ToEnd}
use Rattle.epsdelta_sweeps.specs.Place.{words_of}
use Rattle.epsdelta_sweeps.proofs.Words.{words_long}
use Rattle.epsdelta_sweeps.proofs.Resuming.{handed, sweep_again, sweep_ends, sweep_falls}
use Rattle.epsdelta_sweeps.proofs.sweeps.advance.Goals as goal

pub loop-struck-init : goal.loop-struck-init
loop-struck-init c = c.in_ok-struck.ensures

pub sweep-requires-in-loop-struck : goal.sweep-requires-in-loop-struck
sweep-requires-in-loop-struck c =
    let l = c.loop-struck.invariant.0 in
    let F = rw (words_long _ _ _ l.4.held.noted.long) at c.fade.ensures in
    (c.requires.0, omega arith, omega arith, (λ k. omega arith), rw c.fade.ensures.2 ((sweep_ends c.requires.0 c.loop-struck.struck l.2 l.3 c.loop-struck-test.true F.1 F.0 l.4.held).held))

pub returns-in_err-struck-2 : goal.returns-in_err-struck-2
returns-in_err-struck-2 c =
    let a = c.args in
    let i = c.loop-struck.invariant in
    let l = i.0 in
    let F = rw (words_long _ _ _ l.4.held.noted.long) at c.fade.ensures in
    let N = rw c.fade.ensures.2 at c.in_err-struck-2.ensures.0 in (
      handed (ToEnd (FromTurn a.terms.now a.memory.now a.at c.sweep-in-loop-struck.new.memory) (states_of a.terms.now.rows)) _ c.from_residual-in_err-struck-2.ensures.1
          (sweep_again c.requires.0 (words_of (states_of c.args.terms.now.rows) c.fade.new.memory) l.4 l.2 l.3 c.loop-struck-test.true F.1 F.0 N),
      c.sweep-in-loop-struck.ensures.1 ∙ c.fade.ensures.3 ∙ i.1,
    )

pub loop-struck-smaller : goal.loop-struck-smaller
loop-struck-smaller c =
    let P = c.in_ok-struck-2.ensures.0 in
    let e : one_if c.loop-struck.struck ≡ 1 = ap one_if c.loop-struck-test.true in
    let f = rw c.fade.ensures.2 at (sweep_falls (states_of c.args.terms.now.rows) c.fade.new.memory.relation.now c.sweep-in-loop-struck.new.memory.relation.now P.0 P.1 c.in_ok-struck-2.struck P.4.falls) in
    omega arith

pub loop-struck-preserved : goal.loop-struck-preserved
loop-struck-preserved c =
    let i = c.loop-struck.invariant in
    let l = i.0 in
    let P = c.in_ok-struck-2.ensures.0 in
    let F = rw (words_long _ _ _ l.4.held.noted.long) at c.fade.ensures in
    let N = rw c.fade.ensures.2 at P.4 in
    ((P.0, P.1, P.2, P.3, sweep_again c.requires.0 (words_of (states_of c.args.terms.now.rows) c.fade.new.memory) l.4 l.2 l.3 c.loop-struck-test.true F.1 F.0 N), c.sweep-in-loop-struck.ensures.1 ∙ c.fade.ensures.3 ∙ i.1)

pub returns : goal.returns
returns c =
    let a = c.args in
    let i = c.loop-struck.invariant in
    (subst (λ (b : Bool). Past (FromTurn a.terms.now a.memory.now a.at c.loop-struck.memory) (states_of a.terms.now.rows) b) c.loop-struck-test.false i.0, i.1)
