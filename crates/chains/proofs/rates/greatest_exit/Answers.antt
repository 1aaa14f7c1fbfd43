use mathlib.Core.Path.{ap, ◌∙◌}
use Prim.Native.Nat.{◌+◌}
use native.Mathlib.Omega.{arith}
use lib.Ieee.{Float}
use Rattle.numbers.specs.Choice.{larger}
use Rattle.bisim_core.specs.Data.{columns_of}
use Rattle.chains.proofs.Answers.{greatest_of}
use Rattle.chains.proofs.Exits.{Most, most_next, most_end}
use Rattle.chains.proofs.rates.greatest_exit.Invariants.{exit_at}
use Rattle.chains.proofs.rates.greatest_exit.Goals as goal

pub loop-s-preserved : goal.loop-s-preserved
loop-s-preserved c =
    let n = c.args.model.now.shape.states in
    let at = exit_at (columns_of c.args.model.now) in
    let h = c.loop-s-test.true in (
      omega arith,
      ap (λ (x : Float). Most at x (c.loop-s.s + 1) n) (c.larger-greatest.ensures ∙ ap (larger c.loop-s.greatest) c.exit_rate.ensures) ∙ most_next at c.loop-s.greatest c.loop-s.s n h ∙ c.loop-s.invariant.1,
    )

pub returns : goal.returns
returns c =
    let M = columns_of c.args.model.now in
    let l = c.loop-s.invariant.0 in
    let h = c.loop-s-test.false in
    greatest_of c.args.model.now.shape M c.loop-s.greatest (most_end (exit_at M) c.loop-s.greatest c.loop-s.s c.args.model.now.shape.states (omega arith) ∙ c.loop-s.invariant.1)
