use native.Mathlib.Omega.{arith}
use Rattle.epsdelta_jumps.proofs.Fills.{filled}
use Rattle.epsdelta_jumps.proofs.rates.State.fill.Goals as goal

pub returns-clause-filled : goal.returns-clause-filled
returns-clause-filled c =
    let r = c.args.rows.now in
    filled _ _ c.args.at _ r.exits.now r.targets.now r.probs.now _ _ _ (omega arith) (omega arith) c.make-exit.ensures.exit c.make-exit.ensures.made
