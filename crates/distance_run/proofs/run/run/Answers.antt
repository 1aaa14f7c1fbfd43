-- A run leaves the lists all zero.
use mathlib.Core.Path.{sym, ◌∙◌}
use Rattle.std.proofs.Common.{rules}
use Rattle.distance_run.proofs.Running.{run_clears}
use Rattle.distance_run.proofs.run.run.Goals as goal

pub returns-clause-ran : goal.returns-clause-ran
returns-clause-ran c =
    let z = c.clear.ensures in
    run_clears c.args.of.now c.args.scratch.now (sym c.runnable.ensures ∙ c.if-not-runnable.false) c.run_pairs-told.ensures.told (z.lefts, z.rights, z.codes, z.places, z.masses) (search rules) (search rules) (search rules) (search rules) (search rules)
