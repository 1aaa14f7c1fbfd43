use Rattle.epsdelta_sweeps.proofs.Turns.{light_part}
use Rattle.epsdelta_sweeps.proofs.plenty.light_row.Goals as goal

pub returns : goal.returns
returns c = λ e. light_part c.args.rows.now.starts.now c.args.rows.now.targets.now c.args.rows.now.probs.now c.args.s c.row-row.ensures.0 c.row-row.ensures.1 (c.requires.0.targets_long c.args.s c.requires.1) (c.light.ensures e)
