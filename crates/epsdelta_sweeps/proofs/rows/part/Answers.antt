use Rattle.std.proofs.Common.{◌+◌, get_or}
use Rattle.epsdelta_sweeps.proofs.Turns.{part}
use Rattle.epsdelta_sweeps.proofs.rows.part.Goals as goal

pub returns : goal.returns
returns g c = let a = c.args in part (get_or a.starts.now a.s 0) (get_or a.starts.now (a.s + 1) 0) a.list.now
