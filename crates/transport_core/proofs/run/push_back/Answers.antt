-- `run::push_back` meets its contract: the walk, the least and the push are the parts of a `move` (Turns).
use mathlib.Core.Path.{sym, subst⁻¹}
use native.Mathlib.Omega.{arith}
use lib.Ieee.{Float}
use Rattle.std.specs.Prelude.{Option}
use Rattle.flow_check.specs.Lent.{net_on}
use Rattle.transport_theory.proofs.RoundRows.{Moved}
use Rattle.transport_theory.proofs.Turns.{path_few, path_size, path_walkable, move_cycle, move_small, move_pushes}
use Rattle.transport_core.proofs.run.push_back.Goals as goal

pub overflow_add-links : goal.overflow_add-links
overflow_add-links c = let f = path_few c.args.course.now.net.heads.now c.args.course.now.net.nodes c.args.course.now.ends.source c.args.course.now.ends.sink c.requires in omega arith

pub slice_bounds-links-end : goal.slice_bounds-links-end
slice_bounds-links-end c = let f = path_few c.args.course.now.net.heads.now c.args.course.now.net.nodes c.args.course.now.ends.source c.args.course.now.ends.sink c.requires in omega arith

pub slice_bounds-path-end : goal.slice_bounds-path-end
slice_bounds-path-end c = sym (path_size c.args.course.now.net.heads.now c.args.course.now.net.nodes c.args.course.now.ends.source c.args.course.now.ends.sink c.requires)

pub walk-requires-clause-walkable : goal.walk-requires-clause-walkable
walk-requires-clause-walkable c = path_walkable c.args.course.now.net.heads.now c.args.course.now.net.nodes c.args.course.now.ends.source c.args.course.now.ends.sink c.requires

pub walk-requires-clause-room : goal.walk-requires-clause-room
walk-requires-clause-room c = path_size c.args.course.now.net.heads.now c.args.course.now.net.nodes c.args.course.now.ends.source c.args.course.now.ends.sink c.requires

pub returns-in_err-length : goal.returns-in_err-length
returns-in_err-length c = subst⁻¹ (λ (r : Option Float). Moved (net_on c.args.course.now) c.args.via.now c.args.caps.now c.args.remaining r c.args.caps.now) c.from_residual.ensures (move_cycle c.requires c.in_err-length.ensures c.args.remaining)

pub returns-then-x : goal.returns-then-x
returns-then-x c = move_small c.requires c.in_ok-length.ensures c.args.remaining _ c.least-x.ensures c.if-x.true

pub returns : goal.returns
returns c = move_pushes c.requires c.in_ok-length.ensures c.args.remaining _ c.least-x.ensures c.if-x.false c.push_path.ensures
