-- `run::one_round` meets its contract: the parts lent of its fresh arrays are as long as there are nodes (Turns.round-ready).
use mathlib.Core.Path.{sym}
use Prim.Native.Nat.{ℕ}
use Rattle.transport_theory.proofs.Turns.{few, fresh_size, round_ready}
use Rattle.transport_core.proofs.run.one_round.Goals as goal

pub slice_bounds-dist-end : goal.slice_bounds-dist-end
slice_bounds-dist-end c = few c.args.course.now.net.heads.now c.args.course.now.net.costs.now c.args.course.now.net.nodes c.args.course.now.ends.source c.args.course.now.ends.sink c.requires

pub slice_bounds-tree-end : goal.slice_bounds-tree-end
slice_bounds-tree-end c = sym (fresh_size c.args.course.now.net.heads.now c.args.course.now.net.costs.now c.args.course.now.net.nodes c.args.course.now.ends.source c.args.course.now.ends.sink c.requires c.infinity-far.result)

pub slice_bounds-via-end : goal.slice_bounds-via-end
slice_bounds-via-end c = few c.args.course.now.net.heads.now c.args.course.now.net.costs.now c.args.course.now.net.nodes c.args.course.now.ends.source c.args.course.now.ends.sink c.requires

pub slice_bounds-tree-end-2 : goal.slice_bounds-tree-end-2
slice_bounds-tree-end-2 c = sym (fresh_size c.args.course.now.net.heads.now c.args.course.now.net.costs.now c.args.course.now.net.nodes c.args.course.now.ends.source c.args.course.now.ends.sink c.requires {A = ℕ} 18446744073709551615)

pub round_in-requires : goal.round_in-requires
round_in-requires c = round_ready c.args.course.now.net.heads.now c.args.course.now.net.costs.now c.args.course.now.net.nodes c.args.course.now.ends.source c.args.course.now.ends.sink c.requires c.infinity-far.result c.infinity-far.ensures
