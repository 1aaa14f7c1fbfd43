-- `run::one_round` meets its contract: the parts lent of its fresh arrays are as long as there are nodes, and the sink's level decides (Rounds).
use mathlib.Core.Path.{◌≡◌, sym}
use Prim.Native.Nat.{◌≤◌}
use mathlib.Core.List.{List}
use lib.ListN.{take, replicate}
use lib.Ieee.{Float}
use Rattle.numbers.proofs.Parts.{take_replicate_length}
use Rattle.flow_theory.proofs.Rounds.{nodes_few, unmarked, unpassed, searchable, sink_there, round_cut, phase_ready, round_phase}
use Rattle.flow_theory.specs.Network.{nodes}
use Rattle.flow_theory.specs.Levels.{unset}
use Rattle.flow_theory.proofs.LevelRows.{Searchable}
use Rattle.flow_theory.proofs.Lists.{fresh}
use Rattle.flow_check.specs.Lent.{net_on}
use Rattle.flow_check.specs.declared.Course.{Course}
use Rattle.flow_core.specs.Steps.{CourseRunnable}
use Rattle.flow_core.proofs.run.one_round.Goals as goal

module _ (K : Course) {c : List Float} (R : CourseRunnable K c) where
  few : K.net.nodes ≤ 66
  few = nodes_few K.net.heads.now K.net.nodes K.ends.source K.ends.sink R

  unset_there : take K.net.nodes (fresh 18446744073709551615) ≡ replicate (nodes (net_on K)) unset
  unset_there = unmarked K.net.heads.now K.net.nodes K.ends.source K.ends.sink R

  unpassed_there : take K.net.nodes (fresh 0) ≡ replicate (nodes (net_on K)) 0
  unpassed_there = unpassed K.net.heads.now K.net.nodes K.ends.source K.ends.sink R

  ready : Searchable K.net.heads.now K.net.list.now K.net.starts.now c K.ends.source (take K.net.nodes (fresh 18446744073709551615)) (fresh 0)
  ready = searchable K.net.heads.now K.net.nodes K.ends.source K.ends.sink R

pub slice_bounds-levels-end : goal.slice_bounds-levels-end
slice_bounds-levels-end c = few c.args.course.now c.requires

pub slice_bounds-level-end : goal.slice_bounds-level-end
slice_bounds-level-end c = sym (take_replicate_length c.args.course.now.net.nodes 66 18446744073709551615 (few c.args.course.now c.requires))

pub levels-requires : goal.levels-requires
levels-requires c = ready c.args.course.now c.requires

pub bounds-level-course : goal.bounds-level-course
bounds-level-course c = sink_there c.requires (unset_there c.args.course.now c.requires) c.levels.ensures

pub returns-then-level-course : goal.returns-then-level-course
returns-then-level-course c = round_cut c.requires (unset_there c.args.course.now c.requires) c.levels.ensures c.args.before c.if-level-course.true

pub slice_bounds-marks-end : goal.slice_bounds-marks-end
slice_bounds-marks-end c = few c.args.course.now c.requires

pub slice_bounds-next-end : goal.slice_bounds-next-end
slice_bounds-next-end c = sym (take_replicate_length c.args.course.now.net.nodes 66 0 (few c.args.course.now c.requires))

pub blocking_flow-requires : goal.blocking_flow-requires
blocking_flow-requires c = phase_ready c.requires (unset_there c.args.course.now c.requires) c.levels.ensures (unpassed_there c.args.course.now c.requires)

pub returns : goal.returns
returns c = round_phase c.requires (unset_there c.args.course.now c.requires) c.levels.ensures c.if-level-course.false c.blocking_flow.ensures
