use native.Mathlib.Omega.{arith}
use Rattle.flow_theory.proofs.Outs.{network_nodes}
use Rattle.flow_theory.proofs.Rounds.{nodes_few}
use Rattle.flow_theory.proofs.Running.{run_begins, run_ends, run_again, counts_few}
use Rattle.flow_core.proofs.run.run.Goals as goal

pub loop-p-init : goal.loop-p-init
loop-p-init c = run_begins c.requires

pub overflow_add-phases : goal.overflow_add-phases
overflow_add-phases c =
    let w = counts_few c.requires c.loop-p.invariant c.in-Some.ensures in
    let n = network_nodes c.args.course.now.net.heads.now c.args.course.now.net.nodes in
    let k = nodes_few c.args.course.now.net.heads.now c.args.course.now.net.nodes c.args.course.now.ends.source c.args.course.now.ends.sink c.requires in
    record { fits = omega arith }

pub overflow_add-pushes : goal.overflow_add-pushes
overflow_add-pushes c =
    let w = counts_few c.requires c.loop-p.invariant c.in-Some.ensures in
    let n = network_nodes c.args.course.now.net.heads.now c.args.course.now.net.nodes in
    let k = nodes_few c.args.course.now.net.heads.now c.args.course.now.net.nodes c.args.course.now.ends.source c.args.course.now.ends.sink c.requires in
    record { fits = omega (arith, w.0, w.1) }

pub loop-p-smaller : goal.loop-p-smaller
loop-p-smaller c = let w = counts_few c.requires c.loop-p.invariant c.in-Some.ensures in let n = network_nodes c.args.course.now.net.heads.now c.args.course.now.net.nodes in omega (arith, w.0)

pub loop-p-preserved : goal.loop-p-preserved
loop-p-preserved c = run_again c.requires c.loop-p.invariant c.in-Some.ensures

pub returns : goal.returns
returns c = run_ends c.requires c.loop-p.invariant c.in_default.ensures
