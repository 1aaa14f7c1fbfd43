use mathlib.Core.Path.{sym, ap, ◌∙◌}
use Prim.Native.Nat.{◌<◌}
use native.Mathlib.Omega.{arith}
use lib.ListN.{length}
use Rattle.transport_core.specs.declared.search.Tree.{Tree}
use Rattle.transport_theory.proofs.Searches.{infinite_is, pass_starts, relaxable, pass_over, pass_through, pass_ends}
use Rattle.transport_core.proofs.search.pass.Goals as goal
use Rattle.transport_core.proofs.search.pass.Goals.{then-not-is_infinite, else-not-is_infinite}

pub loop-u-init : goal.loop-u-init
loop-u-init c = pass_starts c.requires

pub relax-changed-requires : goal.relax-changed-requires
relax-changed-requires c = relaxable c.requires c.loop-u.invariant (omega (arith, c.loop-u.invariant.dist_length))

pub loop-u-preserved : goal.loop-u-preserved
loop-u-preserved c =
    let more : c.loop-u.u < length c.loop-u.tree.dist.now = omega (arith, c.loop-u.invariant.dist_length) in
    elim c.if-not-is_infinite.branch [
      | then-not-is_infinite w ↦ pass_through c.requires c.loop-u.invariant more (sym (c.is_infinite.ensures.value ∙ infinite_is _) ∙ w.if-not-is_infinite.true) w.relax-changed.ensures.sizes.0 w.relax-changed.ensures.sizes.1 w.relax-changed.ensures.relaxed _ _ _ (ap (λ (t : Tree). t.dist.now) w.tree-is) (ap (λ (t : Tree). t.via.now) w.tree-is) w.changed-is
      | else-not-is_infinite w ↦ pass_over c.requires c.loop-u.invariant more (sym (c.is_infinite.ensures.value ∙ infinite_is _) ∙ w.if-not-is_infinite.false) _ _ _ (ap (λ (t : Tree). t.dist.now) w.tree-is) (ap (λ (t : Tree). t.via.now) w.tree-is) w.changed-is
    ]

pub returns-clause-passed : goal.returns-clause-passed
returns-clause-passed c = pass_ends c.requires c.loop-u.invariant (omega (arith, c.loop-u.invariant.dist_length))
