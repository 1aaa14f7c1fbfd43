use mathlib.Core.Path.{ap}
use mathlib.Core.Logic.{inl, inr}
use Rattle.transport_core.specs.declared.search.Tree.{Tree}
use Rattle.transport_theory.proofs.Searches.{relax_shorter, relax_kept, relax_ends}
use Rattle.transport_core.proofs.search.relax.Goals as goal
use Rattle.transport_core.proofs.search.relax.Goals.{then-caps-e+then-d-tree, then-caps-e+else-d-tree, else-caps-e}

pub loop-link-preserved : goal.loop-link-preserved
loop-link-preserved c =
    elim c.if-caps-e.branch [
      | then-caps-e+then-d-tree w ↦ relax_shorter c.requires c.loop-link.invariant c.loop-link-test.true w.if-caps-e.true w.if-d-tree.true _ _ _ (ap (λ (t : Tree). t.dist.now) w.tree-is) (ap (λ (t : Tree). t.via.now) w.tree-is) w.changed-is
      | then-caps-e+else-d-tree w ↦ relax_kept c.requires c.loop-link.invariant c.loop-link-test.true (inr w.if-d-tree.false) _ _ _ (ap (λ (t : Tree). t.dist.now) w.tree-is) (ap (λ (t : Tree). t.via.now) w.tree-is) w.changed-is
      | else-caps-e w ↦ relax_kept c.requires c.loop-link.invariant c.loop-link-test.true (inl w.if-caps-e.false) _ _ _ (ap (λ (t : Tree). t.dist.now) w.tree-is) (ap (λ (t : Tree). t.via.now) w.tree-is) w.changed-is
    ]

pub returns-clause-relaxed : goal.returns-clause-relaxed
returns-clause-relaxed c = relax_ends c.requires c.loop-link.invariant c.loop-link-test.false
