-- `relating::print_models` meets its contract: what `epsdelta` ends with is the definition's, and `finish` prints it.
use lib.ListN.{replicate}
use Rattle.bisim_core.specs.Data.{columns_of}
use Rattle.epsdelta_theory.specs.Refusal.{epsdelta_refusal}
use Rattle.epsdelta_theory.specs.Epsdelta.{given}
use Rattle.epsdelta_theory.specs.Claim.{final}
use Rattle.epsdelta.specs.Sides.{of_sides}
use Rattle.card_relation.proofs.Relates.{retold, final_length, same_relation}
use Rattle.card_relation.proofs.relating.print_models.Goals as goal

pub returns : goal.returns
returns c =
    let a = c.args in
    let B = a.sides.now in
    let L = B.left.model in
    let R = B.right.model in
    let t = a.tolerances in
    retold (same_relation L.shape (columns_of L) R.shape (columns_of R) B.left.classes.now B.right.classes.now t.epsilon t.rho c.requires.few.0 c.requires.few.1)
    (c.finish.ensures (of_sides epsdelta_refusal B t.epsilon t.rho 512) (replicate 512 0) (final (of_sides given B t.epsilon t.rho)) c.epsdelta-ended.ensures.relation_after
    (final_length L.shape (columns_of L) R.shape (columns_of R) B.left.classes.now B.right.classes.now t.epsilon t.rho))
