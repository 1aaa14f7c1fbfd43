-- It asks for no initial state, and the claim is epsdelta_theory's theorem.
use lib.ListN.{length}
use Rattle.bisim_core.specs.Data.{columns_of}
use Rattle.epsdelta_theory.proofs.Theorem.{epsdelta_sound}
use Rattle.epsdelta.proofs.Entering.{plain}
use Rattle.epsdelta.proofs.relation.epsdelta.Goals as goal

pub returns-clause-relation_after : goal.returns-clause-relation_after
returns-clause-relation_after c =
    let L = c.args.sides.now.left in
    let R = c.args.sides.now.right in
    plain L.model R.model L.classes.now R.classes.now c.args.tolerances.epsilon c.args.tolerances.rho c.args.relation.now c.epsdelta_unless.ensures

pub returns-clause-sound : goal.returns-clause-sound
returns-clause-sound c = λ e.
    let L = c.args.sides.now.left in
    let R = c.args.sides.now.right in
    epsdelta_sound L.model.shape (columns_of L.model) R.model.shape (columns_of R.model) L.classes.now R.classes.now c.args.tolerances.epsilon c.args.tolerances.rho (length c.args.relation.now) e
