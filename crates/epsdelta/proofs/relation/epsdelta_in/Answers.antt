-- What `union` refuses comes first, then what is left (Entering).
use lib.ListN.{length}
use Rattle.bisim_core.specs.Data.{columns_of}
use Rattle.bisim_core.specs.Model.{model}
use Rattle.epsdelta_theory.specs.Jumps.{union}
use Rattle.epsdelta_jumps.specs.Union.{joined}
use Rattle.epsdelta.proofs.Entering.{turned_back, few, ready, rows_are, done}
use Rattle.epsdelta.proofs.relation.epsdelta_in.Goals as goal

pub returns-in_err-refused : goal.returns-in_err-refused
unfolding joined
returns-in_err-refused c =
    let a = c.args in
    turned_back a.settings.now.sides.now.left.model a.settings.now.sides.now.right.model a.settings.now.absent a.settings.now.sides.now.left.classes.now a.settings.now.sides.now.right.classes.now a.settings.now.tolerances.epsilon a.settings.now.tolerances.rho a.relation.now c.from_residual.result _ c.from_residual.ensures.1 (c.in_err-refused.ensures _ _ c.union.ensures.answer)

pub finish-requires-clause-models : goal.finish-requires-clause-models
unfolding joined
finish-requires-clause-models c = few c.args.settings.now.sides.now.left.model c.args.settings.now.sides.now.right.model (c.in_ok-refused.ensures _ _ c.union.ensures.answer)

pub finish-requires-clause-rows : goal.finish-requires-clause-rows
unfolding joined
finish-requires-clause-rows c =
    let a = c.args in
    ready a.settings.now.sides.now.left.model a.settings.now.sides.now.right.model (c.in_ok-refused.ensures _ _ c.union.ensures.answer) a.rows.now c.union.new.rows (length a.classes.now) c.requires c.union.result c.union.ensures.answer c.union.ensures.laid

pub returns : goal.returns
unfolding joined
returns c =
    let a = c.args in
    let L = a.settings.now.sides.now.left.model in
    let R = a.settings.now.sides.now.right.model in
    let z = c.in_ok-refused.ensures _ _ c.union.ensures.answer in
    done L R z a.settings.now.absent a.settings.now.sides.now.left.classes.now a.settings.now.sides.now.right.classes.now a.settings.now.tolerances.epsilon a.settings.now.tolerances.rho a.relation.now
    (c.finish.ensures (union (model L.shape (columns_of L)) (model R.shape (columns_of R))) (rows_are L R z a.rows.now c.union.new.rows (length a.classes.now) c.requires c.union.result c.union.ensures.answer c.union.ensures.laid))
