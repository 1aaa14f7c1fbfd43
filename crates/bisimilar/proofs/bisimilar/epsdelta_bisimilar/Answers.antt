-- The relation, made or refused, is read at the initial states and cleared (Judging).
use mathlib.Core.Path.{refl, sym, ap, ◌∙◌}
use Rattle.bisim_core.specs.Data.{columns_of}
use Rattle.epsdelta_theory.specs.Bisimilar.{start}
use Rattle.bisimilar.proofs.Judging.{handed_on, both_present, ended_by}
use Rattle.bisimilar.proofs.bisimilar.epsdelta_bisimilar.Goals as goal

pub returns-in_err-epsdelta_unless : goal.returns-in_err-epsdelta_unless
returns-in_err-epsdelta_unless c =
    let L = c.args.sides.now.left in
    let R = c.args.sides.now.right in
    let t = c.args.tolerances in
    handed_on c.from_residual.result _ c.epsdelta_unless.new.relation c.from_residual.ensures.1
    ∙ ended_by L.model.shape (columns_of L.model) R.model.shape (columns_of R.model) L.classes.now R.classes.now t.epsilon t.rho c.args.relation.now _ _ c.one_absent.ensures refl refl c.in_err-epsdelta_unless.ensures

pub unwrap-requires : goal.unwrap-requires
unwrap-requires c =
    let L = c.args.sides.now.left in
    let R = c.args.sides.now.right in
    let t = c.args.tolerances in
    (both_present L.model.shape (columns_of L.model) R.model.shape (columns_of R.model) L.classes.now R.classes.now t.epsilon t.rho c.args.relation.now c.one_absent.ensures c.in_ok-epsdelta_unless.ensures).0

pub unwrap-requires-2 : goal.unwrap-requires-2
unwrap-requires-2 c =
    let L = c.args.sides.now.left in
    let R = c.args.sides.now.right in
    let t = c.args.tolerances in
    (both_present L.model.shape (columns_of L.model) R.model.shape (columns_of R.model) L.classes.now R.classes.now t.epsilon t.rho c.args.relation.now c.one_absent.ensures c.in_ok-epsdelta_unless.ensures).1

pub returns : goal.returns
returns c =
    let L = c.args.sides.now.left in
    let R = c.args.sides.now.right in
    let t = c.args.tolerances in
    c.conclude.ensures
    ∙ ended_by L.model.shape (columns_of L.model) R.model.shape (columns_of R.model) L.classes.now R.classes.now t.epsilon t.rho c.args.relation.now _ _ c.one_absent.ensures (sym (ap start c.unwrap.ensures)) (sym (ap start c.unwrap-2.ensures)) c.in_ok-epsdelta_unless.ensures
