-- A model that fails decides the answer; else both are accepted, and the greatest exit rates are those of the models.
use mathlib.Core.Path.{refl}
use Rattle.numbers.proofs.Refuses.{turned_back}
use Rattle.bisim_core.specs.Data.{columns_of}
use Rattle.parts.proofs.Models.{models_accepted}
use Rattle.chains.specs.Outcome.{rated}
use Rattle.chains.proofs.Answers.{number, rate_is}
use Rattle.chains.proofs.chain.common_rate.Goals as goal

pub returns-in_err-earlier : goal.returns-in_err-earlier
unfolding rated
returns-in_err-earlier c =
    turned_back c.from_residual.result _ _ _ c.from_residual.ensures.1
    (number c.args.left.now.shape (columns_of c.args.left.now) c.args.right.now.shape (columns_of c.args.right.now) _ _ _ c.check.ensures c.check-2.ensures c.in_err-earlier.ensures)

pub greatest_exit-q-requires : goal.greatest_exit-q-requires
greatest_exit-q-requires c =
    (models_accepted c.args.left.now.shape (columns_of c.args.left.now) c.args.right.now.shape (columns_of c.args.right.now) _ _ _ c.check.ensures c.check-2.ensures c.in_ok-earlier.ensures refl).0

pub greatest_exit-p-requires : goal.greatest_exit-p-requires
greatest_exit-p-requires c =
    (models_accepted c.args.left.now.shape (columns_of c.args.left.now) c.args.right.now.shape (columns_of c.args.right.now) _ _ _ c.check.ensures c.check-2.ensures c.in_ok-earlier.ensures refl).1

pub returns : goal.returns
returns c =
    rate_is c.args.left.now.shape (columns_of c.args.left.now) c.args.right.now.shape (columns_of c.args.right.now) _ _ _ c.check.ensures c.check-2.ensures c.in_ok-earlier.ensures refl _ _ _ _
    c.greatest_exit-q.ensures c.greatest_exit-p.ensures c.larger.ensures c.or_one.ensures
