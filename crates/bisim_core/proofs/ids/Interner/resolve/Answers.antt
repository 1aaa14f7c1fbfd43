use Rattle.std.proofs.Common.{sym, ◌∙◌}
use Rattle.numbers.proofs.Refuses.{first_number, turned_back}
use Rattle.bisim_core.specs.Ids.{resolve}
use Rattle.bisim_core.proofs.Interning.{resolve_is, resolve_3, no_such_id, resolved}
use Rattle.bisim_core.proofs.ids.Interner.resolve.Goals as goal

pub returns-then-self-gt256 : goal.returns-then-self-gt256
returns-then-self-gt256 c = resolve_3 _ _ _ c.if-self-gt256.true

pub returns-then-at-self : goal.returns-then-at-self
returns-then-at-self c = no_such_id _ _ _ c.if-self-gt256.false c.if-at-self.true

pub returns-in_err-check : goal.returns-in_err-check
unfolding resolve
returns-in_err-check c = turned_back c.from_residual.result _ _ _ c.from_residual.ensures.1 (first_number _ _ _ c.in_err-check.ensures ∙ sym (resolve_is c.args.self.now.labels.now c.args.self.now.count c.args.id.0))

pub returns : goal.returns
returns c = resolved _ _ _ c.in_ok-check.ensures c.if-at-self.false
