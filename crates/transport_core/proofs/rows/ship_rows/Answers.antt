-- `rows::ship_rows` meets its contract: links that fit are listed and sailed (Sails).
use Rattle.std.proofs.Common.{rules}
use mathlib.Core.Path.{◌≡◌, refl, sym, ap, ◌∙◌}
use mathlib.Core.Bool.{true, true≢false}
use Rattle.std.specs.Prelude.{Result, Ok, Err, Some}
use Rattle.std.specs.Option.{is_some}
use Rattle.std.specs.Result.{is_ok, result_ok}
use Rattle.transport_core.proofs.Sails.{sails}
use Rattle.transport_core.proofs.rows.ship_rows.Goals as goal

-- an answer that is no refusal
passed : {A E : Type 0} (r : Result A E) {x : A} → result_ok r ≡ Some x → is_ok r ≡ true
passed (Ok y) e = refl
passed (Err z) e = absurd (true≢false (sym (ap is_some e)))

pub ship_listed-requires-clause-sailable : goal.ship_listed-requires-clause-sailable
ship_listed-requires-clause-sailable c = sails c.args.of.now.left.now c.args.of.now.right.now c.args.links.now.heads.now c.args.caps.now c.args.links.now.prices.now c.args.list.now (sym c.sizes_fit.ensures ∙ c.if-not-sizes_fit.false) c.args.starts.now (search rules) _ _ _ (c.node_lists.ensures.value, (c.node_lists.ensures.new_starts_after, c.node_lists.ensures.new_list_after)) (passed _ (sym c.ok.ensures.value ∙ c.in_ok-ok.was))
