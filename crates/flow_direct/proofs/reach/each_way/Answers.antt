-- `reach::each_way` meets its contract: a flow of which nothing is known or that is not enough, and the flow back (Beginning).
use mathlib.Core.Path.{◌≡◌, sym, ◌∙◌}
use mathlib.Core.Bool.{true, false}
use Rattle.std.specs.Prelude.{Some, None}
use Rattle.numbers.proofs.Bools.{and_first, and_second}
use Rattle.flow_direct.specs.Reaches.{test_reaches}
use Rattle.flow_direct.proofs.Beginning.{known_test, known_back}
use Rattle.flow_direct.proofs.reach.each_way.Goals as goal

pub returns-in-None : goal.returns-in-None
returns-in-None c = λ _. known_test c.args.test.now c.requires c.args.need None c.in-None.ensures

pub returns-in-None-reach : goal.returns-in-None-reach
returns-in-None-reach c =
    let h : test_reaches c.args.test.now c.args.need ≡ true = sym (known_test c.args.test.now c.requires c.args.need (Some c.in-Some-true.field-0) c.in-Some-true.ensures) ∙ c.in-Some-true.field-0-test in
    λ _. (h, known_back c.args.test.now c.back.result c.back.ensures c.requires c.args.need None c.in-None-reach.ensures)

pub returns-in-Some-false : goal.returns-in-Some-false
returns-in-Some-false c =
    let h : test_reaches c.args.test.now c.args.need ≡ false = sym (known_test c.args.test.now c.requires c.args.need (Some c.in-Some-false.field-0) c.in-Some-false.ensures) ∙ c.in-Some-false.field-0-test in
    λ _. sym h ∙ and_first _ _ h

pub returns-in-Some : goal.returns-in-Some
returns-in-Some c =
    let h : test_reaches c.args.test.now c.args.need ≡ true = sym (known_test c.args.test.now c.requires c.args.need (Some c.in-Some-true.field-0) c.in-Some-true.ensures) ∙ c.in-Some-true.field-0-test in
    λ _. and_second _ _ _ h (known_back c.args.test.now c.back.result c.back.ensures c.requires c.args.need (Some c.in-Some.passes) c.in-Some.ensures)
