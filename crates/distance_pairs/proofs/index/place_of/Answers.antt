-- By the cases of the tests: the code at that place is the pair's, or there is none that is.
use Rattle.std.proofs.Common.{rules, tests}
use mathlib.Core.Path.{◌≡◌, ap, ◌∙◌}
use Prim.Native.Nat.{ℕ, ◌<◌, ◌≤◌}
use lib.Dec.{eqb}
use lib.ListN.{length, get_or}
use Rattle.std.specs.Bool.{then_some}
use Rattle.distance_theory.specs.Pairs.{pair}
use Rattle.distance_theory.proofs.Index.{look_past, look_there, look_high}
use Rattle.distance_pairs.proofs.index.place_of.Goals as goal

pub returns-then-right-ge2048 : goal.returns-then-right-ge2048
returns-then-right-ge2048 c = look_high c.args.codes.now (pair c.args.left.0 c.args.right.0) c.if-right-ge2048.true

pub returns-in_err-get : goal.returns-in_err-get
returns-in_err-get c =
    let l = c.args.codes.now in
    let g : length l ≤ c.goes_by.result = search (rules, tests) in
    c.from_residual.ensures ∙ look_past l (pair c.args.left.0 c.args.right.0) _ _ c.key-pair.ensures.0 c.goes_by.ensures.0 c.if-right-ge2048.false g

pub returns : goal.returns
returns c =
    let l = c.args.codes.now in
    let x = c.in_ok-get.field-0.now in
    let g : c.goes_by.result < length l = search (rules, tests) in
    let e : x ≡ get_or l c.goes_by.result 0 = search rules in
    c.then_some.ensures ∙ ap (then_some (eqb c.key.result c.key-pair.result)) c.number.ensures
    ∙ look_there l (pair c.args.left.0 c.args.right.0) _ _ c.key-pair.ensures.0 c.goes_by.ensures.0 c.if-right-ge2048.false g x _ e (ap (λ (z : ℕ). eqb z c.key-pair.result) c.key.ensures)
