use Rattle.std.proofs.Common.{◌≡◌, sym, ap, ◌∙◌, ℕ, ◌+◌, ◌<◌, Bool, true, false, List, length, get_or, take, eqb, leb, arith}
use mathlib.Core.Bool.{true≢false}
use lib.Seq.{length-take-le, get_or-take}
use borrow.Author.Tests.{eq-eqb, ne_eqb, le-leb, lt-leb}
use Rattle.std.specs.Bool.{MatchBool}
use Rattle.std.specs.List.Sorted.{IsNonDecreasing}
use Rattle.std.proofs.lemmas.List.Sorted.{non_decreasing_from_is_sorted}
use Rattle.numbers.specs.Lists.{every}
use Rattle.numbers.proofs.Bools.{and_first, and_second}
use Rattle.numbers.proofs.Alls.{every_of, every_not}
use Rattle.bisim_core.proofs.check.steady.Goals as goal
use Rattle.bisim_core.proofs.check.steady.Goals.{then-offsets-eq0, else-offsets-eq0}

up_to : (O : List ℕ) (n : ℕ) (r : Bool) → n < length O
    → MatchBool r (IsNonDecreasing (take (n + 1) O)) ((k : ℕ) × (k + 1 < length (take (n + 1) O)) × ((d : ℕ) → get_or (take (n + 1) O) (k + 1) d < get_or (take (n + 1) O) k d))
    → r ≡ every (λ s. leb (get_or O s 0) (get_or O (s + 1) 0)) n
up_to O n true w h = sym (every_of _ _ (λ s l.
    let e = length-take-le (n + 1) O (omega arith) in
    let a = h s (s + 1) 0 (omega arith) (omega arith) in
    let b = get_or-take (n + 1) O s 0 (omega arith) in
    let c = get_or-take (n + 1) O (s + 1) 0 (omega arith) in
    le-leb _ _ (omega arith)))
up_to O n false w (k, l, f) =
    let e = length-take-le (n + 1) O (omega arith) in
    let a = f 0 in
    let b = get_or-take (n + 1) O k 0 (omega arith) in
    let c = get_or-take (n + 1) O (k + 1) 0 (omega arith) in
    sym (every_not _ _ k (omega arith) (lt-leb _ _ (omega arith)))

pub returns-then-offsets-states : goal.returns-then-offsets-states
returns-then-offsets-states c =
    let m = c.args.model.now in
    let n = m.shape.states in
    let O = m.offsets.now in
    elim c.if-offsets-eq0.branch [
      | then-offsets-eq0 w ↦
          and_second _ _ _ (eq-eqb _ _ (sym (get_or-take (n + 1) O 0 0 (omega arith)) ∙ w.if-offsets-eq0.true))
          (and_second _ _ _ (sym (ap (λ x. eqb x m.shape.edges) (get_or-take (n + 1) O n 0 (omega arith))) ∙ sym w.value-is ∙ c.if-offsets-states.true)
          (up_to O n _ c.requires (non_decreasing_from_is_sorted (take (n + 1) O) c.is_sorted.result c.is_sorted.ensures.cases)))
      | else-offsets-eq0 w ↦ absurd (true≢false (sym c.if-offsets-states.true ∙ w.value-is ∙ ne_eqb _ _ w.if-offsets-eq0.false))
    ]

pub returns-else-offsets-states : goal.returns-else-offsets-states
returns-else-offsets-states c =
    let m = c.args.model.now in
    let n = m.shape.states in
    let O = m.offsets.now in
    let first = get_or-take (n + 1) O 0 0 (omega arith) in
    let last = get_or-take (n + 1) O n 0 (omega arith) in
    elim c.if-offsets-eq0.branch [
      | then-offsets-eq0 w ↦
          and_second _ _ _ (eq-eqb _ _ (sym first ∙ w.if-offsets-eq0.true))
          (let e = w.value-is ∙ ap (λ x. eqb x m.shape.edges) last in e ∙ and_first _ _ (sym e ∙ c.if-offsets-states.false))
      | else-offsets-eq0 w ↦ w.value-is ∙ ap (λ x. eqb x 0) first ∙ and_first _ _ (ne_eqb _ _ (λ q. w.if-offsets-eq0.false (first ∙ q)))
    ]
