-- The last test is made where those before it passed.
use mathlib.Core.Path.{◌≡◌, sym, ap, ◌∙◌}
use native.Mathlib.Omega.{arith}
use mathlib.Core.Bool.{Bool, true, false, not}
use Rattle.numbers.proofs.Bools.{one_if}
use borrow.Author.Tests.{le-leb, lt-ltb}
use Rattle.numbers.proofs.Refuses.{skip}
use Rattle.chain_check.proofs.shape.misshapen.Goals as goal
use Rattle.chain_check.proofs.shape.misshapen.Goals.{then-initial-states, else-initial-states, then-thin, else-thin}

both : {A : Type 0} (b : Bool) → b ≡ true → b ≡ false → A
both b p q = let z : one_if true ≡ one_if false = ap one_if (sym p ∙ q) in absurd (omega arith)

pub returns-else-not-steady : goal.returns-else-not-steady
returns-else-not-steady c =
    elim c.if-thin.branch [
      | then-thin w ↦ both _ (w.value-is ∙ w.if-thin.true) c.if-not-steady.false
      | else-thin w ↦ elim c.if-initial-states.branch [
        | then-initial-states v ↦ both _ (v.value-is ∙ le-leb _ _ v.if-initial-states.true) w.if-thin.false
        | else-initial-states v ↦ skip _ _ _ (ap not (lt-ltb _ _ v.if-initial-states.false)) (skip _ _ _ (sym v.thin.ensures ∙ sym v.value-is ∙ w.if-thin.false)
            (skip _ _ _ (ap not (sym w.steady.ensures) ∙ sym w.value-is ∙ c.if-not-steady.false) (ap not c.all_below.ensures)))
      ]
    ]
