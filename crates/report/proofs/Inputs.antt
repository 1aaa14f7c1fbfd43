-- The first 10,500 bytes of an input decide what is printed, into a store for the greatest report.
use mathlib.Core.Path.{◌≡◌, sym, ap, subst, ◌∙◌}
use mathlib.Core.List.{List}
use Prim.Native.Nat.{ℕ}
use lib.ListN.{length, take}
use Rattle.card_report.specs.Report.{Printed, store_fault}
use Rattle.std.specs.Prelude.{Result}
use Rattle.card.specs.Printing.{printed}
use Rattle.card.proofs.Claims.{laws}

pub of_input : (input card out : List ℕ) (t : Result ℕ ℕ) (out' : List ℕ) → take 10500 input ≡ card → length out ≡ 13331 → Printed (store_fault (length out)) (printed card) out t out' → Printed 0 (printed input) out t out'
of_input input card out t out' e n p =
    subst (λ (text : List ℕ). Printed 0 text out t out') (sym (ap printed e) ∙ laws.first_bytes input) (subst (λ (k : ℕ). Printed (store_fault k) (printed card) out t out') n p)
