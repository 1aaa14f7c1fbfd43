-- What `transport` answers, and what it leaves in the plan's columns.
use Rattle.std.specs.Prelude.{ℕ, zero, suc, Bool, not, List, map, length, Float, Result, Ok, Err}
use Rattle.numbers.specs.Lists.{over}
use Rattle.numbers.specs.Refuse.{check}
use Rattle.transport_theory.specs.Lent.{few}
use Rattle.transport_theory.specs.Transport.{Cell, Transport, transport}
use Rattle.transport_theory.specs.Refusal.{short, transport_refusal}
use Rattle.transport.specs.declared.plan.Plan.{Plan}

-- the answer, a refusal by its number, and the rows, columns and masses of the plan
pub record Outcome : Type 0 where
  pub answer : Result Plan ℕ
  pub rows : List ℕ
  pub columns : List ℕ
  pub masses : List Float

abbrev pub ends : Result Plan ℕ → List ℕ → List ℕ → List Float → Outcome
ends r i j x = record { answer = r; rows = i; columns = j; masses = x }

-- no refusal: the cost of the plan and its number of cells, and the cells over the front of the columns; a refusal leaves these as they were
abbrev pub settled : ℕ → Transport → List ℕ → List ℕ → List Float → Outcome
settled zero t i j x =
    ends (Ok (record { total = t.total; cells = length t.plan })) (over (map (λ (c : Cell). c.row) t.plan) i) (over (map (λ (c : Cell). c.column) t.plan) j) (over (map (λ (c : Cell). c.mass) t.plan) x)
settled (suc k) t i j x = ends (Err (suc k)) i j x

-- masses a and b, the costs, and the columns that are lent; `right` says whether the costs fit
abbrev pub transport_on : Bool → List Float → List Float → List Float → List ℕ → List ℕ → List Float → Outcome
transport_on right a b costs i j x = settled (transport_refusal right a b (length costs) (length i) (length j) (length x)) (transport a b costs) i j x

-- sizes alone: lists that are short, or over 32 masses on a side
abbrev pub size_refusal : ℕ → ℕ → ℕ → ℕ → ℕ → ℕ → ℕ
size_refusal m n costs rows columns masses = check 7 (short m n costs rows columns masses) (check 15 (not (few m n)) 0)

-- any masses and costs of sizes that fit
abbrev pub transport_sized : List Float → List Float → List Float → List ℕ → List ℕ → List Float → Outcome
transport_sized a b costs i j x = settled (size_refusal (length a) (length b) (length costs) (length i) (length j) (length x)) (transport a b costs) i j x
