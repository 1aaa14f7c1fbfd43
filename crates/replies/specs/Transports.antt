-- What the exported `transport` returns, and what the references and columns lent to it then hold.
use Rattle.std.specs.Prelude.{ℕ, List, Float, Result, Ok, Err}
use Rattle.transport.specs.declared.plan.Plan.{Plan}
use Rattle.transport.specs.Outcome.{Outcome}

-- the number returned, and what the references then hold: the cost of the plan and its number of cells
pub record Told : Type 0 where
  pub number : ℕ
  pub total : Float
  pub cells : ℕ

-- those three
abbrev pub told : ℕ → Float → ℕ → Told
told k x n = record { number = k; total = x; cells = n }

-- 0 and the plan's figures; or the refusal's number and what the references held before
abbrev pub of_transport : Result Plan ℕ → Float → ℕ → Told
of_transport (Ok p) x n = told 0 p.total p.cells
of_transport (Err k) x n = told k x n

-- what is told, and the rows, columns and masses of the plan
pub record Left : Type 0 where
  pub told : Told
  pub rows : List ℕ
  pub columns : List ℕ
  pub masses : List Float

-- those four
abbrev pub leaves : Told → List ℕ → List ℕ → List Float → Left
leaves t i j x = record { told = t; rows = i; columns = j; masses = x }

-- the answer of `transport`, and the columns as it leaves them
abbrev pub planned : Outcome → Float → ℕ → Left
planned o x n = leaves (of_transport o.answer x n) o.rows o.columns o.masses
