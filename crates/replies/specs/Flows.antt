-- What a function that answers a flow returns, and what the references lent to it then hold.
use Rattle.std.specs.Prelude.{ℕ, Result, Ok, Err, Float}
use Rattle.flow_core.specs.declared.Flow.{Flow}

-- the number returned, and what the references then hold: flow, phases, pushes
pub record Told : Type 0 where
  pub number : ℕ
  pub flow : Float
  pub phases : ℕ
  pub pushes : ℕ

-- those four
abbrev pub told : ℕ → Float → ℕ → ℕ → Told
told k f p q = record { number = k; flow = f; phases = p; pushes = q }

-- 0 and the run's figures; or the refusal's number and what the references held before
abbrev pub of_flow : Result Flow ℕ → Float → ℕ → ℕ → Told
of_flow (Ok f) x y z = told 0 f.flow f.phases f.pushes
of_flow (Err k) x y z = told k x y z
