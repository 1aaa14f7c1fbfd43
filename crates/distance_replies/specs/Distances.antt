-- What a function that answers a distance returns, and what the references lent to it then hold.
use Rattle.std.specs.Prelude.{ℕ, Float, Ok, Err}
use Rattle.distance_theory.specs.Outcome.{Measured}

-- the number returned, and what the references then hold
pub record Replied : Type 0 where
  pub number : ℕ
  pub value : Float
  pub error_bound : Float
  pub discount : Float
  pub pairs_explored : ℕ
  pub contributions : ℕ
  pub rounds : ℕ

abbrev pub replied : ℕ → Float → Float → Float → ℕ → ℕ → ℕ → Replied
replied k v e g p c r = record { number = k; value = v; error_bound = e; discount = g; pairs_explored = p; contributions = c; rounds = r }

-- 0 and the figures of the distance; or the refusal's number and what the references held before
abbrev pub of_measured : Measured → Float → Float → Float → ℕ → ℕ → ℕ → Replied
of_measured (Ok d) v e g p c r = replied 0 d.value d.error_bound d.gamma d.pairs_explored d.contributions d.rounds
of_measured (Err k) v e g p c r = replied k v e g p c r
