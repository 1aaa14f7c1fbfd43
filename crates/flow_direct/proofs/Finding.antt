-- `find` over the numbers below n.
use mathlib.Core.Path.{◌≡◌}
use mathlib.Core.Bool.{true, false}
use mathlib.Core.Logic.{◌⊎◌, inl, inr}
use Prim.Native.Nat.{ℕ, ◌≤◌, ◌<◌}
use mathlib.Core.List.{List}
use native.Mathlib.Omega.{arith}
use lib.ListN.{get_or}
use lib.Ieee.{Float, nan, lt}
use Rattle.std.specs.Prelude.{Option, Some, None}
use Rattle.std.specs.Option.{MatchOption, unwrap_or}
use Rattle.numbers.specs.Real.{eps}
use Rattle.numbers.proofs.Bools.{lt_or_ge}
use Rattle.flow_routes.proofs.Coding.{Shut, Found}

-- nothing is left before f, and the first from f on of which something is left is i, or n
pub shut_to : {f : ℕ} (n : ℕ) {B : List Float} → Shut f B → (r : Option ℕ) → MatchOption r ((k : ℕ) → f ≤ k → k < n → lt eps (get_or B k nan) ≡ false) (λ i. (f ≤ i) × (i < n) × (lt eps (get_or B i nan) ≡ true) × ((k : ℕ) → f ≤ k → k < i → lt eps (get_or B k nan) ≡ false)) → Shut (unwrap_or r n) B
shut_to {f} n {B} s (Some i) (a, b, y, none) = record { at = λ q m. pick q m (lt_or_ge q f) }
  where
    pick : (q : ℕ) → q < i → (q < f) ⊎ (f ≤ q) → lt eps (get_or B q nan) ≡ false
    pick q m (inl l) = s.at q l
    pick q m (inr g) = none q g m
shut_to {f} n {B} s None t = record { at = λ q m. pick q m (lt_or_ge q f) }
  where
    pick : (q : ℕ) → q < n → (q < f) ⊎ (f ≤ q) → lt eps (get_or B q nan) ≡ false
    pick q m (inl l) = s.at q l
    pick q m (inr g) = t q g m

-- the first number below n of which Yes holds, and No of those before it: it is the first of which P holds, where Yes is that and No that it does not
pub found_by : (n : ℕ) (P : ℕ → Type 0) (r : Option ℕ) (Yes No : ℕ → Type 0) → MatchOption r ((k : ℕ) → k < n → No k) (λ i. (i < n) × Yes i × ((k : ℕ) → k < i → No k)) → ((i : ℕ) → i < n → Yes i → P i) → ((i : ℕ) → i < n → No i → P i → ⊥) → Found n P r
found_by n P (Some i) Yes No (b, y, before) f g = (b, record { upto = omega arith; found = λ _. f i b y; none = λ j l. g j (omega arith) (before j l) })
found_by n P None Yes No t f g = record { upto = omega arith; found = λ l. absurd (omega arith); none = λ j l. g j l (t j l) }

-- of the numbers from j on, r is the first below n of which Yes holds, or n; of those before it No holds
pub record FirstAfter (n j r : ℕ) (Yes No : ℕ → Type 0) : Type 0 where
  pub upto : r ≤ n
  pub found : r < n → Yes r
  pub none : (i : ℕ) → j ≤ i → i < r → No i
