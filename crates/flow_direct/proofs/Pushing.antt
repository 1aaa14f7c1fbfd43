-- A push along a path whose label is the source's.
use mathlib.Core.Path.{◌≡◌}
use Prim.Native.Nat.{ℕ}
use mathlib.Core.Bool.{true}
use mathlib.Core.List.{List}
use lib.ListN.{length, get_or}
use lib.Ieee.{Float, nan, lt}
use Rattle.numbers.specs.Real.{eps}
use Rattle.flow_routes.specs.declared.Step.TheVariants as steps
use Rattle.flow_routes.proofs.Coding.{Sized, Walking}
use Rattle.flow_routes.proofs.Pathing.{LeastIs, SendsAll, Stepped, steps_push}

module _ {us ts : List ℕ} {n : ℕ} {store : List ℕ} {A B F : List Float} {l r : List ℕ} {s start : ℕ} {Ls Rs : List ℕ} where
  pub pushed : Walking us ts n store F l r s start Ls Rs 1 0 → lt eps (get_or B (get_or Rs 1 0) nan) ≡ true → {q : ℕ} → q ≡ s → {x : Float} → LeastIs (length ts) A B F q Ls Rs x → {A' B' F' : List Float} → Sized A B F A' B' F'
      → SendsAll (length ts) A B F q Ls Rs x A' B' F' → Stepped us ts n store A B F l r s start A' B' F' l r (steps.Pushed x)
  pushed W on e L Z Q = steps_push W on (rw e at L) Z (rw e at Q)
