-- `epsdelta`: the rate test of the factor ρ, and the run of sweeps with the flow test.
use Rattle.std.specs.Prelude.{ℕ, Bool, ◌&&◌, ◌||◌, List, ◌++◌, length, get_or, take, Float}
use Rattle.std.specs.Float.{binary64}
use Rattle.std.specs.Float.Ieee.{lt, le, mul}
use Rattle.numbers.specs.Real.{nought, is_zero}
use Rattle.bisim_core.specs.Data.{Columns}
use Rattle.bisim_core.specs.declared.wlts.Shape.{Shape}
use Rattle.bisim_core.specs.Model.{model}
use Rattle.epsdelta_theory.specs.Jumps.{Jumps, union, exit}
use Rattle.epsdelta_theory.specs.Sweeps.{Task, Run, run}
use Rattle.epsdelta_theory.specs.FlowTest.{flow_ok}

-- the rate test: both zero, or both positive with a ≤ b × ρ and b ≤ a × ρ, each product rounded once
unfoldable pub rates_close : Float → Float → Float → Bool
unfolding lt le mul
rates_close a b ρ = (is_zero a && is_zero b) || (lt nought a && (lt nought b && (le a (mul binary64 b ρ) && le b (mul binary64 a ρ))))

-- what `epsdelta` reads: the jumps and the class of each state of the union, a rate test of two classes and two exit rates, and ε
pub record Given : Type 0 where
  pub jumps : Jumps
  pub classes : List ℕ
  pub pass : ℕ → ℕ → Float → Float → Bool
  pub epsilon : Float

-- rows, the class of each, ε and ρ; this rate test does not look at classes
abbrev pub given_rows : Jumps → List ℕ → Float → Float → Given
given_rows J classes ε ρ = record { jumps = J; classes = classes; pass = λ _ _ a b. rates_close a b ρ; epsilon = ε }

-- two models handed in, a list of classes for each (which may be longer than its model), ε and ρ
unfoldable pub given : Shape → Columns → Shape → Columns → List ℕ → List ℕ → Float → Float → Given
unfolding union model rates_close
given SL ML SR MR cl cr ε ρ = given_rows (union (model SL ML) (model SR MR)) (take SL.states cl ++ take SR.states cr) ε ρ

-- the class of a state
unfoldable pub class : Given → ℕ → ℕ
class G s = get_or G.classes s 0

-- its marks and sweeps: the test of a pair is the flow test
abbrev pub task : Given → Task
task G = record {
  states = length G.jumps;
  class = class G;
  rates_pass = λ s t. G.pass (class G s) (class G t) (exit G.jumps s) (exit G.jumps t);
  no_exit = λ s. is_zero (exit G.jumps s);
  test = λ R s t. flow_ok G.jumps R s t G.epsilon;
}

-- the whole run, from the marks to the sweep without a strike
unfoldable pub epsdelta : Given → Run
unfolding run exit class flow_ok
epsdelta G = run (task G)
