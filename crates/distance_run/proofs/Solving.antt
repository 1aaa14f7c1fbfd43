-- The ways that `solve` ends.
use mathlib.Core.Path.{◌≡◌, refl, sym, ap, ap₂, ◌∙◌}
use Prim.Native.Nat.{ℕ}
use mathlib.Core.Bool.{Bool, true, false}
use mathlib.Core.List.{List}
use lib.Ieee.{Float, inf, binary64, sub, mul}
use Rattle.std.specs.Prelude.{Result, Ok, Err}
use Rattle.std.specs.Result.{IsErrAnd}
use Rattle.numbers.specs.Refuse.{number, numbered}
use Rattle.numbers.specs.declared.refusal.Refusal.{Refusal}
use Rattle.numbers.specs.Real.{nought, one, tenth}
use Rattle.chain_theory.specs.Columns.{ChainColumns}
use Rattle.distance_theory.specs.Rounds.{tolerance}
use Rattle.distance_theory.specs.declared.MetricOptions.{MetricOptions}
use Rattle.distance_words.proofs.Store.{Filled, filled, fill}
use Rattle.distance_words.proofs.Iterating.{task, Iterated, iterated, iterate_from}
use Rattle.distance_words.specs.declared.told.Rounds.{Rounds}
use Rattle.distance_words.proofs.Solve.{Solving, solving, solved, uneven, aim_of, rounds_of, solve_if, solve_from, solve_of}

pub aims : (γ : Float) (o : MetricOptions) {x : Float} → x ≡ tolerance o → mul binary64 x (sub binary64 one γ) ≡ aim_of γ o
aims γ o e = ap (λ (y : Float). mul binary64 y (sub binary64 one γ)) e

-- 18 is handed on
pub stopped : (a : Result Rounds Refusal) (r : Refusal) (s l p : List ℕ) (m v : List Float) {W : Solving} → IsErrAnd a (λ e. e ≡ r) → number r ≡ 18 → solving 18 nought 0 s l p m v ≡ W → solved (numbered a) s l p m v ≡ W
stopped (Ok w) r s l p m v h f e = absurd h
stopped (Err d) r s l p m v h f e = ap (λ (k : ℕ). solving k nought 0 s l p m v) (ap number h ∙ f) ∙ e

-- what was laid or not is in the store
module _ (n : ℕ) (lefts rights codes : List ℕ) (C D : ChainColumns) (cost : List Float) (γ : Float) (o : MetricOptions) (s l p : List ℕ) (m v : List Float)
    {b : Bool} {s' l' p' : List ℕ} {m' : List Float} (e : filled b s' l' p' m' ≡ fill n lefts rights codes C D s l p m) where
  abbrev whole : Solving
  whole = solve_of n lefts rights codes C D cost γ o s l p m v

  abbrev from : Bool → Bool → Solving
  from x u = let f : Filled = filled x s' l' p' m' in solve_if x u f (rounds_of n lefts rights codes C D cost γ o v f) v

  comes : from b (uneven o.max_rounds n lefts rights C D) ≡ whole
  comes = ap (solve_from n lefts rights codes C D cost γ o v) e

  pub short : b ≡ false → solving 18 nought 0 s' l' p' m' v ≡ whole
  short h = ap (λ (x : Bool). from x (uneven o.max_rounds n lefts rights C D)) (sym h) ∙ comes

  module _ (h : b ≡ true) {u : Bool} (f : u ≡ uneven o.max_rounds n lefts rights C D) where
    laid : from true u ≡ whole
    laid = ap (from true) f ∙ ap (λ (x : Bool). from x (uneven o.max_rounds n lefts rights C D)) (sym h) ∙ comes

    pub odd : u ≡ true → solving 16 nought 0 s' l' p' m' v ≡ whole
    odd g = ap (from true) (sym g) ∙ laid

    pub made : u ≡ false → {y : Float} → y ≡ aim_of γ o → {j : ℕ} → j ≡ n → {x : Float} {k : ℕ} {v' : List Float} {l'' p'' : List ℕ} {m'' : List Float}
        → iterated x k v' l'' p'' m'' ≡ iterate_from (task j lefts rights codes C D cost γ s' y (mul binary64 y tenth)) o.max_rounds (inf false) 0 v l' p' m'
        → solving 0 x k s' l'' p'' m'' v' ≡ whole
    made g a ej {x} {k} {v'} {l''} {p''} {m''} i =
        ap (λ (w : Iterated). solving 0 w.residual w.rounds s' w.lengths w.places w.masses w.values)
        (i ∙ ap₂ (λ (h : ℕ) (z : Float). iterate_from (task h lefts rights codes C D cost γ s' z (mul binary64 z tenth)) o.max_rounds (inf false) 0 v l' p' m') ej a)
        ∙ ap (from true) (sym g) ∙ laid

    -- where no round is asked for
    pub unmade : u ≡ false → o.max_rounds ≡ 0 → {x : Float} → x ≡ inf false → solving 0 x 0 s' l' p' m' v ≡ whole
    unfolding iterate_from
    unmade g z ex =
        made g (aims γ o refl) refl
        (ap (λ (y : Float). iterated y 0 v l' p' m') ex ∙ ap (λ (k : ℕ). iterate_from (task n lefts rights codes C D cost γ s' (aim_of γ o) (mul binary64 (aim_of γ o) tenth)) k (inf false) 0 v l' p' m') (sym z))
