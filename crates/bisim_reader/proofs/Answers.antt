-- The answers of the readers.
use mathlib.Core.Path.{◌≡◌, refl}
use mathlib.Core.Bool.{Bool, true, false, not, ◌||◌}
use Prim.Native.Nat.{ℕ}
use lib.Dec.{eqb}
use Rattle.numbers.specs.Lists.{span, all}
use Rattle.numbers.specs.Refuse.{check}
use Rattle.numbers.proofs.Bools.{or_f}
use Rattle.numbers.proofs.Refuses.{check_none}
use Rattle.bisim_core.specs.Data.{Columns}
use Rattle.bisim_core.specs.Edges.{crowded_in}
use Rattle.bisim_core.specs.declared.wlts.Shape.{Shape}
use Rattle.bisim_core.specs.Model.{rows, large, unfit, joined_weighs, refusal_with, model_refusal}
use Rattle.bisim_core.proofs.Fits.{Small, small, Fit, fit}

abbrev by : Bool → Bool → Bool → Bool → ℕ
by c3 c4 c5 c6 = check 3 c3 (check 4 c4 (check 5 c5 (check 6 c6 0)))

beside : (c3 stray c4 c5 c6 : Bool) → check 3 (eqb (by c3 c4 c5 c6) 3) (check 4 stray (by c3 c4 c5 c6)) ≡ by c3 (stray || c4) c5 c6
beside true stray c4 c5 c6 = refl
beside false true true c5 c6 = refl
beside false true false true c6 = refl
beside false true false false true = refl
beside false true false false false = refl
beside false false true c5 c6 = refl
beside false false false true c6 = refl
beside false false false false true = refl
beside false false false false false = refl

module _ (stray : Bool) (S : Shape) (M : Columns) where
  -- what a number out of range beside the model changes
  pub refusal_with_lem : check 3 (eqb (model_refusal S M) 3) (check 4 stray (model_refusal S M)) ≡ refusal_with stray S M
  unfolding model_refusal
  refusal_with_lem = beside (large S) stray (unfit S M) (not (all joined_weighs (rows M 0 S.states))) (crowded_in (rows M 0 S.states) (span 0 S.states))

  pub none_refused : refusal_with stray S M ≡ 0 → (stray ≡ false) × Small S × Fit S M
  none_refused e =
      let a = check_none 2 (large S) _ e in
      let b = check_none 3 (stray || unfit S M) _ a.1 in
      let d = or_f stray (unfit S M) b.0 in
      (d.0, small S a.0, fit S M d.1)

pub passed : (S : Shape) (M : Columns) → model_refusal S M ≡ 0 → Small S × Fit S M
unfolding model_refusal
passed S M e = let a = none_refused false S M e in (a.1, a.2)
