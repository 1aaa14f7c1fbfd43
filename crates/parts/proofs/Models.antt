-- What two models are refused for, by what each is refused for; and the edge columns of an accepted model.
use mathlib.Core.Path.{◌≡◌, sym, ap, ◌∙◌}
use Prim.Native.Nat.{ℕ, ◌<◌, ◌≤◌}
use native.Mathlib.Omega.{arith}
use Rattle.bisim_core.specs.Data.{Columns, columns_of}
use Rattle.bisim_core.specs.declared.wlts.Shape.{Shape}
use Rattle.bisim_core.specs.declared.wlts.Wlts.{Wlts}
use Rattle.bisim_core.specs.Model.{model_refusal, large, unfit, weights_outside, crowded}
use Rattle.bisim_core.proofs.Accepted.{Accepted}
use Rattle.epsdelta_theory.specs.Refusal.{models_refusal}
use Rattle.epsdelta_theory.proofs.RowsIn.{Readable}
use Rattle.epsdelta_theory.proofs.Unrefused.{models_passed}
use Rattle.parts.specs.Earlier.{earlier}
use Rattle.parts.specs.Jumping.{HasRow}
use Rattle.parts.proofs.Earlier.{both_four}

models_are : (SL : Shape) (ML : Columns) (SR : Shape) (MR : Columns) → earlier (model_refusal SL ML) (model_refusal SR MR) ≡ models_refusal SL ML SR MR 0
unfolding model_refusal models_refusal
models_are SL ML SR MR = both_four 2 3 4 5 (omega arith) (omega arith) (omega arith) (large SL) (unfit SL ML) (weights_outside SL ML) (crowded SL ML) (large SR) (unfit SR MR) (weights_outside SR MR) (crowded SR MR)

module _ (SL : Shape) (ML : Columns) (SR : Shape) (MR : Columns) (x y n : ℕ) (l : x ≡ model_refusal SL ML) (r : y ≡ model_refusal SR MR) (e : n ≡ earlier x y) where
  pub models_number : n ≡ models_refusal SL ML SR MR 0
  models_number = e ∙ ap (λ (a : ℕ). earlier a y) l ∙ ap (earlier (model_refusal SL ML)) r ∙ models_are SL ML SR MR

  pub models_accepted : n ≡ 0 → Accepted SL ML × Accepted SR MR
  models_accepted h = let q = models_passed SL ML SR MR 0 (sym models_number ∙ h) in (q.0, q.1)

-- the rows of an accepted model can be made
pub readable : {S : Shape} {M : Columns} → Accepted S M → Readable S.states M.offsets M.edge_targets M.edge_weights
readable A =
    let e = A.begins_last in
    record {
      few = A.states_few;
      offsets_long = A.offsets_long;
      rise = A.begins_rise;
      targets_long = let h = A.edge_targets_long in omega arith;
      weights_long = let h = A.edge_weights_long in omega arith;
      edges_few = let h = A.edges_few in omega arith;
      target_low = λ i h. A.target_low i (omega arith);
    }

-- so can that of one of its states
pub has_row : (M : Wlts) (s off : ℕ) → Accepted M.shape (columns_of M) → s < M.shape.states → off ≤ 2000 → HasRow M s off
has_row M s off A h l = (readable A, h, l)
