-- The model decides, or what comes with it.
use mathlib.Core.Path.{◌≡◌, refl, ap, ◌∙◌}
use mathlib.Core.Bool.{◌||◌}
use mathlib.Core.List.{List}
use Prim.Native.Nat.{ℕ}
use lib.Dec.{leb}
use lib.Ieee.{Float}
use Rattle.numbers.proofs.Refuses.{first, first_number, turned_back_code}
use Rattle.bisim_core.specs.Data.{Columns, columns_of}
use Rattle.bisim_core.specs.declared.wlts.Shape.{Shape}
use Rattle.bisim_core.specs.Model.{large, unfit, weights_outside, crowded, refusal_with}
use Rattle.chain_theory.specs.Columns.{ChainColumns}
use Rattle.chain_theory.specs.Lent.{of_store}
use Rattle.chains.proofs.Answers.{split}
use Rattle.bisim_checks.specs.Sides.{beside_refusal, side_refusal}
use Rattle.bisim_checks.proofs.sides.side_refusal.Goals as goal

by : (S : Shape) (M : Columns) (s : ℕ) (seen : List Float) (C : ChainColumns) (m : ℕ) → m ≡ refusal_with (leb S.states s) S M → first m (beside_refusal S seen C) ≡ side_refusal S M s seen C
unfolding side_refusal
by S M s seen C m e = ap (λ (k : ℕ). first k (beside_refusal S seen C)) e ∙ split (large S) (leb S.states s || unfit S M) (weights_outside S M) (crowded S M) (beside_refusal S seen C)

pub returns-in_err-check_with : goal.returns-in_err-check_with
returns-in_err-check_with c =
    let a = c.args.side.now in
    turned_back_code c.from_residual.result _ _ c.from_residual.ensures.1 (first_number _ _ _ refl ∙ by a.model.shape (columns_of a.model) a.state.0 a.observations.now (of_store c.args.store.now) _ c.in_err-check_with.ensures)

pub returns : goal.returns
returns c =
    let a = c.args.side.now in
    c.beside_refusal.ensures ∙ by a.model.shape (columns_of a.model) a.state.0 a.observations.now (of_store c.args.store.now) _ c.in_ok-check_with.ensures
