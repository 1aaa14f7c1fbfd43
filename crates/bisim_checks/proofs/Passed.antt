-- What is known where the arguments of `bisim_distance` pass all checks.
use mathlib.Core.Path.{◌≡◌, refl}
use mathlib.Core.Bool.{true, false, not, ◌||◌}
use Prim.Native.Nat.{ℕ, ◌≤◌, ◌<◌}
use mathlib.Core.List.{List}
use lib.ListN.{length}
use lib.Dec.{ltb, leb}
use lib.Ieee.{Float}
use borrow.Author.Tests.{ltb-false, leb-false, not-false}
use Rattle.numbers.specs.Real.{least_observation, greatest_weight}
use Rattle.numbers.specs.Lists.{all}
use Rattle.numbers.proofs.Bools.{or_f}
use Rattle.numbers.proofs.Refuses.{check_none, check_skip}
use Rattle.bisim_core.specs.Data.{Columns, columns_of}
use Rattle.bisim_core.specs.declared.wlts.Shape.{Shape}
use Rattle.bisim_core.specs.Model.{large, unfit, weights_outside, crowded, model_refusal}
use Rattle.epsdelta_theory.specs.Refusal.{absent}
use Rattle.chain_theory.specs.Columns.{ChainColumns}
use Rattle.chain_theory.specs.Lent.{of_store}
use Rattle.chain_theory.specs.declared.ChainStore.{ChainStore}
use Rattle.chains.specs.declared.observed.Observed.{Observed}
use Rattle.chain_theory.specs.Check.{discount_outside, unfitting, cramped}
use Rattle.distance_theory.specs.Pairs.{most}
use Rattle.distance_theory.specs.Refusal.{short, excessive, bisim_refusal}
use Rattle.distance_theory.specs.declared.MetricOptions.{MetricOptions}

-- of one side
pub record Side (S : Shape) (M : Columns) (s : ℕ) (seen : List Float) (C : ChainColumns) : Type 0 where
  pub model_passes : model_refusal S M ≡ 0
  pub state_in : s < S.states
  pub roomy : cramped S.states S.edges (length seen) C ≡ false

-- of one that is lent
abbrev pub SideOf : Observed → ChainStore → Type 0
SideOf o d = Side o.model.shape (columns_of o.model) o.state.0 o.observations.now (of_store d)

model_none : (S : Shape) (M : Columns) → large S ≡ false → unfit S M ≡ false → weights_outside S M ≡ false → crowded S M ≡ false → model_refusal S M ≡ 0
unfolding model_refusal
model_none S M a b c d = check_skip 3 _ _ 0 a (check_skip 4 _ _ 0 b (check_skip 5 _ _ 0 c (check_skip 6 _ _ 0 d refl)))

module _ (SL : Shape) (ML : Columns) (s : ℕ) (seenL : List Float) (CL : ChainColumns) (SR : Shape) (MR : Columns) (t : ℕ) (seenR : List Float) (CR : ChainColumns) (γ : Float) (o : MetricOptions) (lists : List ℕ) (records : ℕ) where
  pub record Passed : Type 0 where
    pub left : Side SL ML s seenL CL
    pub right : Side SR MR t seenR CR
    pub long : all (λ n. leb most n) lists ≡ true
    pub row : 64 ≤ records
    pub asked : o.top ≤ 64

  pub passed : bisim_refusal SL ML s seenL CL SR MR t seenR CR γ o lists records ≡ 0 → Passed
  unfolding bisim_refusal
  passed e =
      let (a, e₃) = check_none 2 (large SL || large SR) _ e in
      let (b, e₄) = check_none 3 (unfit SL ML || (unfit SR MR || (leb SL.states s || leb SR.states t))) _ e₃ in
      let (c, e₅) = check_none 4 (weights_outside SL ML || weights_outside SR MR) _ e₄ in
      let (d, e₆) = check_none 5 (crowded SL ML || crowded SR MR) _ e₅ in
      let (f, e₇) = check_none 6 (cramped SL.states SL.edges (length seenL) CL || (cramped SR.states SR.edges (length seenR) CR || short lists records)) _ e₆ in
      let (g, e₈) = check_none 7 (absent SL.initial || absent SR.initial) _ e₇ in
      let (h, e₉) = check_none 10 (discount_outside γ) _ e₈ in
      let (i, e₁₀) = check_none 11 (unfitting least_observation greatest_weight SL.states seenL || unfitting least_observation greatest_weight SR.states seenR) _ e₉ in
      let (j, e₁₁) = check_none 13 (excessive o) 0 e₁₀ in
      let (a₁, a₂) = or_f (large SL) (large SR) a in
      let (b₁, b₂) = or_f (unfit SL ML) _ b in
      let (b₃, b₄) = or_f (unfit SR MR) _ b₂ in
      let (b₅, b₆) = or_f (leb SL.states s) _ b₄ in
      let (c₁, c₂) = or_f (weights_outside SL ML) (weights_outside SR MR) c in
      let (d₁, d₂) = or_f (crowded SL ML) (crowded SR MR) d in
      let (f₁, f₂) = or_f (cramped SL.states SL.edges (length seenL) CL) _ f in
      let (f₃, f₄) = or_f (cramped SR.states SR.edges (length seenR) CR) _ f₂ in
      let (k₁, k₂) = or_f (not (all (λ n. leb most n) lists)) (ltb records 64) f₄ in
      let (m₁, m₂) = or_f (ltb 64 o.top) _ j in
      record {
        left = record { model_passes = model_none SL ML a₁ b₁ c₁ d₁; state_in = leb-false SL.states s b₅; roomy = f₁ };
        right = record { model_passes = model_none SR MR a₂ b₃ c₂ d₂; state_in = leb-false SR.states t b₆; roomy = f₃ };
        long = not-false _ k₁;
        row = ltb-false records 64 k₂;
        asked = ltb-false 64 o.top m₁;
      }
