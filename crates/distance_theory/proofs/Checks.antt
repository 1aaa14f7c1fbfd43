-- What a refusal says: the first check of the list that fails.
use mathlib.Core.Path.{◌≡◌, refl}
use Prim.Native.Nat.{ℕ}
use mathlib.Core.Bool.{Bool, true, false, not, ◌&&◌, ◌||◌}
use mathlib.Core.Logic.{◌⊎◌, inl, inr}
use mathlib.Core.List.{List, [], ◌∷◌}
use lib.Dec.{ltb, leb}
use lib.ListN.{length}
use lib.Ieee.{Float, lt}
use Rattle.numbers.specs.Real.{nought, one, eps, least_observation, greatest_weight}
use Rattle.numbers.specs.Refuse.{check}
use Rattle.numbers.specs.Lists.{all}
use Rattle.bisim_core.specs.Data.{Columns}
use Rattle.bisim_core.specs.Model.{large, unfit, weights_outside, crowded}
use Rattle.bisim_core.specs.declared.wlts.Shape.{Shape}
use Rattle.epsdelta_theory.specs.Refusal.{absent}
use Rattle.chain_theory.specs.Columns.{ChainColumns}
use Rattle.chain_theory.specs.Check.{discount_outside, misshapen, unobserved, unfitting, improper, cramped}
use Rattle.chain_theory.specs.declared.ChainShape.{ChainShape}
use Rattle.distance_theory.specs.Pairs.{most}
use Rattle.distance_theory.specs.Couplings.{Metric, room, even}
use Rattle.distance_theory.specs.Refusal.{short, excessive, distance_refusal, run_refusal, bisim_refusal}
use Rattle.distance_theory.specs.declared.MetricOptions.{MetricOptions}

-- the number of the first check of a list that fails, and 0 if none does
abbrev pub first_of : List (ℕ × Bool) → ℕ
first_of [] = 0
first_of (c ∷ cs) = check c.0 c.1 (first_of cs)

-- r is that number
abbrev pub First : ℕ → List (ℕ × Bool) → Type 0
First r [] = r ≡ 0
First r (c ∷ cs) = ((c.1 ≡ true) × (r ≡ c.0)) ⊎ ((c.1 ≡ false) × First r cs)

first_check : (n : ℕ) (b : Bool) (later : ℕ) (cs : List (ℕ × Bool)) → First later cs → First (check n b later) ((n, b) ∷ cs)
first_check n true later cs f = inl (refl, refl)
first_check n false later cs f = inr (refl, f)

first_is : (cs : List (ℕ × Bool)) → First (first_of cs) cs
first_is [] = refl
first_is (c ∷ cs) = first_check c.0 c.1 (first_of cs) cs (first_is cs)

module _ (HL : ChainShape) (CL : ChainColumns) (HR : ChainShape) (CR : ChainColumns) (γ : Float) (o : MetricOptions) (lists : List ℕ) (records : ℕ) where
  abbrev pub distance_checks : List (ℕ × Bool)
  distance_checks =
      (4, misshapen HL CL || misshapen HR CR)
      ∷ (7, unobserved HL CL || (unobserved HR CR || short lists records))
      ∷ (11, discount_outside γ)
      ∷ (12, unfitting nought one HL.states CL.observations || unfitting nought one HR.states CR.observations)
      ∷ (13, improper HL CL || improper HR CR)
      ∷ (14, excessive o)
      ∷ []

  pub distance_refusal_first : First (distance_refusal HL CL HR CR γ o lists records) distance_checks
  unfolding distance_refusal
  distance_refusal_first = first_is distance_checks

module _ (G : Metric) (o : MetricOptions) (store : ℕ) (mass : Float) where
  abbrev pub run_checks : List (ℕ × Bool)
  run_checks =
      (17, ltb most (length G.found))
      ∷ (18, ltb store (room G G.found))
      ∷ (16, ltb 0 o.max_rounds && not (all (even G) G.found))
      ∷ (19, lt eps mass)
      ∷ []

  pub run_refusal_first : First (run_refusal G o store mass) run_checks
  unfolding run_refusal
  run_refusal_first = first_is run_checks

module _ (SL : Shape) (ML : Columns) (s : ℕ) (seenL : List Float) (CL : ChainColumns) (SR : Shape) (MR : Columns) (t : ℕ) (seenR : List Float) (CR : ChainColumns) (γ : Float) (o : MetricOptions) (lists : List ℕ) (records : ℕ) where
  abbrev pub bisim_checks : List (ℕ × Bool)
  bisim_checks =
      (3, large SL || large SR)
      ∷ (4, unfit SL ML || (unfit SR MR || (leb SL.states s || leb SR.states t)))
      ∷ (5, weights_outside SL ML || weights_outside SR MR)
      ∷ (6, crowded SL ML || crowded SR MR)
      ∷ (7, cramped SL.states SL.edges (length seenL) CL || (cramped SR.states SR.edges (length seenR) CR || short lists records))
      ∷ (8, absent SL.initial || absent SR.initial)
      ∷ (11, discount_outside γ)
      ∷ (12, unfitting least_observation greatest_weight SL.states seenL || unfitting least_observation greatest_weight SR.states seenR)
      ∷ (14, excessive o)
      ∷ []

  pub bisim_refusal_first : First (bisim_refusal SL ML s seenL CL SR MR t seenR CR γ o lists records) bisim_checks
  unfolding bisim_refusal
  bisim_refusal_first = first_is bisim_checks
