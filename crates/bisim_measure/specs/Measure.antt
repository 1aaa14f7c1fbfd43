-- What is told of two models, and what is left in the lists that are lent, the contribution records apart.
use Rattle.std.specs.Prelude.{ℕ, zero, suc, min, List, [], ◌∷◌, length, Float, Err}
use Rattle.bisim_core.specs.Data.{Columns}
use Rattle.bisim_core.specs.declared.wlts.Shape.{Shape}
use Rattle.bisim_core.specs.Model.{model}
use Rattle.chain_theory.specs.Columns.{ChainColumns}
use Rattle.chain_theory.specs.declared.ChainStore.{ChainStore}
use Rattle.chains.specs.Observing.{of_both}
use Rattle.chains.specs.declared.observed.Observed.{Observed}
use Rattle.distance_theory.specs.Refusal.{bisim_refusal}
use Rattle.distance_theory.specs.Outcome.{bisim_run, blank, zeros, noughts}
use Rattle.distance_theory.specs.declared.MetricOptions.{MetricOptions}
use Rattle.distance_theory.specs.declared.Goal.{Goal}
use Rattle.distance_theory.specs.declared.lent.Scratch.{Scratch}
use Rattle.distance_words.specs.Told.{Told, told_of, Ran, ran_as}

-- what is told with the lists of pairs and the coupling store, and the lists lent for the chains
pub record Measuring : Type 0 where
  pub ran : Ran
  pub left : ChainColumns
  pub right : ChainColumns

abbrev pub measuring : Ran → ChainColumns → ChainColumns → Measuring
measuring x C D = record { ran = x; left = C; right = D }

-- once the arguments have passed every list is all zero; before that, all is as it was
abbrev pub measured_if : ℕ → Told → ChainColumns → ChainColumns → List ℕ → List ℕ → List ℕ → List ℕ → List Float → Measuring
measured_if zero t C D l r c p m = measuring (ran_as t (zeros l) (zeros r) (zeros c) (zeros p) (noughts m)) (blank C) (blank D)
measured_if (suc n) t C D l r c p m = measuring (ran_as (Err (suc n)) l r c p m) C D

-- two models, a state and observations of each, the lists lent for their chains, γ, options, the other lists, and how many contribution records there are
unfoldable pub bisim_measure : Shape → Columns → ℕ → List Float → ChainColumns → Shape → Columns → ℕ → List Float → ChainColumns → Float → MetricOptions → List ℕ → List ℕ → List ℕ → List ℕ → List Float → ℕ → Measuring
unfolding bisim_refusal bisim_run model
bisim_measure SL ML s seenL CL SR MR t seenR CR γ o l r c p m records =
    measured_if (bisim_refusal SL ML s seenL CL SR MR t seenR CR γ o (length l ∷ length r ∷ length c ∷ []) records) (told_of (bisim_run (model SL ML) s seenL (model SR MR) t seenR γ o (min (length p) (length m)))) CL CR l r c p m

-- of models and lists that are lent
abbrev pub measured_on : Observed → ChainStore → Observed → ChainStore → Goal → Scratch → ℕ → Measuring
measured_on a d b e g s records = of_both bisim_measure a d b e g.gamma g.options s.lefts.now s.rights.now s.codes.now s.places.now s.masses.now records
