-- What `distance` and `bisim_distance` answer, and what they leave in the memory that is lent to them.
use Rattle.std.specs.Prelude.{ℕ, zero, suc, min, List, map, length, get_or, take, replicate, Float, Result, Ok, Err}
use Rattle.std.specs.Float.{nan, binary64}
use Rattle.std.specs.Float.Ieee.{sub, div}
use Rattle.numbers.specs.Real.{nought, one}
use Rattle.numbers.specs.Lists.{over}
use Rattle.bisim_core.specs.Data.{Edge, Columns}
use Rattle.bisim_core.specs.declared.wlts.Shape.{Shape}
use Rattle.bisim_core.specs.Model.{model}
use Rattle.chain_theory.specs.Chain.{Chain, common_rate, uniformise, normalise}
use Rattle.chain_theory.specs.Columns.{ChainColumns, chain_columns, chain_of}
use Rattle.chain_theory.specs.declared.ChainShape.{ChainShape}
use Rattle.distance_theory.specs.Couplings.{metric}
use Rattle.distance_theory.specs.Rounds.{solve}
use Rattle.distance_theory.specs.Contributions.{occupancy, listed}
use Rattle.distance_theory.specs.Refusal.{distance_refusal, run_refusal, bisim_refusal}
use Rattle.distance_theory.specs.declared.MetricOptions.{MetricOptions}
use Rattle.distance_theory.specs.declared.PairContribution.{PairContribution}
use Rattle.distance_theory.specs.declared.Distance.{Distance}

-- ---- the run: what comes below the checks of the arguments

-- the number of the check that failed, 0 if none did, the answer, and the contributions
pub record Run : Type 0 where
  pub refusal : ℕ
  pub distance : Distance
  pub listed : List PairContribution

-- two chains, γ, options, and the length of the coupling store
unfoldable pub run : Chain → Chain → Float → MetricOptions → ℕ → Run
unfolding metric solve occupancy run_refusal listed div sub
run A B γ o store =
    let G = metric A B γ in
    let s = solve G o in
    let w = occupancy γ (length G.found) s.policy in
    let cs = listed G o w.spent in
    record {
      refusal = run_refusal G o store w.mass;
      distance = record {
        value = get_or s.value 0 nan;
        error_bound = div binary64 s.residual (sub binary64 one γ);
        gamma = γ;
        pairs_explored = length G.found;
        contributions = length cs;
        rounds = s.rounds;
      };
      listed = cs;
    }

-- ---- what is lent: the lists of pairs, the coupling store (pairs and masses), and the contribution records

pub record Lent : Type 0 where
  pub pairs : List (List ℕ)
  pub places : List ℕ
  pub masses : List Float
  pub records : List PairContribution

abbrev pub lent : List (List ℕ) → List ℕ → List Float → List PairContribution → Lent
lent ps is ms rs = record { pairs = ps; places = is; masses = ms; records = rs }

-- the length of each list of pairs, and of the coupling store
abbrev pub pair_lengths : Lent → List ℕ
pair_lengths m = map length m.pairs

abbrev pub store_length : Lent → ℕ
store_length m = min (length m.places) (length m.masses)

-- every entry of a list zero
abbrev pub zeros : List ℕ → List ℕ
zeros l = replicate (length l) 0

abbrev pub noughts : List Float → List Float
noughts l = replicate (length l) nought

-- scratch all zero, and these contribution records
abbrev pub cleared : Lent → List PairContribution → Lent
cleared m rs = lent (map zeros m.pairs) (zeros m.places) (noughts m.masses) rs

-- ---- `distance`

-- the distance, or the number of the first check that fails
abbrev pub Measured : Type 0
Measured = Result Distance ℕ

-- the answer, and what is lent
pub record Outcome : Type 0 where
  pub answer : Measured
  pub lent : Lent

abbrev pub ends : Measured → Lent → Outcome
ends a m = record { answer = a; lent = m }

-- once the arguments have passed: scratch is all zero, and the contributions are over the front of the records, which a refusal leaves as they were
abbrev pub ran : ℕ → Run → Lent → Outcome
ran zero R m = ends (Ok R.distance) (cleared m (over R.listed m.records))
ran (suc r) R m = ends (Err (suc r)) (cleared m m.records)

-- before that, all is as it was
abbrev pub settled : ℕ → Run → Lent → Outcome
settled zero R m = ran R.refusal R m
settled (suc r) R m = ends (Err (suc r)) m

-- two chains handed in, γ, options, and what is lent
unfoldable pub distance : ChainShape → ChainColumns → ChainShape → ChainColumns → Float → MetricOptions → Lent → Outcome
unfolding distance_refusal run chain_of
distance HL CL HR CR γ o m =
    settled (distance_refusal HL CL HR CR γ o (pair_lengths m) (length m.records)) (run (chain_of HL CL) (chain_of HR CR) γ o (store_length m)) m

-- ---- `bisim_distance`

-- the answer, what is lent, and the lists lent for the two chains
pub record ChainsOutcome : Type 0 where
  pub answer : Measured
  pub lent : Lent
  pub left_chain : ChainColumns
  pub right_chain : ChainColumns

abbrev pub chains_end : Outcome → ChainColumns → ChainColumns → ChainsOutcome
chains_end x CL CR = record { answer = x.answer; lent = x.lent; left_chain = CL; right_chain = CR }

abbrev pub blank : ChainColumns → ChainColumns
blank C = chain_columns (zeros C.offsets) (zeros C.targets) (noughts C.probabilities) (noughts C.observations)

-- once the arguments have passed the chains are all zero too; before that, all is as it was
abbrev pub chains_settled : ℕ → Run → Lent → ChainColumns → ChainColumns → ChainsOutcome
chains_settled zero R m CL CR = chains_end (ran R.refusal R m) (blank CL) (blank CR)
chains_settled (suc r) R m CL CR = chains_end (ends (Err (suc r)) m) CL CR

-- the chains of both models at the common rate, their observations scaled together, from the states asked for
unfoldable pub bisim_run : List (List Edge) → ℕ → List Float → List (List Edge) → ℕ → List Float → Float → MetricOptions → ℕ → Run
unfolding common_rate uniformise normalise run
bisim_run L s seenL R t seenR γ o store =
    let q = common_rate L R in
    let n = normalise (take (length L) seenL) (take (length R) seenR) in
    run (uniformise L q n.left s) (uniformise R q n.right t) γ o store

-- two models handed in, a state and observations of each, the lists lent for the chains, γ, options, and what else is lent
unfoldable pub bisim_distance : Shape → Columns → ℕ → List Float → ChainColumns → Shape → Columns → ℕ → List Float → ChainColumns → Float → MetricOptions → Lent → ChainsOutcome
unfolding bisim_refusal bisim_run model
bisim_distance SL ML s seenL CL SR MR t seenR CR γ o m =
    chains_settled (bisim_refusal SL ML s seenL CL SR MR t seenR CR γ o (pair_lengths m) (length m.records)) (bisim_run (model SL ML) s seenL (model SR MR) t seenR γ o (store_length m)) m CL CR
