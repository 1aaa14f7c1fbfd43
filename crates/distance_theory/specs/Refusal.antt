-- What `distance` and `bisim_distance` turn back, in document 01's order; 16 comes after 18.
use Rattle.std.specs.Prelude.{ℕ, Bool, not, ◌&&◌, ◌||◌, List, length, ltb, leb, Float}
use Rattle.std.specs.Float.Ieee.{lt, le}
use Rattle.numbers.specs.Real.{nought, one, eps, least_observation, greatest_weight}
use Rattle.numbers.specs.Refuse.{check}
use Rattle.numbers.specs.Lists.{span, every, all}
use Rattle.numbers.specs.Search.{seek}
use Rattle.bisim_core.specs.Data.{Columns}
use Rattle.bisim_core.specs.Ids.{intern}
use Rattle.bisim_core.specs.Edges.{others, crowded_in}
use Rattle.bisim_core.specs.declared.wlts.Shape.{Shape}
use Rattle.bisim_core.specs.Model.{row, rows, rises, large, unfit, weights_outside, crowded}
use Rattle.epsdelta_theory.specs.Refusal.{absent}
use Rattle.chain_theory.specs.Columns.{ChainColumns, chain_of}
use Rattle.chain_theory.specs.Check.{proper, discount_outside, misshapen, unobserved, unfitting, improper, cramped}
use Rattle.chain_theory.specs.declared.ChainShape.{ChainShape}
use Rattle.transport_theory.specs.Refusal.{unequal}
use Rattle.distance_theory.specs.Pairs.{most}
use Rattle.distance_theory.specs.Couplings.{Metric, room, fitted, even}
use Rattle.distance_theory.specs.declared.MetricOptions.{MetricOptions}

-- 7: a list of pairs of under 4,096 entries, or under 64 contribution records
abbrev pub short : List ℕ → ℕ → Bool
short lists records = not (all (λ n. leb most n) lists) || ltb records 64

-- 14: `top` is over 64 or `max_rounds` over 10,000
abbrev pub excessive : MetricOptions → Bool
excessive o = ltb 64 o.top || ltb 10000 o.max_rounds

-- `distance` of two chains: checks 4 to 14; the lengths of the lists of pairs, and of the row of contribution records
unfoldable pub distance_refusal : ChainShape → ChainColumns → ChainShape → ChainColumns → Float → MetricOptions → List ℕ → ℕ → ℕ
unfolding every all proper chain_of lt le
distance_refusal HL CL HR CR γ o lists records =
    check 4 (misshapen HL CL || misshapen HR CR)
    (check 7 (unobserved HL CL || (unobserved HR CR || short lists records))
    (check 11 (discount_outside γ)
    (check 12 (unfitting nought one HL.states CL.observations || unfitting nought one HR.states CR.observations)
    (check 13 (improper HL CL || improper HR CR)
    (check 14 (excessive o)
    0)))))

-- what comes of a run: the length of the coupling store, and the mass that is left in `occupancy`
unfoldable pub run_refusal : Metric → MetricOptions → ℕ → Float → ℕ
unfolding room all unequal fitted lt
run_refusal G o store mass =
    check 17 (ltb most (length G.found))
    (check 18 (ltb store (room G G.found))
    (check 16 (ltb 0 o.max_rounds && not (all (even G) G.found))
    (check 19 (lt eps mass)
    0)))

-- `bisim_distance` of two models, a state of each, observations, the lists lent for their chains, and those of `distance`: checks 3 to 14
unfoldable pub bisim_refusal : Shape → Columns → ℕ → List Float → ChainColumns → Shape → Columns → ℕ → List Float → ChainColumns → Float → MetricOptions → List ℕ → ℕ → ℕ
unfolding every all rises rows row span crowded_in others intern seek lt le
bisim_refusal SL ML s seenL CL SR MR t seenR CR γ o lists records =
    check 3 (large SL || large SR)
    (check 4 (unfit SL ML || (unfit SR MR || (leb SL.states s || leb SR.states t)))
    (check 5 (weights_outside SL ML || weights_outside SR MR)
    (check 6 (crowded SL ML || crowded SR MR)
    (check 7 (cramped SL.states SL.edges (length seenL) CL || (cramped SR.states SR.edges (length seenR) CR || short lists records))
    (check 8 (absent SL.initial || absent SR.initial)
    (check 11 (discount_outside γ)
    (check 12 (unfitting least_observation greatest_weight SL.states seenL || unfitting least_observation greatest_weight SR.states seenR)
    (check 14 (excessive o)
    0))))))))
