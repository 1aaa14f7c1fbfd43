-- The checks of `bisim_distance`, side by side: those of one model with what comes with it, and those of the rest.
use Rattle.std.specs.Prelude.{ℕ, ◌||◌, List, length, leb, Float}
use Rattle.std.specs.Float.Ieee.{lt, le}
use Rattle.numbers.specs.Real.{least_observation, greatest_weight}
use Rattle.numbers.specs.Refuse.{check}
use Rattle.numbers.specs.Lists.{span, every, all}
use Rattle.numbers.specs.Search.{seek}
use Rattle.bisim_core.specs.Data.{Columns}
use Rattle.bisim_core.specs.Ids.{intern}
use Rattle.bisim_core.specs.Edges.{others, crowded_in}
use Rattle.bisim_core.specs.declared.wlts.Shape.{Shape}
use Rattle.bisim_core.specs.Model.{row, rows, rises, large, unfit, weights_outside, crowded}
use Rattle.epsdelta_theory.specs.Refusal.{absent}
use Rattle.chain_theory.specs.Columns.{ChainColumns}
use Rattle.chain_theory.specs.Check.{discount_outside, unfitting, cramped}
use Rattle.distance_theory.specs.Refusal.{short, excessive}
use Rattle.distance_theory.specs.declared.MetricOptions.{MetricOptions}

-- what is lent beside a model, its initial state and its observations
abbrev pub beside_refusal : Shape → List Float → ChainColumns → ℕ
beside_refusal S seen C =
    check 7 (cramped S.states S.edges (length seen) C)
    (check 8 (absent S.initial)
    (check 12 (unfitting least_observation greatest_weight S.states seen)
    0))

-- a model, a state of it, observations, and the lists lent for its chain
unfoldable pub side_refusal : Shape → Columns → ℕ → List Float → ChainColumns → ℕ
unfolding every all rises rows row span crowded_in others intern seek lt le
side_refusal S M s seen C =
    check 3 (large S)
    (check 4 (leb S.states s || unfit S M)
    (check 5 (weights_outside S M)
    (check 6 (crowded S M)
    (beside_refusal S seen C))))

-- γ, options, the lengths of the lists of pairs, and how many contribution records there are
unfoldable pub rest_refusal : Float → MetricOptions → List ℕ → ℕ → ℕ
unfolding all lt
rest_refusal γ o lists records = check 7 (short lists records) (check 11 (discount_outside γ) (check 14 (excessive o) 0))
