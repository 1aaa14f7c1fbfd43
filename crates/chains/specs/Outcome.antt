-- What `common_rate` and `uniformise` answer, and what `uniformise` leaves in the lists lent for the chain.
use Rattle.std.specs.Prelude.{◌≡◌, ℕ, zero, suc, Bool, true, false, not, ◌&&◌, List, length, eqb, Float, Result, Ok, Err}
use Rattle.std.specs.Float.Ieee.{lt, le}
use Rattle.numbers.specs.Real.{least_observation, greatest_weight}
use Rattle.numbers.specs.Refuse.{check, answered}
use Rattle.numbers.specs.Lists.{span, every, all, over}
use Rattle.numbers.specs.Search.{seek}
use Rattle.bisim_core.specs.Data.{Columns}
use Rattle.bisim_core.specs.Ids.{intern}
use Rattle.bisim_core.specs.Edges.{others, crowded_in}
use Rattle.bisim_core.specs.declared.ids.StateId.{StateId}
use Rattle.bisim_core.specs.declared.wlts.Shape.{Shape}
use Rattle.bisim_core.specs.Model.{row, rows, rises, model, large, unfit, weights_outside, crowded, model_refusal}
use Rattle.epsdelta_theory.specs.Jumps.{Jump, targets, rates}
use Rattle.epsdelta_theory.specs.Refusal.{absent, models_refusal}
use Rattle.epsdelta_theory.specs.Bisimilar.{start}
use Rattle.parts.specs.Earlier.{earlier}
use Rattle.chain_theory.specs.Chain.{Chain, common_rate, uniformise}
use Rattle.chain_theory.specs.Columns.{ChainColumns, chain_columns, starts_from, joined, shape_of, columns_of}
use Rattle.chain_theory.specs.Check.{rate_outside, unfitting, cramped}
use Rattle.chain_theory.specs.declared.ChainShape.{ChainShape}

-- ---- `common_rate` of two models handed in

-- checks 3 to 6 over both models, then the rate
unfoldable pub rated : Shape → Columns → Shape → Columns → Result Float ℕ
unfolding models_refusal model common_rate
rated SL ML SR MR = answered (models_refusal SL ML SR MR 0) (common_rate (model SL ML) (model SR MR))

-- ---- `uniformise` of a model handed in

-- the model, the rate, the observations and the lists lent: the first check that fails, 0 if none does
unfoldable pub uniformise_refusal : Shape → Columns → Float → List Float → ChainColumns → ℕ
unfolding every all rises rows row span crowded_in others intern seek lt le
uniformise_refusal S M q seen C =
    check 3 (large S)
    (check 4 (unfit S M)
    (check 5 (weights_outside S M)
    (check 6 (crowded S M)
    (check 7 (cramped S.states S.edges (length seen) C)
    (check 8 (absent S.initial)
    (check 11 (rate_outside q)
    (check 12 (unfitting least_observation greatest_weight S.states seen)
    0)))))))

-- the answer, and the lists
pub record Outcome : Type 0 where
  pub answer : Result ChainShape ℕ
  pub lists : ChainColumns

abbrev pub ends : Result ChainShape ℕ → ChainColumns → Outcome
ends a C = record { answer = a; lists = C }

-- the columns of a chain over the front of the lists
abbrev pub laid : ChainColumns → ChainColumns → ChainColumns
laid N C = chain_columns (over N.offsets C.offsets) (over N.targets C.targets) (over N.probabilities C.probabilities) (over N.observations C.observations)

-- the chain over the front of the lists, or the number of the check that failed and the lists as they were
abbrev pub settled : ℕ → Chain → ChainColumns → Outcome
settled zero A C = ends (Ok (shape_of A)) (laid (columns_of A) C)
settled (suc r) A C = ends (Err (suc r)) C

unfoldable pub uniformised : Shape → Columns → Float → List Float → ChainColumns → Outcome
unfolding uniformise_refusal model uniformise shape_of columns_of
uniformised S M q seen C = settled (uniformise_refusal S M q seen C) (uniformise (model S M) q seen (start S.initial)) C

-- ---- `uniformise` below its checks of the rate, the initial state and the observations

-- counts and initial state of a chain
abbrev pub shape : ℕ → ℕ → StateId → ChainShape
shape n k s = record { states = n; entries = k; initial = s }

-- the model and the lists lent: the model's refusal, else 7 where a list is short, 0 where none is
unfoldable pub lay_refusal : Shape → Columns → List Float → ChainColumns → ℕ
unfolding model_refusal
lay_refusal S M seen C = earlier (model_refusal S M) (check 7 (cramped S.states S.edges (length seen) C) 0)

unfoldable pub try_lay_chain : Shape → Columns → Float → List Float → ℕ → ChainColumns → Outcome
unfolding lay_refusal model uniformise shape_of columns_of
try_lay_chain S M q seen s C = settled (lay_refusal S M seen C) (uniformise (model S M) q seen s) C

-- counts and initial state of what is laid, and the lists
pub record Laying : Type 0 where
  pub shape : ChainShape
  pub lists : ChainColumns

abbrev pub laying : ChainShape → ChainColumns → Laying
laying H C = record { shape = H; lists = C }

-- the model passes its checks, and no list is short
abbrev pub layable : Shape → Columns → List Float → ChainColumns → Bool
layable S M seen C = eqb (model_refusal S M) 0 && not (cramped S.states S.edges (length seen) C)

-- the chain over the front of the lists, or no states and the lists as they were
abbrev pub lay_if : Bool → Chain → ChainColumns → Laying
lay_if true A C = laying (shape_of A) (laid (columns_of A) C)
lay_if false A C = laying (shape 0 0 (record { 0 = 0 })) C

unfoldable pub lay_chain : Shape → Columns → Float → List Float → ℕ → ChainColumns → Laying
unfolding model_refusal model uniformise shape_of columns_of
lay_chain S M q seen s C = lay_if (layable S M seen C) (uniformise (model S M) q seen s) C

-- a chain over the front of the lists C, which are D then
pub record LaidOut (A : Chain) (H : ChainShape) (C D : ChainColumns) : Type 0 where
  pub shape_is : H ≡ shape_of A
  pub lists_are : D ≡ laid (columns_of A) C

-- the same of rows alone, with so many entries
pub record RowsLaid (R : List (List Jump)) (n : ℕ) (C D : ChainColumns) : Type 0 where
  pub count : n ≡ length (joined R)
  pub lists_are : D ≡ chain_columns (over (starts_from 0 R) C.offsets) (over (targets (joined R)) C.targets) (over (rates (joined R)) C.probabilities) C.observations
