-- A built model that is handed in, its counts beside its columns: when it is accepted, and what its readers answer (`Wlts` of wlts.rs).
use Rattle.std.specs.Prelude.{ℕ, zero, suc, ◌+◌, ◌-◌, Bool, true, false, ◌&&◌, ◌||◌, not, Option, Some, None, Result, List, [], ◌∷◌, ◌++◌, map, length, get_or, take, eqb, ltb, leb, Float}
use Rattle.std.specs.Float.{nan}
use Rattle.std.specs.Float.Ieee.{le}
use Rattle.numbers.specs.Refuse.{check, answered}
use Rattle.numbers.specs.Lists.{span, every, all}
use Rattle.numbers.specs.Search.{seek}
use Rattle.numbers.specs.Real.{is_zero, least_weight, greatest_weight, greatest_joined}
use Rattle.bisim_core.specs.Data.{Edge, Columns}
use Rattle.bisim_core.specs.Ids.{listed, single, id_of}
use Rattle.bisim_core.specs.Edges.{crowded_in}
use Rattle.bisim_core.specs.declared.ids.StateId.{StateId}
use Rattle.bisim_core.specs.declared.ids.LabelId.{LabelId}
use Rattle.bisim_core.specs.declared.wlts.Shape.{Shape}

-- ---- what the columns say

-- where the edges of state s begin
abbrev pub begins : Columns → ℕ → ℕ
begins M s = get_or M.offsets s 0

-- edge i, of the source s
abbrev pub edge_at : Columns → ℕ → ℕ → Edge
edge_at M s i = record { source = s; label = get_or M.edge_labels i 0; target = get_or M.edge_targets i 0; weight = get_or M.edge_weights i nan }

-- the edges of a state
unfoldable pub row : Columns → ℕ → List Edge
unfolding span
row M s = map (edge_at M s) (span (begins M s) (begins M (s + 1) - begins M s))

-- those of k states from s on, one after the other
unfoldable pub rows : Columns → ℕ → ℕ → List Edge
unfolding row
rows M s zero = []
rows M s (suc k) = row M s ++ rows M (s + 1) k

-- the model: the edges of each state
unfoldable pub model : Shape → Columns → List (List Edge)
unfolding row span
model S M = map (row M) (span 0 S.states)

-- ---- the checks, each true where it fails

-- 3: over 2,000 states, 4,096 transitions or 256 labels
abbrev pub large : Shape → Bool
large S = ltb 2000 S.states || (ltb 4096 S.edges || ltb 256 S.labels)

-- an initial state that is not below the state count
abbrev pub starts_outside : Option StateId → ℕ → Bool
starts_outside (Some s) states = not (ltb s.0 states)
starts_outside None states = false

-- too few offsets, edges or labels for the counts
abbrev pub thin : Shape → Columns → Bool
thin S M =
    ltb (length M.offsets) (S.states + 1)
    || (ltb (length M.edge_labels) S.edges
    || (ltb (length M.edge_targets) S.edges || (ltb (length M.edge_weights) S.edges || ltb (length M.labels) S.labels)))

-- offsets from 0 to the count of edges, without falling
abbrev pub steady : Shape → Columns → Bool
steady S M = eqb (begins M 0) 0 && (eqb (begins M S.states) S.edges && every (λ s. leb (begins M s) (begins M (s + 1))) S.states)

-- edges that rise strictly by label id, then target
abbrev pub follows : Edge → Edge → Bool
follows a b = ltb a.label b.label || (eqb a.label b.label && ltb a.target b.target)

abbrev pub next : Edge → List Edge → Bool
next a [] = true
next a (b ∷ l) = follows a b

unfoldable pub rises : List Edge → Bool
rises [] = true
rises (a ∷ l) = next a l && rises l

-- an edge's numbers are below their counts, and its weight is not zero
abbrev pub sound : Shape → Edge → Bool
sound S a = ltb a.target S.states && (ltb a.label S.labels && not (is_zero a.weight))

-- 4
abbrev pub unfit : Shape → Columns → Bool
unfit S M =
    starts_outside S.initial S.states
    || (thin S M
    || (not (steady S M)
    || (not (every (λ s. rises (row M s)) S.states)
    || (not (all (sound S) (rows M 0 S.states)) || not (single (take S.labels M.labels))))))

-- a weight that is given: zero, or from 2^-40 to 2^40
abbrev pub weighs : Float → Bool
weighs w = is_zero w || (le least_weight w && le w greatest_weight)

-- and once joined: from 2^-40 to 2^52
abbrev pub joined_weighs : Edge → Bool
joined_weighs a = le least_weight a.weight && le a.weight greatest_joined

-- 5: a weight outside 2^-40 to 2^52
abbrev pub weights_outside : Shape → Columns → Bool
weights_outside S M = not (all joined_weighs (rows M 0 S.states))

-- 6: a state with over 31 distinct targets other than itself
abbrev pub crowded : Shape → Columns → Bool
crowded S M = crowded_in (rows M 0 S.states) (span 0 S.states)

-- the first check that fails, 0 if none does; `stray` where a number handed in beside the model is not below its count
abbrev pub refusal_with : Bool → Shape → Columns → ℕ
refusal_with stray S M =
    check 3 (large S)
    (check 4 (stray || unfit S M)
    (check 5 (weights_outside S M)
    (check 6 (crowded S M)
    0)))

unfoldable pub model_refusal : Shape → Columns → ℕ
unfolding every all rises rows row span crowded_in
model_refusal S M = refusal_with false S M

-- ---- the readers

unfoldable pub num_states : Shape → Columns → Result ℕ ℕ
unfolding model_refusal
num_states S M = answered (model_refusal S M) S.states

unfoldable pub num_transitions : Shape → Columns → Result ℕ ℕ
unfolding model_refusal
num_transitions S M = answered (model_refusal S M) S.edges

unfoldable pub num_labels : Shape → Columns → Result ℕ ℕ
unfolding model_refusal
num_labels S M = answered (model_refusal S M) S.labels

-- the initial state, if there is one
unfoldable pub initial : Shape → Columns → Result (Option StateId) ℕ
unfolding model_refusal
initial S M = answered (model_refusal S M) S.initial

-- the edges of state s: from where, and up to where
unfoldable pub successors_of : Shape → Columns → ℕ → Result (ℕ × ℕ) ℕ
unfolding every all rises rows row span crowded_in
successors_of S M s = answered (refusal_with (leb S.states s) S M) (begins M s, begins M (s + 1))

-- the label value of an id
unfoldable pub label : Shape → Columns → ℕ → Result ℕ ℕ
unfolding every all rises rows row span crowded_in
label S M id = answered (refusal_with (leb S.labels id) S M) (get_or M.labels id 0)

-- the id of a label value, if it has one
unfoldable pub label_id : Shape → Columns → ℕ → Result (Option LabelId) ℕ
unfolding model_refusal seek
label_id S M value = answered (model_refusal S M) (id_of (listed value (take S.labels M.labels)) (seek value (take S.labels M.labels)))
