-- `build`: what it refuses, and how it ends.
use Rattle.std.specs.Prelude.{Option, Result, Ok, Err}
use Rattle.bisim_core.specs.declared.wlts.Shape.{Shape}
use Rattle.bisim_core.specs.declared.ids.StateId.{StateId}
use Rattle.std.specs.Prelude.{ℕ, zero, suc, ◌+◌, Bool, ◌||◌, List, map, length, ltb}
use Rattle.numbers.specs.Lists.{span, all, over}
use Rattle.bisim_core.specs.Data.{Edge, Transitions, Columns, columns}
use Rattle.bisim_core.specs.Edges.{crowded_in}
use Rattle.build_theory.specs.Edges.{nonzero, edges, offsets}
use Rattle.build_theory.specs.Checks.{labels_of, refusal}

-- 7: a store that is short: each needs an entry for each transition given, the offsets states + 1
abbrev pub short : ℕ → ℕ → Columns → Bool
short states given M =
    ltb (length M.offsets) (states + 1)
    || (ltb (length M.labels) given || (ltb (length M.edge_labels) given || (ltb (length M.edge_targets) given || ltb (length M.edge_weights) given)))

-- ---- the outcome: the answer, and what is then in the columns lent

pub record Outcome : Type 0 where
  pub answer : Result Shape ℕ
  pub memory : Columns

abbrev pub ends : Result Shape ℕ → Columns → Outcome
ends r M = record { answer = r; memory = M }

-- the model that has the label values D by their ids, and the edges E by source, label id and target
abbrev pub modelled : ℕ → Option StateId → List ℕ → List Edge → Columns → Outcome
modelled states initial D E M =
    ends (Ok (record { states = states; edges = length E; labels = length D; initial = initial }))
    (columns (over D M.labels) (over (offsets states E) M.offsets)
    (over (map (λ (a : Edge). a.label) E) M.edge_labels)
    (over (map (λ (a : Edge). a.target) E) M.edge_targets)
    (over (map (λ (a : Edge). a.weight) E) M.edge_weights))

-- the model of the transitions given
abbrev pub made : ℕ → Option StateId → Transitions → ℕ → Columns → Outcome
made states initial C given M = modelled states initial (labels_of C given) (edges C given) M

-- a refusal returns its number only, and leaves the columns as they were
abbrev pub settled : ℕ → Columns → Outcome → Outcome
settled zero M done = done
settled (suc r) M done = ends (Err (suc r)) M

unfoldable pub build : ℕ → Option StateId → Transitions → ℕ → Columns → Outcome
unfolding all nonzero crowded_in edges span
build states initial C given M = settled (refusal states initial C given (short states given M)) M (made states initial C given M)
