-- The checks of the transitions given, each true where it fails. Each column is looked at as far as it goes, up to the count given.
use Rattle.std.specs.Prelude.{Option}
use Rattle.bisim_core.specs.declared.ids.StateId.{StateId}
use Rattle.std.specs.Prelude.{ℕ, min, Bool, ◌||◌, not, List, map, length, get_or, take, ltb}
use Rattle.std.specs.Float.{nan}
use Rattle.numbers.specs.Lists.{span, all}
use Rattle.numbers.specs.Refuse.{check}
use Rattle.bisim_core.specs.Data.{Edge, Transitions}
use Rattle.bisim_core.specs.Ids.{distinct}
use Rattle.bisim_core.specs.Edges.{crowded_in}
use Rattle.build_theory.specs.Edges.{nonzero}
use Rattle.bisim_core.specs.Model.{starts_outside, weighs}

-- the label values by their ids
abbrev pub labels_of : Transitions → ℕ → List ℕ
labels_of C given = distinct (take given C.labels)

-- 3: over 2,000 states, 4,096 transitions or 256 distinct labels
abbrev pub oversized : ℕ → Transitions → ℕ → Bool
oversized states C given = ltb 2000 states || (ltb 4096 given || ltb 256 (length (labels_of C given)))

-- 4: a state number that is not below the state count
abbrev pub outside : ℕ → Option StateId → Transitions → ℕ → Bool
outside states initial C given = starts_outside initial states || (not (all (λ x. ltb x states) (take given C.sources)) || not (all (λ x. ltb x states) (take given C.targets)))

-- 5: a weight that is neither zero nor from 2^-40 to 2^40
abbrev pub unweighed : Transitions → ℕ → Bool
unweighed C given = not (all weighs (take given C.weights))

-- the transition at i, its label left out
abbrev pub jump_at : Transitions → ℕ → Edge
jump_at C i = record { source = get_or C.sources i 0; label = 0; target = get_or C.targets i 0; weight = get_or C.weights i nan }

-- of how many transitions source, target and weight are there
abbrev pub reach : Transitions → ℕ → ℕ
reach C given = min given (min (length C.sources) (min (length C.targets) (length C.weights)))

abbrev pub jumps : Transitions → ℕ → List Edge
jumps C given = map (jump_at C) (span 0 (reach C given))

-- 6: a state that has over 31 distinct targets other than itself, zero weights dropped
abbrev pub crowded : ℕ → Transitions → ℕ → Bool
crowded states C given = crowded_in (nonzero (jumps C given)) (span 0 states)

-- 7: a column that is shorter than the count given
abbrev pub missing : Transitions → ℕ → Bool
missing C given = ltb (min (length C.sources) (min (length C.labels) (min (length C.targets) (length C.weights)))) given

-- the first check that fails, in the list's order, 0 if none does; 7 also where a list lent for results is short
abbrev pub refusal : ℕ → Option StateId → Transitions → ℕ → Bool → ℕ
refusal states initial C given short =
    check 3 (oversized states C given)
    (check 4 (outside states initial C given)
    (check 5 (unweighed C given)
    (check 6 (crowded states C given)
    (check 7 (missing C given || short)
    0))))
