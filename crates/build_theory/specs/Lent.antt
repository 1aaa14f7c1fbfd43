-- The columns of the structs that are lent.
use Rattle.std.specs.Prelude.{◌≡◌}
use Rattle.bisim_core.specs.Data.{Transitions, Columns, transitions, columns}
use Rattle.build_theory.specs.declared.lent.Draft.{Draft}
use Rattle.build_theory.specs.declared.lent.Store.{Store}

-- the transitions of a draft
abbrev pub transitions_of : Draft → Transitions
transitions_of D = transitions D.sources.now D.labels.now D.targets.now D.weights.now

-- what is in a store
abbrev pub columns_in : Store → Columns
columns_in S = columns S.label_values.now S.offsets.now S.edge_labels.now S.edge_targets.now S.edge_weights.now

-- a store that still lends the lists that it lent before
abbrev pub kept : Store → Store → Type 0
kept S T =
    (T.label_values.ghost_name ≡ S.label_values.ghost_name) × (T.offsets.ghost_name ≡ S.offsets.ghost_name) × (T.edge_labels.ghost_name ≡ S.edge_labels.ghost_name)
    × (T.edge_targets.ghost_name ≡ S.edge_targets.ghost_name) × (T.edge_weights.ghost_name ≡ S.edge_weights.ghost_name)
