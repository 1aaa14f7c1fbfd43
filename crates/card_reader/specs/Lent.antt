-- The lists that are lent to the reader.
use Rattle.std.specs.Prelude.{◌≡◌}
use Rattle.card_layout.specs.Lists.{Columns, columns}
use Rattle.card_reader.specs.declared.reader.CardLists.{CardLists}

-- what they hold
abbrev pub columns_of : CardLists → Columns
columns_of L = columns L.classes.now L.sources.now L.labels.now L.targets.now L.weights.now

-- the lists are the ones that were lent: what stands in one now is what stands in the lender's when it ends
abbrev pub same_lists : CardLists → CardLists → Type 0
same_lists L M = (M.classes.ghost_name ≡ L.classes.ghost_name) × (M.sources.ghost_name ≡ L.sources.ghost_name) × (M.labels.ghost_name ≡ L.labels.ghost_name) × (M.targets.ghost_name ≡ L.targets.ghost_name) × (M.weights.ghost_name ≡ L.weights.ghost_name)
