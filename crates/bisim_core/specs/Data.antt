-- The records that the definitions of models speak of.
use Rattle.std.specs.Prelude.{ℕ, ◌+◌, ◌≤◌, ◌<◌, List, length, get_or, Float}
use Rattle.bisim_core.specs.declared.wlts.Wlts.{Wlts}

-- a transition whose label has its id
pub record Edge : Type 0 where
  pub source : ℕ
  pub label : ℕ
  pub target : ℕ
  pub weight : Float

-- the transitions given, column by column
pub record Transitions : Type 0 where
  pub sources : List ℕ
  pub labels : List ℕ
  pub targets : List ℕ
  pub weights : List Float

-- the columns of a built model: label values by id, where each state's edges begin, and the edges
pub record Columns : Type 0 where
  pub labels : List ℕ
  pub offsets : List ℕ
  pub edge_labels : List ℕ
  pub edge_targets : List ℕ
  pub edge_weights : List Float

-- the records, by their columns
abbrev pub transitions : List ℕ → List ℕ → List ℕ → List Float → Transitions
transitions s l t w = record { sources = s; labels = l; targets = t; weights = w }

abbrev pub columns : List ℕ → List ℕ → List ℕ → List ℕ → List Float → Columns
columns l o el et ew = record { labels = l; offsets = o; edge_labels = el; edge_targets = et; edge_weights = ew }

-- those that a model lends
abbrev pub columns_of : Wlts → Columns
columns_of M = columns M.label_values.now M.offsets.now M.edge_labels.now M.edge_targets.now M.edge_weights.now

-- it has an offset for each state and one more
abbrev pub HasOffsets : Wlts → Type 0
HasOffsets M = M.shape.states < length M.offsets.now

-- and they do not fall
abbrev pub NeverFalls : Wlts → Type 0
NeverFalls M = (s : ℕ) → s < M.shape.states → get_or M.offsets.now s 0 ≤ get_or M.offsets.now (s + 1) 0
