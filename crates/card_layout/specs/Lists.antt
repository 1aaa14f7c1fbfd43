-- The numbers of a card in five lists: a class per state, and four numbers per transition.
use Rattle.std.specs.Prelude.{Bool, ◌&&◌, List, ◌++◌, map, ℕ, leb, pos, Float, length}
use Rattle.std.specs.Float.{binary64}
use Rattle.std.specs.Float.Ieee.{of_int}
use Rattle.std.proofs.lemmas.List.Edits.{sets}
use Rattle.card_layout.specs.Card.{Transition, Side, Card}

-- the lists; a weight is a binary64
pub record Columns : Type 0 where
  pub classes : List ℕ
  pub sources : List ℕ
  pub labels : List ℕ
  pub targets : List ℕ
  pub weights : List Float

abbrev pub columns : List ℕ → List ℕ → List ℕ → List ℕ → List Float → Columns
columns a b d e w = record { classes = a; sources = b; labels = d; targets = e; weights = w }

-- a weight as binary64, which is exact
abbrev pub weight_of : Transition → Float
weight_of m = of_int binary64 (pos m.weight)

abbrev pub source_of : Transition → ℕ
source_of m = m.source

abbrev pub label_of : Transition → ℕ
label_of m = m.label

abbrev pub target_of : Transition → ℕ
target_of m = m.target

-- ---- a whole card

abbrev pub all_classes : Card → List ℕ
all_classes c = c.left.classes ++ c.right.classes

abbrev pub all_transitions : Card → List Transition
all_transitions c = c.left.transitions ++ c.right.transitions

-- the lists have an entry for each state and each transition of the card
abbrev pub roomy : Card → Columns → Bool
roomy c k =
    leb (length (all_classes c)) (length k.classes)
    && (leb (length (all_transitions c)) (length k.sources)
    && (leb (length (all_transitions c)) (length k.labels)
    && (leb (length (all_transitions c)) (length k.targets)
    && leb (length (all_transitions c)) (length k.weights))))

-- the columns with a model's classes from n on and its transitions from m on; other entries keep their contents
unfoldable pub stored : Side → ℕ → ℕ → Columns → Columns
stored s n m k = record {
  classes = sets k.classes n s.classes;
  sources = sets k.sources m (map source_of s.transitions);
  labels = sets k.labels m (map label_of s.transitions);
  targets = sets k.targets m (map target_of s.transitions);
  weights = sets k.weights m (map weight_of s.transitions);
}

-- the columns with the card: the left model from the first entry on, the right model after it
unfoldable pub filled : Card → Columns → Columns
filled c k = stored c.right (length c.left.classes) (length c.left.transitions) (stored c.left 0 0 k)
