-- A card: its numbers, its bytes, and the reading of bytes as a card or a refusal.
use Rattle.std.specs.Prelude.{Bool, ◌||◌, not, List, [], ◌∷◌, ◌++◌, map, ℕ, zero, suc, ◌+◌, ◌*◌, ◌≤◌, ◌<◌, ltb, length, drop}
use Rattle.numbers.specs.Refuse.{check}
use Rattle.card_layout.specs.Layout.{lines, value, laid}

-- ---- the numbers

-- a transition as given
pub record Transition : Type 0 where
  pub source : ℕ
  pub label : ℕ
  pub target : ℕ
  pub weight : ℕ

-- a model: its initial state, a class per state, its transitions as given
pub record Side : Type 0 where
  pub initial : ℕ
  pub classes : List ℕ
  pub transitions : List Transition

-- two models, and ε and ρ in 1,024ths
pub record Card : Type 0 where
  pub left : Side
  pub right : Side
  pub epsilon : ℕ
  pub rho : ℕ

-- ---- the bytes

-- a model's first line: states, initial state, transitions
abbrev pub head_row : Side → List ℕ
head_row s = length s.classes ∷ s.initial ∷ length s.transitions ∷ []

abbrev pub class_row : ℕ → List ℕ
class_row c = c ∷ []

-- source, label, target, weight
abbrev pub transition_row : Transition → List ℕ
transition_row m = m.source ∷ m.label ∷ m.target ∷ m.weight ∷ []

-- the last line
abbrev pub settings_row : Card → List ℕ
settings_row c = c.epsilon ∷ c.rho ∷ []

-- a model's lines: the first, a class per state, a line per transition
unfoldable pub side_text : Side → List ℕ
side_text s = lines (head_row s ∷ []) ++ (lines (map class_row s.classes) ++ lines (map transition_row s.transitions))

-- the layout of a card: the lines of both models, and the last line
unfoldable pub layout : Card → List ℕ
layout c = side_text c.left ++ (side_text c.right ++ lines (settings_row c ∷ []))

-- ---- where a model's parts stand, by the counts on its first line

abbrev pub states : List ℕ → ℕ
states bs = value bs

abbrev pub count : List ℕ → ℕ
count bs = value (drop 12 bs)

abbrev pub class_part : List ℕ → List ℕ
class_part bs = drop 19 bs

abbrev pub transition_part : List ℕ → List ℕ
transition_part bs = drop (19 + 7 * states bs) bs

-- the bytes that a model takes
abbrev pub side_size : List ℕ → ℕ
side_size bs = 19 + 7 * states bs + 25 * count bs

-- the bytes after a model
abbrev pub after_side : List ℕ → List ℕ
after_side bs = drop (side_size bs) bs

-- the bytes after both models
abbrev pub last_part : List ℕ → List ℕ
last_part bs = after_side (after_side bs)

-- ---- the numbers in their places

-- the classes on n lines
unfoldable pub classes_in : ℕ → List ℕ → List ℕ
classes_in zero bs = []
classes_in (suc n) bs = value bs ∷ classes_in n (drop 7 bs)

abbrev pub transition_in : List ℕ → Transition
transition_in bs = record { source = value bs; label = value (drop 6 bs); target = value (drop 12 bs); weight = value (drop 18 bs) }

-- the transitions on n lines
unfoldable pub transitions_in : ℕ → List ℕ → List Transition
transitions_in zero bs = []
transitions_in (suc n) bs = transition_in bs ∷ transitions_in n (drop 25 bs)

unfoldable pub side_in : List ℕ → Side
side_in bs = record { initial = value (drop 6 bs); classes = classes_in (states bs) (class_part bs); transitions = transitions_in (count bs) (transition_part bs) }

unfoldable pub card_in : List ℕ → Card
card_in bs = record { left = side_in bs; right = side_in (after_side bs); epsilon = value (last_part bs); rho = value (drop 6 (last_part bs)) }

-- ---- checks 1 and 2, line by line: the first fault met, 0 for none

-- over 32 states or 200 transitions
abbrev pub large : List ℕ → Bool
large bs = ltb 32 (states bs) || ltb 200 (count bs)

-- a model's first line, its sizes, its classes, its transitions; then what follows it
unfoldable pub side_fault : List ℕ → ℕ → ℕ
side_fault bs later =
    check 1 (not (laid 1 3 bs))
    (check 2 (large bs)
    (check 1 (not (laid (states bs) 1 (class_part bs)))
    (check 1 (not (laid (count bs) 4 (transition_part bs)))
    later)))

-- the last line, of 13 bytes, and nothing after it
unfoldable pub last_fault : List ℕ → ℕ
last_fault bs = check 1 (not (laid 1 2 bs)) (check 1 (ltb 13 (length bs)) 0)

-- the left model, the right model, the last line
unfoldable pub fault : List ℕ → ℕ
fault bs = side_fault bs (side_fault (after_side bs) (last_fault (last_part bs)))

-- ---- the reading

pub data Reading : Type 0 where
  card : Card → Reading
  refused : ℕ → Reading

abbrev pub outcome : ℕ → Card → Reading
outcome zero c = card c
outcome (suc n) c = refused (suc n)

-- what bytes are read as: the card in them, or the first fault met
unfoldable pub read : List ℕ → Reading
read bs = outcome (fault bs) (card_in bs)

-- ---- the cards that there are

-- every number in the list can be written in a column
abbrev pub AllFit : List ℕ → Type 0
AllFit [] = Unit
AllFit (n ∷ ns) = (n < 1000000) × AllFit ns

abbrev pub AllTransitions : List Transition → Type 0
AllTransitions [] = Unit
AllTransitions (m ∷ ms) = AllFit (transition_row m) × AllTransitions ms

pub record SideWithin (s : Side) : Type 0 where
  pub few_states : length s.classes ≤ 32
  pub few_transitions : length s.transitions ≤ 200
  pub initial_fits : s.initial < 1000000
  pub classes_fit : AllFit s.classes
  pub transitions_fit : AllTransitions s.transitions

-- a card within the sizes, with no number over 999,999
pub record Within (c : Card) : Type 0 where
  pub left_within : SideWithin c.left
  pub right_within : SideWithin c.right
  pub epsilon_fits : c.epsilon < 1000000
  pub rho_fits : c.rho < 1000000
