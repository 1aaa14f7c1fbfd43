-- The printed relation: its pairs, its bytes, and what the writers of text answer.
use Rattle.std.specs.Prelude.{◌≡◌, Bool, true, false, ◌||◌, List, [], ◌∷◌, ◌++◌, ℕ, zero, suc, ◌+◌, ◌*◌, ltb, length, Result}
use Rattle.std.proofs.lemmas.List.Edits.{sets}
use Rattle.numbers.specs.Bits.{unpack}
use Rattle.numbers.specs.Refuse.{check, answered}
use Rattle.epsdelta_theory.specs.Relation.{relation_bytes, related}
use Rattle.card_layout.specs.Layout.{line, lines}

-- ---- the related left-right pairs of models of l and r states, in a relation over the states of both

-- the row, if the test holds, before the others
abbrev pub keep : Bool → List ℕ → List (List ℕ) → List (List ℕ)
keep true row rows = row ∷ rows
keep false row rows = rows

-- those of left state s with k right states from t on
unfoldable pub across : List Bool → ℕ → ℕ → ℕ → ℕ → ℕ → List (List ℕ)
unfolding related
across R l r s zero t = []
across R l r s (suc k) t = keep (related (l + r) l R s t) (s ∷ t ∷ []) (across R l r s k (suc t))

-- those of k left states from s on
unfoldable pub down : List Bool → ℕ → ℕ → ℕ → ℕ → List (List ℕ)
unfolding across
down R l r zero s = []
down R l r (suc k) s = across R l r s r 0 ++ down R l r k (suc s)

-- by left then right
abbrev pub pairs : List Bool → ℕ → ℕ → List (List ℕ)
pairs R l r = down R l r l 0

-- ---- the text

-- left states, right states and the count of pairs, then each pair
unfoldable pub report : List Bool → ℕ → ℕ → List ℕ
unfolding down lines
report R l r = lines ((l ∷ r ∷ length (pairs R l r) ∷ []) ∷ pairs R l r)

-- a refusal: its number
abbrev pub refusal_line : ℕ → List ℕ
refusal_line n = line (n ∷ [])

-- the greatest report: a head and 1,024 pairs
abbrev pub most_report : ℕ
most_report = 13331

-- ---- what is refused

-- 7: the store has no room for the greatest report; 0: it has
abbrev pub store_fault : ℕ → ℕ
store_fault room = check 7 (ltb room most_report) 0

-- 2: a model has over 32 states; 7: the relation or the store is short; 0: neither
unfoldable pub report_fault : ℕ → ℕ → ℕ → ℕ → ℕ
report_fault l r bytes room = check 2 (ltb 32 l || ltb 32 r) (check 7 (ltb bytes (relation_bytes (l + r)) || ltb room most_report) 0)

-- ---- what a writer of text answers, by its fault, the text and the store

-- the relation over n states that bytes hold
abbrev pub relation_in : List ℕ → ℕ → List Bool
relation_in store n = unpack store (n * n) 0

abbrev pub text_answer : ℕ → List ℕ → Result ℕ ℕ
text_answer n text = answered n (length text)

-- bytes past the end keep their contents; a refusal touches none
abbrev pub text_stored : ℕ → List ℕ → List ℕ → List ℕ
text_stored zero text out = sets out 0 text
text_stored (suc n) text out = out

pub record Printed (fault : ℕ) (text out : List ℕ) (r : Result ℕ ℕ) (out' : List ℕ) : Type 0 where
  pub answers : r ≡ text_answer fault text
  pub leaves : out' ≡ text_stored fault text out
