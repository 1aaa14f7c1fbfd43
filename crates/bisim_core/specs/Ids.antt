-- Label ids by first appearance, over a list of label values: `Interner` of ids.rs.
use Rattle.std.specs.Prelude.{ℕ, zero, suc, Bool, true, false, ◌&&◌, ◌||◌, not, cond, Option, Some, None, Result, Ok, Err, List, [], ◌∷◌, ◌++◌, length, get_or, take, eqb, ltb, leb}
use Rattle.numbers.specs.Refuse.{check, answered}
use Rattle.numbers.specs.Lists.{every, over}
use Rattle.numbers.specs.Search.{seek}
use Rattle.bisim_core.specs.declared.ids.LabelId.{LabelId}

-- is x in the list
abbrev pub listed : ℕ → List ℕ → Bool
listed x l = ltb (seek x l) (length l)

-- where it first stands, if it does
abbrev pub place : ℕ → List ℕ → Option ℕ
place x l = cond (listed x l) (Some (seek x l)) None

abbrev pub noted : Bool → ℕ → List ℕ → List ℕ
noted true x known = known
noted false x known = known ++ (x ∷ [])

-- the values known, and after them those of the list that are new, in the order of their first appearance
unfoldable pub intern : List ℕ → List ℕ → List ℕ
unfolding seek
intern known [] = known
intern known (x ∷ xs) = intern (noted (listed x known) x known) xs

abbrev pub distinct : List ℕ → List ℕ
distinct xs = intern [] xs

-- no value is listed twice: each is found where it stands
abbrev pub single : List ℕ → Bool
single l = every (λ i. eqb (seek (get_or l i 0) l) i) (length l)

-- ---- what is refused, of a list of which `count` values are in use

-- 4: too few values for the count, or a value listed twice
abbrev pub mislisted : List ℕ → ℕ → Bool
mislisted labels count = ltb (length labels) count || not (single (take count labels))

-- `intern`: 3 is a 257th distinct label, 7 a list that is full
abbrev pub intern_refusal : List ℕ → ℕ → ℕ → ℕ
intern_refusal labels count value =
    check 3 (ltb 256 count || (eqb count 256 && not (listed value (take count labels))))
    (check 4 (mislisted labels count)
    (check 7 (not (listed value (take count labels)) && leb (length labels) count)
    0))

-- looking a label up
abbrev pub get_refusal : List ℕ → ℕ → ℕ
get_refusal labels count = check 3 (ltb 256 count) (check 4 (mislisted labels count) 0)

-- and back
abbrev pub resolve_refusal : List ℕ → ℕ → ℕ → ℕ
resolve_refusal labels count id = check 3 (ltb 256 count) (check 4 (leb count id || mislisted labels count) 0)

-- ---- outcomes

-- how `intern` ends: its answer, the id and how many values are then in use, and what is then in the list
pub record Outcome : Type 0 where
  pub answer : Result (LabelId × ℕ) ℕ
  pub labels : List ℕ

abbrev pub ends : Result (LabelId × ℕ) ℕ → List ℕ → Outcome
ends r l = record { answer = r; labels = l }

-- the id of a value among those known then, and how many they are
abbrev pub entered : List ℕ → ℕ → List ℕ → Outcome
entered known value labels = ends (Ok (record { 0 = seek value known }, length known)) (over known labels)

abbrev pub intern_ends : ℕ → List ℕ → Outcome → Outcome
intern_ends zero labels done = done
intern_ends (suc n) labels done = ends (Err (suc n)) labels

unfoldable pub interning : List ℕ → ℕ → ℕ → Outcome
unfolding intern seek every
interning labels count value = intern_ends (intern_refusal labels count value) labels (entered (intern (take count labels) (value ∷ [])) value labels)

-- the id of a value, if it has one
abbrev pub id_of : Bool → ℕ → Option LabelId
id_of true i = Some (record { 0 = i })
id_of false i = None

unfoldable pub get : List ℕ → ℕ → ℕ → Result (Option LabelId) ℕ
unfolding seek every
get labels count value = answered (get_refusal labels count) (id_of (listed value (take count labels)) (seek value (take count labels)))

unfoldable pub resolve : List ℕ → ℕ → ℕ → Result ℕ ℕ
unfolding seek every
resolve labels count id = answered (resolve_refusal labels count id) (get_or labels id 0)
