-- The pairs of states that `distance` meets, in the order of their discovery: `Pairs::explore` of kantorovich.rs.
use Rattle.std.specs.Prelude.{ℕ, zero, suc, Bool, true, false, ◌&&◌, ◌||◌, List, [], ◌∷◌, ◌++◌, map, length, get_or, eqb, ltb}
use Rattle.numbers.specs.Search.{here}
use Rattle.epsdelta_theory.specs.Jumps.{Jump}
use Rattle.chain_theory.specs.Chain.{Chain}

-- a state of each chain
pub record Pair : Type 0 where
  pub left : ℕ
  pub right : ℕ

abbrev pub pair : ℕ → ℕ → Pair
pair x y = record { left = x; right = y }

abbrev pub same : Pair → Pair → Bool
same p q = eqb p.left q.left && eqb p.right q.right

-- where a pair stands in a list: the list's length if it does not
unfoldable pub place : Pair → List Pair → ℕ
place p [] = 0
place p (q ∷ qs) = here (same p q) (place p qs)

abbrev pub pair_at : List Pair → ℕ → Pair
pair_at found i = get_or found i (pair 0 0)

-- at most so many pairs are explored
abbrev pub most : ℕ
most = 4096

abbrev pub noted : Bool → Pair → List Pair → List Pair
noted true p found = found
noted false p found = found ++ (p ∷ [])

-- a new pair goes to the end; pair 4,097 is the last that is noted, and means refusal 17
unfoldable pub meet : Pair → List Pair → List Pair
unfolding place
meet p found = noted (ltb (place p found) (length found) || ltb most (length found)) p found

unfoldable pub meet_all : List Pair → List Pair → List Pair
unfolding meet
meet_all [] found = found
meet_all (p ∷ ps) found = meet_all ps (meet p found)

-- each entry of one row with each of the other, in row order
unfoldable pub cross : {A : Type 0} → (Jump → Jump → A) → List Jump → List Jump → List A
cross f [] fs = []
cross f (e ∷ es) fs = map (f e) fs ++ cross f es fs

abbrev pub target_pair : Jump → Jump → Pair
target_pair e f = pair e.target f.target

-- the entries of state x
abbrev pub row_of : Chain → ℕ → List Jump
row_of A x = get_or A.rows x []

-- the pairs that follow p
abbrev pub successors : Chain → Chain → Pair → List Pair
successors A B p = cross target_pair (row_of A p.left) (row_of B p.right)

-- from pair i on, as long as there is one, at most k of them
unfoldable pub explore : Chain → Chain → ℕ → ℕ → List Pair → List Pair
unfolding meet_all cross
explore A B zero i found = found
explore A B (suc k) i found = elim (ltb i (length found)) [ true ↦ explore A B k (suc i) (meet_all (successors A B (pair_at found i)) found) | false ↦ found ]

-- from the initial pair on; no more than 4,097 are ever noted
unfoldable pub pairs : Chain → Chain → List Pair
unfolding explore
pairs A B = explore A B (suc most) 0 (pair A.initial B.initial ∷ [])
