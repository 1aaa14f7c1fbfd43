-- The ordered search that stands in for the Rust's hash maps.
use Rattle.std.specs.Prelude.{ℕ, suc, Bool, true, false, cond, Option, Some, None, List, [], ◌∷◌, length, eqb, ltb}

abbrev pub here : Bool → ℕ → ℕ
here true later = 0
here false later = suc later

-- where x first stands in a list: the list's length if it does not
unfoldable pub seek : ℕ → List ℕ → ℕ
seek x [] = 0
seek x (y ∷ ys) = here (eqb y x) (seek x ys)

-- where it first stands, if it does
abbrev pub place : ℕ → List ℕ → Option ℕ
place x l = cond (ltb (seek x l) (length l)) (Some (seek x l)) None
