-- `build` run by its definition on small inputs.
use Rattle.std.specs.Prelude.{Some, None, Ok, Err}
use mathlib.Core.Path.{◌≡◌, refl}
use mathlib.Core.List.{[], ◌∷◌}
use mathlib.Core.Bool.{false}
use lib.IntN.{pos, negsuc}
use lib.Ieee.{Float, fin, nan, eq, le, of_bits, add}
use Rattle.bisim_core.specs.Data.{Transitions, Columns, transitions, columns}
use Rattle.bisim_build.specs.Build.{ends, build}
use Rattle.bisim_core.specs.Ids.{intern}
use Rattle.bisim_core.specs.Edges.{others}
use Rattle.build_theory.specs.Edges.{below}

abbrev half : Float
half = fin false 1 (negsuc 0)

abbrev one : Float
one = fin false 1 (pos 0)

abbrev none : Float
none = fin false 0 (pos 0)

-- the labels are 7, 5 and 9, the last of a transition of weight zero; the first and the third transition are joined
abbrev given : Transitions
given = transitions (1 ∷ 0 ∷ 1 ∷ 0 ∷ []) (7 ∷ 5 ∷ 7 ∷ 9 ∷ []) (0 ∷ 1 ∷ 0 ∷ 0 ∷ []) (one ∷ one ∷ half ∷ none ∷ [])

abbrev lent : Columns
lent = columns (8 ∷ 8 ∷ 8 ∷ 8 ∷ []) (8 ∷ 8 ∷ 8 ∷ 8 ∷ []) (8 ∷ 8 ∷ 8 ∷ 8 ∷ []) (8 ∷ 8 ∷ 8 ∷ 8 ∷ []) (none ∷ none ∷ none ∷ none ∷ [])

made : build 2 (Some (record { 0 = 1 })) given 4 lent
    ≡ ends (Ok (record { states = 2; edges = 2; labels = 3; initial = Some (record { 0 = 1 }) }))
    (columns (7 ∷ 5 ∷ 9 ∷ 8 ∷ []) (0 ∷ 1 ∷ 2 ∷ 8 ∷ []) (1 ∷ 0 ∷ 8 ∷ 8 ∷ []) (1 ∷ 0 ∷ 8 ∷ 8 ∷ []) (one ∷ fin false 3 (negsuc 0) ∷ none ∷ none ∷ []))
unfolding build intern eq of_bits le others add below
made = refl

no_such_state : build 1 None given 4 lent ≡ ends (Err 4) lent
unfolding build intern eq of_bits le others add below
no_such_state = refl

short_column : build 2 None given 5 lent ≡ ends (Err 7) lent
unfolding build intern eq of_bits le others add below
short_column = refl

short_store : build 2 None given 4 (columns [] (8 ∷ 8 ∷ 8 ∷ 8 ∷ []) (8 ∷ 8 ∷ 8 ∷ 8 ∷ []) (8 ∷ 8 ∷ 8 ∷ 8 ∷ []) (none ∷ none ∷ none ∷ none ∷ []))
    ≡ ends (Err 7) (columns [] (8 ∷ 8 ∷ 8 ∷ 8 ∷ []) (8 ∷ 8 ∷ 8 ∷ 8 ∷ []) (8 ∷ 8 ∷ 8 ∷ 8 ∷ []) (none ∷ none ∷ none ∷ none ∷ []))
unfolding build intern eq of_bits le others add below
short_store = refl

-- a weight that is no number; the check of states comes before it
not_a_number : build 2 None (transitions (0 ∷ []) (0 ∷ []) (0 ∷ []) (nan ∷ [])) 1 lent ≡ ends (Err 5) lent
unfolding build intern eq of_bits le others add below
not_a_number = refl

state_first : build 2 None (transitions (0 ∷ []) (0 ∷ []) (2 ∷ []) (nan ∷ [])) 1 lent ≡ ends (Err 4) lent
unfolding build intern eq of_bits le others add below
state_first = refl
