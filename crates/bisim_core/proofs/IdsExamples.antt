-- `intern`, `get` and `resolve` run by their definitions on small lists.
use mathlib.Core.Path.{◌≡◌, refl}
use Prim.Native.Nat.{ℕ}
use mathlib.Core.List.{List, [], ◌∷◌}
use Rattle.std.specs.Prelude.{Ok, Err, None}
use Rattle.bisim_core.specs.Ids.{ends, interning, get, resolve}

-- three values in use, and room for a fourth
abbrev labels : List ℕ
labels = 7 ∷ 5 ∷ 9 ∷ 0 ∷ []

new : interning labels 3 8 ≡ ends (Ok (record { 0 = 3 }, 4)) (7 ∷ 5 ∷ 9 ∷ 8 ∷ [])
unfolding interning
new = refl

known : interning labels 3 5 ≡ ends (Ok (record { 0 = 1 }, 3)) labels
unfolding interning
known = refl

-- what stands past the count is not listed: 0 is new
past_the_count : interning labels 3 0 ≡ ends (Ok (record { 0 = 3 }, 4)) labels
unfolding interning
past_the_count = refl

full : interning labels 4 8 ≡ ends (Err 7) labels
unfolding interning
full = refl

-- a known value needs no room
known_in_full : interning labels 4 9 ≡ ends (Ok (record { 0 = 2 }, 4)) labels
unfolding interning
known_in_full = refl

-- 3 comes before 4: 256 values in use of a list that has four, and the value is not among them
too_many : interning labels 256 8 ≡ ends (Err 3) labels
unfolding interning
too_many = refl

too_few : interning labels 256 9 ≡ ends (Err 4) labels
unfolding interning
too_few = refl

twice : get (7 ∷ 5 ∷ 7 ∷ []) 3 5 ≡ Err 4
unfolding get
twice = refl

absent : get labels 3 0 ≡ Ok None
unfolding get
absent = refl

id_is_count : resolve labels 3 3 ≡ Err 4
unfolding resolve
id_is_count = refl

last : resolve labels 3 2 ≡ Ok 9
unfolding resolve
last = refl
