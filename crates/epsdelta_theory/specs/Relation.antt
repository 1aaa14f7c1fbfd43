-- A relation of n states: pair (s, t) is entry s * n + t.
use Rattle.std.specs.Prelude.{ℕ, ◌+◌, ◌*◌, ◌/◌, Bool, false, List, length, get_or, set}
use Rattle.numbers.specs.Bits.{unpack}

-- does the relation hold t with s
unfoldable pub holds : ℕ → List Bool → ℕ → ℕ → Bool
holds n R s t = get_or R (s * n + t) false

-- the bytes of a relation over n states: one bit for each ordered pair
abbrev pub relation_bytes : ℕ → ℕ
relation_bytes n = (n * n + 7) / 8

-- the relation that bytes hold: entry i is bit i, lowest bit of a byte first
abbrev pub relation_of : List ℕ → List Bool
relation_of bytes = unpack bytes (8 * length bytes) 0

-- without a pair, both orders at once
unfoldable pub clear : ℕ → List Bool → ℕ → ℕ → List Bool
clear n R s t = set (set R (s * n + t) false) (t * n + s) false

-- is state s of the left model, which has `left` states, related to state t of the right one
unfoldable pub related : ℕ → ℕ → List Bool → ℕ → ℕ → Bool
unfolding holds
related n left R s t = holds n R s (left + t)
