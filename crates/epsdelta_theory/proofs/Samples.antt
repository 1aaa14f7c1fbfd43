-- Random pairs of models, run by the definition. The bytes of the relation and the strikes, the last first, are those that the Rust gives with document 01's rate test;
-- in c and d ε is at a rounding's edge, so that a test back fails where the test forth passed. e is small: the strike of states 2 and 3 rests on one of the same sweep.
use mathlib.Core.Path.{◌≡◌, refl}
use Prim.Native.Nat.{ℕ, ◌+◌, ◌*◌}
use mathlib.Core.Bool.{false, cond}
use mathlib.Core.List.{List, [], ◌∷◌, ◌++◌}
use lib.IntN.{pos, negsuc}
use lib.Ieee.{Float, fin, of_bits}
use Rattle.numbers.specs.Bits.{packed}
use Rattle.bisim_core.specs.Data.{Edge}
use Rattle.epsdelta_theory.specs.Jumps.{union}
use Rattle.epsdelta_theory.specs.Sweeps.{Strike}
use Rattle.epsdelta_theory.specs.Epsdelta.{rates_close, Given, epsdelta}

abbrev edge : ℕ → ℕ → ℕ → Float → Edge
edge s l t w = record { source = s; label = l; target = t; weight = w }

-- two models, the classes of both, ε and ρ
unfoldable sample : List (List Edge) → List (List Edge) → List ℕ → Float → Float → Given
unfolding union rates_close
sample L R classes ε ρ = record { jumps = union L R; classes = classes; pass = λ _ _ a b. rates_close a b ρ; epsilon = ε }

-- 1000 times the lower state, 10 times the higher one, and 1 if it was the test back that failed
unfoldable trace : List Strike → List ℕ
trace [] = []
trace (k ∷ ks) = (k.low * 1000 + k.high * 10 + cond k.back 1 0) ∷ trace ks

unfoldable outcome : Given → List ℕ
unfolding packed epsdelta trace
outcome G = packed (epsdelta G).relation ++ trace (epsdelta G).strikes

-- 3 and 5 states, 3 sweeps, 6 strikes, 3 pairs of distinct states stand
abbrev a : Given
a = sample
    ((edge 0 0 2 (fin false 3602879701896397 (negsuc 54)) ∷ edge 0 1 1 (fin false 1 (pos 1)) ∷ [])
    ∷ []
    ∷ []
    ∷ [])
    ((edge 0 0 2 (fin false 1 (pos 0)) ∷ [])
    ∷ (edge 1 0 3 (fin false 5404319552844595 (negsuc 53)) ∷ edge 1 1 0 (fin false 3152519739159347 (negsuc 51)) ∷ edge 1 1 1 (fin false 15625 (pos 6)) ∷ edge 1 1 4 (fin false 1 (pos 0)) ∷ [])
    ∷ (edge 2 0 1 (fin false 1 (pos 1)) ∷ [])
    ∷ (edge 3 0 3 (fin false 3152519739159347 (negsuc 51)) ∷ [])
    ∷ (edge 4 0 1 (fin false 3 (pos 0)) ∷ edge 4 0 3 (fin false 5404319552844595 (negsuc 53)) ∷ edge 4 1 1 (fin false 1 (pos 0)) ∷ [])
    ∷ [])
    (0 ∷ 0 ∷ 0 ∷ 0 ∷ 0 ∷ 0 ∷ 0 ∷ 1 ∷ []) (fin false 0 (pos 0)) (fin false 1 (pos 20))

a_run : outcome a ≡ 1 ∷ 70 ∷ 70 ∷ 8 ∷ 16 ∷ 32 ∷ 70 ∷ 128 ∷ 3050 ∷ 4050 ∷ 3040 ∷ 50 ∷ 40 ∷ 30 ∷ []
unfolding outcome sample of_bits
a_run = refl

-- 4 and 5 states, 3 sweeps, 15 strikes, 1 pair of distinct states stands
abbrev b : Given
b = sample
    ([]
    ∷ (edge 1 0 0 (fin false 3602879701896397 (negsuc 54)) ∷ edge 1 0 2 (fin false 4722366482869645 (negsuc 72)) ∷ edge 1 1 2 (fin false 3152519739159347 (negsuc 51)) ∷ edge 1 1 3 (fin false 3 (pos 0)) ∷ [])
    ∷ (edge 2 0 1 (fin false 5404319552844595 (negsuc 53)) ∷ edge 2 1 0 (fin false 15625 (pos 6)) ∷ edge 2 1 3 (fin false 3 (pos 0)) ∷ [])
    ∷ (edge 3 0 0 (fin false 1 (pos 1)) ∷ edge 3 0 2 (fin false 1 (pos 1)) ∷ edge 3 1 0 (fin false 1 (pos 0)) ∷ edge 3 1 2 (fin false 5404319552844595 (negsuc 53)) ∷ [])
    ∷ [])
    ((edge 0 0 2 (fin false 1 (pos 1)) ∷ [])
    ∷ (edge 1 0 0 (fin false 1 (pos 1)) ∷ edge 1 1 3 (fin false 6004799503160661 (negsuc 53)) ∷ [])
    ∷ (edge 2 1 2 (fin false 5404319552844595 (negsuc 53)) ∷ edge 2 1 4 (fin false 3 (pos 0)) ∷ [])
    ∷ (edge 3 1 3 (fin false 5404319552844595 (negsuc 53)) ∷ [])
    ∷ []
    ∷ [])
    (1 ∷ 0 ∷ 0 ∷ 0 ∷ 0 ∷ 0 ∷ 0 ∷ 0 ∷ 0 ∷ []) (fin false 1 (negsuc 1)) (fin false 1 (pos 20))

b_run : outcome b ≡ 1 ∷ 4 ∷ 16 ∷ 64 ∷ 0 ∷ 1 ∷ 4 ∷ 16 ∷ 192 ∷ 128 ∷ 1 ∷ 4050 ∷ 1050 ∷ 1040 ∷ 5060 ∷ 4060 ∷ 3060 ∷ 3050 ∷ 3040 ∷ 2060 ∷ 2050 ∷ 2040 ∷ 2030 ∷ 1060 ∷ 1030 ∷ 1020 ∷ []
unfolding outcome sample of_bits
b_run = refl

-- 3 and 5 states, 3 sweeps, 9 strikes (1 of them on the test back), 4 pairs of distinct states stand
abbrev c : Given
c = sample
    ((edge 0 1 2 (fin false 1 (pos 1)) ∷ [])
    ∷ (edge 1 0 2 (fin false 3152519739159347 (negsuc 51)) ∷ edge 1 1 2 (fin false 1 (pos 1)) ∷ [])
    ∷ (edge 2 0 0 (fin false 5404319552844595 (negsuc 53)) ∷ edge 2 0 2 (fin false 5404319552844595 (negsuc 53)) ∷ edge 2 1 2 (fin false 1 (pos 0)) ∷ [])
    ∷ [])
    ((edge 0 0 1 (fin false 3152519739159347 (negsuc 51)) ∷ edge 0 0 2 (fin false 4722366482869645 (negsuc 72)) ∷ [])
    ∷ (edge 1 1 1 (fin false 3602879701896397 (negsuc 54)) ∷ edge 1 1 2 (fin false 1 (pos 0)) ∷ edge 1 1 4 (fin false 1 (pos 1)) ∷ [])
    ∷ (edge 2 0 4 (fin false 3152519739159347 (negsuc 51)) ∷ edge 2 1 0 (fin false 4722366482869645 (negsuc 72)) ∷ edge 2 1 2 (fin false 4722366482869645 (negsuc 72)) ∷ [])
    ∷ (edge 3 0 1 (fin false 1 (pos 0)) ∷ edge 3 0 2 (fin false 1 (pos 1)) ∷ edge 3 0 3 (fin false 1 (pos 1)) ∷ edge 3 1 2 (fin false 1 (pos 0)) ∷ [])
    ∷ (edge 4 0 1 (fin false 5404319552844595 (negsuc 53)) ∷ edge 4 0 2 (fin false 3 (pos 0)) ∷ edge 4 0 4 (fin false 1 (pos 1)) ∷ edge 4 1 0 (fin false 1 (pos 0)) ∷ [])
    ∷ [])
    (0 ∷ 0 ∷ 1 ∷ 0 ∷ 1 ∷ 0 ∷ 0 ∷ 1 ∷ []) (fin false 5376390243822695 (negsuc 52)) (fin false 1 (pos 20))

c_run : outcome c ≡ 35 ∷ 35 ∷ 132 ∷ 8 ∷ 16 ∷ 35 ∷ 64 ∷ 132 ∷ 3050 ∷ 1030 ∷ 30 ∷ 5060 ∷ 4071 ∷ 3060 ∷ 2040 ∷ 1060 ∷ 60 ∷ []
unfolding outcome sample of_bits
c_run = refl

-- 3 and 4 states, 2 sweeps, 5 strikes (1 of them on the test back), 4 pairs of distinct states stand
abbrev d : Given
d = sample
    ((edge 0 0 0 (fin false 5404319552844595 (negsuc 53)) ∷ [])
    ∷ (edge 1 0 1 (fin false 1 (pos 1)) ∷ [])
    ∷ (edge 2 0 0 (fin false 1 (pos 0)) ∷ edge 2 1 0 (fin false 5404319552844595 (negsuc 53)) ∷ [])
    ∷ [])
    ((edge 0 0 0 (fin false 1 (pos 0)) ∷ edge 0 0 3 (fin false 3 (pos 0)) ∷ [])
    ∷ (edge 1 0 0 (fin false 1 (pos 0)) ∷ edge 1 0 2 (fin false 1 (pos 0)) ∷ edge 1 0 3 (fin false 1 (pos 0)) ∷ [])
    ∷ []
    ∷ (edge 3 0 0 (fin false 1 (pos 0)) ∷ edge 3 1 0 (fin false 1 (pos 1)) ∷ edge 3 1 2 (fin false 3602879701896397 (negsuc 54)) ∷ edge 3 1 3 (fin false 4722366482869645 (negsuc 72)) ∷ [])
    ∷ [])
    (0 ∷ 0 ∷ 0 ∷ 0 ∷ 0 ∷ 0 ∷ 0 ∷ []) (fin false 2711844927904067 (negsuc 52)) (fin false 1 (pos 20))

d_run : outcome d ≡ 163 ∷ 17 ∷ 1 ∷ 9 ∷ 25 ∷ 33 ∷ 1 ∷ 4061 ∷ 3040 ∷ 2060 ∷ 2040 ∷ 2030 ∷ []
unfolding outcome sample of_bits
d_run = refl

-- 5 states and none, 2 sweeps, 5 strikes, 1 pair of distinct states stands: 2 jumps to 1 and 3 to 2, so that they fall with the strike of 1 and 2, earlier in the first sweep
abbrev e : Given
e = sample
    ([]
    ∷ (edge 1 0 0 (fin false 1 (pos 0)) ∷ [])
    ∷ (edge 2 0 1 (fin false 1 (pos 0)) ∷ [])
    ∷ (edge 3 0 2 (fin false 1 (pos 0)) ∷ [])
    ∷ (edge 4 0 0 (fin false 1 (pos 0)) ∷ [])
    ∷ [])
    []
    (0 ∷ 0 ∷ 0 ∷ 0 ∷ 0 ∷ []) (fin false 0 (pos 0)) (fin false 1 (pos 0))

e_run : outcome e ≡ 65 ∷ 18 ∷ 36 ∷ 1 ∷ 3040 ∷ 2040 ∷ 2030 ∷ 1030 ∷ 1020 ∷ []
unfolding outcome sample of_bits
e_run = refl
