-- Small cases, by computation, with the Rust's answers.
use mathlib.Core.Path.{◌≡◌, refl}
use mathlib.Core.Bool.{true, false}
use mathlib.Core.List.{List, [], ◌∷◌}
use lib.IntN.{pos, negsuc}
use lib.Ieee.{Float, fin, of_bits, add}
use Rattle.numbers.specs.Real.{sum}
use Prim.Native.Nat.{ℕ}
use Rattle.transport_theory.specs.Transport.{Cell, Transport, transport}
use Rattle.transport_theory.specs.Refusal.{transport_refusal, short, masses_fit, unequal}

-- what is told of a run: the cost, the plan, what remains and the rounds made
abbrev brief : Transport → Float × List Cell × Float × ℕ
brief t = (t.total, t.plan, t.remaining, t.rounds)

-- 1 against 2/3 and 1/3 at no cost
thirds : brief (transport (fin false 1 (pos 0) ∷ []) (fin false 3002399751580331 (negsuc 51) ∷ fin false 3002399751580331 (negsuc 52) ∷ []) (fin false 0 (pos 0) ∷ fin false 0 (pos 0) ∷ []))
    ≡ (fin false 0 (pos 0), record { row = 0; column = 0; mass = fin false 3002399751580331 (negsuc 51) } ∷ record { row = 0; column = 1; mass = fin false 1501199875790165 (negsuc 51) } ∷ [], fin false 0 (pos 0), 2)
unfolding transport of_bits add
thirds = refl

-- costs within 1e-15 of each other: the margin decides, and 2^-54 remains
within_margin : brief (transport (fin false 3925880072709097 (negsuc 51) ∷ []) (fin false 5358318175006573 (negsuc 52) ∷ fin false 4986883940823241 (negsuc 53) ∷ []) (fin false 2535301200456459 (negsuc 100) ∷ fin false 2028240960365167 (negsuc 103) ∷ []))
    ≡ (fin false 6313666542293433 (negsuc 102), record { row = 0; column = 0; mass = fin false 5358318175006573 (negsuc 52) } ∷ record { row = 0; column = 1; mass = fin false 4986883940823241 (negsuc 53) } ∷ [], fin false 1 (negsuc 53), 2)
unfolding transport of_bits add
within_margin = refl

-- 1e-12 is no more than is moved in a round: nothing is
crumb : brief (transport (fin false 4951760157141521 (negsuc 91) ∷ []) (fin false 4951760157141521 (negsuc 91) ∷ []) (fin false 1 (pos 0) ∷ [])) ≡ (fin false 0 (pos 0), [], fin false 4951760157141521 (negsuc 91), 0)
unfolding transport of_bits add
crumb = refl

-- 3 × 3, of which the last path goes back over a cell
crossed : brief (transport (fin false 7720456504063707 (negsuc 52) ∷ fin false 1 (pos 0) ∷ fin false 2573485501354569 (negsuc 53) ∷ []) (fin false 6004799503160661 (negsuc 54) ∷ fin false 3752999689475413 (negsuc 51) ∷ fin false 9007199254740991 (negsuc 52) ∷ [])
    (fin false 1 (pos 0) ∷ fin false 1 (pos 0) ∷ fin false 1 (pos 0) ∷ fin false 0 (pos 0) ∷ fin false 1 (pos 0) ∷ fin false 3 (pos 0) ∷ fin false 1 (pos 1) ∷ fin false 1 (pos 0) ∷ fin false 0 (pos 0) ∷ []))
    ≡ (fin false 3806613970753633 (negsuc 50), record { row = 0; column = 2; mass = fin false 3860228252031853 (negsuc 51) } ∷ record { row = 1; column = 0; mass = fin false 6004799503160661 (negsuc 54) } ∷ record { row = 1; column = 1; mass = fin false 7505999378950825 (negsuc 52) } ∷ record { row = 2; column = 2; mass = fin false 2573485501354569 (negsuc 53) } ∷ [], fin false 0 (pos 0), 5)
unfolding transport of_bits add
crossed = refl

-- the checks in order: 7 before 15 before 16, and none
short_first : transport_refusal false (fin true 1 (pos 0) ∷ []) (fin false 1 (pos 0) ∷ []) 0 1 1 1 ≡ 7
unfolding short
short_first = refl

negative : transport_refusal true (fin true 1 (pos 0) ∷ []) (fin false 1 (pos 0) ∷ []) 1 1 1 1 ≡ 15
unfolding short masses_fit of_bits
negative = refl

uneven : transport_refusal true (fin false 1 (pos 0) ∷ []) (fin false 1 (pos 1) ∷ []) 1 1 1 1 ≡ 16
unfolding short masses_fit unequal of_bits sum add
uneven = refl

accepted : transport_refusal true (fin false 1 (pos 0) ∷ []) (fin false 1 (pos 0) ∷ []) 1 1 1 1 ≡ 0
unfolding short masses_fit unequal of_bits sum add
accepted = refl
