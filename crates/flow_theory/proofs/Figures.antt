-- M3 and M4 of document 01, run by computation; and the network of M3 is an accepted one, so that the theorem says something.
use mathlib.Core.Path.{◌≡◌, refl}
use Prim.Native.Nat.{ℕ, zero, suc, ◌<◌}
use native.Mathlib.Omega.{arith}
use mathlib.Core.Logic.{◌≢◌, ◌⊎◌, inl}
use lib.Dec.{T, lit<, lit≤}
use mathlib.Core.Bool.{true, false}
use mathlib.Core.List.{List, [], ◌∷◌}
use lib.IntN.{negsuc}
use lib.Ieee.{of_bits, Float, inf, fin, le}
use Rattle.numbers.specs.Real.{nought, half, greatest_weight, eps}
use Rattle.numbers.proofs.Comparisons.{fin_inf}
use Rattle.flow_theory.specs.Network.{Net, head, tail, left, node_lists}
use Rattle.flow_theory.specs.Run.{max_flow}
use Rattle.flow_theory.specs.Claim.{FlowClaim, in_cut}
use Rattle.flow_theory.proofs.Accepted.{Accepted}
use Rattle.flow_theory.proofs.Theorem.{flow_run}

-- source 0, middle 1, sink 2: capacities 0.75, then 0.5
abbrev line : Net
line = record { heads = 1 ∷ 0 ∷ 2 ∷ 1 ∷ []; lists = (0 ∷ []) ∷ (1 ∷ 2 ∷ []) ∷ (3 ∷ []) ∷ []; source = 0; sink = 2 }

abbrev caps : List Float
caps = fin false 3 (negsuc 1) ∷ nought ∷ half ∷ nought ∷ []

-- flow 0.5, one phase with one push
m3 : max_flow line caps
    ≡ record {
      total = half;
      cap = fin false 1 (negsuc 1) ∷ half ∷ nought ∷ half ∷ [];
      level = 0 ∷ 1 ∷ 18446744073709551615 ∷ [];
      phases = record { sink_level = 2; pushes = 1 } ∷ [];
    }
unfolding max_flow of_bits
m3 = refl

-- the cut {source, middle}
m3_cut : (in_cut (max_flow line caps) 0 ≡ true) × (in_cut (max_flow line caps) 1 ≡ true) × (in_cut (max_flow line caps) 2 ≡ false)
unfolding in_cut max_flow of_bits
m3_cut = (refl, refl, refl)

-- two paths of one length from 0 to 3: both are pushed in one phase, with the levels that it began with
abbrev fork : Net
fork = record { heads = 1 ∷ 0 ∷ 2 ∷ 0 ∷ 3 ∷ 1 ∷ 3 ∷ 2 ∷ []; lists = (0 ∷ 2 ∷ []) ∷ (1 ∷ 4 ∷ []) ∷ (3 ∷ 6 ∷ []) ∷ (5 ∷ 7 ∷ []) ∷ []; source = 0; sink = 3 }

one_phase : (max_flow fork (half ∷ nought ∷ half ∷ nought ∷ half ∷ nought ∷ half ∷ nought ∷ [])).phases ≡ record { sink_level = 2; pushes = 2 } ∷ []
unfolding max_flow of_bits
one_phase = refl

abbrev single : Net
single = record { heads = 1 ∷ 0 ∷ []; lists = (0 ∷ []) ∷ (1 ∷ []) ∷ []; source = 0; sink = 1 }

-- one link of 1e-12: flow 0
m4 : (max_flow single (eps ∷ nought ∷ [])).total ≡ nought
unfolding max_flow of_bits
m4 = refl

abbrev InRange : Float → Type 0
InRange x = T (le nought x) × (T (le x greatest_weight) ⊎ (x ≡ inf false))

m3_accepted : Accepted line caps 2
unfolding node_lists head left le of_bits
m3_accepted = record {
  few = lit≤ tt;
  small = lit≤ tt;
  pairs = refl;
  size = refl;
  heads_in = heads;
  source_in = lit< tt;
  sink_in = lit< tt;
  ends = omega arith;
  range = ranges;
  finite = finites;
  lists = refl;
}
  where
    heads : (e : ℕ) → e < 4 → head line e < 3
    heads zero l = lit< tt
    heads (suc zero) l = lit< tt
    heads (suc (suc zero)) l = lit< tt
    heads (suc (suc (suc zero))) l = lit< tt
    heads (suc (suc (suc (suc e)))) l = absurd (omega arith)

    ranges : (e : ℕ) → e < 4 → InRange (left caps e)
    ranges zero l = (tt, inl tt)
    ranges (suc zero) l = (tt, inl tt)
    ranges (suc (suc zero)) l = (tt, inl tt)
    ranges (suc (suc (suc zero))) l = (tt, inl tt)
    ranges (suc (suc (suc (suc e)))) l = absurd (omega arith)

    finites : (e : ℕ) → e < 4 → tail line e ≡ 0 → left caps e ≢ inf false
    finites zero l f = fin_inf _ _ _
    finites (suc zero) l f = fin_inf _ _ _
    finites (suc (suc zero)) l f = fin_inf _ _ _
    finites (suc (suc (suc zero))) l f = fin_inf _ _ _
    finites (suc (suc (suc (suc e)))) l f = absurd (omega arith)

m3_claimed : FlowClaim line caps 2 (max_flow line caps)
m3_claimed = flow_run line caps 2 m3_accepted
