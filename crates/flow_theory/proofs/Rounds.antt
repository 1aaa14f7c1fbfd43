-- A round: levels set afresh that do not reach the sink change nothing; levels that do are those of a phase. Its arrays are made new, so no level is set and no link is marked.
use mathlib.Core.Path.{◌≡◌, refl, sym, ap, subst, subst⁻¹, ◌∙◌}
use Prim.Native.Nat.{ℕ, ◌≤◌, ◌<◌}
use mathlib.Core.List.{List}
use lib.ListN.{length, get_or, take, replicate}
use Rattle.std.specs.Prelude.{Some, None}
use Rattle.flow_theory.specs.declared.AfterPhase.{AfterPhase}
use lib.Ieee.{Float}
use Rattle.flow_theory.specs.Network.{Net, nodes}
use Rattle.flow_theory.specs.Levels.{unset, level_of, levels}
use Rattle.flow_theory.proofs.Links.{WellFormed}
use Rattle.flow_theory.proofs.Levels.{Levels, levels_ok}
use Rattle.flow_theory.proofs.LevelRows.{InRows, Searchable}
use Rattle.flow_theory.specs.Rows.{network}
use Rattle.flow_theory.proofs.RunRows.{Runnable, PhaseReady, PhaseRan, RoundRan}
use Rattle.flow_theory.proofs.Lists.{fresh}
use Rattle.numbers.proofs.Parts.{take_replicate}
use Rattle.flow_theory.proofs.Outs.{network_nodes}
use Rattle.flow_theory.proofs.Scanning.{level_at}

module _ {N : Net} {starts list : List ℕ} {c : List Float} (R : Runnable N starts list c) {L L' : List ℕ} (unmarked : L ≡ replicate (nodes N) unset)
    (E : (M : Net) → WellFormed M → InRows M N.heads list starts N.source → L ≡ replicate (nodes M) unset → L' ≡ levels M c) where
  levels_are : L' ≡ levels N c
  levels_are = E N R.good R.laid unmarked

  levels_set : Levels N c L'
  levels_set = subst⁻¹ (Levels N c) levels_are (levels_ok N R.good c R.caps)

  pub sink_there : N.sink < length L'
  sink_there = rw levels_set.len R.sink_in

  sink_at : get_or L' N.sink 0 ≡ level_of (levels N c) N.sink
  sink_at = level_at L' N.sink sink_there ∙ ap (λ (l : List ℕ). level_of l N.sink) levels_are

  pub round_cut : (t : Float) → get_or L' N.sink 0 ≡ 18446744073709551615 → RoundRan N t c None c
  unfolding unset
  round_cut t h = (sym sink_at ∙ h, refl)

  pub phase_ready : {nx : List ℕ} → nx ≡ replicate (nodes N) 0 → PhaseReady N starts list c L' nx
  phase_ready f = record { base = R; levels = levels_set; fresh = f }

  pub round_phase : {t : Float} {p : AfterPhase} {d : List Float} → (get_or L' N.sink 0 ≡ 18446744073709551615 → ⊥) → PhaseRan N L' t c p d → RoundRan N t c (Some p) d
  unfolding unset
  round_phase {t} {p} {d} h D = (λ q. h (sink_at ∙ q), subst (λ (l : List ℕ). PhaseRan N l t c p d) levels_are D)

-- ---- the arrays of a round, made afresh, and the part of them that is lent

module _ (H : List ℕ) (n s t : ℕ) {starts list : List ℕ} {c : List Float} (R : Runnable (network H n s t) starts list c) where
  pub nodes_few : n ≤ 66
  nodes_few = rw (← network_nodes H n) R.laid.places

  part_is : (x : ℕ) → take n (fresh x) ≡ replicate (nodes (network H n s t)) x
  part_is x = take_replicate n 66 x nodes_few ∙ ap (λ (m : ℕ). replicate m x) (sym (network_nodes H n))

  pub unmarked : take n (fresh 18446744073709551615) ≡ replicate (nodes (network H n s t)) unset
  unfolding unset
  unmarked = part_is 18446744073709551615

  pub unpassed : take n (fresh 0) ≡ replicate (nodes (network H n s t)) 0
  unpassed = part_is 0

  pub searchable : Searchable H list starts c s (take n (fresh 18446744073709551615)) (fresh 0)
  searchable = record { net = network H n s t; good = R.good; laid = R.laid; size = R.caps.size; fresh = unmarked; room = R.laid.places }
