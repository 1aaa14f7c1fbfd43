-- The row of a state: its edges' entries, with what is left to stay.
use mathlib.Core.Path.{◌≡◌, sym, ap, ◌∙◌}
use mathlib.Core.Bool.{Bool, true, false}
use Prim.Native.Nat.{ℕ}
use mathlib.Core.List.{List, [], map}
use lib.Ieee.{Float, lt}
use Rattle.numbers.specs.Real.{margin}
use Rattle.bisim_core.specs.Data.{Edge}
use Rattle.epsdelta_theory.specs.Jumps.{Jump, add_rate, add_edges}
use Rattle.epsdelta_theory.proofs.RowsIn.{LaidJumps}
use Rattle.chain_theory.specs.Chain.{exit_rate, divided_edge, stay, staying, chain_row}

module _ (q : Float) (s : ℕ) (es : List Edge) (x : Float) (e : x ≡ stay q (exit_rate es)) where
  abbrev own : List Jump
  own = add_edges 0 (map (divided_edge q) es) []

  row_by : (b : Bool) → lt margin x ≡ b → chain_row q s es ≡ staying b s x own
  unfolding chain_row
  row_by b h = ap (λ (y : Float). staying (lt margin y) s y own) (sym e) ∙ ap (λ (z : Bool). staying z s x own) h

  pub row_stays : lt margin x ≡ true → add_rate s x own ≡ chain_row q s es
  row_stays h = sym (row_by true h)

  pub row_leaves : lt margin x ≡ false → own ≡ chain_row q s es
  row_leaves h = sym (row_by false h)

-- the same lists by other names
pub laid_named : {js : List Jump} {m : ℕ} {T₀ : List ℕ} {P₀ : List Float} {T T' : List ℕ} {P P' : List Float} → T ≡ T' → P ≡ P' → LaidJumps js m T₀ P₀ T' P' → LaidJumps js m T₀ P₀ T P
laid_named t p L = record { count = L.count; in_targets = t ∙ L.in_targets; in_rates = p ∙ L.in_rates }
