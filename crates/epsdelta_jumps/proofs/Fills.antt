-- The row of a state in two lists: at their start, once its jumps are made, summed and divided, and then from place `at` on.
use Rattle.std.specs.Prelude.{None}
use Rattle.std.proofs.lemmas.List.{map-id}
use mathlib.Core.Path.{◌≡◌, refl, sym, ap, ◌∙◌}
use Prim.Native.Nat.{ℕ, ◌+◌, ◌≤◌}
use mathlib.Core.List.{List, [], ◌∷◌, ◌++◌, map}
use native.Mathlib.Omega.{arith}
use lib.Ieee.{Float, binary64, div}
use lib.ListN.{length, take, drop, set, length-map, length-append}
use lib.Seq.{slice, length-take-le, take_at, drop_at}
use Rattle.numbers.specs.Real.{sum}
use Rattle.bisim_core.specs.Data.{Edge}
use Rattle.epsdelta_theory.specs.Jumps.{Jump, jumps_of, add_edges, rates, Row, divided, row}
use Rattle.epsdelta_theory.proofs.RowsIn.{Filled, LaidJumps}
use Rattle.epsdelta_theory.proofs.RowReads.{jumps_rates}
use Rattle.parts.specs.Jumping.{weighed}
use Rattle.parts.proofs.Laid.{laid_by, laid_jumps, laid_past}
use Rattle.parts.proofs.Lent.{part, back, take_back, past_back, slice_back}

-- the rates divided by x
abbrev pub quotients : Float → List Float → List Float
quotients x P = map (λ (p : Float). div binary64 p x) P

divided_of : (x : Float) (T : List ℕ) (P : List Float) → jumps_of T (quotients x P) ≡ map (divided x) (jumps_of T P)
unfolding jumps_of
divided_of x [] P = refl
divided_of x (t ∷ T) [] = refl
divided_of x (t ∷ T) (p ∷ P) = ap (λ (l : List Jump). record { target = t; rate = div binary64 p x } ∷ l) (divided_of x T P)

-- the row, once the jumps are made and their rates divided by their sum
module _ (off : ℕ) (es : List Edge) (m : ℕ) (T₀ : List ℕ) (P₀ : List Float) (T : List ℕ) (P : List Float) (L : LaidJumps (add_edges off (map (weighed None) es) []) m T₀ P₀ T P) (h : m ≤ length T) (k : m ≤ length P) where
  made : jumps_of (take m T) (take m P) ≡ add_edges off es []
  made = laid_jumps L ∙ ap (λ (l : List Edge). add_edges off l []) (map-id es)

  pub exit_is : sum (take m P) ≡ (row off es).exit
  unfolding row
  exit_is = ap sum (sym (jumps_rates (take m T) (take m P) (length-take-le m T h ∙ sym (length-take-le m P k)))) ∙ ap (λ (js : List Jump). sum (rates js)) made

  prob_is : jumps_of (take m T) (quotients (sum (take m P)) (take m P)) ≡ (row off es).prob
  unfolding row
  prob_is =
      divided_of (sum (take m P)) (take m T) (take m P)
      ∙ ap (λ (js : List Jump). map (divided (sum (take m P))) js) made
      ∙ ap (λ (y : Float). map (divided y) (add_edges off es [])) exit_is

  -- Q is the rates divided, in the place of the rates
  pub row_made : (Q : List Float) → Q ≡ quotients (sum (take m P)) (take m P) → LaidJumps (row off es).prob m T₀ P₀ T (Q ++ drop m P)
  row_made Q e =
      let n : length Q ≡ m = ap length e ∙ length-map (take m P) (λ (p : Float). div binary64 p (sum (take m P))) ∙ length-take-le m P k in
      let o = length-append Q (drop m P) in
      let (u, v) = laid_past L in
      laid_by h (omega arith) (ap (jumps_of (take m T)) (take_at Q (drop m P) m n ∙ e) ∙ prob_is) u (drop_at Q (drop m P) m n ∙ v)

-- the same lists by other names
pub laid_named : {js : List Jump} {m : ℕ} {T₀ : List ℕ} {P₀ : List Float} {T T' : List ℕ} {P P' : List Float} → T ≡ T' → P ≡ P' → LaidJumps js m T₀ P₀ T' P' → LaidJumps js m T₀ P₀ T P
laid_named t p L = record { count = L.count; in_targets = t ∙ L.in_targets; in_rates = p ∙ L.in_rates }

-- a row at the start of the part of two lists from place `at` on
pub filled : (R : Row) (k at m : ℕ) (E : List Float) (T : List ℕ) (P : List Float) (T₁ : List ℕ) (P₁ : List Float) (x : Float)
    → at ≤ length T → at ≤ length P → x ≡ R.exit → LaidJumps R.prob m (part at T) (part at P) T₁ P₁
    → Filled R k at (at + m) E T P (set E k x) (back at T T₁) (back at P P₁)
filled R k at m E T P T₁ P₁ x a b f L =
    let (u, v) = laid_past L in
    record {
      from = omega arith;
      exit = ap (set E k) f;
      targets_kept = take_back at T T₁ a;
      probs_kept = take_back at P P₁ b;
      prob = ap (λ (l : List ℕ). jumps_of l (slice at (at + m) (back at P P₁))) (slice_back at T T₁ a m) ∙ ap (jumps_of (take m T₁)) (slice_back at P P₁ b m) ∙ laid_jumps L;
      targets_past = past_back at T T₁ a m u;
      probs_past = past_back at P P₁ b m v;
    }
