-- Jumps over the front of two lists: read back, and one more put in among them.
use mathlib.Core.Path.{◌≡◌, refl, sym, ap, ◌∙◌}
use mathlib.Core.Bool.{Bool, true, false}
use Prim.Native.Nat.{ℕ, suc, ◌+◌, ◌-◌, ◌≤◌}
use mathlib.Core.List.{List, [], ◌∷◌, ◌++◌}
use native.Mathlib.Omega.{arith}
use lib.Dec.{eqb, ltb}
use lib.Ieee.{Float}
use lib.ListN.{length, take, drop, length-append, length-drop, length-map, take-append-drop}
use lib.Seq.{take_at, drop_at, length-take-le, drop-append-add, drop-drop}
use Rattle.numbers.specs.Lists.{over}
use Rattle.epsdelta_theory.specs.Jumps.{Jump, jumps_of, targets, rates, add_here, add_rate}
use Rattle.epsdelta_theory.proofs.RowsIn.{LaidJumps}
use Rattle.epsdelta_theory.proofs.RowReads.{jumps_targets, jumps_rates, jumps_length}

pub targets_length : (js : List Jump) → length (targets js) ≡ length js
targets_length js = length-map js (λ (j : Jump). j.target)

pub rates_length : (js : List Jump) → length (rates js) ≡ length js
rates_length js = length-map js (λ (j : Jump). j.rate)

jumps_of_lem : (js : List Jump) → jumps_of (targets js) (rates js) ≡ js
unfolding jumps_of
jumps_of_lem [] = refl
jumps_of_lem (j ∷ js) = ap (λ (l : List Jump). j ∷ l) (jumps_of_lem js)

-- ---- a list over another

module _ {A : Type 0} where
  pub over_size : (l d : List A) → length l ≤ length d → length (over l d) ≡ length d
  over_size l d h = length-append l (drop (length l) d) ∙ (let e = length-drop (length l) d in omega arith)

  -- a longer list over a shorter one
  over_over : (k l d : List A) → length k ≤ length l → over l (over k d) ≡ over l d
  over_over k l d h =
      let z : length k + (length l - length k) ≡ length l = omega arith in
      ap (λ (r : List A). l ++ r)
      (ap (λ (j : ℕ). drop j (over k d)) (sym z) ∙ drop-append-add k (drop (length k) d) (length l - length k) ∙ drop-drop (length l - length k) (length k) d ∙ ap (λ (j : ℕ). drop j d) z)

-- ---- how many jumps there are with one more

pub grown : (t : ℕ) (w : Float) (js : List Jump) → (length js ≤ length (add_rate t w js)) × (length (add_rate t w js) ≤ length js + 1)
unfolding add_rate add_here
grown t w [] = (omega arith, omega arith)
grown t w (j ∷ js) = pick (grown t w js) (ltb j.target t) (eqb j.target t)
  where
    pick : (length js ≤ length (add_rate t w js)) × (length (add_rate t w js) ≤ length js + 1) → (a b : Bool)
        → (suc (length js) ≤ length {A = Jump} (elim a as (λ z. List Jump) [ true ↦ j ∷ add_rate t w js | false ↦ add_here b t w j js ])) × (length {A = Jump} (elim a as (λ z. List Jump) [ true ↦ j ∷ add_rate t w js | false ↦ add_here b t w j js ]) ≤ suc (length js) + 1)
    pick (l, m) true b = (omega arith, omega arith)
    pick (l, m) false true = (omega arith, omega arith)
    pick (l, m) false false = (omega arith, omega arith)

-- ---- read back

module _ {js : List Jump} {m : ℕ} {T₀ : List ℕ} {P₀ : List Float} {T : List ℕ} {P : List Float} (L : LaidJumps js m T₀ P₀ T P) where
  front_targets : take m T ≡ targets js
  front_targets = ap (take m) L.in_targets ∙ take_at (targets js) (drop (length (targets js)) T₀) m (targets_length js ∙ sym L.count)

  front_rates : take m P ≡ rates js
  front_rates = ap (take m) L.in_rates ∙ take_at (rates js) (drop (length (rates js)) P₀) m (rates_length js ∙ sym L.count)

  pub laid_jumps : jumps_of (take m T) (take m P) ≡ js
  laid_jumps = ap (λ (l : List ℕ). jumps_of l (take m P)) front_targets ∙ ap (jumps_of (targets js)) front_rates ∙ jumps_of_lem js

  -- what stands behind them is kept
  pub laid_past : (drop m T ≡ drop m T₀) × (drop m P ≡ drop m P₀)
  laid_past =
      let a : length (targets js) ≡ m = targets_length js ∙ sym L.count in
      let b : length (rates js) ≡ m = rates_length js ∙ sym L.count in (
        ap (drop m) L.in_targets ∙ drop_at (targets js) (drop (length (targets js)) T₀) m a ∙ ap (λ (j : ℕ). drop j T₀) a,
        ap (drop m) L.in_rates ∙ drop_at (rates js) (drop (length (rates js)) P₀) m b ∙ ap (λ (j : ℕ). drop j P₀) b,
      )

-- the other way: the jumps that the first m entries are, and what is kept behind them
pub laid_by : {js : List Jump} {m : ℕ} {T₀ : List ℕ} {P₀ : List Float} {T : List ℕ} {P : List Float} → m ≤ length T → m ≤ length P → jumps_of (take m T) (take m P) ≡ js → drop m T ≡ drop m T₀ → drop m P ≡ drop m P₀ → LaidJumps js m T₀ P₀ T P
laid_by {js} {m} {T₀} {P₀} {T} {P} h k e f g =
    let a = length-take-le m T h in
    let b = length-take-le m P k in
    let t : take m T ≡ targets js = sym (jumps_targets (take m T) (take m P) (a ∙ sym b)) ∙ ap targets e in
    let p : take m P ≡ rates js = sym (jumps_rates (take m T) (take m P) (a ∙ sym b)) ∙ ap rates e in
    let n : m ≡ length js = sym a ∙ ap length t ∙ targets_length js in
    record {
      count = n;
      in_targets = sym (take-append-drop m T) ∙ ap (λ (l : List ℕ). l ++ drop m T) t ∙ ap (λ (l : List ℕ). targets js ++ l) (f ∙ ap (λ (j : ℕ). drop j T₀) (n ∙ sym (targets_length js)));
      in_rates = sym (take-append-drop m P) ∙ ap (λ (l : List Float). l ++ drop m P) p ∙ ap (λ (l : List Float). rates js ++ l) (g ∙ ap (λ (j : ℕ). drop j P₀) (n ∙ sym (rates_length js)));
    }

-- none
pub laid_none : (T : List ℕ) (P : List Float) → LaidJumps [] 0 T P T P
laid_none T P = record { count = refl; in_targets = refl; in_rates = refl }

-- the same jumps
pub laid_same : {js ks : List Jump} {m : ℕ} {T₀ : List ℕ} {P₀ : List Float} {T : List ℕ} {P : List Float} → js ≡ ks → LaidJumps js m T₀ P₀ T P → LaidJumps ks m T₀ P₀ T P
laid_same {js} {ks} {m} {T₀} {P₀} {T} {P} e L = record { count = L.count ∙ ap length e; in_targets = L.in_targets ∙ ap (λ (l : List Jump). over (targets l) T₀) e; in_rates = L.in_rates ∙ ap (λ (l : List Jump). over (rates l) P₀) e }

-- ---- one more

module _ (t : ℕ) (w : Float) (m : ℕ) {r : ℕ} {T : List ℕ} {P : List Float} {T' : List ℕ} {P' : List Float} (N : LaidJumps (add_rate t w (jumps_of (take m T) (take m P))) r T P T' P') where
  -- at most one more
  pub laid_grown : m ≤ length T → m ≤ length P → (m ≤ r) × (r ≤ m + 1)
  laid_grown h k =
      let a = length-take-le m T h in
      let b = length-take-le m P k in
      let n : length (jumps_of (take m T) (take m P)) ≡ m = jumps_length (take m T) (take m P) (a ∙ sym b) ∙ a in
      let (x, y) = grown t w (jumps_of (take m T) (take m P)) in
      let c = N.count in
      (omega arith, omega arith)

  -- among jumps that are laid out over the front of other lists
  pub laid_more : {js : List Jump} {T₀ : List ℕ} {P₀ : List Float} → LaidJumps js m T₀ P₀ T P → LaidJumps (add_rate t w js) r T₀ P₀ T' P'
  laid_more {js} {T₀} {P₀} L =
      let M = laid_same (ap (add_rate t w) (laid_jumps L)) N in
      let (x, y) = grown t w js in
      let a = targets_length js in
      let b = rates_length js in
      let c = targets_length (add_rate t w js) in
      let d = rates_length (add_rate t w js) in
      record {
        count = M.count;
        in_targets = M.in_targets ∙ ap (over (targets (add_rate t w js))) L.in_targets ∙ over_over (targets js) (targets (add_rate t w js)) T₀ (omega arith);
        in_rates = M.in_rates ∙ ap (over (rates (add_rate t w js))) L.in_rates ∙ over_over (rates js) (rates (add_rate t w js)) P₀ (omega arith);
      }
