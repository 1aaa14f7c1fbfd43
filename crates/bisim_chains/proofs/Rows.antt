-- The rows of a chain that is made of an accepted model: at most 32 entries, to states of the model.
use mathlib.Core.Path.{◌≡◌, refl, ap, subst, subst⁻¹, ◌∙◌}
use mathlib.Core.Bool.{Bool, true, false, not, ◌&&◌}
use mathlib.Core.Logic.{inl, inr}
use Prim.Native.Nat.{ℕ, ◌+◌, ◌≤◌, ◌<◌}
use mathlib.Core.List.{List, [], ◌∷◌, map}
use native.Mathlib.Omega.{arith}
use lib.Dec.{eqb}
use lib.Ieee.{Float, lt}
use lib.ListN.{length, get_or, take}
use Rattle.numbers.specs.Lists.{In, over}
use Rattle.numbers.specs.Real.{margin}
use Rattle.bisim_core.specs.Data.{Edge, Columns}
use Rattle.bisim_core.specs.Ids.{distinct}
use Rattle.bisim_core.specs.Edges.{chosen, others}
use Rattle.bisim_core.specs.declared.wlts.Shape.{Shape}
use Rattle.bisim_core.specs.Model.{row, model}
use Rattle.bisim_core.proofs.Accepted.{Accepted}
use Rattle.epsdelta_theory.specs.Jumps.{Jump, jumps_of, targets, rates, add_rate, add_edges}
use Rattle.epsdelta_theory.proofs.Targets.{From, edges_few}
use Rattle.epsdelta_theory.proofs.Rows.{EdgesOf, model_length, model_at, row_edges}
use Rattle.epsdelta_theory.proofs.RowsIn.{LaidJumps}
use Rattle.parts.proofs.Laid.{laid_jumps, laid_grown, targets_length, rates_length}
use Rattle.chain_theory.specs.Chain.{exit_rate, stay, staying, divided_edge, chain_row, chain_rows}
use Rattle.chain_theory.proofs.Chains.{rows_length, rows_at}
use Rattle.distance_theory.proofs.Made.{Aims, row_inside}
use Rattle.bisim_chains.proofs.Making.{over_long}

-- ---- one more rate is at most one more entry

rate_grows : (t : ℕ) (w : Float) (js : List Jump) → length (add_rate t w js) ≤ length js + 1
rate_grows t w js =
    let m = length js in
    let T = over (targets js) [] in
    let P = over (rates js) [] in
    let ks = add_rate t w (jumps_of (take m T) (take m P)) in
    let L : LaidJumps js m [] [] T P = record { count = refl; in_targets = refl; in_rates = refl } in
    let N : LaidJumps ks (length ks) T P (over (targets ks) T) (over (rates ks) P) = record { count = refl; in_targets = refl; in_rates = refl } in
    let a = over_long (targets js) [] in
    let b = over_long (rates js) [] in
    let c = targets_length js in
    let d = rates_length js in
    let (x, y) = laid_grown t w m N (omega arith) (omega arith) in
    subst (λ (l : List Jump). length (add_rate t w l) ≤ m + 1) (laid_jumps L) y

-- ---- edges with their weights divided

module _ (q : Float) where
  others_same : (s : ℕ) (es : List Edge) → others s (map (divided_edge q) es) ≡ others s es
  unfolding others
  others_same s [] = refl
  others_same s (e ∷ es) = ap (chosen (eqb e.source s && not (eqb e.target s)) e.target) (others_same s es)

  divided_from : (s n : ℕ) (es : List Edge) → EdgesOf s n es → From s (map (divided_edge q) es)
  divided_from s n [] f = tt
  divided_from s n (e ∷ es) (f, fs) = (f.source, divided_from s n es fs)

  pub row_few : (s n : ℕ) (es : List Edge) → EdgesOf s n es → length (distinct (others s es)) ≤ 31 → length (chain_row q s es) ≤ 32
  unfolding chain_row
  row_few s n es f h = pick (lt margin (stay q (exit_rate es)))
    where
      few : length (add_edges 0 (map (divided_edge q) es) []) ≤ 31
      few =
          let a = edges_few 0 s (map (divided_edge q) es) (divided_from s n es f) in
          let b = ap (λ (l : List ℕ). length (distinct l)) (others_same s es) in
          omega arith

      pick : (b : Bool) → length (staying b s (stay q (exit_rate es)) (add_edges 0 (map (divided_edge q) es) [])) ≤ 32
      pick true = let a = rate_grows s (stay q (exit_rate es)) (add_edges 0 (map (divided_edge q) es) []) in let b = few in omega arith
      pick false = let b = few in omega arith

aims : (s n : ℕ) (es : List Edge) → EdgesOf s n es → Aims n es
aims s n [] f e i = absurd i
aims s n (d ∷ es) (f, fs) e (inl p) = subst⁻¹ (λ (x : Edge). x.target < n) p f.target
aims s n (d ∷ es) (f, fs) e (inr i) = aims s n es fs e i

-- ---- the rows of the chain of an accepted model

pub record Slender (n : ℕ) (es : List Jump) : Type 0 where
  pub few : length es ≤ 32
  pub low : (y : ℕ) → In y (targets es) → y < n

pub rows_slender : {S : Shape} {M : Columns} → Accepted S M → (q : Float) (s : ℕ) → s < length (chain_rows q 0 (model S M)) → Slender (length (chain_rows q 0 (model S M))) (get_or (chain_rows q 0 (model S M)) s [])
rows_slender {S} {M} A q s h =
    let l = rows_length q 0 (model S M) in
    let k = model_length S M in
    let f : EdgesOf s S.states (row M s) = row_edges A s (omega arith) in
    let e : get_or (chain_rows q 0 (model S M)) s [] ≡ chain_row q s (row M s) = rows_at q (model S M) s (omega arith) ∙ ap (chain_row q s) (model_at S M s (omega arith)) in
    subst⁻¹ (Slender (length (chain_rows q 0 (model S M)))) e (record {
      few = row_few q s S.states (row M s) f (A.others_few s (omega arith));
      low = λ y i. let g = row_inside q S.states s y (row M s) (omega arith) (aims s S.states (row M s) f) i in omega arith;
    })
