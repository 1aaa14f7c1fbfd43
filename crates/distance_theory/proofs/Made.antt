-- A chain made of a model whose edges lead to its states has its targets among these.
use mathlib.Core.Path.{◌≡◌, refl, subst, subst⁻¹, ap}
use Prim.Native.Nat.{ℕ, suc, ◌<◌, ◌+◌}
use mathlib.Core.Bool.{Bool, true, false}
use mathlib.Core.Logic.{◌⊎◌, inl, inr}
use mathlib.Core.List.{List, [], ◌∷◌, map}
use native.Mathlib.Omega.{arith}
use lib.Ieee.{Float, lt}
use lib.ListN.{length, get_or}
use borrow.Author.Tests.{ne_eqb}
use Rattle.numbers.specs.Real.{margin}
use Rattle.numbers.specs.Lists.{In}
use Rattle.bisim_core.specs.Data.{Edge}
use Rattle.epsdelta_theory.specs.Jumps.{Jump, targets, add_rate, add_edge, add_edges}
use Rattle.epsdelta_theory.proofs.Targets.{EdgeTo, edges_only}
use Rattle.chain_theory.specs.Chain.{exit_rate, stay, staying, divided_edge, chain_row, uniformise}
use Rattle.chain_theory.proofs.Chains.{rows_at}
use Rattle.distance_theory.proofs.Crossings.{map_in}
use Rattle.distance_theory.proofs.Inside.{Below, Sound}

-- each edge leads to one of n states
abbrev pub Aims : ℕ → List Edge → Type 0
Aims n es = (e : Edge) → In e es → e.target < n

aimed : (q : Float) (n x : ℕ) (es : List Edge) → Aims n es → EdgeTo 0 x (map (divided_edge q) es) → x < n
aimed q n x (e ∷ es) a (inl (d, p)) = let h = a e (inl refl) in omega arith
aimed q n x (e ∷ es) a (inr m) = aimed q n x es (λ f i. a f (inr i)) m
aimed q n x [] a x3 = elim x3 [ ]

gathered : (q : Float) (n x : ℕ) (es : List Edge) → Aims n es → In x (targets (add_edges 0 (map (divided_edge q) es) [])) → x < n
gathered q n x es a i = pick (edges_only x 0 (map (divided_edge q) es) [] i)
  where
    pick : EdgeTo 0 x (map (divided_edge q) es) ⊎ In x [] → x < n
    pick (inl m) = aimed q n x es a m
    pick (inr x'') = elim x'' [ ]

-- an edge that leads to s from elsewhere adds a rate there
abbrev coming : ℕ → Float → Edge
coming s x = record { source = suc s; label = 0; target = s; weight = x }

rate_edge : (s : ℕ) (x : Float) (js : List Jump) → add_rate s x js ≡ add_edges 0 (coming s x ∷ []) js
unfolding add_edges add_edge
rate_edge s x js = rw (ne_eqb s (suc s) (λ e. omega arith)) (ap (λ (n : ℕ). add_rate n x js) (let z : s ≡ 0 + s = omega arith in z))

rate_only : (y s : ℕ) (x : Float) (js : List Jump) → In y (targets (add_rate s x js)) → (y ≡ s) ⊎ In y (targets js)
rate_only y s x js i = pick (edges_only y 0 (coming s x ∷ []) js (subst (λ (l : List Jump). In y (targets l)) (rate_edge s x js) i))
  where
    pick : EdgeTo 0 y (coming s x ∷ []) ⊎ In y (targets js) → (y ≡ s) ⊎ In y (targets js)
    pick (inl (inl (d, p))) = inl (omega arith)
    pick (inr m) = inr m
    pick (inl (inr x3)) = elim x3 [ ]

pub row_inside : (q : Float) (n s y : ℕ) (es : List Edge) → s < n → Aims n es → In y (targets (chain_row q s es)) → y < n
unfolding chain_row
row_inside q n s y es h a i = pick (lt margin (stay q (exit_rate es))) i
  where
    either : (y ≡ s) ⊎ In y (targets (add_edges 0 (map (divided_edge q) es) [])) → y < n
    either (inl e) = omega arith
    either (inr m) = gathered q n y es a m

    pick : (b : Bool) → In y (targets (staying b s (stay q (exit_rate es)) (add_edges 0 (map (divided_edge q) es) []))) → y < n
    pick true j = either (rate_only y s (stay q (exit_rate es)) (add_edges 0 (map (divided_edge q) es) []) j)
    pick false j = gathered q n y es a j

row_below : (q : Float) (n s : ℕ) (es : List Edge) → s < n → Aims n es → Below n (chain_row q s es)
row_below q n s es h a e i = row_inside q n s e.target es h a (map_in (λ (j : Jump). j.target) e (chain_row q s es) i)

pub uniformise_sound : (M : List (List Edge)) (q : Float) (seen : List Float) (s : ℕ) → s < length M → ((x : ℕ) → x < length M → Aims (length M) (get_or M x [])) → Sound (length M) (uniformise M q seen s)
unfolding uniformise
uniformise_sound M q seen s h a = record {
  initial = h;
  rows = λ x l. subst⁻¹ (Below (length M)) (rows_at q M x l) (row_below q (length M) x (get_or M x []) l (a x l));
}
