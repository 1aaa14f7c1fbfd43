-- The edges that two columns store, one by one: how many, and what stands at each place.
use mathlib.Core.Path.{◌≡◌, refl, sym, subst, ap, ◌∙◌}
use mathlib.Core.Logic.{◌⊎◌, inl, inr, ◌≢◌}
use Prim.Native.Nat.{ℕ, zero, suc, ◌<◌}
use mathlib.Core.List.{List, [], ◌∷◌, ◌++◌, map}
use native.Mathlib.Omega.{arith}
use lib.Ieee.{Float, nan}
use lib.ListN.{length, get_or, length-append, length-map, get_or-append, get_or-map}
use lib.Seq.{get_or-append_seam}
use Rattle.bisim_core.specs.Data.{Edge}
use Rattle.build_theory.proofs.Steps.{edge_in, first_edges}
use Rattle.numbers.proofs.Bools.{eq_or_ne}

pub edges_length : (T : List ℕ) (U : List Float) (m : ℕ) → length (first_edges T U m) ≡ m
unfolding first_edges
edges_length T U zero = refl
edges_length T U (suc m) = length-append (first_edges T U m) (edge_in (get_or T m 0) (get_or U m nan) ∷ []) ∙ (let e = edges_length T U m in omega arith)

pub edges_at : (T : List ℕ) (U : List Float) (m j : ℕ) (d : Edge) → j < m → get_or (first_edges T U m) j d ≡ edge_in (get_or T j 0) (get_or U j nan)
unfolding first_edges
edges_at T U zero j d h = absurd (omega arith)
edges_at T U (suc m) j d h = pick (λ l. edges_at T U m j d l) (eq_or_ne j m)
  where
    a : Edge
    a = edge_in (get_or T m 0) (get_or U m nan)

    pick : (j < m → get_or (first_edges T U m) j d ≡ edge_in (get_or T j 0) (get_or U j nan)) → (j ≡ m) ⊎ (j ≢ m)
        → get_or (first_edges T U m ++ (a ∷ [])) j d ≡ edge_in (get_or T j 0) (get_or U j nan)
    pick ih (inl e) = subst (λ (x : ℕ). get_or (first_edges T U m ++ (a ∷ [])) x d ≡ edge_in (get_or T x 0) (get_or U x nan)) (sym e)
        (subst (λ (x : ℕ). get_or (first_edges T U m ++ (a ∷ [])) x d ≡ a) (edges_length T U m)
        (get_or-append_seam (first_edges T U m) a [] d))
    pick ih (inr e) = get_or-append (first_edges T U m) (a ∷ []) d j (let l = edges_length T U m in omega arith) ∙ ih (omega arith)

module _ {A : Type 0} (f : Edge → A) (T : List ℕ) (U : List Float) (m : ℕ) where
  pub column_length : length (map f (first_edges T U m)) ≡ m
  column_length = length-map (first_edges T U m) f ∙ edges_length T U m

  pub column_at : (j : ℕ) → j < m → f (edge_in (get_or T j 0) (get_or U j nan)) ≡ get_or (map f (first_edges T U m)) j (f (edge_in 0 nan))
  column_at j h = sym (get_or-map f (first_edges T U m) j (edge_in 0 nan) ∙ ap f (edges_at T U m j (edge_in 0 nan) h))
