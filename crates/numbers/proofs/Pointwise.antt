-- Lists by what stands at each place.
use mathlib.Core.Path.{◌≡◌, sym, subst, ◌∙◌}
use mathlib.Core.Logic.{◌⊎◌, inl, inr, ◌≢◌}
use Prim.Native.Nat.{ℕ, ◌+◌, ◌≤◌, ◌<◌}
use mathlib.Core.List.{List}
use native.Mathlib.Omega.{arith}
use lib.ListN.{length, get_or, set}
use lib.Seq.{get_or-set_same, get_or-set_other}
use Rattle.numbers.proofs.Bools.{eq_or_ne}

-- entries 0 to i - 1 are f's, and now entry i too
pub upto_next : (f : ℕ → ℕ) (l : List ℕ) (i x : ℕ) → i < length l → x ≡ f i → ((j : ℕ) → j < i → get_or l j 0 ≡ f j) → (j : ℕ) → j < i + 1 → get_or (set l i x) j 0 ≡ f j
upto_next f l i x h e all j k = pick (eq_or_ne j i)
  where
    pick : (j ≡ i) ⊎ (j ≢ i) → get_or (set l i x) j 0 ≡ f j
    pick (inl p) = subst (λ (m : ℕ). get_or (set l i x) m 0 ≡ f m) (sym p) (get_or-set_same l i x 0 h ∙ e)
    pick (inr p) = get_or-set_other l i j x 0 p ∙ all j (omega arith)

-- entries p to k - 1 are below the bound, and now entry k too
pub span_next : (l : List ℕ) (p bound k : ℕ) → get_or l k 0 < bound → ((j : ℕ) → p ≤ j → j < k → get_or l j 0 < bound) → (j : ℕ) → p ≤ j → j < k + 1 → get_or l j 0 < bound
span_next l p bound k e all j h i = pick (eq_or_ne j k)
  where
    pick : (j ≡ k) ⊎ (j ≢ k) → get_or l j 0 < bound
    pick (inl z) = subst (λ (x : ℕ). get_or l x 0 < bound) (sym z) e
    pick (inr z) = all j h (omega arith)
