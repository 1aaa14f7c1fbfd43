-- Pairs of a relation: where each stands, and what clearing one leaves. An entry s * n + t has the quotient s and the remainder t by n, so no two pairs share one.
use mathlib.Core.Path.{◌≡◌, refl, sym, ap, ◌∙◌}
use Prim.Native.Nat.{ℕ, zero, suc, ◌≤◌, ◌<◌, ◌+◌, ◌*◌, ◌/◌, ◌%◌}
use mathlib.Core.Bool.{Bool, true, false, false≢true, true≢false}
use mathlib.Core.Logic.{◌≢◌, ◌⊎◌, inl, inr}
use mathlib.Core.List.{List, [], ◌∷◌}
use native.Mathlib.Omega.{arith}
use native.Mathlib.Nat.{mul-add-div_right, mul-add-mod_self_right, mod-eq_of_lt, div-eq_of_lt, mul-le-mul_right, suc-mul}
use lib.ListN.{length, get_or, set, length-set}
use lib.Seq.{get_or-set_other}
use Rattle.numbers.specs.Bits.{packed, bit_at, cleared}
use Rattle.numbers.proofs.Bools.{eq_or_ne}
use Rattle.numbers.proofs.Packed.{packed_bit, packed_clear}
use Rattle.epsdelta_theory.specs.Relation.{holds, clear}

-- ---- the entry of a pair

pub entry_div : (n s t : ℕ) → t < n → (s * n + t) / n ≡ s
entry_div n s t h = let p : 0 < n = omega arith in mul-add-div_right p s t ∙ rw (div-eq_of_lt h) (omega arith)

pub entry_mod : (n s t : ℕ) → t < n → (s * n + t) % n ≡ t
entry_mod n s t h = mul-add-mod_self_right s n t ∙ mod-eq_of_lt h

pub entry_in : (n s t : ℕ) → s < n → t < n → s * n + t < n * n
entry_in n s t h k = let m : suc s * n ≤ n * n = mul-le-mul_right n h in let e : suc s * n ≡ s * n + n = suc-mul s n in omega arith

pub same_entry : (n s t u v : ℕ) → t < n → v < n → s * n + t ≡ u * n + v → (s ≡ u) × (t ≡ v)
same_entry n s t u v h k e = (
  sym (entry_div n s t h) ∙ ap (λ (x : ℕ). x / n) e ∙ entry_div n u v k,
  sym (entry_mod n s t h) ∙ ap (λ (x : ℕ). x % n) e ∙ entry_mod n u v k,
)

-- ---- a list with one entry cleared

pub set_false : (l : List Bool) (i : ℕ) → get_or (set l i false) i false ≡ false
set_false [] i = refl
set_false (x ∷ l) zero = refl
set_false (x ∷ l) (suc i) = set_false l i

pub shrinks : (l : List Bool) (i j : ℕ) → get_or (set l i false) j false ≡ true → get_or l j false ≡ true
shrinks [] i j h = h
shrinks (x ∷ l) zero zero h = absurd (false≢true h)
shrinks (x ∷ l) zero (suc j) h = h
shrinks (x ∷ l) (suc i) zero h = h
shrinks (x ∷ l) (suc i) (suc j) h = shrinks l i j h

pub count : List Bool → ℕ
count [] = 0
count (true ∷ l) = suc (count l)
count (false ∷ l) = count l

pub count_le : (l : List Bool) → count l ≤ length l
unfolding count
count_le [] = omega arith
count_le (true ∷ l) = let h = count_le l in omega arith
count_le (false ∷ l) = let h = count_le l in omega arith

pub count_falls : (l : List Bool) (i : ℕ) → count (set l i false) ≤ count l
unfolding count
count_falls [] i = omega arith
count_falls (true ∷ l) zero = omega arith
count_falls (false ∷ l) zero = omega arith
count_falls (true ∷ l) (suc i) = let h = count_falls l i in omega arith
count_falls (false ∷ l) (suc i) = let h = count_falls l i in omega arith

pub count_one : (l : List Bool) (i : ℕ) → get_or l i false ≡ true → suc (count (set l i false)) ≡ count l
unfolding count
count_one [] i h = absurd (false≢true h)
count_one (true ∷ l) zero h = refl
count_one (false ∷ l) zero h = absurd (false≢true h)
count_one (true ∷ l) (suc i) h = ap suc (count_one l i h)
count_one (false ∷ l) (suc i) h = count_one l i h

-- ---- a pair cleared, both orders at once

module _ (n : ℕ) (R : List Bool) (s t : ℕ) where
  pub clear_length : length (clear n R s t) ≡ length R
  unfolding clear
  clear_length = simp length-set

  -- in bytes: the pair's bit, and the bits of both orders cleared
  pub packed_holds : bit_at (packed R) (s * n + t) ≡ holds n R s t
  unfolding holds
  packed_holds = packed_bit R (s * n + t)

  pub packed_cleared : cleared (cleared (packed R) (s * n + t)) (t * n + s) ≡ packed (clear n R s t)
  unfolding clear
  packed_cleared = ap (λ (b : List ℕ). cleared b (t * n + s)) (packed_clear R (s * n + t)) ∙ packed_clear (set R (s * n + t) false) (t * n + s)

  pub clear_within : (u v : ℕ) → holds n (clear n R s t) u v ≡ true → holds n R u v ≡ true
  unfolding clear holds
  clear_within u v h = shrinks R (s * n + t) (u * n + v) (shrinks (set R (s * n + t) false) (t * n + s) (u * n + v) h)

  pub clear_count : holds n R s t ≡ true → count (clear n R s t) < count R
  unfolding clear holds
  clear_count h =
      let a = count_one R (s * n + t) h in
      let b = count_falls (set R (s * n + t) false) (t * n + s) in omega arith

  -- the other pairs keep what they had
  pub clear_other : (u v : ℕ) → s < n → t < n → v < n → ((u ≡ s) → (v ≡ t) → ⊥) → ((u ≡ t) → (v ≡ s) → ⊥) → holds n (clear n R s t) u v ≡ holds n R u v
  unfolding clear holds
  clear_other u v hs ht hv a b =
      get_or-set_other (set R (s * n + t) false) (t * n + s) (u * n + v) false false (λ e. let q = same_entry n u v t s hv hs e in b q.0 q.1)
      ∙ get_or-set_other R (s * n + t) (u * n + v) false false (λ e. let q = same_entry n u v s t hv ht e in a q.0 q.1)

  pub clear_there : holds n (clear n R s t) s t ≡ false
  unfolding clear holds
  clear_there = pick (get_or (set (set R (s * n + t) false) (t * n + s) false) (s * n + t) false) refl
    where
      pick : (b : Bool) → get_or (set (set R (s * n + t) false) (t * n + s) false) (s * n + t) false ≡ b → get_or (set (set R (s * n + t) false) (t * n + s) false) (s * n + t) false ≡ false
      pick false e = e
      pick true e = absurd (true≢false (sym (shrinks (set R (s * n + t) false) (t * n + s) (s * n + t) e) ∙ set_false R (s * n + t)))

  pub clear_back : holds n (clear n R s t) t s ≡ false
  unfolding clear holds
  clear_back = set_false (set R (s * n + t) false) (t * n + s)

-- is (u, v) the pair (s, t)
pub pair_cases : (u v s t : ℕ) → ((u ≡ s) × (v ≡ t)) ⊎ ((u ≡ s) → (v ≡ t) → ⊥)
pair_cases u v s t = pick (eq_or_ne u s) (eq_or_ne v t)
  where
    pick : (u ≡ s) ⊎ (u ≢ s) → (v ≡ t) ⊎ (v ≢ t) → ((u ≡ s) × (v ≡ t)) ⊎ ((u ≡ s) → (v ≡ t) → ⊥)
    pick (inl p) (inl q) = inl (p, q)
    pick (inl p) (inr q) = inr (λ _ e. q e)
    pick (inr p) q = inr (λ e _. p e)
