-- What `position` finds, where cases begin, and the lines of a case, one by one.
use Rattle.std.proofs.Common.{◌≡◌, refl, ap, sym, ◌∙◌, Bool, ℕ, zero, suc, ◌<◌, ◌≤◌, ◌+◌, ◌-◌, ◌++◌, List, [], ◌∷◌, length, take, drop, Option, Some, None, unwrap_or, cond, eqb, ltb, true, false}
use mathlib.Core.Logic.{◌⊎◌, inl, inr}
use native.Mathlib.Omega.{arith}
use borrow.Author.Tests.{lt-ltb, le-ltb}
use Rattle.std.specs.List.{position_or_len, range_with_len}
use Rattle.std.proofs.lemmas.List.{append_assoc, append-nil, length-append}
use Rattle.std.proofs.lemmas.List.FromFn.{length-range_with_len}
use Rattle.std.proofs.lemmas.List.Sums.{prefix_len-le-length}
use Rattle.numbers.proofs.Bools.{lt_or_ge}
use Rattle.replay_text.specs.Cases.{empty_at, first_case, starts, starts_from, in_line, line_size, past_line, past_lines}

pub placed : (i m n : ℕ) → i ≤ m → m ≡ n → unwrap_or (cond (ltb i m) (Some i) None) n ≡ i
placed i m n h e = pick (lt_or_ge i m)
  where
    pick : (i < m) ⊎ (m ≤ i) → unwrap_or (cond (ltb i m) (Some i) None) n ≡ i
    pick (inl p) = rw (lt-ltb i m p) refl
    pick (inr p) = rw (le-ltb i m p) (omega arith)

-- ---- cases cut out beforehand

pub first_found : (t : List ℕ) (r : Option ℕ) (end : ℕ) → end ≡ unwrap_or r (length t) → r ≡ cond (ltb (position_or_len (empty_at t) (range_with_len 0 (length t))) (length (range_with_len 0 (length t)))) (Some (position_or_len (empty_at t) (range_with_len 0 (length t)))) None → end ≡ first_case t
unfolding first_case
first_found t r end u p = u ∙ ap (λ (o : Option ℕ). unwrap_or o (length t)) p ∙ placed _ _ (length t) (prefix_len-le-length _ (range_with_len 0 (length t))) (length-range_with_len 0 (length t))

-- one case more
pub one_more : (t l u : List ℕ) (at size next : ℕ) → length l ≤ at → at < length t → u ≡ l ++ at ∷ [] → size ≡ first_case (drop at t) → next ≡ at + (size + 1)
    → (length u ≤ next) × (u ++ starts_from (length t - length u) next t ≡ l ++ starts_from (length t - length l) at t)
unfolding starts_from
one_more t l u at size next a h e f g = (omega (arith, a, g, k), turn (length t - length u) (length t - length l) (omega (arith, a, h, k)))
  where
    k : length u ≡ length l + 1
    k = ap length e ∙ length-append l (at ∷ [])

    turn : (m n : ℕ) → n ≡ suc m → u ++ starts_from m next t ≡ l ++ starts_from n at t
    turn m n p =
        let here : next ≡ at + first_case (drop at t) + 1 = omega (arith, f, g) in
        rw (p, lt-ltb at (length t) h) (ap (λ (v : List ℕ). v ++ starts_from m next t) e ∙ append_assoc l (at ∷ []) _ ∙ ap (λ (x : ℕ). l ++ at ∷ starts_from m x t) here)

pub no_more : (t l : List ℕ) (n at : ℕ) → length t ≤ at → l ++ starts_from n at t ≡ starts t → l ≡ starts t
unfolding starts_from
no_more t l n at h e = sym (append-nil l) ∙ ap (λ (v : List ℕ). l ++ v) (sym (none n)) ∙ e
  where
    none : (k : ℕ) → starts_from k at t ≡ []
    none zero = refl
    none (suc k) = rw (le-ltb at (length t) h) refl

-- ---- cases one behind the other

-- what `position` of the first byte that passes a test leads to
pub first_place : (test : ℕ → Bool) (w : List ℕ) (r : Option ℕ) (n : ℕ) → n ≡ unwrap_or r (length w) → r ≡ cond (ltb (position_or_len test w) (length w)) (Some (position_or_len test w)) None → n ≡ position_or_len test w
first_place test w r n u p = u ∙ ap (λ (o : Option ℕ). unwrap_or o (length w)) p ∙ placed _ _ _ (prefix_len-le-length _ w) refl

pub line_found : (t l : List ℕ) (r : Option ℕ) (n : ℕ) → l ≡ take 1000000 t → n ≡ unwrap_or r (length l) → r ≡ cond (ltb (position_or_len (λ b. eqb b 10) (take 1000000 t)) (length (take 1000000 t))) (Some (position_or_len (λ b. eqb b 10) (take 1000000 t))) None → n ≡ line_size t
unfolding line_size
line_found t l r n e u p = first_place (λ b. eqb b 10) (take 1000000 t) r n (u ∙ ap (λ (m : List ℕ). unwrap_or r (length m)) e) p

-- one line more, and no more
pub one_line : (m n : ℕ) (t u : List ℕ) → m ≡ suc n → in_line t ≡ true → u ≡ past_line t → past_lines n u ≡ past_lines m t
unfolding past_lines
one_line m n t u e h f = rw (e, h) (ap (past_lines n) f)

pub no_line : (m : ℕ) (t : List ℕ) → in_line t ≡ false → past_lines m t ≡ t
unfolding past_lines
no_line zero t h = refl
no_line (suc n) t h = rw h refl

pub last_line : (m : ℕ) (t : List ℕ) → m ≡ 0 → past_lines m t ≡ t
unfolding past_lines
last_line m t e = rw e refl
