-- Strikes of states as the words that the theory speaks of.
use mathlib.Core.Path.{◌≡◌, refl, sym, ap, ◌∙◌}
use mathlib.Core.Bool.{Bool, cond}
use mathlib.Core.List.{List, [], ◌∷◌}
use Prim.Native.Nat.{ℕ, zero, suc, ◌+◌, ◌*◌, ◌<◌}
use native.Mathlib.Omega.{arith}
use lib.Bits.{bit_or}
use lib.ListN.{length, get_or, set, length-set}
use Rattle.epsdelta_theory.proofs.Unchanged.{mark, marked, noted}
use Rattle.epsdelta_sweeps.specs.Place.{none, words}
use Rattle.epsdelta_sweeps.specs.declared.changes.Strikes.{Strikes}

pub words_length : (n : ℕ) (l : List Strikes) (b : Bool) → length l ≡ n → length (words n l b) ≡ 2 * n + 1
unfolding words
words_length zero [] b h = refl
words_length zero (x ∷ l) b h = absurd (omega arith)
words_length (suc n) [] b h = absurd (omega arith)
words_length (suc n) (x ∷ l) b h = let e = words_length n l b (omega arith) in omega arith

pub words_long : (n : ℕ) (l : List Strikes) (b : Bool) → 2 * n < length (words n l b) → length l ≡ n
unfolding words
words_long zero [] b h = refl
words_long zero (x ∷ l) b h = absurd (omega arith)
words_long (suc n) [] b h = absurd (omega arith)
words_long (suc n) (x ∷ l) b h = let e = words_long n l b (omega arith) in omega arith

pub recent_at : (n : ℕ) (l : List Strikes) (b : Bool) (u : ℕ) → u < n → length l ≡ n → get_or (words n l b) (2 * u) 0 ≡ (get_or l u none).recent
unfolding words
recent_at zero l b u h k = absurd (omega arith)
recent_at (suc n) [] b u h k = absurd (omega arith)
recent_at (suc n) (x ∷ l) b zero h k = refl
recent_at (suc n) (x ∷ l) b (suc u) h k =
    let e : 2 * suc u ≡ suc (suc (2 * u)) = omega arith in
    ap (λ (i : ℕ). get_or (x.recent ∷ x.before ∷ words n l b) i 0) e ∙ recent_at n l b u (omega arith) (omega arith)

pub before_at : (n : ℕ) (l : List Strikes) (b : Bool) (u : ℕ) → u < n → length l ≡ n → get_or (words n l b) (2 * u + 1) 0 ≡ (get_or l u none).before
unfolding words
before_at zero l b u h k = absurd (omega arith)
before_at (suc n) [] b u h k = absurd (omega arith)
before_at (suc n) (x ∷ l) b zero h k = refl
before_at (suc n) (x ∷ l) b (suc u) h k =
    let e : 2 * suc u + 1 ≡ suc (suc (2 * u + 1)) = omega arith in
    ap (λ (i : ℕ). get_or (x.recent ∷ x.before ∷ words n l b) i 0) e ∙ before_at n l b u (omega arith) (omega arith)

pub again_at : (n : ℕ) (l : List Strikes) (b : Bool) → length l ≡ n → get_or (words n l b) (2 * n) 0 ≡ cond b 1 0
unfolding words
again_at zero [] b k = refl
again_at zero (x ∷ l) b k = absurd (omega arith)
again_at (suc n) [] b k = absurd (omega arith)
again_at (suc n) (x ∷ l) b k =
    let e : 2 * suc n ≡ suc (suc (2 * n)) = omega arith in
    ap (λ (i : ℕ). get_or (x.recent ∷ x.before ∷ words n l b) i 0) e ∙ again_at n l b (omega arith)

set_recent : (n : ℕ) (l : List Strikes) (b : Bool) (u y : ℕ) → u < n → length l ≡ n → set (words n l b) (2 * u) y ≡ words n (set l u (record { recent = y; before = (get_or l u none).before })) b
unfolding words
set_recent zero l b u y h k = absurd (omega arith)
set_recent (suc n) [] b u y h k = absurd (omega arith)
set_recent (suc n) (x ∷ l) b zero y h k = refl
set_recent (suc n) (x ∷ l) b (suc u) y h k =
    let e : 2 * suc u ≡ suc (suc (2 * u)) = omega arith in
    ap (λ (i : ℕ). set (x.recent ∷ x.before ∷ words n l b) i y) e ∙ ap (λ (w : List ℕ). x.recent ∷ x.before ∷ w) (set_recent n l b u y (omega arith) (omega arith))

-- v marked among the strikes of u
abbrev pub struck_with : List Strikes → ℕ → ℕ → List Strikes
struck_with l u v = set l u (record { recent = bit_or (get_or l u none).recent (mark v); before = (get_or l u none).before })

marked_words : (n : ℕ) (l : List Strikes) (b : Bool) (u v : ℕ) → u < n → length l ≡ n → words n (struck_with l u v) b ≡ marked (words n l b) (2 * u) v
marked_words n l b u v h k =
    sym (set_recent n l b u (bit_or (get_or l u none).recent (mark v)) h k)
    ∙ ap (λ (y : ℕ). set (words n l b) (2 * u) (bit_or y (mark v))) (sym (recent_at n l b u h k))

pub noted_words : (n : ℕ) (l : List Strikes) (b : Bool) (s t : ℕ) → s < n → t < n → length l ≡ n → words n (struck_with (struck_with l s t) t s) b ≡ noted (words n l b) s t
noted_words n l b s t i j k =
    let z = length-set l s (record { recent = bit_or (get_or l s none).recent (mark t); before = (get_or l s none).before }) in
    marked_words n (struck_with l s t) b t s j (omega arith) ∙ ap (λ (C : List ℕ). marked C (2 * t) s) (marked_words n l b s t i k)
