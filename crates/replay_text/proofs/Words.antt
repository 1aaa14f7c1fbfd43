-- A word as it is found, and digits, one by one.
use Rattle.std.proofs.Common.{◌≡◌, refl, ap, sym, ◌∙◌, ℕ, zero, suc, set, min, ◌++◌, ◌+◌, ◌-◌, ◌<◌, ◌≤◌, get_or, List, [], ◌∷◌, length, take, drop, Option, Some, None, unwrap_or, cond, not, ltb}
use Rattle.std.proofs.lemmas.List.{drop_more, length-take, append-nil}
use lib.ListN.{drop_of_length-le}
use lib.Seq.{take-length, drop-length, take-append_seam}
use native.Mathlib.Nat.{le_of_suc-le-suc, not-suc-le-zero}
use native.Mathlib.Numerals.{add-one}
use Rattle.std.specs.Prelude.{IfSome, IfNone}
use Rattle.std.specs.List.{position_or_len}
use Rattle.std.proofs.lemmas.List.Sums.{prefix_len-le-length}
use native.Mathlib.Omega.{arith}
use Rattle.replay_text.specs.Words.{in_word, word_size, digit_of, grown, digits_from, next_digits_from}
use Rattle.replay_text.specs.Words.{values, behind, past_whole, next_short, next_field_size, next_listed, past_next_list, room_left, within_at, list_within}
use Rattle.numbers.proofs.Over.{over, over_next}
use Rattle.replay_text.proofs.Cuts.{placed}

pub digits_stop : (base : ℕ) (l : List ℕ) → digits_from base None l ≡ None
unfolding digits_from
digits_stop base [] = refl
digits_stop base (b ∷ l) = digits_stop base l

pub digits_next : (base : ℕ) (x y : Option ℕ) (l : List ℕ) (i : ℕ) → i < length l → y ≡ grown base x (digit_of base (get_or l i 0)) → digits_from base y (drop (i + 1) l) ≡ digits_from base x (drop i l)
unfolding digits_from
digits_next base x y l i h e = ap (λ (o : Option ℕ). digits_from base o (drop (i + 1) l)) e ∙ sym (ap (digits_from base x) (drop_more l i 0 h))

pub digits_end : (base : ℕ) (x : Option ℕ) (l : List ℕ) (i : ℕ) → length l ≤ i → digits_from base x (drop i l) ≡ x
unfolding digits_from
digits_end base x l i h = ap (digits_from base x) (drop_of_length-le l h)

-- the same where a number begins anew behind what is no digit
pub next_digits_on : (base x y : ℕ) (o : Option ℕ) (l : List ℕ) (i : ℕ) → i < length l → o ≡ grown base (Some x) (digit_of base (get_or l i 0)) → IfSome o (λ z. y ≡ z) → IfNone o (y ≡ 0) → next_digits_from base y (drop (i + 1) l) ≡ next_digits_from base x (drop i l)
unfolding next_digits_from
next_digits_on base x y o l i h e some none =
    ap (λ (z : ℕ). next_digits_from base z (drop (i + 1) l)) (found o some none ∙ ap (λ (p : Option ℕ). unwrap_or p 0) e) ∙ sym (ap (next_digits_from base x) (drop_more l i 0 h))
  where
    found : (p : Option ℕ) → IfSome p (λ z. y ≡ z) → IfNone p (y ≡ 0) → y ≡ unwrap_or p 0
    found (Some z) f g = f
    found None f g = g

pub next_digits_end : (base x : ℕ) (l : List ℕ) (i : ℕ) → length l ≤ i → next_digits_from base x (drop i l) ≡ x
unfolding next_digits_from
next_digits_end base x l i h = ap (next_digits_from base x) (drop_of_length-le l h)

-- what `position` of the first byte that is in no word leads to
module _ (t : List ℕ) where
  abbrev end : ℕ
  end = position_or_len (λ b. not (in_word b)) (take 32 t)

  pub word_found : (l : List ℕ) (r : Option ℕ) (n : ℕ) → l ≡ take 32 t → n ≡ unwrap_or r (length l) → r ≡ cond (ltb end (length (take 32 t))) (Some end) None → n ≡ word_size t
  unfolding word_size
  word_found l r n e u p = u ∙ ap (λ (m : List ℕ). unwrap_or r (length m)) e ∙ ap (λ (o : Option ℕ). unwrap_or o (length (take 32 t))) p ∙ placed _ _ _ (prefix_len-le-length _ (take 32 t)) refl

  pub word_within : word_size t ≤ length t
  unfolding word_size
  word_within = let h = prefix_len-le-length (λ b. not (not (in_word b))) (take 32 t) in let k = length-take 32 t in grind (arith, h, k)

-- values one by one, and what stands behind them
pub behind_next : (next : List ℕ → List ℕ) (i : ℕ) (t u v : List ℕ) → u ≡ behind next i t → v ≡ next u → v ≡ behind next (i + 1) t
unfolding behind
behind_next next i t u v e f = f ∙ ap next e ∙ step i t ∙ ap (λ (k : ℕ). behind next k t) (sym (add-one i))
  where
    step : (k : ℕ) (w : List ℕ) → next (behind next k w) ≡ behind next (suc k) w
    step zero w = refl
    step (suc k) w = step k (next w)

module _ {A : Type 0} (value : List ℕ → A) (next : List ℕ → List ℕ) where
  pub values_length : (n : ℕ) (t : List ℕ) → length (values value next n t) ≡ n
  unfolding values
  values_length zero t = refl
  values_length (suc n) t = ap suc (values_length n (next t))

  value_at : (n i : ℕ) (t : List ℕ) (z : A) → i < n → get_or (values value next n t) i z ≡ value (behind next i t)
  unfolding values behind
  value_at zero i t z h = absurd (not-suc-le-zero h)
  value_at (suc n) zero t z h = refl
  value_at (suc n) (suc i) t z h = value_at n i (next t) z (le_of_suc-le-suc h)

  pub value_next : (t u : List ℕ) (d out : List A) (i : ℕ) (x : A) → out ≡ over (values value next (length d) t) i d → u ≡ behind next i t → x ≡ value u → i < length d → set out i x ≡ over (values value next (length d) t) (i + 1) d
  value_next t u d out i x e f v h =
      over_next (values value next (length d) t) d out i x x e (v ∙ ap value f ∙ sym (value_at (length d) i t x h)) (omega (arith, h, values_length (length d) t)) h

  pub values_done : (t : List ℕ) (d out : List A) (i : ℕ) → out ≡ over (values value next (length d) t) i d → i ≡ length d → out ≡ values value next (length d) t
  values_done t d out i e f =
      let l = values value next (length d) t in
      e ∙ ap (λ (k : ℕ). over l k d) f ∙ ap (λ (r : List A). take (length d) l ++ r) (drop-length d) ∙ append-nil _ ∙ ap (λ (k : ℕ). take k l) (sym (values_length (length d) t)) ∙ take-length l

-- the front that a list was written over
pub take_front : {A : Type 0} (n : ℕ) (l d : List A) → length l ≡ n → take n (l ++ d) ≡ l
take_front {A} n l d e = ap (λ (k : ℕ). take k (l ++ d)) (sym e) ∙ take-append_seam l d

-- columns that share room, one by one
pub first_within : (room : ℕ) (t u : List ℕ) → u ≡ t → (room ≡ room_left 0 room t) × (u ≡ within_at 0 room t)
unfolding room_left within_at
first_within room t u e = (refl, e)

pub next_within : (k room left last : ℕ) (t u v : List ℕ) → left ≡ room_left k room t → u ≡ within_at k room t → last ≡ left - next_field_size (min left 2112) u → v ≡ past_next_list past_whole (min left 2112) u
    → (last ≡ room_left (suc k) room t) × (v ≡ within_at (suc k) room t)
unfolding room_left within_at
next_within zero room left last t u v e f l p =
    (l ∙ ap (λ (m : ℕ). m - next_field_size (min m 2112) u) e ∙ ap (λ (w : List ℕ). room - next_field_size (min room 2112) w) f, p ∙ ap (λ (m : ℕ). past_next_list past_whole (min m 2112) u) e ∙ ap (past_next_list past_whole (min room 2112)) f)
next_within (suc k) room left last t u v e f l p = next_within k (room - next_field_size (min room 2112) t) left last (past_next_list past_whole (min room 2112) t) u v e f l p

pub same_within : (k room left : ℕ) (t u : List ℕ) → left ≡ room_left k room t → u ≡ within_at k room t → next_listed next_short past_whole (min left 2112) u ≡ list_within k room t
same_within k room left t u e f = ap (λ (m : ℕ). next_listed next_short past_whole (min m 2112) u) e ∙ ap (next_listed next_short past_whole (min (room_left k room t) 2112)) f
