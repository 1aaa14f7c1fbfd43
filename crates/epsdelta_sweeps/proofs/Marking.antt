-- The marks as code makes them: entry s * n + t is of the states s and t, a byte of eight entries, and the bytes one after the other.
use mathlib.Core.Path.{◌≡◌, refl, sym, ap, subst, ◌∙◌}
use mathlib.Core.Logic.{◌≢◌, ◌⊎◌, inl, inr}
use Prim.Native.Nat.{ℕ, zero, suc, ◌+◌, ◌-◌, ◌*◌, ◌/◌, ◌^◌, ◌≤◌, ◌<◌, min, max}
use mathlib.Core.Bool.{Bool, true, false, not, ◌&&◌, true≢false}
use mathlib.Core.List.{List, [], ◌∷◌, ◌++◌, append-nil}
use native.Mathlib.Omega.{arith}
use native.Mathlib.Nat.{mul-le-mul_right, mul-le-mul_left, pow-succ', mul_assoc}
use lib.Dec.{eqb}
use lib.Ieee.{Float}
use lib.ListN.{length, get_or, set, take, drop, get_or-eq_default}
use lib.Pow.{pow_pos}
use lib.Seq.{get_or-take, get_or-drop, drop-length}
use mir.Val.{bool_byte}
use borrow.Author.Tests.{eq-eqb, ne_eqb}
use Rattle.std.specs.List.{list_any}
use Rattle.std.proofs.lemmas.List.{length-take, length-drop}
use Rattle.std.proofs.lemmas.List.Folds.{list_any_at}
use Rattle.numbers.specs.Bits.{bits, packed}
use Rattle.numbers.proofs.Bools.{one_if, lt_or_ge}
use Rattle.numbers.proofs.Over.{over, over_next, over_done}
use Rattle.numbers.proofs.Packed.{packed_at, packed_length}
use Rattle.epsdelta_theory.specs.Sweeps.{Task, marked, marks}
use Rattle.epsdelta_theory.specs.Relation.{relation_bytes, holds}
use Rattle.epsdelta_theory.proofs.Marks.{marks_length, marks_at}
use Rattle.epsdelta_theory.proofs.TasksIn.{marked_in, MarksIn}

-- ---- a pair

pub classes_differ : (a b : ℕ) (x : Bool) → a ≢ b → false ≡ (eqb a b && x)
classes_differ a b x h = ap (λ (y : Bool). y && x) (sym (ne_eqb a b h))

-- ---- an entry

pub square_low : (n : ℕ) → n ≤ 2000 → n * n ≤ 4000000
square_low n h = let a : n * n ≤ 2000 * n = mul-le-mul_right n h in omega arith

pub square_most : (l r : ℕ) → l ≤ 2000 → r ≤ 2000 → (l + r) * (l + r) ≤ 16000000
square_most l r h k = let s : l + r ≤ 4000 = omega arith in let a : (l + r) * (l + r) ≤ 4000 * (l + r) = mul-le-mul_right (l + r) s in omega arith

module _ (Q : Task) (n s t : ℕ) {C : List ℕ} {E : List Float} {ρ : Float} (M : MarksIn Q n C E ρ) where
  entries : length (marks Q) ≡ n * n
  entries = marks_length Q ∙ ap (λ (m : ℕ). m * m) M.states

  pub past_end_lem : n ≤ s → false ≡ get_or (marks Q) (s * n + t) false
  past_end_lem h = let e = entries in let a : n * n ≤ s * n = mul-le-mul_right n h in sym (get_or-eq_default (marks Q) false (omega arith))

  module _ (hs : s < n) (ht : t < n) where
    is : get_or (marks Q) (s * n + t) false ≡ marked Q (min s t) (max s t)
    unfolding holds
    is = ap (λ (m : ℕ). get_or (marks Q) (s * m + t) false) (sym M.states) ∙ marks_at Q s t (subst (λ (m : ℕ). s < m) (sym M.states) hs) (subst (λ (m : ℕ). t < m) (sym M.states) ht)

    -- by the pair's lower state and its higher one
    pub in_order : {r : Bool} → r ≡ marked_in C E ρ (min s t) (max s t) → r ≡ get_or (marks Q) (s * n + t) false
    in_order e = e ∙ M.mark (min s t) (max s t) (omega arith) (omega arith) ∙ sym is

    pub not_marked : get_or C s 0 ≢ get_or C t 0 → false ≡ get_or (marks Q) (s * n + t) false
    not_marked d = by_order (lt_or_ge s t)
      where
        by_order : (s < t) ⊎ (t ≤ s) → false ≡ get_or (marks Q) (s * n + t) false
        by_order (inl l) = let a : min s t ≡ s = omega arith in let b : max s t ≡ t = omega arith in in_order (rw (a, b) (classes_differ (get_or C s 0) (get_or C t 0) _ d))
        by_order (inr l) = let a : min s t ≡ t = omega arith in let b : max s t ≡ s = omega arith in in_order (rw (a, b) (classes_differ (get_or C t 0) (get_or C s 0) _ (λ e. d (sym e))))

-- there is a state if there is a byte
pub some : (n k : ℕ) → k < relation_bytes n → 0 < n
some zero k h = absurd (omega arith)
some (suc n) k h = omega arith

-- ---- a byte

none_left : (k : ℕ) (l : List Bool) → drop k (take k l) ≡ []
none_left zero l = refl
none_left (suc k) [] = refl
none_left (suc k) (b ∷ l) = none_left k l

-- no entry is read yet
pub byte_start : (first : ℕ) (R : List Bool) → 0 ≡ bits (drop 8 (take 8 (drop first R)))
byte_start first R = sym (ap bits (none_left 8 (drop first R)) ∙ unfold bits in refl)

bits_next : (l : List Bool) (j : ℕ) → bits (drop j l) ≡ one_if (get_or l j false) + 2 * bits (drop (suc j) l)
unfolding bits
bits_next [] zero = refl
bits_next [] (suc j) = refl
bits_next (true ∷ l) zero = refl
bits_next (false ∷ l) zero = omega arith
bits_next (b ∷ l) (suc j) = bits_next l j

-- entry j goes below those read, from i on
pub byte_next : (R : List Bool) (first i j byte : ℕ) → i ≡ suc j → j < 8 → byte ≡ bits (drop i (take 8 (drop first R)))
    → (b : Bool) → b ≡ get_or R (first + j) false → 2 * byte + one_if b ≡ bits (drop j (take 8 (drop first R)))
byte_next R first i j byte s k e b d =
    let l = take 8 (drop first R) in
    let g : get_or l j false ≡ b = get_or-take 8 (drop first R) j false k ∙ get_or-drop first R j false ∙ sym d in
    let n = bits_next l j in
    let m : bits (drop (suc j) l) ≡ byte = ap (λ (x : ℕ). bits (drop x l)) (sym s) ∙ sym e in
    let o : one_if (get_or l j false) ≡ one_if b = ap one_if g in
    omega arith

pub bit_as_number : (b : Bool) → bool_byte b ≡ one_if b
bit_as_number true = refl
bit_as_number false = refl

-- where there is none, the byte is 0
none_bits : (l : List Bool) → ((j : ℕ) → get_or l j false ≡ false) → 0 ≡ bits l
unfolding bits
none_bits [] f = refl
none_bits (true ∷ l) f = absurd (true≢false (f zero))
none_bits (false ∷ l) f = let e = none_bits l (λ j. f (suc j)) in omega arith

-- a class that is not among eight differs from each of them
pub not_among : (C : List ℕ) (x t : ℕ) {r : Bool} → r ≡ list_any (λ y. eqb y x) (take (t + 8 - t) (drop t C)) → not r ≡ true → t + 8 ≤ length C → (j : ℕ) → j < 8 → x ≢ get_or C (t + j) 0
not_among C x t {r} v e h j k q =
    let l = take (t + 8 - t) (drop t C) in
    let g : get_or l j 0 ≡ x = get_or-take (t + 8 - t) (drop t C) j 0 (omega arith) ∙ get_or-drop t C j 0 ∙ sym q in
    let z : j < length l = omega (arith, length-take (t + 8 - t) (drop t C), length-drop t C) in
    let f : r ≡ true = v ∙ list_any_at (λ y. eqb y x) l j 0 z (eq-eqb _ _ g) in
    absurd (true≢false (sym e ∙ ap not f))

-- eight entries of states whose classes differ
pub apart_byte : (Q : Task) (n s t : ℕ) {C : List ℕ} {E : List Float} {ρ : Float} → MarksIn Q n C E ρ → s < n → t + 8 ≤ n → ((j : ℕ) → j < 8 → get_or C s 0 ≢ get_or C (t + j) 0)
    → 0 ≡ bits (take 8 (drop (s * n + t) (marks Q)))
apart_byte Q n s t M hs ht f = none_bits (take 8 (drop (s * n + t) (marks Q))) (λ j. pick j (lt_or_ge j 8))
  where
    pick : (j : ℕ) → (j < 8) ⊎ (8 ≤ j) → get_or (take 8 (drop (s * n + t) (marks Q))) j false ≡ false
    pick j (inl l) =
        let i : s * n + (t + j) ≡ s * n + t + j = omega arith in
        get_or-take 8 (drop (s * n + t) (marks Q)) j false l ∙ get_or-drop (s * n + t) (marks Q) j false
        ∙ ap (λ (x : ℕ). get_or (marks Q) x false) (sym i) ∙ sym (not_marked Q n s (t + j) M hs (omega arith) (f j l))
    pick j (inr l) = get_or-eq_default (take 8 (drop (s * n + t) (marks Q))) false (omega (arith, length-take 8 (drop (s * n + t) (marks Q))))

-- a byte with i entries still to come has room for them
pub room_next : (i j byte : ℕ) → i ≡ suc j → (byte + 1) * 2 ^ i ≤ 256 → (2 * byte + 1 + 1) * 2 ^ j ≤ 256
room_next i j byte s r =
    let a : (byte + 1) * 2 ^ i ≡ (byte + 1) * 2 * 2 ^ j = ap (λ (x : ℕ). (byte + 1) * 2 ^ x) s ∙ ap (λ (x : ℕ). (byte + 1) * x) (pow-succ' 2 j) ∙ sym (mul_assoc (byte + 1) 2 (2 ^ j)) in
    let b : (byte + 1) * 2 ≡ 2 * byte + 1 + 1 = omega arith in
    subst (λ (x : ℕ). x * 2 ^ j ≤ 256) b (subst (λ (x : ℕ). x ≤ 256) a r)

pub room_bit : (i j byte : ℕ) (b : Bool) → i ≡ suc j → (byte + 1) * 2 ^ i ≤ 256 → (2 * byte + one_if b + 1) * 2 ^ j ≤ 256
room_bit i j byte true s r = room_next i j byte s r
room_bit i j byte false s r =
    let a = room_next i j byte s r in
    let b : (2 * byte + 0 + 1) * 2 ^ j ≤ (2 * byte + 1 + 1) * 2 ^ j = mul-le-mul_right (2 ^ j) (omega arith) in
    omega arith

pub room_low : (i j byte : ℕ) → i ≡ suc j → (byte + 1) * 2 ^ i ≤ 256 → 2 * byte + 1 ≤ 255
room_low i j byte s r =
    let a = room_next i j byte s r in
    let b : (2 * byte + 1 + 1) * 1 ≤ (2 * byte + 1 + 1) * 2 ^ j = mul-le-mul_left (2 * byte + 1 + 1) (pow_pos j) in
    omega arith

-- ---- the bytes

byte_is : (R : List Bool) (k : ℕ) → k < (length R + 7) / 8 → get_or (packed R) k 0 ≡ bits (take 8 (drop (8 * k) R))
byte_is R k h =
    let q : 8 * k / 8 ≡ k = omega arith in
    ap (λ (x : ℕ). get_or (packed R) x 0) (sym q) ∙ packed_at R (8 * k) (omega arith) ∙ ap (λ (x : ℕ). bits (take 8 (drop (8 * x) R))) q

module _ {Q : Task} {n : ℕ} {C : List ℕ} {E : List Float} {ρ : Float} (M : MarksIn Q n C E ρ) (d : List ℕ) (l : length d ≡ relation_bytes n) where
  bytes : length (packed (marks Q)) ≡ length d
  bytes = packed_length (marks Q) ∙ ap (λ (m : ℕ). (m + 7) / 8) (entries Q n 0 0 M) ∙ sym l

  pub bytes_next : (out : List ℕ) (k x : ℕ) → k < length d → out ≡ over (packed (marks Q)) k d → x ≡ bits (take 8 (drop (8 * k) (marks Q))) → set out k x ≡ over (packed (marks Q)) (k + 1) d
  bytes_next out k x h e v =
      let b = bytes in
      let a = packed_length (marks Q) in
      over_next (packed (marks Q)) d out k 0 x e (v ∙ sym (byte_is (marks Q) k (omega arith))) (omega arith) h

  pub bytes_done : (out : List ℕ) (k : ℕ) → k ≡ length d → out ≡ over (packed (marks Q)) k d → out ≡ packed (marks Q)
  bytes_done out k h e =
      over_done (packed (marks Q)) d out k e (h ∙ sym bytes)
      ∙ ap (λ (m : ℕ). packed (marks Q) ++ drop m d) bytes ∙ ap (λ (r : List ℕ). packed (marks Q) ++ r) (drop-length d) ∙ append-nil (packed (marks Q))
