-- The bytes of a packed list: its bits are the entries, clearing a bit clears the entry, and unpacking gives the list back.
-- A byte's bits by induction on the eight entries that it holds; a store's by induction on its bytes.
use mathlib.Core.Path.{◌≡◌, refl, sym, ap, ◌∙◌}
use mathlib.Core.Logic.{◌⊎◌, inl, inr}
use Prim.Native.Nat.{ℕ, zero, suc, ◌≤◌, ◌<◌, ◌+◌, ◌*◌, ◌-◌, ◌/◌, ◌%◌, ◌^◌}
use mathlib.Core.Bool.{Bool, true, false}
use mathlib.Core.List.{List, [], ◌∷◌}
use native.Mathlib.Omega.{arith}
use native.Mathlib.Nat.{not-suc-le-zero, div-div-eq-div-mul, pow-succ', zero-div, mul_left_comm}
use lib.Dec.{eqb}
use lib.ListN.{length, get_or, set, take, drop, length-set, get_or-eq_default}
use lib.Seq.{get_or-take, get_or-drop, drop-drop, take-set-lt, take-set-le, drop-set-lt, drop-set-add, ext_get_or, set_out, set-get_or}
use Rattle.numbers.specs.Bits.{bits, pack, packed, bit_at, unpack, without, cleared}
use Rattle.numbers.proofs.Bools.{one_if, one_if_le, one_if_test, lt_or_ge}

-- ---- the bits of a byte

bits_cons : (b : Bool) (bs : List Bool) → bits (b ∷ bs) ≡ one_if b + 2 * bits bs
unfolding bits
bits_cons true bs = refl
bits_cons false bs = omega arith

bits_at : (bs : List Bool) (k : ℕ) → bits bs / 2 ^ k % 2 ≡ one_if (get_or bs k false)
unfolding bits
bits_at [] k = rw (zero-div (2 ^ k))
bits_at (b ∷ bs) zero = let e = bits_cons b bs in let h = one_if_le b in omega arith
bits_at (b ∷ bs) (suc k) =
    let h = one_if_le b in
    let e : bits (b ∷ bs) / 2 ≡ bits bs = let c = bits_cons b bs in omega arith in
    ap (λ (x : ℕ). bits (b ∷ bs) / x % 2) (pow-succ' 2 k) ∙ ap (λ (x : ℕ). x % 2) (sym (div-div-eq-div-mul (bits (b ∷ bs)) 2 (2 ^ k)))
    ∙ ap (λ (x : ℕ). x / 2 ^ k % 2) e ∙ bits_at bs k

-- a bit that was set counted 2 ^ k
bits_clear : (bs : List Bool) (k : ℕ) → bits (set bs k false) + one_if (get_or bs k false) * 2 ^ k ≡ bits bs
unfolding bits
bits_clear [] k = omega arith
bits_clear (b ∷ bs) zero = let e = bits_cons b bs in let f = bits_cons false bs in omega arith
bits_clear (b ∷ bs) (suc k) =
    let e = bits_cons b bs in
    let f = bits_cons b (set bs k false) in
    let r = bits_clear bs k in
    let p : one_if (get_or bs k false) * 2 ^ suc k ≡ 2 * (one_if (get_or bs k false) * 2 ^ k) = ap (λ (x : ℕ). one_if (get_or bs k false) * x) (pow-succ' 2 k) ∙ mul_left_comm (one_if (get_or bs k false)) 2 (2 ^ k) in
    omega arith

-- ---- the bytes of a store

pack_length : (n : ℕ) (R : List Bool) → length (pack n R) ≡ n
unfolding pack
pack_length zero R = refl
pack_length (suc n) R = ap suc (pack_length n (drop 8 R))

pub packed_length : (R : List Bool) → length (packed R) ≡ (length R + 7) / 8
unfolding packed
packed_length R = pack_length ((length R + 7) / 8) R

-- the eight entries of byte j
abbrev pub eight : List Bool → ℕ → List Bool
eight R j = take 8 (drop (8 * j) R)

pack_at : (n : ℕ) (R : List Bool) (j : ℕ) → j < n → get_or (pack n R) j 0 ≡ bits (eight R j)
unfolding pack
pack_at zero R j h = absurd (not-suc-le-zero h)
pack_at (suc n) R zero h = refl
pack_at (suc n) R (suc j) h =
    let e : 8 + 8 * j ≡ 8 * suc j = omega arith in
    pack_at n (drop 8 R) j (omega arith) ∙ ap (λ (l : List Bool). bits (take 8 l)) (drop-drop (8 * j) 8 R ∙ ap (λ (x : ℕ). drop x R) e)

pub packed_at : (R : List Bool) (i : ℕ) → i < length R → get_or (packed R) (i / 8) 0 ≡ bits (eight R (i / 8))
unfolding packed
packed_at R i h = pack_at ((length R + 7) / 8) R (i / 8) (omega arith)

eight_at : (R : List Bool) (i : ℕ) → get_or (eight R (i / 8)) (i % 8) false ≡ get_or R i false
eight_at R i = get_or-take 8 (drop (8 * (i / 8)) R) (i % 8) false (omega arith) ∙ get_or-drop (8 * (i / 8)) R (i % 8) false ∙ ap (λ (x : ℕ). get_or R x false) (omega arith)

-- what bit i % 8 of byte i / 8 counts: entry i, and nothing past the last entry
digit : (R : List Bool) (i : ℕ) → get_or (packed R) (i / 8) 0 / 2 ^ (i % 8) % 2 ≡ one_if (get_or R i false)
unfolding packed
digit R i = pick (lt_or_ge (i / 8) ((length R + 7) / 8))
  where
    pick : (i / 8 < (length R + 7) / 8) ⊎ ((length R + 7) / 8 ≤ i / 8) → get_or (pack ((length R + 7) / 8) R) (i / 8) 0 / 2 ^ (i % 8) % 2 ≡ one_if (get_or R i false)
    pick (inl h) = ap (λ (x : ℕ). x / 2 ^ (i % 8) % 2) (pack_at ((length R + 7) / 8) R (i / 8) h) ∙ bits_at (eight R (i / 8)) (i % 8) ∙ ap one_if (eight_at R i)
    pick (inr h) =
        let n = pack_length ((length R + 7) / 8) R in
        let g : length (pack ((length R + 7) / 8) R) ≤ i / 8 = omega arith in
        let f : length R ≤ i = omega arith in
        ap (λ (x : ℕ). x / 2 ^ (i % 8) % 2) (get_or-eq_default (pack ((length R + 7) / 8) R) 0 g)
        ∙ ap (λ (x : ℕ). x % 2) (zero-div (2 ^ (i % 8)))
        ∙ sym (ap one_if (get_or-eq_default R false f))

-- bit i is entry i
pub packed_bit : (R : List Bool) (i : ℕ) → bit_at (packed R) i ≡ get_or R i false
unfolding bit_at
packed_bit R i = ap (λ (x : ℕ). eqb x 1) (digit R i) ∙ one_if_test (get_or R i false)

-- ---- unpacked again

pub unpack_length : (store : List ℕ) (k i : ℕ) → length (unpack store k i) ≡ k
unfolding unpack
unpack_length store zero i = refl
unpack_length store (suc k) i = ap suc (unpack_length store k (suc i))

pub unpack_at : (store : List ℕ) (k i j : ℕ) → j < k → get_or (unpack store k i) j false ≡ bit_at store (i + j)
unfolding unpack
unpack_at store zero i j h = absurd (not-suc-le-zero h)
unpack_at store (suc k) i zero h = let e : i ≡ i + 0 = omega arith in ap (bit_at store) e
unpack_at store (suc k) i (suc j) h = let e : suc i + j ≡ i + suc j = omega arith in unpack_at store k (suc i) j (omega arith) ∙ ap (bit_at store) e

pub unpack_packed : (R : List Bool) → unpack (packed R) (length R) 0 ≡ R
unpack_packed R =
    let l = unpack_length (packed R) (length R) 0 in
    ext_get_or false (unpack (packed R) (length R) 0) R l
    (λ i h. unpack_at (packed R) (length R) 0 i (omega arith) ∙ ap (bit_at (packed R)) (let e : 0 + i ≡ i = omega arith in e) ∙ packed_bit R i)

-- ---- an entry set

pack_set : (n : ℕ) (R : List Bool) (i : ℕ) (b : Bool) → i < 8 * n → pack n (set R i b) ≡ set (pack n R) (i / 8) (bits (set (eight R (i / 8)) (i % 8) b))
unfolding pack
pack_set zero R i b h = absurd (omega arith)
pack_set (suc n) R i b h = pick (λ j g. pack_set n (drop 8 R) j b g) (lt_or_ge i 8)
  where
    pick : ((j : ℕ) → j < 8 * n → pack n (set (drop 8 R) j b) ≡ set (pack n (drop 8 R)) (j / 8) (bits (set (eight (drop 8 R) (j / 8)) (j % 8) b)))
        → (i < 8) ⊎ (8 ≤ i) → pack (suc n) (set R i b) ≡ set (pack (suc n) R) (i / 8) (bits (set (eight R (i / 8)) (i % 8) b))
    pick r (inl l) =
        let q : i / 8 ≡ 0 = omega arith in
        let m : i % 8 ≡ i = omega arith in
        rw (q, m, take-set-lt 8 R i b l, drop-set-lt 8 R i b l)
    pick r (inr l) =
        let j : ℕ = i - 8 in
        let q : i / 8 ≡ suc (j / 8) = omega arith in
        let m : i % 8 ≡ j % 8 = omega arith in
        let s : 8 * suc (j / 8) ≡ 8 + 8 * (j / 8) = omega arith in
        let d : drop 8 (set R i b) ≡ set (drop 8 R) j b = ap (λ (x : ℕ). drop 8 (set R x b)) (omega arith) ∙ drop-set-add 8 R j b in
        rw (q, m, s, ← drop-drop (8 * (j / 8)) 8 R, take-set-le 8 R i b l, d, r j (omega arith))

-- an entry of either value: its byte anew
pub packed_set : (R : List Bool) (i : ℕ) (b : Bool) → i < length R → packed (set R i b) ≡ set (packed R) (i / 8) (bits (set (eight R (i / 8)) (i % 8) b))
unfolding packed
packed_set R i b h = ap (λ (x : ℕ). pack ((x + 7) / 8) (set R i b)) (length-set R i b) ∙ pack_set ((length R + 7) / 8) R i b (omega arith)

-- the byte of entry i without its bit; past the last entry the bit is zero already
pub packed_clear : (R : List Bool) (i : ℕ) → cleared (packed R) i ≡ packed (set R i false)
unfolding cleared
packed_clear R i = pick (lt_or_ge i (length R))
  where
    pick : (i < length R) ⊎ (length R ≤ i) → set (packed R) (i / 8) (without (get_or (packed R) (i / 8) 0) (i % 8)) ≡ packed (set R i false)
    pick (inl h) =
        let a : get_or (packed R) (i / 8) 0 ≡ bits (eight R (i / 8)) = packed_at R i h in
        let c = bits_clear (eight R (i / 8)) (i % 8) in
        let g : one_if (get_or (eight R (i / 8)) (i % 8) false) * 2 ^ (i % 8) ≡ get_or (packed R) (i / 8) 0 / 2 ^ (i % 8) % 2 * 2 ^ (i % 8) = ap (λ (x : ℕ). x * 2 ^ (i % 8)) (ap one_if (eight_at R i) ∙ sym (digit R i)) in
        let e : without (get_or (packed R) (i / 8) 0) (i % 8) ≡ bits (set (eight R (i / 8)) (i % 8) false) = omega arith in
        ap (λ (x : ℕ). set (packed R) (i / 8) x) e ∙ sym (packed_set R i false h)
    pick (inr h) =
        let z : get_or (packed R) (i / 8) 0 / 2 ^ (i % 8) % 2 ≡ 0 = digit R i ∙ ap one_if (get_or-eq_default R false h) in
        let e : without (get_or (packed R) (i / 8) 0) (i % 8) ≡ get_or (packed R) (i / 8) 0 = ap (λ (x : ℕ). get_or (packed R) (i / 8) 0 - x * 2 ^ (i % 8)) z ∙ omega arith in
        ap (λ (x : ℕ). set (packed R) (i / 8) x) e ∙ set-get_or (packed R) (i / 8) 0 ∙ sym (ap packed (set_out R i false h))
