-- A bit by shift and mask, as code reads and clears it: i & 7 is i % 8, 1 << k is 2 ^ k, and a byte and that mask is what its bit k counts.
use mathlib.Core.Path.{◌≡◌, sym, ap, ◌∙◌}
use mathlib.Core.Bool.{false}
use mathlib.Core.List.{List}
use Prim.Native.Nat.{ℕ, ◌+◌, ◌*◌, ◌-◌, ◌/◌, ◌%◌, ◌^◌, ◌<◌, ◌≤◌}
use native.Mathlib.Omega.{arith}
use native.Mathlib.Nat.{mod-eq_of_lt, pow-succ', one-mul, zero-div}
use lib.Dec.{eqb}
use lib.ListN.{length, get_or, set, get_or-eq_default}
use lib.Seq.{set_out}
use lib.Bits.{bit_and, and_mask, and_high}
use lib.Pow.{pow-lt}
use Rattle.std.proofs.Common.{Fits, w8}
use Rattle.std.proofs.lemmas.Nat.{and-not, and_comm}
use Rattle.numbers.specs.Bits.{bit_at, without, cleared}

pub low_three : (i : ℕ) → bit_and i 7 ≡ i % 8
low_three i = and_mask i 3

pub below_eight : (i : ℕ) → bit_and i 7 < 8
below_eight i = rw (low_three i) (omega arith)

-- ---- read

pub reads_bit : (store : List ℕ) (i : ℕ) → eqb (bit_and (get_or store (i / 8) 0 / 2 ^ bit_and i 7) 1) 1 ≡ bit_at store i
unfolding bit_at
reads_bit store i =
    ap (λ (x : ℕ). eqb (bit_and (get_or store (i / 8) 0 / 2 ^ x) 1) 1) (low_three i)
    ∙ ap (λ (x : ℕ). eqb x 1) (and_mask (get_or store (i / 8) 0 / 2 ^ (i % 8)) 1)

pub bit_past : (store : List ℕ) (i : ℕ) → length store ≤ i / 8 → false ≡ bit_at store i
unfolding bit_at
bit_past store i h = rw (get_or-eq_default store 0 h, zero-div (2 ^ (i % 8)))

-- ---- cleared

mask_is : (i : ℕ) → 1 * 2 ^ bit_and i 7 % 256 ≡ 2 ^ (i % 8)
mask_is i =
    let l : 2 ^ (i % 8) < 2 ^ 8 = pow-lt {i = i % 8} {j = 8} (omega arith) in
    ap (λ (x : ℕ). 1 * 2 ^ x % 256) (low_three i) ∙ ap (λ (x : ℕ). x % 256) (one-mul (2 ^ (i % 8))) ∙ mod-eq_of_lt l

one_bit : (b k : ℕ) → bit_and b (2 ^ k) ≡ b / 2 ^ k % 2 * 2 ^ k
one_bit b k =
    let e : 2 ^ (1 + k) - 2 ^ k ≡ 2 ^ k = ap (λ (y : ℕ). 2 ^ y - 2 ^ k) (omega arith) ∙ ap (λ (y : ℕ). y - 2 ^ k) (pow-succ' 2 k) ∙ omega arith in
    ap (λ (m : ℕ). bit_and b m) (sym e) ∙ and_high b 1 k

-- a byte and all but a mask is the byte less what the mask leaves of it
and_rest : (b m : ℕ) → b < 256 → m < 256 → bit_and b (255 - m) ≡ b - bit_and b m
and_rest b m h k =
    let e = and-not 8 m b k h in
    let f = and_comm b (255 - m) in
    let g = and_comm b m in
    omega arith

pub clears_bit : (store : List ℕ) (i : ℕ) → Fits w8 (get_or store (i / 8) 0) → set store (i / 8) (bit_and (get_or store (i / 8) 0) (255 - 1 * 2 ^ bit_and i 7 % 256)) ≡ cleared store i
unfolding cleared
clears_bit store i f =
    let b = get_or store (i / 8) 0 in
    ap (λ (x : ℕ). set store (i / 8) x) (and_rest b (1 * 2 ^ bit_and i 7 % 256) f.fits (omega arith))
    ∙ ap (λ (x : ℕ). set store (i / 8) (b - x)) (ap (λ (m : ℕ). bit_and b m) (mask_is i) ∙ one_bit b (i % 8))

pub cleared_past : (store : List ℕ) (i : ℕ) → length store ≤ i / 8 → store ≡ cleared store i
unfolding cleared
cleared_past store i h = sym (set_out store (i / 8) (without (get_or store (i / 8) 0) (i % 8)) h)
