-- The checks of a row and of all rows, as the code makes them.
use mathlib.Core.Path.{◌≡◌, refl, ap, ◌∙◌}
use mathlib.Core.Bool.{Bool, true, ◌&&◌}
use Rattle.std.specs.List.{list_all, range_with_len}
use Prim.Native.Nat.{ℕ, zero, suc, ◌+◌, ◌≤◌, ◌<◌}
use mathlib.Core.List.{List, map}
use native.Mathlib.Omega.{arith}
use native.Mathlib.Numerals.{add-one}
use lib.Dec.{ltb, leb}
use lib.Ieee.{Float}
use lib.ListN.{length, get_or}
use borrow.Author.Tests.{lt-ltb, le-leb}
use Rattle.numbers.specs.Lists.{span, all}
use Rattle.epsdelta_theory.specs.Jumps.{Jump, jumps_of}
use Rattle.epsdelta_theory.proofs.RowReads.{jumps_length, jumps_targets, jumps_rates, starts_up}
use Rattle.chain_theory.specs.Columns.{chain_columns, reads_row}
use Rattle.chain_theory.specs.Check.{ascends, probable, whole, proper}
use Rattle.chain_theory.proofs.Shaped.{Rows}

-- ---- a row, by its columns

pub proper_is : (T : List ℕ) (P : List Float) → length T ≡ length P
    → (ltb 0 (length T) && (leb (length T) 32 && (ascends T && (all probable P && whole P)))) ≡ proper (jumps_of T P)
unfolding proper
proper_is T P e = rw (jumps_length T P e, jumps_targets T P e, jumps_rates T P e)

pub inside : {n : ℕ} {O T : List ℕ} {P : List Float} → Rows n O T P → (s : ℕ) → s < n → (get_or O s 0 ≤ get_or O (s + 1) 0) × (get_or O (s + 1) 0 ≤ length T) × (get_or O (s + 1) 0 ≤ length P)
inside {n} {O} {T} {P} R s h =
    let r = R.rise s h in
    let u = starts_up O n R.rise (s + 1) n (omega arith) (omega arith) in
    let x = R.targets_long in
    let y = R.probabilities_long in
    (omega arith, omega arith, omega arith)

-- the row of a state can be read
module _ {n : ℕ} {O T : List ℕ} {P : List Float} (R : Rows n O T P) (seen : List Float) (s : ℕ) (h : s < n) where
  pub reads : reads_row (chain_columns O T P seen) s ≡ true
  reads =
      let k = R.offsets_long in
      let (a, b, d) = inside R s h in
      rw (lt-ltb (s + 1) (length O) (omega arith), le-leb (get_or O s 0) (get_or O (s + 1) 0) a, le-leb (get_or O (s + 1) 0) (length T) b, le-leb (get_or O (s + 1) 0) (length P) d)

-- ---- all rows, one number after the other

pub rows_all : (t : ℕ → Bool) (f : ℕ → List Jump) → ((s : ℕ) → t s ≡ proper (f s)) → (a n : ℕ) → list_all t (range_with_len a n) ≡ all proper (map f (span a n))
unfolding span all
rows_all t f e a zero = refl
rows_all t f e a (suc n) =
    ap (λ (b : Bool). b && list_all t (range_with_len (a + 1) n)) (e a) ∙ ap (λ (b : Bool). proper (f a) && b) (ap (λ (k : ℕ). list_all t (range_with_len k n)) (add-one a) ∙ rows_all t f e (suc a) n)
