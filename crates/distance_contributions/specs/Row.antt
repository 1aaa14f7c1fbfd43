-- What a lent row of contribution records holds after a write.
use Rattle.std.specs.Prelude.{ℕ, zero, suc, List, ltb, length, take}
use Rattle.numbers.specs.Refuse.{check}
use Rattle.numbers.specs.Lists.{over}
use Rattle.distance_theory.specs.declared.PairContribution.{PairContribution}

-- 7: under 64 records are lent; 14: over 64 are to be written
abbrev pub row_refusal : ℕ → ℕ → ℕ
row_refusal room count = check 7 (ltb room 64) (check 14 (ltb 64 count) 0)

-- the number of the refusal, 0 if there is none, and the records
pub record Stored : Type 0 where
  pub refused : ℕ
  pub records : List PairContribution

abbrev pub stored : ℕ → List PairContribution → Stored
stored r rs = record { refused = r; records = rs }

-- these over the front of the row; a refusal leaves it as it was
abbrev pub stored_if : ℕ → List PairContribution → List PairContribution → Stored
stored_if zero cs rs = stored zero (over cs rs)
stored_if (suc r) cs rs = stored (suc r) rs

-- the first `count` of some records go into a row
abbrev pub written : List PairContribution → ℕ → List PairContribution → Stored
written cs count rs = stored_if (row_refusal (length rs) count) (take count cs) rs
