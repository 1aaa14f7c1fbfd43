-- What a run answers: a refusal's number, or the distance and 64 records, the contributions first.
use Rattle.std.specs.Prelude.{ℕ, zero, suc, List, [], replicate, Float, Result, Ok, Err}
use Rattle.numbers.specs.Real.{nought}
use Rattle.numbers.specs.Lists.{over}
use Rattle.distance_theory.specs.declared.PairContribution.{PairContribution}
use Rattle.distance_theory.specs.Outcome.{Run}
use Rattle.distance_words.specs.declared.told.Answer.{Answer}
use Rattle.distance_words.specs.declared.told.Listed.{Listed}

abbrev pub Told : Type 0
Told = Result Answer ℕ

-- a record of zeros
abbrev pub nothing : PairContribution
nothing = record { left = record { 0 = 0 }; right = record { 0 = 0 }; gap = nought; occupancy = nought; contribution = nought }

-- 64 records, these first
abbrev pub row : List PairContribution → List PairContribution
row cs = over cs (replicate 64 nothing)

-- no contribution, and records of zeros
abbrev pub nothing_listed : Listed
nothing_listed = record { count = 0; records = row [] }

-- of a run
abbrev pub told_if : ℕ → Run → Told
told_if zero R = Ok (record { distance = R.distance; records = row R.listed })
told_if (suc r) R = Err (suc r)

abbrev pub told_of : Run → Told
told_of R = told_if R.refusal R

-- what is told, and the lists that were lent: left and right states and index of the pairs, and the coupling store
pub record Ran : Type 0 where
  pub told : Told
  pub lefts : List ℕ
  pub rights : List ℕ
  pub codes : List ℕ
  pub places : List ℕ
  pub masses : List Float

abbrev pub ran_as : Told → List ℕ → List ℕ → List ℕ → List ℕ → List Float → Ran
ran_as t l r c p m = record { told = t; lefts = l; rights = r; codes = c; places = p; masses = m }
