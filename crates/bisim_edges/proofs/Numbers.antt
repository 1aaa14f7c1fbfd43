-- Triples as numbers: as many, and one that is read or written is so as its number.
use Rattle.std.proofs.Common.{◌≡◌, ℕ, List, length}
use lib.ListN.{get_or, set, get_or-map}
use Rattle.std.proofs.lemmas.List.{length-map, map-set}
use Rattle.build_theory.specs.declared.keys.Triple.{Triple}
use Rattle.build_theory.proofs.Planning.{numbers}

pub numbers_length : (T : List Triple) → length (numbers T) ≡ length T
numbers_length T = length-map T (λ (t : Triple). t.0)

pub numbers_set : (T : List Triple) (i : ℕ) (t : Triple) → numbers (set T i t) ≡ set (numbers T) i t.0
numbers_set T i t = map-set (λ (t : Triple). t.0) T i t

-- what stands past the end of a list of triples, as the check has it
abbrev pub past_end : Triple
past_end = record { 0 = 0 }

pub numbers_at : (T : List Triple) (i : ℕ) → get_or (numbers T) i 0 ≡ (get_or T i past_end).0
numbers_at T i = get_or-map (λ (t : Triple). t.0) T i past_end
