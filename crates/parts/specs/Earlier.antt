-- Of two refusals the one that comes first; 0 is none.
use Rattle.std.specs.Prelude.{ℕ, zero, suc, min}

abbrev pub earlier : ℕ → ℕ → ℕ
earlier zero b = b
earlier (suc a) zero = suc a
earlier (suc a) (suc b) = suc (min a b)
