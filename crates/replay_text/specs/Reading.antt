-- What reading a case leaves of its marks.
use Rattle.std.specs.Prelude.{◌≡◌, Bool, true, ◌&&◌, ◌||◌, Float}
use Rattle.std.specs.Float.Ieee.{eq, is_nan}
use Rattle.replay_text.specs.declared.text.Reader.{Reader}

-- the place and the counts are kept
abbrev pub Placed : Reader → Reader → Type 0
Placed r s = (s.rest ≡ r.rest) × (s.counts ≡ r.counts)

-- the marks and the counts are kept
abbrev pub Kept : Reader → Reader → Type 0
Kept r s = (s.faulty ≡ r.faulty) × (s.differs ≡ r.differs) × (s.counts ≡ r.counts)

-- a fault, and an answer that differs, are not forgotten; the counts are kept
abbrev pub Lasts : Reader → Reader → Type 0
Lasts r s = (r.faulty ≡ true → s.faulty ≡ true) × (r.differs ≡ true → s.differs ≡ true) × (s.counts ≡ r.counts)

-- whether two numbers count as the same: two zeros do, and two NaNs
abbrev pub same : Float → Float → Bool
same x y = eq x y || (is_nan x && is_nan y)
