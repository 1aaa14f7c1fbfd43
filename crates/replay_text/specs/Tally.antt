-- How answers are counted.
use Rattle.std.specs.Prelude.{ℕ, ◌+◌, ◌-◌, ◌^◌, min, ◌≡◌, Bool, true, false, cond, ◌&&◌, not, eqb, ltb, length, get_or, set, replicate}
use Rattle.replay_text.specs.Cases.{in_line}
use Rattle.replay_text.specs.declared.text.Reader.{Reader}
use Rattle.replay_text.specs.declared.tally.Tally.{Tally}
use Rattle.replay_text.specs.declared.tally.Counts.{Counts}

-- whether an answer was read without a fault, and is the one stored
abbrev pub agrees : Reader → Bool
agrees r = not r.faulty && not r.differs

-- no answers
abbrev pub nothing : Tally
nothing = record { agree = 0; differ = 0 }

abbrev pub none : Counts
none = record { entries = replicate 22 nothing; other = nothing; all = nothing }

-- one more, up to the greatest number of 64 bits
abbrev pub up : ℕ → ℕ
up n = min (n + 1) (2 ^ 64 - 1)

-- with an answer more
abbrev pub more : Tally → Bool → Tally
more t true = record { agree = up t.agree; differ = t.differ }
more t false = record { agree = t.agree; differ = up t.differ }

-- the answers of an entry; none of one that there is not
abbrev pub tally_of : Counts → ℕ → Tally
tally_of c e = get_or c.entries e nothing

-- the counts with an answer more: of its entry, if there is one of that number, and of all
abbrev pub tallied : Counts → ℕ → Bool → Counts
tallied c e a = record { entries = cond (ltb e 22) (set c.entries e (more (tally_of c e) a)) c.entries; other = c.other; all = more c.all a }

-- with a case more that cannot be read
abbrev pub other_tallied : Counts → Counts
other_tallied c = record { entries = c.entries; other = more c.other false; all = more c.all false }

-- ready for the next answer: faults stay until the end of a case
abbrev pub Ready : Reader → Reader → Type 0
Ready r s = (s.faulty ≡ r.faulty) × (s.differs ≡ false)

-- and ready for the next answer after this one was read
abbrev pub Counted : Reader → Reader → Type 0
Counted r s = (r.faulty ≡ true → s.faulty ≡ true) × (s.differs ≡ false)

-- the counts once a case has ended: where it is as laid out so far, more text is one difference
abbrev pub closed : Reader → Counts
closed r = cond (not r.faulty && not (eqb (length r.rest.now) 0)) (other_tallied r.counts) r.counts

-- where other cases stand behind it, more text in its line is one
abbrev pub closed_in_line : Reader → Counts
closed_in_line r = cond (not r.faulty && in_line r.rest.now) (other_tallied r.counts) r.counts
