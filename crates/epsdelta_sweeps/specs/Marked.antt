-- What marks are made of.
use Rattle.std.specs.Prelude.{◌≡◌, ℕ, ◌<◌, ◌≤◌, length, take, drop}
use Rattle.numbers.specs.Bits.{bits}
use Rattle.epsdelta_theory.specs.Sweeps as sweeps
use Rattle.epsdelta_theory.specs.Sweeps.{Task}
use Rattle.epsdelta_theory.proofs.TasksIn.{MarksIn}
use Rattle.epsdelta_sweeps.specs.declared.classed.Classed.{Classed}

-- the states of Q have these classes and exit rates
abbrev pub MarksOf : Task → Classed → Type 0
MarksOf Q of = MarksIn Q (length of.classes.now) of.classes.now of.exits.now of.rho

-- there are states, and the marks have an entry there or not far before
abbrev pub Reached : Classed → ℕ → Type 0
Reached of first = (0 < length of.classes.now) × (first ≤ 4000000)

-- a byte is that of the eight marks from `first` on
abbrev pub Byte : Classed → ℕ → ℕ → Type 0
Byte of first byte = (Q : Task) → MarksOf Q of → byte ≡ bits (take 8 (drop first (sweeps.marks Q)))
