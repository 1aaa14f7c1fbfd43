-- The invariant: the words hold the strikes of the targets passed.
use Rattle.std.proofs.Common.{ℕ, ◌<◌, get_or}
use Rattle.epsdelta_sweeps.specs.Place.{count, words_of}
use Rattle.epsdelta_theory.proofs.Unchanged.{Told}
use Rattle.epsdelta_sweeps.proofs.changes.strikes_of.Given as goal

abbrev pub invariant-loop-u : goal.invariant-loop-u
invariant-loop-u l = (j : ℕ) → j < l.u-index → Told (count l.memory) (words_of (count l.memory) l.memory) l.s (get_or l.row j 0) l.recent l.before
