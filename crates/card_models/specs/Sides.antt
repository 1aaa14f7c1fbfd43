-- What `build_side` answers: a model whose transitions stand in lists with others, built.
use Rattle.std.specs.Prelude.{Some}
use Rattle.std.specs.Prelude.{ℕ, ◌+◌, min, ltb, length}
use Rattle.std.proofs.Math.Seq.{slice}
use Rattle.numbers.specs.Refuse.{check}
use Rattle.bisim_core.specs.Data.{Transitions, Columns, transitions}
use Rattle.bisim_build.specs.Build.{Outcome, settled, build}
use Rattle.card_reader.specs.declared.reader.Head.{Head}

-- how many transitions are there: as many as the shortest list has
abbrev pub shortest : Transitions → ℕ
shortest C = min (length C.sources) (min (length C.labels) (min (length C.targets) (length C.weights)))

-- the n transitions from m on
abbrev pub cut_at : ℕ → ℕ → Transitions → Transitions
cut_at m n C = transitions (slice m (m + n) C.sources) (slice m (m + n) C.labels) (slice m (m + n) C.targets) (slice m (m + n) C.weights)

-- the model of that head, its transitions being those from m on; 7 where they are not there
abbrev pub side_ends : Head → ℕ → Transitions → Columns → Outcome
side_ends h m C M = settled (check 7 (ltb (shortest C) (m + h.transitions)) 0) M (build h.states (Some (record { 0 = h.initial })) (cut_at m h.transitions C) h.transitions M)
