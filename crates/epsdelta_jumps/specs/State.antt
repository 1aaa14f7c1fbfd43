-- A state of a model whose state 0 is number `off`.
use Rattle.std.specs.Prelude.{ℕ}
use Rattle.bisim_core.specs.Data.{columns_of}
use Rattle.bisim_core.specs.Model as models
use Rattle.epsdelta_theory.specs.Jumps.{Row, row}
use Rattle.parts.specs.Jumping.{degree}
use Rattle.epsdelta_jumps.specs.declared.rates.State.{State}

-- its row
abbrev pub row_of : State → Row
row_of S = row S.off (models.row (columns_of S.model.now) S.s)

-- how many edges it has
abbrev pub edges_of : State → ℕ
edges_of S = degree (columns_of S.model.now) S.s
