-- `epsdelta_bisimilar`: whether the final relation holds the two initial states.
use Rattle.std.specs.Prelude.{Some, None, Option}
use Rattle.bisim_core.specs.declared.ids.StateId.{StateId}
use Rattle.std.specs.Prelude.{ℕ, ◌+◌, Bool, List, Float}
use Rattle.bisim_core.specs.Data.{Columns}
use Rattle.bisim_core.specs.declared.wlts.Shape.{Shape}
use Rattle.epsdelta_theory.specs.Relation.{related}
use Rattle.epsdelta_theory.specs.Epsdelta.{given, epsdelta}
use Rattle.epsdelta_theory.specs.Claim.{final}

-- the number of the initial state; an absent one is refused (8)
abbrev pub start : Option StateId → ℕ
start (Some s) = s.0
start None = 0

-- two models, a list of classes for each, ε and ρ: are the initial states related
unfoldable pub bisimilar : Shape → Columns → Shape → Columns → List ℕ → List ℕ → Float → Float → Bool
unfolding related epsdelta given
bisimilar SL ML SR MR cl cr ε ρ = related (SL.states + SR.states) SL.states (final (given SL ML SR MR cl cr ε ρ)) (start SL.initial) (start SR.initial)
