-- `search::Search::try_once` meets its contract: a step where a target of s has the source's label, and else a rise of that label (Pathing).
use mathlib.Core.Path.{refl}
use Rattle.flow_routes.proofs.Pathing.{settling_rises}
use Rattle.flow_direct.proofs.search.Search.try_once.Goals as goal

pub returns-in-Some : goal.returns-in-Some
returns-in-Some c = (c.one_step-step.ensures.0, c.after_step.ensures _ _ _ _ _ _ _ _ _ _ _ _ _ _ _ c.in-Some.ensures.1 c.one_step-step.ensures.1)

pub returns-in-None : goal.returns-in-None
returns-in-None c = (refl, λ A₀ B₀ F₀ l₀ r₀ t₀ I. settling_rises I c.if-so_far-lt-HIGHEST.true c.in-None.ensures refl)
