-- `search::Search::one_step` meets its contract: where the walk ends says which (Pathing).
use mathlib.Core.Path.{refl, sym, ◌∙◌}
use native.Mathlib.Omega.{arith}
use Rattle.flow_routes.proofs.Pathing.{steps_left, steps_cut, steps_right}
use Rattle.flow_direct.proofs.Pushing.{pushed}
use Rattle.flow_direct.proofs.search.Search.one_step.Goals as goal

pub returns-then-rise : goal.returns-then-rise
returns-then-rise c = let e = c.requires.0.1 in let Q = c.in-Left.ensures.1 in (refl, steps_cut Q.0 Q.1 (omega arith) c.rise.ensures.0 (λ j h. c.rise.ensures.1 c.if-rise.true j (omega arith)))

pub returns-else-rise : goal.returns-else-rise
returns-else-rise c = let e = c.requires.0.1 in let Q = c.in-Left.ensures.1 in (refl, steps_left Q.0 Q.1 (omega arith) c.rise.ensures.0)

pub returns-in-Right : goal.returns-in-Right
returns-in-Right c = let e = c.requires.0.2 in let Q = c.in-Right.ensures.1 in let lo = Q.1 in (refl, steps_right Q.0 (λ e. absurd (omega arith)) (λ _. Q.2) (omega arith) refl)

pub returns-then-remains : goal.returns-then-remains
returns-then-remains c = (c.send.ensures.1.0, pushed c.in-Sink.ensures.1 (sym c.remains.ensures ∙ c.if-remains.true) c.in-Sink.ensures.0 c.send.ensures.0 c.send.ensures.1.1 c.send.ensures.1.2)

pub returns-else-remains : goal.returns-else-remains
returns-else-remains c = let e = c.requires.0.2 in (refl, steps_right c.in-Sink.ensures.1 (λ _. sym c.remains.ensures ∙ c.if-remains.false) (λ d. absurd (d refl)) (omega arith) refl)
