-- `sweeps` with the most sweeps of an evaluation, of the couplings that are read.
use mathlib.Core.Path.{◌∙◌}
use lib.ListN.{length}
use Rattle.distance_theory.specs.Rounds.{many}
use Rattle.distance_words.proofs.Valuing.{evaluated}
use Rattle.distance_rounds.proofs.rounds.evaluate.Goals as goal

pub returns : goal.returns
returns c =
    let a = c.args in
    let (s, l, p, m) = c.read.ensures in
    c.sweeps.ensures ∙ (λ i. evaluated many (s i) (l i) (p i) (m i) a.task.now.cost.now a.task.now.gamma a.tol a.value.now (length a.value.now))
