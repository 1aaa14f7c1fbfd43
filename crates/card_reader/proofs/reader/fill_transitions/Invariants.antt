-- In each column the transitions still to come make the list what it has to be.
use Rattle.card_layout.specs.Lists.{source_of, label_of, target_of, weight_of}
use mathlib.Core.Path.{◌≡◌}
use Rattle.card_reader.specs.Lent.{same_lists}
use Rattle.card_reader.proofs.Fills.{Col}
use Rattle.card_reader.proofs.reader.fill_transitions.Given as goal

abbrev pub invariant-loop-i : goal.invariant-loop-i
invariant-loop-i l =
    Col source_of l.s l.n l.from l.initial.lists.sources.now l.lists.sources.now l.i
    × Col label_of l.s l.n l.from l.initial.lists.labels.now l.lists.labels.now l.i
    × Col target_of l.s l.n l.from l.initial.lists.targets.now l.lists.targets.now l.i
    × Col weight_of l.s l.n l.from l.initial.lists.weights.now l.lists.weights.now l.i
    × (l.lists.classes.now ≡ l.initial.lists.classes.now)
    × same_lists l.initial.lists l.lists
