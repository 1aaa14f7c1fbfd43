use Rattle.card_reader.proofs.Fills.{Classes}
use Rattle.card_reader.proofs.reader.fill_classes.Given as goal

abbrev pub invariant-loop-i : goal.invariant-loop-i
invariant-loop-i l = Classes l.s l.n l.initial.classes l.classes l.i
