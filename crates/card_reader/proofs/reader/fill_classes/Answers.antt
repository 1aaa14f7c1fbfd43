use native.Mathlib.Omega.{arith}
use Rattle.card_reader.proofs.Fills.{classes_next, classes_last}
use Rattle.card_reader.proofs.reader.fill_classes.Goals as goal

pub loop-i-preserved : goal.loop-i-preserved
loop-i-preserved c = classes_next c.args.s.now _ _ _ _ _ c.number.ensures.0 (omega arith) c.loop-i.invariant

pub returns : goal.returns
returns c = classes_last c.args.s.now _ _ _ _ (omega arith) c.loop-i.invariant
