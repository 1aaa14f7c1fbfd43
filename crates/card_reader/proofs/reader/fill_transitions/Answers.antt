use Prim.Native.Nat.{ℕ, ◌*◌}
use native.Mathlib.Omega.{arith}
use mathlib.Core.Path.{ap, ◌∙◌}
use lib.IntN.{pos}
use lib.Ieee.{binary64, of_int}
use Rattle.card_layout.specs.Layout.{value}
use Rattle.card_layout.specs.Lists.{source_of, label_of, target_of, weight_of}
use Rattle.card_layout.proofs.Steps.{rest_is}
use Rattle.card_reader.proofs.Fills.{col_next, col_last, col_length, at_column}
use Rattle.card_reader.proofs.reader.fill_transitions.Goals as goal

pub bounds-lists-from-in-loop-i-3 : goal.bounds-lists-from-in-loop-i-3
bounds-lists-from-in-loop-i-3 c = let l = col_length weight_of _ _ _ _ _ c.loop-i.i c.loop-i.invariant.3 in let r = c.requires.1.in_weights in let t = c.loop-i-test.true in omega arith

pub loop-i-preserved : goal.loop-i-preserved
loop-i-preserved c =
    let v = c.loop-i.invariant in
    let s = c.args.s.now in
    let i = c.loop-i.i in (
      col_next source_of s _ _ _ _ i _ (c.number.ensures.0 ∙ ap value (rest_is (25 * i) s)) (omega arith) v.0,
      col_next label_of s _ _ _ _ i _ (c.number-in-loop-i.ensures.0 ∙ at_column 6 (25 * i) s) (omega arith) v.1,
      col_next target_of s _ _ _ _ i _ (c.number-in-loop-i-2.ensures.0 ∙ at_column 12 (25 * i) s) (omega arith) v.2,
      col_next weight_of s _ _ _ _ i _ (ap (λ (x : ℕ). of_int binary64 (pos x)) (c.number-in-loop-i-3.ensures.0 ∙ at_column 18 (25 * i) s)) (omega arith) v.3,
      v.4,
      v.5,
    )

pub returns-clause-stored : goal.returns-clause-stored
returns-clause-stored c =
    let v = c.loop-i.invariant in
    record {
      sources_are = col_last source_of _ _ _ _ _ c.loop-i.i (omega arith) v.0;
      labels_are = col_last label_of _ _ _ _ _ c.loop-i.i (omega arith) v.1;
      targets_are = col_last target_of _ _ _ _ _ c.loop-i.i (omega arith) v.2;
      weights_are = col_last weight_of _ _ _ _ _ c.loop-i.i (omega arith) v.3;
    }
