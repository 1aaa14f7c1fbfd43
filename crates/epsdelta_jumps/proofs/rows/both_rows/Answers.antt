-- The left model's rows are made behind none, the right one's behind these.
use native.Mathlib.Omega.{arith}
use Rattle.epsdelta_jumps.proofs.Makes.{laid_none, from_zero, row_from_zero}
use Rattle.epsdelta_jumps.proofs.rows.both_rows.Goals as goal

pub returns-clause-laid : goal.returns-clause-laid
returns-clause-laid c = λ J j L R.
    let p = c.requires.room in
    let V = c.args.rows.now in
    c.model_rows.ensures.laid J V j R p.0 p.1
    (from_zero J c.args.left.now.shape.states V c.model_rows-at.new.rows
    (c.model_rows-at.ensures.laid J V (omega arith) (λ i k. row_from_zero J i _ (L i k)) (omega arith) (omega arith) (laid_none J _ V.starts.now _ _ (omega arith))))
