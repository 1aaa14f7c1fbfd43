-- The parts of the columns that the offsets bound.
use Rattle.chain_theory.specs.Lent.{of_chain}
use Rattle.chain_theory.proofs.ChainRows.{row_is}
use Rattle.chain_theory.proofs.Chain.row.Goals as goal

pub returns : goal.returns
returns c =
    let (f0, f1, f2, f3, f4) = c.in_ok-from.ensures.lookup in
    let (t0, t1, t2, t3, t4) = c.in_ok-to.ensures.lookup in
    let ((a, b, e, n), r) = c.in_ok-targets.ensures.lookup in
    let ((a', b', e', n'), r') = c.in_ok-probs.ensures.lookup in
    row_is (of_chain c.args.self.now) c.args.s _ _ _ _ t3.0 (f3.1 0) (t3.1 0) a b b' e e'
