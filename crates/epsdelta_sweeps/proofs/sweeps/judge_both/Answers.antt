-- What is known of the test and of the one back is of the definition's tests, and with a flow that is plenty both pass (Turns).
use Rattle.epsdelta_sweeps.proofs.Turns.{judged}
use Rattle.epsdelta_sweeps.proofs.sweeps.judge_both.Goals as goal

pub returns : goal.returns
returns c =
    let a = c.args in
    let p = c.requires in
    judged a.terms.now.rows a.memory.now a.s a.t c.test-test.result c.test-test.ensures p.0 a.terms.now.need a.terms.now.plenty _ _ p.1 p.2 c.plenty_between-here.ensures c.both_ways.ensures
