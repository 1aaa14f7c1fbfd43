-- Whether the flow of the test is enough is the definition's test (Turns).
use Rattle.std.proofs.Common.{◌≡◌}
use Rattle.numbers.specs.Bits.{packed}
use Rattle.epsdelta_sweeps.specs.Leading.{passes_in}
use Rattle.epsdelta_sweeps.proofs.Turns.{tested, known_test}
use Rattle.epsdelta_sweeps.proofs.sweeps.judge.Goals as goal

pub returns : goal.returns
returns c =
    let a = c.args in
    known_test {X = λ R. a.memory.now.relation.now ≡ packed R} c.test.result a.terms.now.need (λ R. passes_in a.terms.now.rows a.terms.now.need R a.s a.t) c.verdict.result c.verdict.ensures (tested a.terms.now.rows a.memory.now a.s a.t c.test.result c.test.ensures c.requires a.terms.now.need)
