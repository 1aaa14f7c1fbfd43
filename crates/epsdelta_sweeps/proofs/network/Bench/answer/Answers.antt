-- `Bench::answer` meets its contract: the links that `lay` writes are those of the test that the place asks for, and the run on the network that they fill answers it.
use borrow.Author.Rules.{rules}
use mathlib.Core.Path.{◌≡◌, sym, ap, subst}
use lib.ListN.{length}
use Rattle.std.specs.Prelude.{ℕ, Result}
use Rattle.flow_core.specs.declared.Flow.{Flow}
use Rattle.flow.specs.Network.{Flown}
use Rattle.epsdelta_sweeps.specs.Leading.{Answers}
use Rattle.epsdelta_sweeps.proofs.network.Bench.answer.Goals as goal

pub returns : goal.returns
returns c =
    let a = c.args in
    let links : length c.lay-w.new.self.net.links ≡ 2176 = search rules in
    let list : length c.lay-w.new.self.net.list ≡ 2176 = search rules in
    let costs : length c.lay-w.new.self.costs ≡ 2046 = search rules in
    let Meant : Result Flow ℕ → Type 0 = Answers a.rows.now a.memory.now a.asked in
    subst Meant (sym (ap (λ (x : Flown). x.answer) c.flow_rows.ensures)) (c.lay-w.ensures c.lay-w.new.self.net links list c.lay-w.new.self.costs costs)
