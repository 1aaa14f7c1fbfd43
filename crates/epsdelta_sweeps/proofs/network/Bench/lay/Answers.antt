-- `Bench::lay` meets its contract: the links that it writes are those of the test back or of the other, by what is asked for (Turns).
use Rattle.std.proofs.Common.{rules, arith, ◌≡◌, ◌∙◌, sym, true, false, length}
use mathlib.Core.Bool.{true≢false}
use Rattle.epsdelta_sweeps.specs.Leading.{TestOf}
use Rattle.epsdelta_sweeps.proofs.Turns.{test_back, laid_asked}
use Rattle.epsdelta_sweeps.proofs.network.Bench.lay.Goals as goal
use Rattle.epsdelta_sweeps.proofs.network.Bench.lay.Goals.{then-asked, else-asked}

pub returns : goal.returns
returns c =
    let a = c.args in
    let h : length a.self.now.heads ≡ 2046 = search rules in
    let k : length a.self.now.caps ≡ 2046 = search rules in
    let forth : a.asked.back ≡ false → TestOf a.rows.now a.memory.now a.asked.s a.asked.t c.if-asked.test =
    λ q. elim c.if-asked.branch [
      | then-asked w ↦ absurd (true≢false (sym w.if-asked.true ∙ q))
      | else-asked w ↦ rw w.test-is c.test-forth.ensures
    ] in
    let back : a.asked.back ≡ true → TestOf a.rows.now a.memory.now a.asked.t a.asked.s c.if-asked.test =
    λ q. elim c.if-asked.branch [
      | then-asked w ↦ rw w.test-is (test_back a.rows.now a.memory.now a.asked.s a.asked.t _ c.test-forth.ensures w.back-test.ensures)
      | else-asked w ↦ absurd (true≢false (sym q ∙ w.if-asked.false))
    ] in
    let w = c.write_links.ensures in
    laid_asked a.rows.now a.memory.now a.asked c.if-asked.test forth back c.requires a.self.now.heads a.self.now.caps h k (w.places, w.heads_after, w.caps_after) _ _ _ _ c.unwrap_or.ensures (omega arith) (omega arith) (omega arith)
