-- `sweeps::settle` meets its contract: the next turn, and the sweeps from there (Resuming).
use mathlib.Core.Path.{refl, ◌∙◌}
use native.Mathlib.Omega.{arith}
use Rattle.epsdelta_sweeps.proofs.Words.{words_long}
use mathlib.Core.Bool.{true}
use Rattle.epsdelta_sweeps.specs.Leading.{place_of}
use Rattle.epsdelta_sweeps.proofs.Resuming.{ended_then}
use Rattle.epsdelta_sweeps.proofs.sweeps.settle.Goals as goal

pub tested-requires : goal.tested-requires
tested-requires c =
    let p = c.requires in
    let A = p.0.1.asked refl in
    let l = A.apart in
    let k = A.inside in
    ((p.0.0, omega arith, k), (p.0.0.few, words_long _ _ _ p.0.1.noted.long), p.0.1, p.1)

pub returns : goal.returns
returns c =
    let a = c.args in
    (ended_then a.terms.now a.memory.now c.tested.new.memory c.advance.new.memory (place_of a.asked) _ a.asked.back true _ c.advance.result c.in_ok-struck.ensures.0 c.advance.ensures.0, c.advance.ensures.1 ∙ c.tested.ensures.1)
