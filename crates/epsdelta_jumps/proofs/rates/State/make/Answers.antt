-- Each rate is the edge's weight as it is, and `finish` divides those made.
use mathlib.Core.Path.{refl}
use Rattle.std.proofs.Common.{rules, ◌∙◌}
use Rattle.bisim_core.specs.Data.{columns_of}
use Rattle.bisim_core.specs.Model.{row}
use Rattle.epsdelta_theory.specs.Jumps.{jumps_of}
use native.Mathlib.Omega.{arith}
use Rattle.epsdelta_jumps.proofs.Fills.{exit_is, row_made, laid_named}
use Rattle.epsdelta_jumps.proofs.rates.State.make.Goals as goal

pub returns-clause-exit : goal.returns-clause-exit
unfolding jumps_of
returns-clause-exit c =
    let a = c.args in
    let S = a.self.now in
    let X = c.add_edges.new.self in
    let L = c.add_edges.ensures.added S.rowed (let r = c.requires.room in (omega arith, omega arith)) in
    c.finish.ensures.0 ∙ exit_is S.off (row (columns_of S.model.now) S.s) X.len a.targets.now a.rates.now X.targets.now _ (laid_named refl (search rules) L) (search rules) (search rules)

pub returns-clause-made : goal.returns-clause-made
unfolding jumps_of
returns-clause-made c =
    let a = c.args in
    let S = a.self.now in
    let X = c.add_edges.new.self in
    let L = c.add_edges.ensures.added S.rowed (let r = c.requires.room in (omega arith, omega arith)) in
    row_made S.off (row (columns_of S.model.now) S.s) X.len a.targets.now a.rates.now _ _ (laid_named (search rules) (search rules) L) (search rules) (search rules) _ c.finish.ensures.1
