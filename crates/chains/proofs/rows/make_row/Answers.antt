-- The edges make the entries; what is left to stay is one more, if it is above 1e-15.
use mathlib.Core.Path.{ap}
use Rattle.std.proofs.Common.{rules}
use Prim.Native.Nat.{◌<◌}
use native.Mathlib.Omega.{arith}
use lib.ListN.{length}
use Rattle.bisim_core.specs.Data.{columns_of}
use Rattle.bisim_core.specs.Model.{row}
use Rattle.epsdelta_theory.specs.Jumps.{jumps_of}
use Rattle.chain_theory.specs.Chain.{stay}
use Rattle.chains.proofs.Entries.{row_stays, row_leaves, laid_named}
use Rattle.parts.proofs.Laid.{laid_same, laid_grown, laid_more}
use Rattle.parts.proofs.Models.{has_row}
use Rattle.chains.proofs.rows.make_row.Goals as goal
use Rattle.chains.proofs.rows.make_row.Goals.{then-stay, else-stay}

pub returns-clause-few : goal.returns-clause-few
returns-clause-few c =
    let a = c.args in
    let h = c.requires.room in
    let X = c.add_edges.new.self in
    let f = c.add_edges.ensures.few (has_row a.model.now a.s 0 c.requires.model.0 c.requires.model.1 (omega arith)) (omega arith, omega arith) in
    let i : X.len < length X.targets.now = let e = c.add_edges.ensures.lists.2 in omega arith in
    let j : X.len < length X.rates.now = let e = c.add_edges.ensures.lists.3 in omega arith in
    elim c.if-stay.branch [
      | then-stay w ↦ rw w.entries-is (let g = (laid_grown a.s (stay a.rate c.exit_rate.result) X.len (w.add.ensures.added i j) (omega arith) (omega arith)).1 in omega arith)
      | else-stay w ↦ rw w.entries-is (omega arith)
    ]

pub returns-clause-made : goal.returns-clause-made
unfolding jumps_of
returns-clause-made c =
    let a = c.args in
    let h = c.requires.room in
    let es = row (columns_of a.model.now) a.s in
    let X = c.add_edges.new.self in
    let L = c.add_edges.ensures.added (has_row a.model.now a.s 0 c.requires.model.0 c.requires.model.1 (omega arith)) (omega arith, omega arith) in
    let f = c.add_edges.ensures.few (has_row a.model.now a.s 0 c.requires.model.0 c.requires.model.1 (omega arith)) (omega arith, omega arith) in
    let i : X.len < length X.targets.now = let e = c.add_edges.ensures.lists.2 in omega arith in
    let j : X.len < length X.rates.now = let e = c.add_edges.ensures.lists.3 in omega arith in
    elim c.if-stay.branch [
      | then-stay w ↦ rw w.entries-is (laid_named (search rules) (search rules) (laid_same (row_stays a.rate a.s es _ (ap (stay a.rate) c.exit_rate.ensures) w.if-stay.true) (laid_more _ _ _ (w.add.ensures.added i j) L)))
      | else-stay w ↦ rw w.entries-is (laid_named (search rules) (search rules) (laid_same (row_leaves a.rate a.s es _ (ap (stay a.rate) c.exit_rate.ensures) w.if-stay.false) L))
    ]
