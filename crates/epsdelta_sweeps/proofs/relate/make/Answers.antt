-- `relate::make` meets its contract: from the marks of the task the run is the one of the definition (Reading).
use mathlib.Core.Path.{sym, ap, ◌∙◌}
use native.Mathlib.Omega.{arith}
use lib.Seq.{length-take-le}
use Rattle.epsdelta_theory.specs.Relation.{relation_bytes}
use Rattle.flow_links.proofs.RowsRead.{states_of}
use Rattle.epsdelta_sweeps.proofs.Reading.{marks_bytes, marks_even, of_front, related}
use Rattle.epsdelta_sweeps.proofs.relate.make.Goals as goal

pub marks-requires : goal.marks-requires
marks-requires c =
    let a = c.args in
    let z = length-take-le (states_of a.rows.now) a.classes.now c.requires.1 in
    let f = c.requires.0.few in
    (omega arith, c.requires.2 ∙ ap relation_bytes (sym z))

pub run-requires : goal.run-requires
run-requires c =
    let a = c.args in
    let l = c.marks.new.relation in
    record { rows_fit = (c.requires.0, c.plenty_of-plenty.ensures, marks_even (states_of a.rows.now) a.classes.now a.rows.now.exits.now a.tolerances.rho l (of_front c.requires.1 c.marks.ensures)); relation_value = marks_bytes (states_of a.rows.now) a.classes.now a.rows.now.exits.now a.tolerances.rho l (of_front c.requires.1 c.marks.ensures) }

pub returns : goal.returns
returns c =
    let a = c.args in
    related (states_of a.rows.now) a.classes.now a.rows.now.exits.now a.rows.now.starts.now a.rows.now.targets.now a.rows.now.probs.now a.tolerances.epsilon a.tolerances.rho c.needed-need.ensures (of_front c.requires.1 c.marks.ensures) c.run.ensures
