-- The rows are cut to as many exit rates as there are states, and `relate` reads those alone (Entering).
use Rattle.epsdelta.proofs.Entering.{finished}
use Rattle.epsdelta.proofs.relation.finish.Goals as goal

pub returns : goal.returns
returns c = λ J h.
    let a = c.args in
    finished a.settings.now c.states.result a.rows.now.exits.now a.rows.now.starts.now a.rows.now.targets.now a.rows.now.probs.now c.join_classes.new.classes a.relation.now c.relate.new.relation c.relate.result J c.states.ensures c.in_ok-later.ensures (rw c.join_classes.auto.classes c.requires.rows) c.join_classes.ensures h c.relate.ensures
