-- `relate::relate` meets its contract: lists that can't be read leave the bytes as they were, and otherwise the relation stands over their front (Reading).
use mathlib.Core.Path.{◌≡◌, sym, ◌∙◌}
use native.Mathlib.Omega.{arith}
use lib.ListN.{length}
use lib.Seq.{length-take-le}
use Rattle.epsdelta_theory.specs.Relation.{relation_bytes}
use Rattle.flow_links.proofs.RowsRead.{states_of}
use Rattle.epsdelta_sweeps.proofs.Reading.{lengths_known, rows_known}
use Rattle.epsdelta_sweeps.proofs.relate.relate.Goals as goal

pub make-requires : goal.make-requires
make-requires c =
    let a = c.args in
    let k = lengths_known (states_of a.rows.now) (length a.classes.now) (length a.rows.now.starts.now) (length a.relation.now) (sym c.long_enough.ensures ∙ c.if-not-long_enough.false) in
    let e : c.relation_bytes-bytes.result ≡ relation_bytes (states_of a.rows.now) = c.relation_bytes-bytes.ensures.few (omega arith) in
    (rows_known (states_of a.rows.now) a.rows.now.starts.now a.rows.now.targets.now a.rows.now.probs.now k.0 k.2 (sym c.all_stand.ensures ∙ c.if-not-all_stand.false), k.1, length-take-le _ _ (omega arith) ∙ e)
