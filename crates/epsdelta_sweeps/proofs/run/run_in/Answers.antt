-- The sweeps from the first pair on, and where they ask, those on a network from there (Resuming).
use Rattle.std.proofs.Common.{rules}
use mathlib.Core.Path.{sym, ◌∙◌}
use native.Mathlib.Omega.{arith}
use lib.ListN.{replicate, length-replicate}
use lib.Seq.{length-take-le}
use Rattle.flow_links.proofs.RowsRead.{states_of}
use Rattle.epsdelta_sweeps.specs.Place.{none}
use Rattle.epsdelta_sweeps.proofs.Noting.{first_words}
use Rattle.epsdelta_sweeps.proofs.Resuming.{held_start, moves_then, runs_to}
use Rattle.epsdelta_sweeps.proofs.run.run_in.Goals as goal

pub advance-requires : goal.advance-requires
advance-requires g c =
    let p = c.requires in
    let (w, z) = first_words (states_of c.args.terms.now.rows) _ (length-take-le (states_of c.args.terms.now.rows) (replicate g.row.N none) (let e = length-replicate g.row.N none in omega arith)) in
    (p.rows_fit.0, omega arith, omega arith, (λ k. omega arith), held_start p.relation_value p.rows_fit.1 p.rows_fit.2 w z)

pub returns-in-Err : goal.returns-in-Err
returns-in-Err g c = λ Q K x q k l.
    let r = c.with_rows.ensures in
    let P = r.0 in
    let d = runs_to (moves_then c.in-Err.ensures.0 (omega arith) P.4) P.2 P.3 Q K x q k l in
    let s = sym (r.1 ∙ c.advance.ensures.1) in
    search rules

pub returns-in_default : goal.returns-in_default
returns-in_default g c = λ Q K x q k l.
    let P = c.in_default.ensures.0 in
    let d = runs_to P.4 P.2 P.3 Q K x q k l in
    let s = sym c.advance.ensures.1 in
    search rules
