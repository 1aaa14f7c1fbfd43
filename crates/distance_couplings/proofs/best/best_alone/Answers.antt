-- The independent coupling, and what it comes to (Moves.alone-best).
use lib.ListN.{length}
use Rattle.distance_theory.proofs.Index.{look_up}
use Rattle.distance_couplings.proofs.Moves.{alone_best}
use Rattle.distance_couplings.proofs.best.best_alone.Goals as goal

pub returns-clause-bested : goal.returns-clause-bested
returns-clause-bested c = alone_best (look_up c.args.of.now.rows.codes.now) c.args.of.now.rows.xs.targets.now c.args.of.now.rows.xs.probs.now c.args.of.now.rows.ys.targets.now c.args.of.now.rows.ys.probs.now (length c.args.of.now.rows.codes.now) c.requires.beside c.args.of.now.values.now _ _ _ c.args.shares.now.places.now _ c.args.shares.now.masses.now c.cells-cells.ensures c.lay_shares.ensures.laid.0 c.lay_shares.ensures.laid.1 c.first.ensures c.expected-value.ensures
