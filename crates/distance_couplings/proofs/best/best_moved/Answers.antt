-- Costs and masses, and the transport of these (Moves).
use lib.ListN.{length}
use Rattle.distance_theory.proofs.Index.{look_up}
use Rattle.distance_couplings.proofs.Moves.{moved_best}
use Rattle.distance_couplings.proofs.best.best_moved.Goals as goal

pub returns-clause-bested : goal.returns-clause-bested
returns-clause-bested c = moved_best (look_up c.args.of.now.rows.codes.now) c.args.of.now.rows.xs.targets.now c.args.of.now.rows.xs.probs.now c.args.of.now.rows.ys.targets.now c.args.of.now.rows.ys.probs.now (length c.args.of.now.rows.codes.now) c.requires.beside c.args.of.now.values.now _ _ c.fit.ensures c.lay_values.ensures c.args.shares.now.places.now c.args.shares.now.masses.now _ c.move_masses.ensures.bested
