-- The initial pair is noted, and discovery goes on from there.
use mathlib.Core.Path.{refl}
use Rattle.chain_theory.specs.Lent.{of_chain}
use Rattle.distance_theory.proofs.Discovery.{startable, all_discovered}
use Rattle.distance_pairs.proofs.discover.discover.Goals as goal

pub discover_in-requires-clause-explorable : goal.discover_in-requires-clause-explorable
discover_in-requires-clause-explorable c =
    let l = c.args.left.now in
    let r = c.args.right.now in
    let p = c.args.pairs.now in
    startable l.shape (of_chain l) r.shape (of_chain r) p.lefts.now p.rights.now p.codes.now c.requires l.shape.initial.0 r.shape.initial.0 c.new.result.0 refl refl c.new.ensures

pub returns-clause-discovered : goal.returns-clause-discovered
returns-clause-discovered c =
    let l = c.args.left.now in
    let r = c.args.right.now in
    let p = c.args.pairs.now in
    (c.discover_in.ensures.explores.0, all_discovered l.shape (of_chain l) r.shape (of_chain r) p.lefts.now p.rights.now p.codes.now c.requires l.shape.initial.0 r.shape.initial.0 c.new.result.0 refl refl c.new.ensures c.discover_in.ensures.explores.2)
