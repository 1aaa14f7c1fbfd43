-- By the cases of the answers.
use Rattle.std.proofs.Common.{rules, ◌≡◌, true}
use Rattle.chain_theory.specs.Lent.{of_chain}
use Rattle.distance_theory.proofs.Discovery.{discoverable, found_few, count_left}
use Rattle.distance_pairs.proofs.discover.discover_from.Goals as goal

pub returns-clause-found : goal.returns-clause-found
returns-clause-found c =
    let l = c.args.left.now in
    let r = c.args.right.now in
    let p = c.args.pairs.now in
    let h : discoverable l.shape (of_chain l) r.shape (of_chain r) p.lefts.now p.rights.now p.codes.now ≡ true = search rules in
    found_few l.shape (of_chain l) r.shape (of_chain r) p.lefts.now p.rights.now p.codes.now h c.in_ok-discover.ensures.discovered.1 c.in_ok-discover.ensures.few

pub returns-in_err-discover-clause-count : goal.returns-in_err-discover-clause-count
returns-in_err-discover-clause-count c = count_left c.from_residual.result _ c.args.pairs.now c.discover.new.pairs c.from_residual.ensures.1 c.in_err-discover.ensures.discovered.0
