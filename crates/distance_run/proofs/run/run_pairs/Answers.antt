-- What `discover_from` lists is run as the definition says.
use mathlib.Core.Path.{ap, ◌∙◌}
use lib.ListN.{length}
use Rattle.chain_theory.specs.Lent.{of_chain}
use Rattle.distance_theory.specs.declared.Goal.{Goal}
use Rattle.distance_words.proofs.Found.{found_of}
use Rattle.distance_run.proofs.Running.{lengths_kept, both_seen, pairs_refused, run_few, pairs_told}
use Rattle.distance_run.proofs.run.run_pairs.Goals as goal

pub returns-in_err-discover_from-clause-told : goal.returns-in_err-discover_from-clause-told
returns-in_err-discover_from-clause-told c =
    let a = c.args in
    pairs_refused a.of.now a.pairs.now a.places.now a.masses.now c.requires _ c.in_err-discover_from.ensures.found c.from_residual.result c.from_residual.ensures.1

pub observed-requires : goal.observed-requires
observed-requires c = let a = c.args in both_seen a.of.now a.pairs.now a.places.now a.masses.now c.requires

pub run_found-requires : goal.run_found-requires
run_found-requires c = let a = c.args in run_few a.of.now a.pairs.now a.places.now a.masses.now c.requires _ c.in_ok-discover_from.ensures.found c.in_ok-discover_from.ensures.count c.noted.ensures

pub returns-clause-told : goal.returns-clause-told
returns-clause-told c =
    let a = c.args in
    let p = c.noted.result in
    let o = c.observed.result in
    pairs_told a.of.now a.pairs.now a.places.now a.masses.now c.requires _ c.in_ok-discover_from.ensures.found c.in_ok-discover_from.ensures.count c.noted.ensures c.observed.ensures.left.1 c.observed.ensures.right.1
    (c.run_found.ensures ∙ ap (λ (g : Goal). found_of (length p.lefts.now) p.lefts.now p.rights.now p.codes.now (of_chain o.left) (of_chain o.right) o.left.observations.now o.right.observations.now g.gamma g.options a.places.now a.masses.now) c.observed.ensures.goal)

pub returns-in_err-discover_from-clause-lengths : goal.returns-in_err-discover_from-clause-lengths
returns-in_err-discover_from-clause-lengths c = let a = c.args in lengths_kept a.of.now a.pairs.now a.places.now a.masses.now c.requires _ _ _ _ c.in_err-discover_from.ensures.found

pub returns-clause-lengths : goal.returns-clause-lengths
returns-clause-lengths c = let a = c.args in lengths_kept a.of.now a.pairs.now a.places.now a.masses.now c.requires _ _ _ _ c.in_ok-discover_from.ensures.found
