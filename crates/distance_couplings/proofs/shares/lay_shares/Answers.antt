use mathlib.Core.Path.{refl, sym, ◌∙◌}
use native.Mathlib.Omega.{arith}
use lib.ListN.{length, length-set}
use Rattle.distance_theory.proofs.Index.{look_up}
use Rattle.distance_theory.proofs.Bests.{freely_length, freely_place, freely_mass, laying_start, laying_next, laying_done}
use Rattle.distance_couplings.proofs.shares.lay_shares.Goals as goal

pub loop-k-init : goal.loop-k-init
loop-k-init c = ((refl, refl), omega arith, refl, refl, laying_start _ _ _)

pub place-requires : goal.place-requires
place-requires c = c.requires.beside.few_codes

pub loop-k-preserved : goal.loop-k-preserved
loop-k-preserved c =
    let I = c.loop-k.invariant in
    let h = c.loop-k-test.true in
    let e = c.cells-k-end.ensures in
    let n = freely_length (look_up c.args.rows.now.codes.now) c.args.rows.now.xs.targets.now c.args.rows.now.xs.probs.now c.args.rows.now.ys.targets.now c.args.rows.now.ys.probs.now (length c.args.rows.now.codes.now) c.requires.beside in (
      I.0,
      omega arith,
      length-set c.loop-k.shares.places.now c.loop-k.k _ ∙ I.2,
      length-set c.loop-k.shares.masses.now c.loop-k.k _ ∙ I.3,
      laying_next I.4 _ _ (c.place.ensures ∙ sym (freely_place (look_up c.args.rows.now.codes.now) c.args.rows.now.xs.targets.now c.args.rows.now.xs.probs.now c.args.rows.now.ys.targets.now c.args.rows.now.ys.probs.now (length c.args.rows.now.codes.now) c.requires.beside c.loop-k.k (omega arith))) (sym (freely_mass (look_up c.args.rows.now.codes.now) c.args.rows.now.xs.targets.now c.args.rows.now.xs.probs.now c.args.rows.now.ys.targets.now c.args.rows.now.ys.probs.now (length c.args.rows.now.codes.now) c.requires.beside c.loop-k.k (omega arith))) (omega arith) (let r = c.requires.room.0 in omega arith) (let r = c.requires.room.1 in omega arith),
    )

pub returns-clause-laid : goal.returns-clause-laid
returns-clause-laid c = let n = freely_length (look_up c.args.rows.now.codes.now) c.args.rows.now.xs.targets.now c.args.rows.now.xs.probs.now c.args.rows.now.ys.targets.now c.args.rows.now.ys.probs.now (length c.args.rows.now.codes.now) c.requires.beside in let h = c.loop-k-test.false in let e = c.cells-k-end.ensures in let l = c.loop-k.invariant.1 in laying_done c.loop-k.invariant.4 (omega arith)

pub returns-clause-lists : goal.returns-clause-lists
returns-clause-lists c = let I = c.loop-k.invariant in (I.0.0, I.0.1, I.2, I.3)
