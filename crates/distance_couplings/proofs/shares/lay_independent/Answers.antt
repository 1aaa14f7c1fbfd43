-- By the test of the rows.
use mathlib.Core.Path.{sym, ap, ◌∙◌}
use mathlib.Core.Bool.{Bool}
use lib.ListN.{length}
use Rattle.distance_theory.proofs.Index.{look_up}
use Rattle.distance_theory.proofs.Bests.{lay_if}
use Rattle.distance_theory.proofs.RowsLent.{independent_rows, fitting_beside, fitting_room}
use Rattle.distance_couplings.proofs.Moves.{laid_all}
use Rattle.distance_couplings.proofs.shares.lay_independent.Goals as goal

pub returns-then-not-fits-clause-laid : goal.returns-then-not-fits-clause-laid
returns-then-not-fits-clause-laid c = let S = c.args.shares.now in ap (λ (b : Bool). lay_if b (independent_rows c.args.rows.now) S.places.now S.masses.now) (sym c.if-not-fits.true ∙ c.fits.ensures)

pub lay_shares-requires : goal.lay_shares-requires
lay_shares-requires c = let e = sym c.fits.ensures ∙ c.if-not-fits.false in record { beside = fitting_beside c.args.rows.now c.args.shares.now e; room = fitting_room c.args.rows.now c.args.shares.now e }

pub cells-requires : goal.cells-requires
cells-requires c = let B = fitting_beside c.args.rows.now c.args.shares.now (sym c.fits.ensures ∙ c.if-not-fits.false) in (B.few_left, B.few_right)

pub returns-clause-laid : goal.returns-clause-laid
returns-clause-laid c =
    let R = c.args.rows.now in
    let S = c.args.shares.now in
    let e = sym c.fits.ensures ∙ c.if-not-fits.false in
    laid_all (look_up R.codes.now) R.xs.targets.now R.xs.probs.now R.ys.targets.now R.ys.probs.now (length R.codes.now) (fitting_beside R S e) _ _ S.places.now _ S.masses.now c.cells.ensures c.lay_shares.ensures.laid.0 c.lay_shares.ensures.laid.1
    ∙ ap (λ (b : Bool). lay_if b (independent_rows R) S.places.now S.masses.now) (sym c.if-not-fits.false ∙ c.fits.ensures)
