-- By the test of the rows.
use mathlib.Core.Path.{sym, ap, ◌∙◌}
use mathlib.Core.Bool.{Bool}
use Rattle.distance_theory.specs.Couplings.{point_mass}
use Rattle.distance_theory.proofs.PairRows.{row_jumps}
use Rattle.distance_theory.proofs.Bests.{best_if}
use Rattle.distance_theory.proofs.RowsLent.{best_rows, fitting_beside, fitting_room}
use Rattle.distance_couplings.proofs.best.best_coupling.Goals as goal

pub returns-then-not-fits-clause-bested : goal.returns-then-not-fits-clause-bested
returns-then-not-fits-clause-bested c =
    let R = c.args.of.now.rows in
    let S = c.args.shares.now in
    ap (λ (b : Bool). best_if b (best_rows (point_mass (row_jumps R.xs) (row_jumps R.ys)) R c.args.of.now.values.now) S.places.now S.masses.now) (sym c.if-not-fits.true ∙ c.fits.ensures)

pub cheapest-requires : goal.cheapest-requires
cheapest-requires c = let e = sym c.fits.ensures ∙ c.if-not-fits.false in record { beside = fitting_beside c.args.of.now.rows c.args.shares.now e; room = fitting_room c.args.of.now.rows c.args.shares.now e }

pub returns-clause-bested : goal.returns-clause-bested
returns-clause-bested c =
    let R = c.args.of.now.rows in
    let S = c.args.shares.now in
    c.cheapest.ensures.bested ∙ ap (λ (b : Bool). best_if b (best_rows (point_mass (row_jumps R.xs) (row_jumps R.ys)) R c.args.of.now.values.now) S.places.now S.masses.now) (sym c.if-not-fits.false ∙ c.fits.ensures)
