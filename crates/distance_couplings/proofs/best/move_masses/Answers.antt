-- The sizes fit, so that there is a plan; its cells are the shares (Moves).
use Rattle.std.proofs.Common.{rules}
use mathlib.Core.Path.{refl, sym}
use lib.Seq.{length-take-le}
use Rattle.distance_theory.proofs.Index.{look_up}
use Rattle.distance_couplings.proofs.Moves.{some_plan, cells_room, masses_size, plan_cells, places_size, moved_end}
use Rattle.distance_couplings.proofs.best.move_masses.Goals as goal

pub slice_bounds-lay_planned-end : goal.slice_bounds-lay_planned-end
slice_bounds-lay_planned-end c = cells_room _ _ c.requires c.args.moving.now.rows c.args.moving.now.columns (search rules) (search rules) _ c.transport_sized.ensures.ends c.ok.ensures.value c.in_ok-moved.was

pub slice_bounds-lay_planned-end-2 : goal.slice_bounds-lay_planned-end-2
slice_bounds-lay_planned-end-2 c = sym (length-take-le c.in_ok-moved.moved.cells c.args.shares.now.places.now (cells_room _ _ c.requires c.args.moving.now.rows c.args.moving.now.columns (search rules) (search rules) _ c.transport_sized.ensures.ends c.ok.ensures.value c.in_ok-moved.was))

pub lay_planned-requires : goal.lay_planned-requires
lay_planned-requires c = plan_cells _ _ c.requires c.args.moving.now.rows c.args.moving.now.columns (search rules) (search rules) _ c.transport_sized.ensures.ends c.ok.ensures.value c.in_ok-moved.was c.args.pairs.now refl refl refl

pub returns-clause-bested : goal.returns-clause-bested
returns-clause-bested c =
    let e = moved_end _ _ c.requires c.args.moving.now.rows c.args.moving.now.columns (search rules) (search rules) _ c.transport_sized.ensures.ends c.ok.ensures.value c.in_ok-moved.was (look_up c.args.pairs.now.codes.now) _ c.lay_planned.ensures in
    search (rules, e)

pub returns-in_err-moved-clause-bested : goal.returns-in_err-moved-clause-bested
returns-in_err-moved-clause-bested c = absurd (some_plan _ _ c.requires c.args.moving.now.rows c.args.moving.now.columns (search rules) (search rules) _ c.transport_sized.ensures.ends c.ok.ensures.value c.in_err-moved.was)

pub returns-clause-lists : goal.returns-clause-lists
returns-clause-lists c =
    let e = masses_size _ _ c.requires c.args.moving.now.rows c.args.moving.now.columns (search rules) (search rules) _ c.transport_sized.ensures.ends c.ok.ensures.value c.in_ok-moved.was in
    (refl, refl, places_size _ _ c.requires c.args.moving.now.rows c.args.moving.now.columns (search rules) (search rules) _ c.transport_sized.ensures.ends c.ok.ensures.value c.in_ok-moved.was _ c.lay_planned.auto.places, search (rules, e))
