-- The checks in their order: the first that fails is the answer.
use Rattle.std.proofs.Common.{◌≡◌, sym, ap, ◌∙◌, Bool, true, false, ◌&&◌, not, get_or, arith}
use lib.Ieee.{le, nan}
use Rattle.numbers.specs.Lists.{every, all}
use Rattle.numbers.specs.Real.{least_weight, greatest_joined}
use Rattle.numbers.proofs.Refuses.{hit, skip, none}
use Rattle.bisim_core.specs.Data.{Columns, columns_of}
use Rattle.bisim_core.specs.declared.wlts.Shape.{Shape}
use Rattle.bisim_core.specs.Model.{rows, large, unfit, joined_weighs, crowded, refusal_with}
use Rattle.bisim_core.proofs.Fits.{small, fit, weigh_rows, target_in, refused_3, refused_4, refused_5, refused_6, refused_none}
use Rattle.bisim_core.proofs.wlts.Wlts.check_with.Goals.{then-stray-via-then-stray, then-stray-via-else-stray+then-unfit}
use Rattle.bisim_core.proofs.wlts.Wlts.check_with.Goals as goal

-- past check 4: b says of the edges in order what check 5 asks of the rows
module _ (stray : Bool) (S : Shape) (M : Columns) (sized : large S ≡ false) (near : stray ≡ false) (fits : unfit S M ≡ false) (b : Bool)
    (weighed : b ≡ every (λ i. le least_weight (get_or M.edge_weights i nan) && le (get_or M.edge_weights i nan) greatest_joined) S.edges) where
  of_rows : not (all joined_weighs (rows M 0 S.states)) ≡ not b
  of_rows = ap not (sym (weighed ∙ weigh_rows (fit S M fits).order))

  fails_5 : not b ≡ true → 5 ≡ refusal_with stray S M
  fails_5 e = refused_5 stray S M sized (none _ _ near fits) (of_rows ∙ e)

  fails_6 : not b ≡ false → crowded S M ≡ true → 6 ≡ refusal_with stray S M
  fails_6 e f = refused_6 stray S M sized (none _ _ near fits) (of_rows ∙ e) f

  passes : not b ≡ false → crowded S M ≡ false → 0 ≡ refusal_with stray S M
  passes e f = refused_none stray S M sized (none _ _ near fits) (of_rows ∙ e) f

pub returns-then-large : goal.returns-then-large
returns-then-large c = refused_3 c.args.stray c.args.self.now.shape (columns_of c.args.self.now) (sym c.large.ensures ∙ c.if-large.true)

pub returns-then-stray : goal.returns-then-stray
returns-then-stray c = refused_4 c.args.stray c.args.self.now.shape (columns_of c.args.self.now) (sym c.large.ensures ∙ c.if-large.false) (elim c.then-stray.branch [
  | then-stray-via-then-stray w ↦ sym (hit _ _ (sym w.if-stray.true))
  | then-stray-via-else-stray+then-unfit w ↦ sym (skip _ _ _ w.if-stray.false (sym w.if-unfit.true ∙ w.unfit.ensures))
])

pub all_weigh-requires : goal.all_weigh-requires
all_weigh-requires c = (fit c.args.self.now.shape (columns_of c.args.self.now) (sym c.unfit.ensures ∙ c.if-unfit.false)).room.edge_weights_in

pub returns-then-not-all_weigh : goal.returns-then-not-all_weigh
returns-then-not-all_weigh c = fails_5 _ _ _ (sym c.large.ensures ∙ c.if-large.false) c.if-stray.false (sym c.unfit.ensures ∙ c.if-unfit.false) _ c.all_weigh.ensures (ap not c.if-not-all_weigh.true)

pub crowded-requires : goal.crowded-requires
crowded-requires c =
    let F = fit c.args.self.now.shape (columns_of c.args.self.now) (sym c.unfit.ensures ∙ c.if-unfit.false) in
    let o = F.room in
    let l = F.order.last in
    ((small c.args.self.now.shape (sym c.large.ensures ∙ c.if-large.false)).states_in, o.offsets_in, F.order.up, omega arith, λ i h. target_in F i (omega arith))

pub returns-then-crowded : goal.returns-then-crowded
returns-then-crowded c = fails_6 _ _ _ (sym c.large.ensures ∙ c.if-large.false) c.if-stray.false (sym c.unfit.ensures ∙ c.if-unfit.false) _ c.all_weigh.ensures (ap not c.if-not-all_weigh.false) (sym c.crowded.ensures ∙ c.if-crowded.true)

pub returns : goal.returns
returns c = passes _ _ _ (sym c.large.ensures ∙ c.if-large.false) c.if-stray.false (sym c.unfit.ensures ∙ c.if-unfit.false) _ c.all_weigh.ensures (ap not c.if-not-all_weigh.false) (sym c.crowded.ensures ∙ c.if-crowded.false)
