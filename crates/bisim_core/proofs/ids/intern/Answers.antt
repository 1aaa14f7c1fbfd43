-- Each way out by its law of Interning, from what the checks on the way said.
use Rattle.std.proofs.Common.{sym, ap, ◌∙◌, ℕ, take, Ok}
use Rattle.bisim_core.specs.Ids.{ends}
use Rattle.bisim_core.proofs.Interning.{placed_at, unplaced, refused_3, refused_4, refused_7, old, added}
use Rattle.bisim_core.proofs.ids.intern.Goals as goal

pub returns-then-overfull : goal.returns-then-overfull
returns-then-overfull c = refused_3 _ _ _ (sym c.overfull.ensures ∙ c.if-overfull.true)

pub returns-then-mislisted : goal.returns-then-mislisted
returns-then-mislisted c = refused_4 _ _ _ (sym c.overfull.ensures ∙ c.if-overfull.false) (sym c.mislisted.ensures ∙ c.if-mislisted.true)

pub returns-in-Some : goal.returns-in-Some
returns-in-Some c =
    let p = placed_at c.args.value c.in-Some.at (take c.args.count c.args.labels.now) (sym c.in-Some.is ∙ c.place.ensures) in
    ap (λ (i : ℕ). ends (Ok (record { 0 = i }, c.args.count)) c.args.labels.now) p.1
    ∙ old _ _ _ (sym c.overfull.ensures ∙ c.if-overfull.false) (sym c.mislisted.ensures ∙ c.if-mislisted.false) p.0

pub returns-then-labels-count : goal.returns-then-labels-count
returns-then-labels-count c =
    refused_7 _ _ _ (sym c.overfull.ensures ∙ c.if-overfull.false) (sym c.mislisted.ensures ∙ c.if-mislisted.false) (unplaced _ _ (sym c.in-None.is ∙ c.place.ensures)) c.if-labels-count.true

pub returns-else-labels-count : goal.returns-else-labels-count
returns-else-labels-count c =
    added _ _ _ (sym c.overfull.ensures ∙ c.if-overfull.false) (sym c.mislisted.ensures ∙ c.if-mislisted.false) (unplaced _ _ (sym c.in-None.is ∙ c.place.ensures)) c.if-labels-count.false
