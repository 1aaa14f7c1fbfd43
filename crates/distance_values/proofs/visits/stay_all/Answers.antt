use Rattle.distance_values.proofs.Visiting.{stays_start, pair_coupled, pair_leads, stays_over, stays_through, stays_end}
use mathlib.Core.Path.{sym, ◌∙◌}
use Rattle.distance_values.proofs.visits.stay_all.Goals as goal
use Rattle.distance_values.proofs.visits.stay_all.Goals.{then-p, else-p}

pub loop-k-init : goal.loop-k-init
loop-k-init c = stays_start c.requires.next_len.0 c.requires.next_len.1

pub coupling-requires : goal.coupling-requires
coupling-requires c = let (a, b, d, e) = pair_coupled c.loop-k.invariant c.loop-k-test.true c.requires.holds in record { indexed = (a, b); stored = (d, e) }

pub pour-requires : goal.pour-requires
pour-requires c = pair_leads c.loop-k.invariant c.loop-k-test.true c.requires.holds c.coupling.ensures

pub loop-k-preserved : goal.loop-k-preserved
loop-k-preserved c =
    elim c.if-p.branch [
      | then-p w ↦ stays_through c.loop-k.invariant c.loop-k-test.true w.if-p.true w.pour.auto.next w.coupling.ensures w.pour.ensures _ _ w.next-is w.spent-is
      | else-p w ↦ stays_over c.loop-k.invariant c.loop-k-test.true w.if-p.false _ _ w.next-is w.spent-is
    ]

pub shape_of-next : goal.shape_of-next
shape_of-next c = c.loop-k.invariant.next_size ∙ sym c.requires.next_len.0

pub shape_of-spent : goal.shape_of-spent
shape_of-spent c = c.loop-k.invariant.spent_size ∙ sym c.requires.next_len.1

pub returns : goal.returns
returns c = stays_end c.loop-k.invariant c.loop-k-test.false
