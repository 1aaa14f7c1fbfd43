use Rattle.std.proofs.Common.{rules}
use Rattle.std.proofs.lemmas.Slice.Zip.{Zip-more, either_empty_from_Zip}
use Rattle.distance_theory.proofs.Summing.{adding_starts, adding_on, adding_ends}
use Rattle.distance_theory.proofs.lent.Shares.expected.Goals as goal

pub loop-place-init : goal.loop-place-init
loop-place-init c = adding_starts (search rules) (search rules)

pub loop-place-preserved : goal.loop-place-preserved
loop-place-preserved c = let (p, m) = Zip-more c.loop-place.place-iterator c.next.new.self _ _ c.in-Some.is c.next.ensures.steps in adding_on c.loop-place.invariant p m c.value_at.ensures

pub returns : goal.returns
returns c = adding_ends c.loop-place.invariant (either_empty_from_Zip c.loop-place.place-iterator c.next.new.self _ c.in-None.is c.next.ensures.steps)
