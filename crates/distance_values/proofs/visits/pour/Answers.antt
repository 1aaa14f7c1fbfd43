use Rattle.std.proofs.lemmas.Slice.Zip.{Zip-more, either_empty_from_Zip}
use Rattle.distance_values.proofs.Visiting.{pouring_on, pouring_ends}
use Rattle.distance_values.proofs.visits.pour.Goals as goal

pub loop-place-preserved : goal.loop-place-preserved
loop-place-preserved c = let (p, m) = Zip-more c.loop-place.place-iterator c.next.new.self _ _ c.in-Some.is c.next.ensures.steps in pouring_on c.loop-place.invariant p m

pub returns : goal.returns
returns c = pouring_ends c.loop-place.invariant (either_empty_from_Zip c.loop-place.place-iterator c.next.new.self _ c.in-None.is c.next.ensures.steps)
