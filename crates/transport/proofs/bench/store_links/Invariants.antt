-- `bench::store_links` meets its contract: at turn i the first i links are those of the rows (Storing.StoredTo).
use Rattle.transport.proofs.Storing.{StoredTo}
use Rattle.transport.proofs.bench.store_links.Given as goal

abbrev pub invariant-loop-i : goal.invariant-loop-i
invariant-loop-i l = StoredTo l.initial.net l.links.heads.now l.caps l.links.prices.now l.net l.i
