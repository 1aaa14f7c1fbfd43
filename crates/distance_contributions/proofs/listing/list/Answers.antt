-- `listing::list` meets its contract: the contributions of all pairs, the largest of them, and their records (Records).
use native.Mathlib.Omega.{arith}
use lib.ListN.{length, drop, replicate}
use Rattle.numbers.specs.Real.{nought}
use Rattle.distance_contributions.proofs.Records.{listable_reads, front_size, records_read, list_is}
use Rattle.distance_contributions.proofs.listing.list.Goals as goal

pub weigh-requires : goal.weigh-requires
weigh-requires c =
    let V = c.args.of.now in
    let (few, asked, read) = listable_reads V c.args.options.top c.requires in
    λ k h. read k (let z = front_size (length V.pairs.lefts.now) 4096 nought few in omega arith)

pub records_of-records-requires : goal.records_of-records-requires
records_of-records-requires c =
    let o = c.args.options in
    let V = c.args.of.now in
    let P = V.pairs in
    let n = length P.lefts.now in
    let (few, asked, read) = listable_reads V o.top c.requires in
    let (p1, p2) = records_read P.lefts.now P.rights.now V.left.now V.right.now V.spent.now n few c.weigh.ensures o asked (drop n (replicate 4096 nought)) c.rank-count.ensures read (drop o.top (replicate 64 0)) in
    record { chosen_len_bound = p1; by_index = p2 }

pub returns : goal.returns
returns c =
    let o = c.args.options in
    let V = c.args.of.now in
    let P = V.pairs in
    let n = length P.lefts.now in
    let (few, asked, read) = listable_reads V o.top c.requires in
    list_is P.lefts.now P.rights.now V.left.now V.right.now V.spent.now n few c.weigh.ensures o asked (drop n (replicate 4096 nought)) c.rank-count.ensures (drop o.top (replicate 64 0)) c.records_of-records.ensures
