-- `find` over the triples from p on.
use Rattle.std.proofs.Common.{rules, sym, subst, ◌≤◌, ◌<◌, ◌/◌, ℕ, length, get_or}
use borrow.Author.Tests.{tests}
use Rattle.std.proofs.lemmas.Iterator.{first_from_Range}
use Rattle.build_theory.proofs.Planning.{numbers}
use Rattle.bisim_edges.proofs.Numbers.{numbers_length, past_end, numbers_at}
use Rattle.bisim_build.proofs.Writes.{first}
use Rattle.bisim_build.proofs.write.first_from.Goals as goal

pub returns : goal.returns
returns c =
    let T = c.args.triples.now in
    let s = c.args.s in
    let found = first_from_Range _ _ _ c.find.result (λ k. s ≤ get_or (numbers T) k 0 / 524288) (λ k. get_or (numbers T) k 0 / 524288 < s) c.find.ensures.ran
    (λ x q k. let z : s ≤ (get_or T x past_end).0 / 524288 = search (rules, tests) in subst (λ (y : ℕ). s ≤ y / 524288) (sym (numbers_at T x)) z)
    (λ x q k. let z : (get_or T x past_end).0 / 524288 < s = search (rules, tests) in (search (rules, tests), subst (λ (y : ℕ). y / 524288 < s) (sym (numbers_at T x)) z)) in
    rw c.unwrap_or.ensures (first (numbers T) (length T) c.args.p s (numbers_length T) c.requires c.find.result found)
