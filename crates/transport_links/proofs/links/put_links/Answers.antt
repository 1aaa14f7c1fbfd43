use mathlib.Core.Path.{subst}
use Prim.Native.Nat.{◌+◌}
use native.Mathlib.Omega.{arith}
use Rattle.transport_theory.specs.Links.{Link}
use Rattle.transport_theory.proofs.LinkWrites.{count_is, writable_on, space, wrote_next, wrote_all}
use Rattle.transport_links.specs.Lent.{Putting}
use Rattle.transport_links.proofs.links.put_links.Goals as goal

pub link_at-requires-clause-costed : goal.link_at-requires-clause-costed
link_at-requires-clause-costed c = (c.requires.few_a, c.requires.few_b, c.requires.enough)

pub link_at-requires-clause-k_in_bounds : goal.link_at-requires-clause-k_in_bounds
link_at-requires-clause-k_in_bounds c = let t = c.loop-k-test.true in let n = count_is c.requires in omega arith

pub put-requires-clause-space : goal.put-requires-clause-space
put-requires-clause-space c =
    let t = c.loop-k-test.true in let n = count_is c.requires in
    space (writable_on c.requires c.loop-k.invariant.0 (omega arith)) c.loop-k.k (omega arith)

pub loop-k-preserved : goal.loop-k-preserved
loop-k-preserved c =
    let t = c.loop-k-test.true in let n = count_is c.requires in let s = c.loop-k.invariant in let z = c.put.ensures.same in
    (wrote_next c.requires s.0 (omega arith) (subst (λ (l : Link). Putting l c.loop-k.rows (c.loop-k.k + c.loop-k.k) c.put.new.rows) c.link_at.ensures.is c.put.ensures.put), (cc, cc, cc))

pub returns : goal.returns
returns c =
    let t = c.loop-k-test.false in let n = count_is c.requires in let w = wrote_all c.requires c.loop-k.invariant.0 (omega arith) in
    record { heads = w.0; caps = w.1; prices = w.2; same = c.loop-k.invariant.1 }
