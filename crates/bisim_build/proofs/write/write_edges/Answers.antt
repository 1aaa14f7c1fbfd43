use native.Mathlib.Omega.{arith}
use Rattle.bisim_edges.proofs.Numbers.{numbers_length, numbers_at}
use Rattle.bisim_build.proofs.Writes.{writes, written}
use Rattle.bisim_build.proofs.write.write_edges.Goals as goal

pub bounds-labels-i : goal.bounds-labels-i
bounds-labels-i c = omega (arith, numbers_length c.args.triples.now)

pub bounds-targets-i : goal.bounds-targets-i
bounds-targets-i c = omega (arith, numbers_length c.args.triples.now)

pub loop-i-preserved : goal.loop-i-preserved
loop-i-preserved c =
    rw (c.label.ensures, c.target.ensures, ← numbers_at c.args.triples.now c.loop-i.i) (writes c.requires c.loop-i.invariant (let h = c.loop-i-test.true in omega (arith, numbers_length c.args.triples.now)))

pub returns : goal.returns
returns c = written c.requires c.loop-i.invariant (let h = c.loop-i-test.false in omega (arith, numbers_length c.args.triples.now))
