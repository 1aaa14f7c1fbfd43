-- By the cases of the tests: the pair is known, or it is pair 4,097, or it is noted.
use mathlib.Core.Path.{refl, sym, ap, ◌∙◌}
use native.Mathlib.Omega.{arith}
use Prim.Native.Nat.{◌-◌}
use lib.ListN.{length, length-set}
use Rattle.epsdelta_theory.proofs.RowsIn.{put}
use Rattle.distance_theory.proofs.Discovery.{takes_known, takes_last, takes_new, put_length}
use Rattle.distance_pairs.proofs.discover.meet.Goals as goal

pub returns-then-known-clause-met : goal.returns-then-known-clause-met
returns-then-known-clause-met c = let p = c.args.pairs.now in (tt, c.requires, takes_known c.args.x c.args.y p.count p.lefts.now p.rights.now p.codes.now c.requires _ c.goes-at.result c.key-pair.ensures.0 c.goes-at.ensures.0 (sym c.known.ensures ∙ c.if-known.true))

pub returns-then-n-ge4096-clause-met : goal.returns-then-n-ge4096-clause-met
returns-then-n-ge4096-clause-met c = let p = c.args.pairs.now in ((refl, (let f = c.requires.few in let g = c.if-n-ge4096.true in omega arith)), c.requires, takes_last c.args.x c.args.y p.count p.lefts.now p.rights.now p.codes.now c.requires _ c.goes-at.result c.key-pair.ensures.0 c.goes-at.ensures.0 (sym c.known.ensures ∙ c.if-known.false) c.if-n-ge4096.true)

pub returns-clause-met : goal.returns-clause-met
returns-clause-met c =
    let p = c.args.pairs.now in
    let at = c.goes-at.result in
    let R = c.requires in
    let noted = (let a = R.codes_long in let b = c.goes-at.ensures in c.insert.ensures.put (omega arith) (omega arith)) in (
      tt,
      record { few = (let f = c.if-n-ge4096.false in omega arith); lefts_long = rw length-set R.lefts_long; rights_long = rw length-set R.rights_long; codes_long = (let a = R.codes_long in let e = ap length noted ∙ put_length at (p.count - at) p.codes.now c.new.result.0 in omega arith) },
      takes_new c.args.x c.args.y p.count p.lefts.now p.rights.now p.codes.now c.requires _ at c.key-pair.ensures.0 c.goes-at.ensures.0 (sym c.known.ensures ∙ c.if-known.false) c.if-n-ge4096.false _ (noted ∙ ap (put at (p.count - at) p.codes.now) c.new.ensures),
    )
