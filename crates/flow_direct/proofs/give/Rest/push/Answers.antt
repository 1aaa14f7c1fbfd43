use mathlib.Core.Path.{◌≡◌, refl, ap}
use Prim.Native.Nat.{◌-◌, ◌+◌}
use native.Mathlib.Omega.{arith}
use lib.ListN.{length, get_or}
use Rattle.flow_routes.proofs.Ways.{minus}
use Rattle.flow_routes.proofs.Pathing.{sends_first, sends_turns, sends_done, sends_sized, turn_sized}
use Rattle.flow_direct.proofs.give.Rest.push.Goals as goal

pub loop-g-init : goal.loop-g-init
loop-g-init c = (c.requires.2.upto, omega arith, refl, refl, refl, sends_first _ _ _ _ _ _ _ _, refl)

pub loop-g-preserved : goal.loop-g-preserved
loop-g-preserved c = let i = c.loop-g.invariant in let j = i.1 in let t = c.loop-g-test.true in let z : c.loop-g.g - 1 + 1 ≡ c.loop-g.g = omega arith in (omega arith, omega arith, i.2, i.3, turn_sized c.args.x _ c.entry-forth.result c.entry-back.result c.loop-g.self.flows.now _ _ i.4 refl refl, sends_turns (length c.args.self.now.test.right.targets.now) c.args.self.now.lefts.now c.args.self.now.rights.now c.args.self.now.flows.now c.args.path.now.s c.args.path.now.lefts c.args.path.now.rights c.args.x _ _ _ c.loop-g.self.flows.now i.5 t j c.entry-forth.result c.entry-back.result _ _ (rw z at c.entry-forth.ensures) refl (rw z at c.entry-back.ensures) refl, i.6)

pub returns : goal.returns
returns c = let i = c.loop-g.invariant in let j = i.0 in let t = c.loop-g-test.false in
    let a = ap (λ l. minus c.args.x l (get_or c.args.path.now.lefts c.args.path.now.s 0)) i.2 in
    let b = ap (λ l. minus c.args.x l (get_or c.args.path.now.rights 1 0)) i.3 in
    (i.6, sends_sized c.args.self.now.lefts.now c.args.self.now.rights.now c.args.self.now.flows.now c.args.x (get_or c.args.path.now.lefts c.args.path.now.s 0) (get_or c.args.path.now.rights 1 0) c.entry-last.result _ _ c.loop-g.self.flows.now _ a b i.4 refl, sends_done (length c.args.self.now.test.right.targets.now) c.args.self.now.lefts.now c.args.self.now.rights.now c.args.self.now.flows.now c.args.path.now.s c.args.path.now.lefts c.args.path.now.rights c.args.x c.requires.2.upto _ _ _ c.loop-g.self.flows.now i.5 (omega arith) c.entry-last.result _ _ _ c.entry-last.ensures refl a b)
