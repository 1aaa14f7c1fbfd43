use mathlib.Core.Path.{◌≡◌, refl, sym, subst, subst⁻¹, ◌∙◌}
use mathlib.Core.Bool.{Bool, true, false, true≢false}
use mathlib.Core.List.{List}
use Prim.Native.Nat.{ℕ}
use native.Mathlib.Omega.{arith}
use lib.Dec.{eqb}
use lib.ListN.{length}
use borrow.Author.Tests.{eq-eqb, eqb-true}
use Rattle.std.specs.Prelude.{Some, None}
use Rattle.std.specs.Bool.{then_some}
use Rattle.flow_theory.specs.Network.{Net}
use Rattle.std.proofs.lemmas.List.{set-get_or}
use Rattle.flow_check.specs.Lent.{net_of}
use Rattle.transport_theory.proofs.WalkRows.{Walked}
use Rattle.transport_theory.proofs.Walks.{back_in, walk_on, walk_lost, walk_home, walk_full}
use Rattle.transport_core.proofs.path.walk.Goals as goal

pub returns-then-v-course : goal.returns-then-v-course
returns-then-v-course c =
    let N = c.args.course.now.net in
    let E = c.args.course.now.ends in
    subst (λ (p : List ℕ). Walked (net_of N E) c.args.via.now p (Some c.loop-length.length)) (sym (set-get_or c.loop-length.path c.loop-length.length 0))
    (walk_home N.heads.now N.nodes E.source E.sink c.requires.walkable c.loop-length.invariant c.if-v-course.true)

pub bounds-course-reverse : goal.bounds-course-reverse
bounds-course-reverse c = rw c.reverse.ensures (back_in c.args.course.now.net.heads.now c.args.course.now.net.nodes c.args.course.now.ends.source c.args.course.now.ends.sink c.requires.walkable c.loop-length.invariant c.if-v-course.false)

pub loop-length-preserved : goal.loop-length-preserved
loop-length-preserved c =
    rw c.reverse.ensures (walk_on c.args.course.now.net.heads.now c.args.course.now.net.nodes c.args.course.now.ends.source c.args.course.now.ends.sink c.requires.walkable c.loop-length.invariant c.if-v-course.false
    (let t = c.loop-length-test.true in let r = c.requires.room in let s = c.loop-length.invariant.size in omega arith))

-- whether the node reached last is the source
ended : (b : Bool) → {N : Net} {w p : List ℕ} → (b ≡ true → Walked N w p (Some (length p))) → (b ≡ false → Walked N w p None) → Walked N w p (then_some b (length p))
ended true home lost = home refl
ended false home lost = lost refl

pub returns : goal.returns
returns c =
    let N = c.args.course.now.net in
    let E = c.args.course.now.ends in
    let W = c.requires.walkable in
    let I = c.loop-length.invariant in
    let t = c.loop-length-test.false in
    let r = c.requires.room in
    let s = I.size in
    subst⁻¹ (Walked (net_of N E) c.args.via.now c.loop-length.path) c.then_some.ensures
    (ended (eqb c.loop-length.v E.source)
    (λ e. walk_full N.heads.now N.nodes E.source E.sink W I (omega arith) (eqb-true _ _ e) r)
    (λ e. walk_lost N.heads.now N.nodes E.source E.sink W I (λ x. true≢false (sym (eq-eqb _ _ x) ∙ e)) (omega arith)))
