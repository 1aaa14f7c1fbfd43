-- `sweeps::tested` meets its contract, by which test is asked for and how it ended (Resuming, Turns).
use mathlib.Core.Path.{refl, sym, subst⁻¹, ◌∙◌}
use mathlib.Core.Bool.{Bool, true, false}
use Prim.Native.Nat.{◌+◌}
use Rattle.epsdelta_sweeps.specs.Leading.{place_of, Holding, FromTest, ToTurn}
use Rattle.epsdelta_sweeps.proofs.Resuming.{back_passes, both_pass, asked_fails}
use Rattle.epsdelta_sweeps.proofs.Turns.{ample_in}
use Rattle.epsdelta_sweeps.proofs.sweeps.tested.Goals as goal
use Rattle.epsdelta_sweeps.proofs.sweeps.tested.Goals.{then-asked-via-then-asked, then-asked-via-else-asked+then-ample}

pub returns-then-not-enough : goal.returns-then-not-enough
returns-then-not-enough c =
    let p = c.requires in
    let a = c.args in
    let n = sym c.enough.ensures ∙ c.if-not-enough.true in
    let S = rw p.1.1 at c.strike.ensures in
    (asked_fails p.0.0 a.asked.struck a.asked.back p.2 (λ f R e. (p.3 a.terms.now.need R e).0 f ∙ n) (λ f R e. (p.3 a.terms.now.need R e).1 f ∙ n) S.0 S.1, S.2)

pub returns-then-asked : goal.returns-then-asked
returns-then-asked c =
    let p = c.requires in
    let w = c.args.terms.now in
    let m = c.args.memory.now in
    let q = place_of c.args.asked in
    elim c.then-asked.branch [
      | then-asked-via-then-asked v ↦
          let b = v.if-asked.true in (
            subst⁻¹ (λ (x : Bool). Holding w m q x true → FromTest w m q x m q.s (q.t + 1) false q.struck false) b
                (λ H. back_passes p.0.0 q.struck H (λ R e. (p.3 w.need R e).1 b ∙ sym c.enough.ensures ∙ c.if-not-enough.false)) p.2,
            refl,
          )
      | then-asked-via-else-asked+then-ample v ↦
          let b = v.if-asked.false in
          let (x, i, l, g, h) = v.ample.ensures v.if-ample.true in (
            subst⁻¹ (λ (x : Bool). Holding w m q x true → FromTest w m q x m q.s (q.t + 1) false q.struck false) b
                (λ H. both_pass p.0.0 q.struck H (λ R e. ample_in p.0.0 w.need w.plenty p.2.enough m.relation.now R e p.2.even q.s q.t p.0.1 p.0.2 x i g h ((p.3 x R e).0 b ∙ l))) p.2,
            refl,
          )
    ]

pub returns : goal.returns
returns c =
    let p = c.requires in
    let w = c.args.terms.now in
    let m = c.args.memory.now in
    let q = place_of c.args.asked in
    let b = c.if-asked.false in
    let P = rw c.place.ensures at c.passed_forth.ensures in (
      subst⁻¹ (λ (x : Bool). Holding w m q x true → ToTurn (FromTest w m q x c.passed_forth.new.memory) q.s (q.t + 1) c.passed_forth.result) b
          (λ H. P.0 H (λ R e. (p.3 w.need R e).0 b ∙ sym c.enough.ensures ∙ c.if-not-enough.false)) p.2,
      P.1,
    )
