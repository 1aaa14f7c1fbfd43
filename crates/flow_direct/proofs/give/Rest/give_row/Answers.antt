use mathlib.Core.Path.{refl, sym, ap, ◌∙◌}
use mathlib.Core.Bool.{true≢false}
use Rattle.flow_direct.specs.declared.give.Rest.{Rest}
use Rattle.flow_routes.proofs.Coding.{given_on, shut_on, giving_full, giving_apart, giving_push, giving_turns}
use Rattle.flow_direct.proofs.give.Rest.give_row.Goals as goal
use Rattle.flow_direct.proofs.give.Rest.give_row.Goals.{then-remains+then-related, else-remains, else-remains-via-then-remains+else-related, else-remains-via-else-remains}

pub loop-k-preserved : goal.loop-k-preserved
loop-k-preserved c =
    let I = c.loop-k.invariant.0.1 in
    elim c.if-remains.branch [
      | then-remains+then-related w ↦
          let (Q, l, h) = given_on c.loop-k.invariant.1 (shut_on c.loop-k.invariant.2 c.loop-k.invariant.1 _) (giving_push I c.requires.1 c.loop-k-test.true (sym c.remains.ensures ∙ c.if-not-remains.false) (sym c.remains-in-loop-k.ensures ∙ w.if-remains.true) (sym (w.related.ensures.bit c.requires.0.states) ∙ w.if-related.true) w.give-total.ensures.0 refl refl refl) (ap (λ (r : Rest). r.lefts.now) w.self-is ∙ w.give-total.ensures.1) (ap (λ (r : Rest). r.rights.now) w.self-is ∙ w.give-total.ensures.2) (ap (λ (r : Rest). r.flows.now) w.self-is ∙ w.give-total.ensures.3) w.total-is in
          ((ap (λ (r : Rest). r.test) w.self-is ∙ w.give-total.ensures.4 ∙ c.loop-k.invariant.0.0, Q), l, h)
      | else-remains w ↦
          let (Q, l, h) = given_on c.loop-k.invariant.1 c.loop-k.invariant.2
          (elim w.else-remains.branch [
            | else-remains-via-then-remains+else-related v ↦ giving_apart I (sym (v.related.ensures.bit c.requires.0.states) ∙ v.if-related.false)
            | else-remains-via-else-remains v ↦ giving_full I (sym c.remains-in-loop-k.ensures ∙ v.if-remains.false)
          ]) (ap (λ (r : Rest). r.lefts.now) w.self-is) (ap (λ (r : Rest). r.rights.now) w.self-is) (ap (λ (r : Rest). r.flows.now) w.self-is) w.total-is in
          ((ap (λ (r : Rest). r.test) w.self-is ∙ c.loop-k.invariant.0.0, Q), l, h)
    ]

pub returns-then-not-remains : goal.returns-then-not-remains
returns-then-not-remains c = (c.loop-k.invariant.2, (c.loop-k.invariant.0.0, giving_turns c.loop-k.invariant.0.1 (λ a. absurd (true≢false (sym a ∙ sym c.remains.ensures ∙ c.if-not-remains.true)))))

pub returns : goal.returns
returns c = (c.loop-k.invariant.2, (c.loop-k.invariant.0.0, giving_turns c.loop-k.invariant.0.1 (λ a. c.loop-k-test.false)))
