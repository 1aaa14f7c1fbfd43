use Rattle.std.proofs.Common.{◌≡◌, refl, sym, ap, ◌∙◌, ℕ, ◌/◌, ◌%◌, List, length}
use Rattle.bisim_edges.proofs.Crowds.{source_at, target_at, crowding, Ready, ready_same, ready_new, leads_read, crowd_self, crowd_more, crowd_found, crowd_none}
use Rattle.bisim_edges.proofs.crowd.crowded.Goals.{then-s-state, else-s-state, else-leads-via-then-leads+else-not-add, else-leads-via-else-leads}
use Rattle.bisim_edges.proofs.crowd.crowded.Goals as goal

pub loop-number-init : goal.loop-number-init
loop-number-init c = crowding _ _ _ refl

pub returns-then-not-add : goal.returns-then-not-add
returns-then-not-add c =
    let I = c.loop-number.invariant in
    let R = c.requires.0 in
    let h = c.loop-number-test.true in
    let K = c.args.keys.now in
    let s-is : c.source-s.result ≡ source_at K c.args.weights.now c.loop-number.number-index = c.source-s.ensures ∙ ap (λ (q : ℕ). q / 524288) c.triple-triple.ensures in
    let t-is : c.target-t.result ≡ target_at K c.args.weights.now c.loop-number.number-index = c.target-t.ensures ∙ ap (λ (q : ℕ). q % 2048) c.triple-triple.ensures in
    let same : c.if-s-state.seen.targets ≡ c.loop-number.seen.targets = elim c.if-s-state.branch [
      | then-s-state w ↦ ap (λ x. x.targets) w.seen-is
      | else-s-state w ↦ ap (λ x. x.targets) w.seen-is
    ] in
    let ready : Ready I R h c.if-s-state.seen.count = elim c.if-s-state.branch [
      | then-s-state w ↦ ready_new I R h (λ y. w.if-s-state.true (s-is ∙ y)) _ (ap (λ x. x.count) w.seen-is)
      | else-s-state w ↦ ready_same I R h (sym s-is ∙ w.if-s-state.false) _ (ap (λ x. x.count) w.seen-is)
    ] in
    crowd_found I R h _ ready (leads_read I R h _ _ _ c.at.ensures (c.from.ensures ∙ t-is) s-is c.leads.ensures c.if-leads.true) _ _ same t-is (c.add.ensures.full c.if-not-add.true)

pub loop-number-preserved : goal.loop-number-preserved
loop-number-preserved c =
    let I = c.loop-number.invariant in
    let R = c.requires.0 in
    let h = c.loop-number-test.true in
    let K = c.args.keys.now in
    let s-is : c.source-s.result ≡ source_at K c.args.weights.now c.loop-number.number-index = c.source-s.ensures ∙ ap (λ (q : ℕ). q / 524288) c.triple-triple.ensures in
    let t-is : c.target-t.result ≡ target_at K c.args.weights.now c.loop-number.number-index = c.target-t.ensures ∙ ap (λ (q : ℕ). q % 2048) c.triple-triple.ensures in
    let same : c.if-s-state.seen.targets ≡ c.loop-number.seen.targets = elim c.if-s-state.branch [
      | then-s-state w ↦ ap (λ x. x.targets) w.seen-is
      | else-s-state w ↦ ap (λ x. x.targets) w.seen-is
    ] in
    let ready : Ready I R h c.if-s-state.seen.count = elim c.if-s-state.branch [
      | then-s-state w ↦ ready_new I R h (λ y. w.if-s-state.true (s-is ∙ y)) _ (ap (λ x. x.count) w.seen-is)
      | else-s-state w ↦ ready_same I R h (sym s-is ∙ w.if-s-state.false) _ (ap (λ x. x.count) w.seen-is)
    ] in
    elim c.else-leads.branch [
      | else-leads-via-then-leads+else-not-add w ↦
          crowd_more I R h _ ready (leads_read I R h _ _ _ c.at.ensures (c.from.ensures ∙ t-is) s-is c.leads.ensures w.if-leads.true) _ _ same t-is _ _ (w.add.ensures.added w.if-not-add.false)
          (w.add.ensures.room ∙ ap (λ (l : List ℕ). length l) same) _ _ _ (ap (λ x. x.targets) w.seen-is) (ap (λ x. x.count) w.seen-is) s-is
      | else-leads-via-else-leads w ↦ crowd_self I R h _ ready (leads_read I R h _ _ _ c.at.ensures (c.from.ensures ∙ t-is) s-is c.leads.ensures w.if-leads.false) _ _ _ (ap (λ x. x.targets) w.seen-is ∙ same) (ap (λ x. x.count) w.seen-is) s-is
    ]

pub returns : goal.returns
returns c = crowd_none c.loop-number.invariant c.requires.0 c.loop-number-test.false
