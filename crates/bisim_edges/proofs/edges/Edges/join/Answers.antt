-- The keys are the first and the rest; one of the rest is read a place before its own.
use Rattle.std.proofs.Common.{◌≡◌, refl, sym, ap, ◌∙◌, ℕ, ◌+◌, ◌/◌, ◌%◌, ◌≤◌, ◌<◌, ◌∷◌, length, get_or, arith}
use lib.Ieee.{binary64, add, nan}
use borrow.Author.Tests.{eqb-true, eqb-false}
use Rattle.build_theory.proofs.Planning.{numbers}
use Rattle.bisim_edges.proofs.Numbers.{numbers_length}
use Rattle.bisim_edges.proofs.Joins.{behind, joining, room, goes_on, begins, all_joined}
use Rattle.bisim_edges.proofs.edges.Edges.join.Goals.{then-eq, else-eq}
use Rattle.bisim_edges.proofs.edges.Edges.join.Goals as goal

pub loop-number-init : goal.loop-number-init
loop-number-init c =
    ((refl, refl), joining c.args.first.0 c.args.rest.now c.args.weights.now _ _ _ _ _ c.triple-run.ensures c.at.ensures c.requires.few)

pub bounds-weights-at-in-loop-number : goal.bounds-weights-at-in-loop-number
bounds-weights-at-in-loop-number c =
    let k = behind c.args.first.0 c.args.rest.now c.loop-number.number-index in
    let h = c.loop-number-test.true in
    let p = c.requires.keys.0.placed (c.loop-number.number-index + 1) (omega arith) in
    let w = c.requires.keys.1 in
    let a = c.at-in-loop-number.ensures ∙ ap (λ (x : ℕ). x % 4096) k in
    omega arith

pub add-requires : goal.add-requires
add-requires c =
    let r = c.requires.room in
    let h = c.loop-number-test.true in
    let l = numbers_length c.args.self.now.triples.now in
    let m = numbers_length c.loop-number.self.triples.now in
    let x = room (c.args.first.0 ∷ c.args.rest.now) c.args.weights.now _ _ (omega arith) (omega arith) c.loop-number.invariant.1 in
    (omega (arith, m, x.0), x.1)

pub add-requires-2 : goal.add-requires-2
add-requires-2 c =
    let r = c.requires.room in
    let l = numbers_length c.args.self.now.triples.now in
    let m = numbers_length c.loop-number.self.triples.now in
    let x = room (c.args.first.0 ∷ c.args.rest.now) c.args.weights.now _ _ (omega arith) (omega arith) c.loop-number.invariant.1 in
    (omega (arith, m, x.0), x.1)

pub loop-number-preserved : goal.loop-number-preserved
loop-number-preserved c =
    let K = c.args.first.0 ∷ c.args.rest.now in
    let W = c.args.weights.now in
    let i = c.loop-number.number-index + 1 in
    let k = behind c.args.first.0 c.args.rest.now c.loop-number.number-index in
    let h : i < length K = (let g = c.loop-number-test.true in omega arith) in
    let at-is : c.at-in-loop-number.result ≡ get_or K i 0 % 4096 = c.at-in-loop-number.ensures ∙ ap (λ (x : ℕ). x % 4096) k in
    let triple-is : c.triple.result.0 ≡ get_or K i 0 / 4096 = c.triple.ensures ∙ ap (λ (x : ℕ). x / 4096) k in
    let t : length K ≤ length (numbers c.args.self.now.triples.now) = (let r = c.requires.room in let l = numbers_length c.args.self.now.triples.now in omega arith) in
    let u : length K ≤ length c.args.self.now.sums.now = (let r = c.requires.room in omega arith) in
    let I = c.loop-number.invariant in
    elim c.if-eq.branch [
      | then-eq w ↦ (
        (ap (λ x. x.triples.ghost_name) w.self-is ∙ I.0.0, ap (λ x. x.sums.ghost_name) w.self-is ∙ I.0.1),
        goes_on K W _ _ (omega arith) (omega arith) I.1 h (sym triple-is ∙ eqb-true _ _ (sym c.eq.ensures ∙ w.if-eq.true)) _ _ _ _ _ (ap (λ x. numbers x.triples.now) w.self-is) (ap (λ x. x.sums.now) w.self-is)
            (ap (λ x. x.0) w.run-is) (w.sum-is ∙ ap (λ (a : ℕ). add binary64 c.loop-number.sum (get_or W a nan)) at-is) (ap (λ x. x.len) w.self-is),
      )
      | else-eq w ↦ (
        (ap (λ x. x.triples.ghost_name) w.self-is ∙ w.add.ensures.lists.0 ∙ I.0.0, ap (λ x. x.sums.ghost_name) w.self-is ∙ w.add.ensures.lists.1 ∙ I.0.1),
        begins K W _ _ (omega arith) (omega arith) I.1 h (λ e. eqb-false _ _ (sym c.eq.ensures ∙ w.if-eq.false) (triple-is ∙ e)) _ _ _ w.add.ensures.added _ _ _ _ _ (ap (λ x. numbers x.triples.now) w.self-is) (ap (λ x. x.sums.now) w.self-is)
            (ap (λ x. x.0) w.run-is ∙ w.triple-run-else-eq.ensures ∙ ap (λ (x : ℕ). x / 4096) k) (w.sum-is ∙ ap (λ (a : ℕ). get_or W a nan) at-is) (ap (λ x. x.len) w.self-is),
      )
    ]

pub returns-clause-lists : goal.returns-clause-lists
returns-clause-lists c = let I = c.loop-number.invariant.0 in (c.add-2.ensures.lists.0 ∙ I.0, c.add-2.ensures.lists.1 ∙ I.1)

pub returns-clause-joined : goal.returns-clause-joined
returns-clause-joined c =
    let r = c.requires.room in
    let h = c.loop-number-test.false in
    let l = numbers_length c.args.self.now.triples.now in
    all_joined (c.args.first.0 ∷ c.args.rest.now) c.args.weights.now _ _ (omega arith) (omega arith) c.loop-number.invariant.1 (omega arith) _ _ _ c.add-2.ensures.added
