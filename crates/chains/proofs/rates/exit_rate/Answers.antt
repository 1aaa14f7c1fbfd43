use mathlib.Core.Path.{◌≡◌, refl, sym, ap, ap₂, ◌∙◌}
use Prim.Native.Nat.{ℕ, ◌+◌, ◌-◌, ◌<◌}
use native.Mathlib.Omega.{arith}
use lib.Ieee.{Float, binary64, add, nan}
use lib.ListN.{get_or}
use Rattle.numbers.specs.Real.{sum_from}
use Rattle.bisim_core.specs.Data.{Columns, columns_of}
use Rattle.bisim_core.specs.declared.wlts.Shape.{Shape}
use Rattle.bisim_core.proofs.Accepted.{Accepted}
use Rattle.bisim_core.specs.Model.{begins}
use Rattle.chains.proofs.Exits.{edges_in, Left, left_start, left_skip, left_add, left_end}
use Rattle.chains.proofs.rates.exit_rate.Invariants.{Adds}
use Rattle.chains.proofs.rates.exit_rate.Goals as goal

pub loop-i-init : goal.loop-i-init
loop-i-init c =
    let M = columns_of c.args.model.now in
    let (a, b) = c.row-i-items.ensures in
    let r = c.requires.0.begins_rise c.args.s c.requires.1 in
    rw (c.into_iter-i-iterator.ensures.into_iter_gives, a, b) (omega arith, r, refl, left_start M c.args.s)

-- a turn at edge k, which is one of the model's
here : {S : Shape} {M : Columns} {s i b b' i' k : ℕ} → Accepted S M → s < S.states → b ≡ begins M (s + 1) → (b' ≡ b) × ((0 < b - i) × (k ≡ i) × (i' ≡ i + 1)) → k < S.edges
here A h e t = let l = edges_in A h in omega arith

turned : (M : Columns) (s : ℕ) (x : Float) {i b b' i' k : ℕ} → Adds M s x i b → (b' ≡ b) × ((0 < b - i) × (k ≡ i) × (i' ≡ i + 1)) → (y z : Float) → y ≡ z → sum_from z (Left M s (i + 1) b) ≡ sum_from x (Left M s i b) → Adds M s y i' b'
turned M s x I t y z e f =
    let (end, rest) = t in
    let (some, at, next) = rest in
    let (low, high, last, all) = I in
    (omega arith, omega arith, end ∙ last, ap₂ sum_from e (ap₂ (Left M s) next end) ∙ f ∙ all)

pub bounds-model-i : goal.bounds-model-i
bounds-model-i c = let l = here c.requires.0 c.requires.1 c.loop-i.invariant.2 c.in-Some.ensures.steps in let k = c.requires.0.edge_targets_long in omega arith

pub bounds-model-i-then-model-i : goal.bounds-model-i-then-model-i
bounds-model-i-then-model-i c = let l = here c.requires.0 c.requires.1 c.loop-i.invariant.2 c.in-Some.ensures.steps in let k = c.requires.0.edge_weights_long in omega arith

pub offset_bounds-model-i : goal.offset_bounds-model-i
offset_bounds-model-i c = let l = here c.requires.0 c.requires.1 c.loop-i.invariant.2 c.in-Some.ensures.steps in let k = c.requires.0.edges_few in omega arith

pub offset_bounds-model-i-then-model-i : goal.offset_bounds-model-i-then-model-i
offset_bounds-model-i-then-model-i c = let l = here c.requires.0 c.requires.1 c.loop-i.invariant.2 c.in-Some.ensures.steps in let k = c.requires.0.edges_few in omega arith

pub loop-i-preserved-then-model-i : goal.loop-i-preserved-then-model-i
loop-i-preserved-then-model-i c =
    let M = columns_of c.args.model.now in
    let x = c.loop-i.total in
    let t = c.in-Some.ensures.steps in
    let at = t.1.1 in
    turned M c.args.s x c.loop-i.invariant t _ _ (ap (λ (j : ℕ). add binary64 x (get_or M.edge_weights j nan)) at)
    (left_add M c.args.s c.loop-i.i-iterator.start c.loop-i.i-iterator.end x (omega arith) (λ e. c.if-model-i.true (ap (λ (j : ℕ). get_or M.edge_targets j 0) at ∙ e)))

pub loop-i-preserved : goal.loop-i-preserved
loop-i-preserved c =
    let M = columns_of c.args.model.now in
    let x = c.loop-i.total in
    let t = c.in-Some.ensures.steps in
    let at = t.1.1 in
    turned M c.args.s x c.loop-i.invariant t x x refl
    (left_skip M c.args.s c.loop-i.i-iterator.start c.loop-i.i-iterator.end x (omega arith) (ap (λ (j : ℕ). get_or M.edge_targets j 0) (sym at) ∙ c.if-model-i.false))

pub returns : goal.returns
returns c =
    let (none, kept) = c.in-None.ensures.steps.1 in
    let (low, high, last, all) = c.loop-i.invariant in
    left_end (columns_of c.args.model.now) c.args.s c.loop-i.i-iterator.start c.loop-i.i-iterator.end c.loop-i.total (omega arith) ∙ all
