-- The flow of a run never falls: a push adds more than 1e-12, and a sum is no less than its parts.
use mathlib.Core.Path.{◌≡◌, refl, sym, ap, subst, subst⁻¹, ◌∙◌}
use Prim.Native.Nat.{ℕ, zero, suc, ◌≤◌, ◌<◌, ◌+◌, ◌*◌, ◌^◌}
use mathlib.Core.Bool.{Bool, true, false, ◌&&◌, ◌||◌, cond, false≢true, true≢false}
use mathlib.Core.Logic.{◌≢◌, ◌⊎◌, inl, inr}
use mathlib.Core.List.{List}
use native.Mathlib.Omega.{arith}
use native.Mathlib.Nat.{not-suc-le-zero, le_of_eq, mul-pos, mul_comm, mul_assoc, add-mul}
use borrow.Author.Tests.{ltb-false, lt-ltb, le-ltb, eq-eqb, eqb-true, eqb-false}
use lib.Dec.{T, eqb, ltb, lt→ltb}
use lib.IntN.{ℤ}
use lib.Ieee.{Float, nan, inf, fin, binary64, of_bits, of_fields, lt, le, eq, add, fits, round, units, odd, low, up, down}
use lib.Ieee.Bits.{is_true}
use lib.Ieee.Fits.{add-fits, round_is}
use lib.Ieee.Order.{round_mono, le_of_values}
use lib.Ieee.Positive.{num, den, positive, den_pos, own_value}
use Rattle.numbers.specs.Real.{nought, eps}
use Rattle.numbers.proofs.Bools.{lt_or_ge, eq_or_ne}
use Rattle.numbers.proofs.Floats.{Plain, plain_signed, own_round, add_is}
use Rattle.numbers.proofs.Comparisons.{Above, above_eps, lt_asym, le_not_lt, lt_over}
use Rattle.flow_theory.specs.Network.{Net}
use Rattle.flow_theory.specs.Levels.{unset, level_of, levels}
use Rattle.flow_theory.specs.Augment.{Pushed, augment}
use Rattle.flow_theory.specs.Run.{PhaseState, push_counted, no_push, blocking_flow, FlowRun, phase, after_phase, at_end, run}
use Rattle.flow_theory.proofs.Links.{WellFormed}
use Rattle.flow_theory.proofs.Levels.{Levels, levels_ok}
use Rattle.flow_theory.proofs.Phases.{Phasing, Augmented, augmented, gained, opened, blocking_flow_more, blocking_flow_end}
use Rattle.flow_theory.proofs.Runs.{Running, run_on, run_end, onwards}
use Rattle.flow_routes.proofs.Underway.{Underway}

-- ---- the order of numbers that are not negative

or_true : (b : Bool) → (b || true) ≡ true
or_true true = refl
or_true false = refl

ordered : (p q : ℕ) → p ≤ q → (ltb p q || (eqb p q && true)) ≡ true
ordered p q h = pick (eq_or_ne p q)
  where
    pick : (p ≡ q) ⊎ (p ≢ q) → (ltb p q || (eqb p q && true)) ≡ true
    pick (inl e) = rw (eq-eqb p q e) (or_true (ltb p q))
    pick (inr d) = rw (lt-ltb p q (omega arith))

not_lt_le : (x y : Float) → Above x → Above y → lt y x ≡ false → le x y ≡ true
unfolding le lt eq
not_lt_le nan y p q h = absurd p
not_lt_le (inf true) y p q h = absurd p
not_lt_le (fin true m e) y p q h = absurd p
not_lt_le (inf false) nan p q h = absurd q
not_lt_le (inf false) (inf true) p q h = absurd q
not_lt_le (inf false) (inf false) p q h = refl
not_lt_le (inf false) (fin true n d) p q h = absurd q
not_lt_le (inf false) (fin false n d) p q h = absurd (true≢false h)
not_lt_le (fin false m e) nan p q h = absurd q
not_lt_le (fin false m e) (inf true) p q h = absurd q
not_lt_le (fin false m e) (inf false) p q h = refl
not_lt_le (fin false m e) (fin true n d) p q h = absurd q
not_lt_le (fin false m e) (fin false n d) p q h = ordered (m * up e * down d) (n * up d * down e) (ltb-false (n * up d * down e) (m * up e * down d) h)

le_self : (x : Float) → Above x → le x x ≡ true
le_self x p = not_lt_le x x p p (pick (lt x x) refl)
  where
    pick : (b : Bool) → lt x x ≡ b → lt x x ≡ false
    pick true e = lt_asym x x p p e
    pick false e = e

le_through : (x y z : Float) → Above x → Above y → Above z → le x y ≡ true → le y z ≡ true → le x z ≡ true
le_through x y z p q r h k = not_lt_le x z p r (pick (lt z x) refl)
  where
    pick : (b : Bool) → lt z x ≡ b → lt z x ≡ false
    pick true e = absurd (true≢false (sym (lt_over z x y r p q e (le_not_lt x y p q h)) ∙ le_not_lt y z q r k))
    pick false e = e

below_zero : (a b : ℕ) → (ltb 0 (a + b) || (eqb a b && (false || eqb a 0))) ≡ true
below_zero a b = pick (lt_or_ge 0 (a + b))
  where
    pick : (0 < a + b) ⊎ (a + b ≤ 0) → (ltb 0 (a + b) || (eqb a b && (false || eqb a 0))) ≡ true
    pick (inl h) = rw (lt-ltb 0 (a + b) h)
    pick (inr h) = let z : a ≡ 0 = omega arith in let w : a ≡ b = omega arith in rw (eq-eqb a b w, eq-eqb a 0 z) (or_true (ltb 0 (a + b)))

-- what is at most t is at most what is no less than t
pub le_further : (x y z : Float) → Above y → Above z → le x y ≡ true → le y z ≡ true → le x z ≡ true
le_further nan y z q r h k = absurd (false≢true (unfold le lt eq in h))
le_further (inf true) y (inf false) q r h k = unfold le lt eq in refl
le_further (inf true) y (fin false n d) q r h k = unfold le lt eq in refl
le_further (inf true) y nan q r h k = absurd r
le_further (inf true) y (inf true) q r h k = absurd r
le_further (inf true) y (fin true n d) q r h k = absurd r
le_further (inf false) y z q r h k = le_through (inf false) y z tt q r h k
le_further (fin false m e) y z q r h k = le_through (fin false m e) y z tt q r h k
le_further (fin true m e) y (inf false) q r h k = unfold le lt eq in refl
le_further (fin true m e) y (fin false n d) q r h k = unfold le lt eq in (below_zero (m * up e * down d) (n * up d * down e))
le_further (fin true m e) y nan q r h k = absurd r
le_further (fin true m e) y (inf true) q r h k = absurd r
le_further (fin true m e) y (fin true n d) q r h k = absurd r

-- ---- a sum

units_above : (q k : ℕ) → Above (units binary64 false q k)
unfolding units odd
units_above q k = go (ltb (q * 2 ^ k) (2 ^ (low binary64 + 1024))) q
  where
    go : (b : Bool) (r : ℕ) → Above (cond b (odd 54 false r k (low binary64)) (inf false))
    go true zero = tt
    go true (suc r) = tt
    go false r = tt

round_above : (a c : ℕ) → Above (round binary64 false a c)
round_above a c = subst⁻¹ Above (round_is binary64 false a c) (units_above _ _)

-- a flow: not negative, and held by the format
pub record Flow (t : Float) : Type 0 where
  pub above : Above t
  pub held : T (fits binary64 t)

part_left : (p q u v : ℕ) → p * (u * v) ≤ (p * v + q * u) * u
part_left p q u v =
    let a : p * (u * v) ≡ p * v * u = ap (λ (x : ℕ). p * x) (mul_comm u v) ∙ sym (mul_assoc p v u) in
    let b : (p * v + q * u) * u ≡ p * v * u + q * u * u = add-mul (p * v) (q * u) u in
    omega arith

zero_least : (e : ℤ) (z : Float) → Above z → le (fin false 0 e) z ≡ true
unfolding lt
zero_least e z q = not_lt_le (fin false 0 e) z tt q (pick z q)
  where
    pick : (z : Float) → Above z → lt z (fin false 0 e) ≡ false
    pick nan q = absurd q
    pick (inf true) q = absurd q
    pick (inf false) q = refl
    pick (fin true n d) q = absurd q
    pick (fin false n d) q = le-ltb (n * up d * down e) (0 * up e * down d) (omega arith)

sum_over : (t x : Float) → T (positive t) → T (fits binary64 t) → Plain t → Plain x → le t (add binary64 t x) ≡ true
sum_over t x p f pt px =
    let z : Float = round binary64 false (num t * den x + num x * den t) (den t * den x) in
    let v : Float = round binary64 false (num t) (den t) in
    let tv : T (le t v) = le_of_values t v (num t) (den t) (num t) (den t) (den_pos t) (den_pos t) (own_value t p) (own_round t p f) (le_of_eq refl) in
    let vz : T (le v z) = round_mono binary64 (num t) (den t) (num t * den x + num x * den t) (den t * den x) (den_pos t) (mul-pos (den_pos t) (den_pos x)) (part_left (num t) (num x) (den t) (den x)) in
    subst⁻¹ (λ (y : Float). le t y ≡ true) (add_is t x pt (plain_signed x px))
    (le_through t v z (plain_above t pt) (round_above (num t) (den t)) (round_above _ _) (is_true (le t v) tv) (is_true (le v z) vz))
  where
    plain_above : (y : Float) → Plain y → Above y
    plain_above nan p = absurd p
    plain_above (inf s) p = absurd p
    plain_above (fin true m e) p = absurd p
    plain_above (fin false m e) p = tt

added : (t x : Float) → Above t → T (fits binary64 t) → Above x → Above (add binary64 t x) × (le t (add binary64 t x) ≡ true)
added nan x a f b = absurd a
added (inf true) x a f b = absurd a
added (fin true m e) x a f b = absurd a
added (inf false) nan a f b = absurd b
added (inf false) (inf true) a f b = absurd b
added (inf false) (inf false) a f b = unfold add le lt eq in (tt, refl)
added (inf false) (fin true n d) a f b = absurd b
added (inf false) (fin false n d) a f b = unfold add le lt eq in (tt, refl)
added (fin false m e) nan a f b = absurd b
added (fin false m e) (inf true) a f b = absurd b
added (fin false m e) (inf false) a f b = unfold add le lt eq in (tt, refl)
added (fin false m e) (fin true n d) a f b = absurd b
added (fin false m e) (fin false n d) a f b = (q, pick m f q)
  where
    q : Above (add binary64 (fin false m e) (fin false n d))
    q = subst⁻¹ Above (add_is (fin false m e) (fin false n d) tt (plain_signed (fin false n d) tt)) (round_above _ _)

    pick : (m : ℕ) → T (fits binary64 (fin false m e)) → Above (add binary64 (fin false m e) (fin false n d)) → le (fin false m e) (add binary64 (fin false m e) (fin false n d)) ≡ true
    pick zero f z = zero_least e (add binary64 (fin false zero e) (fin false n d)) z
    pick (suc m) f z = sum_over (fin false (suc m) e) (fin false n d) (lt→ltb 0 (suc m) (omega arith)) f tt tt

pub flow_grows : (t x : Float) → Flow t → lt eps x ≡ true → Flow (add binary64 t x) × (le t (add binary64 t x) ≡ true)
flow_grows t x I h = let (a, l) = added t x I.above I.held (above_eps x h) in (record { above = a; held = add-fits binary64 t x }, l)

pub flow_starts : Flow nought
unfolding of_bits of_fields fits
flow_starts = record { above = tt; held = tt }

-- ---- phases, and the rest of a run

abbrev Grows : Float → Float → Type 0
Grows t u = Flow t → Flow u × (le t u ≡ true)

stays : (t : Float) → Grows t t
stays t I = (I, le_self t I.above)

grown : (t u v : Float) → Grows t u → Grows u v → Grows t v
grown t u v f g I = let (J, l) = f I in let (K, m) = g J in (K, le_through t u v I.above J.above K.above l m)

module _ (N : Net) (G : WellFormed N) where
  phase_grows : (c₀ : List Float) (L : List ℕ) → Levels N c₀ L → (k : ℕ) (s : PhaseState) → Phasing N G c₀ L s k → Grows s.total (blocking_flow N L k s).total
  unfolding push_counted no_push
  phase_grows c₀ L B zero s I = absurd (not-suc-le-zero I.fuel)
  phase_grows c₀ L B (suc k) s I = pick (λ t J. phase_grows c₀ L B k t J) (augmented N G c₀ L B s.cap s.next I.caps I.size I.dead)
    where
      r : Pushed
      r = augment N s.cap L s.next

      pick : ((t : PhaseState) → Phasing N G c₀ L t k → Grows t.total (blocking_flow N L k t).total) → Augmented N G c₀ L B s.cap r → Grows s.total (blocking_flow N L (suc k) s).total
      pick again (inl (h, P, size, D)) =
          subst⁻¹ (λ (x : PhaseState). Grows s.total x.total) (blocking_flow_more N L k s h)
          (grown s.total (push_counted s r).total (blocking_flow N L k (push_counted s r)).total (λ F. flow_grows s.total r.amount F P.amount) (again (push_counted s r) (gained N G c₀ L B k s r I P size D)))
      pick again (inr (h, q, D, x)) = subst⁻¹ (λ (x : PhaseState). Grows s.total x.total) (blocking_flow_end N L k s h) (stays s.total)

  run_grows : (k : ℕ) (s : FlowRun) → Running N G s k → Grows s.total (run N k s).total
  unfolding at_end after_phase phase
  run_grows zero s I = let f = I.fuel in let l = I.low in absurd (omega arith)
  run_grows (suc k) s I = pick (λ t J. run_grows k t J) (eqb (level_of L N.sink) unset) refl
    where
      L : List ℕ
      L = levels N s.cap

      B : Levels N s.cap L
      B = levels_ok N G s.cap I.caps

      pick : ((t : FlowRun) → Running N G t k → Grows t.total (run N k t).total) → (b : Bool) → eqb (level_of L N.sink) unset ≡ b → Grows s.total (run N (suc k) s).total
      pick again true t = subst⁻¹ (λ (x : FlowRun). Grows s.total x.total) (run_end N k s ((eqb-true _ _) t)) (stays s.total)
      pick again false f =
          subst⁻¹ (λ (x : FlowRun). Grows s.total x.total) (run_on N k s ((eqb-false _ _) f))
          (grown s.total (after_phase N s L).total (run N k (after_phase N s L)).total
          (phase_grows s.cap L B _ _ (opened N G s.cap L B s.total s.cap refl I.caps)) (again (after_phase N s L) (onwards N G s k I L B ((eqb-false _ _) f))))

  -- the flow at the end of a run is no less than on its way
  pub underway_grows : {T t : Float} {c : List Float} → Underway N G T t c → Flow t → Above T × (le t T ≡ true)
  unfolding after_phase
  underway_grows {T} {t} (inl I) F = let (J, l) = subst (Grows t) I.same (run_grows I.fuel _ I.running) F in (J.above, l)
  underway_grows {T} {t} (inr I) F =
      let L = levels N I.before.cap in
      let B = levels_ok N G I.before.cap I.running.caps in
      let a : Grows t (phase N I.before L).total = subst (λ (x : PhaseState). Grows t x.total) I.ends (phase_grows I.before.cap L B I.rest _ I.phasing) in
      let b : Grows (after_phase N I.before L).total (run N I.fuel (after_phase N I.before L)).total
      = run_grows I.fuel (after_phase N I.before L) (onwards N G I.before I.fuel I.running L B I.reaches) in
      let e : (run N I.fuel (after_phase N I.before L)).total ≡ T = sym (ap (λ (x : FlowRun). x.total) (run_on N I.fuel I.before I.reaches)) ∙ I.same in
      let (J, l) = subst (Grows t) e (grown t (phase N I.before L).total (run N I.fuel (after_phase N I.before L)).total a b) F in
      (J.above, l)
