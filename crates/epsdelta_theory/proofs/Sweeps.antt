-- Sweeps until one without a strike, whatever the tests say.
-- A turn leaves the run as it was, the pair passing if it stands, or strikes the pair for a reason. So a sweep that strikes leaves fewer pairs, and one that does not strike leaves
-- everything, each pair passing against the relation as it stands. There are at most n * n pairs, so n * n + 1 sweeps reach one without a strike.
use mathlib.Core.Path.{◌≡◌, refl, sym, subst, subst⁻¹, ap, ◌∙◌}
use Prim.Native.Nat.{ℕ, zero, suc, ◌≤◌, ◌<◌, ◌+◌, ◌*◌, ◌-◌}
use mathlib.Core.Bool.{Bool, true, false, ◌&&◌, not, cond, true≢false}
use mathlib.Core.Logic.{◌≢◌, ◌⊎◌, inl, inr}
use mathlib.Core.List.{List, [], ◌∷◌, ◌++◌}
use native.Mathlib.Omega.{arith}
use borrow.Author.Tests.{not-true, not-false}
use Rattle.numbers.proofs.Bools.{and_t, and_f, eq_or_ne, one_if}
use Rattle.epsdelta_theory.specs.Relation.{holds}
use Rattle.epsdelta_theory.specs.Sweeps.{Task, marks, Strike, Run, strike, after_back, after_forth, test_pair, turn, sweep_row, sweep_rows, sweep, sweeps, start, run}
use Rattle.epsdelta_theory.specs.Claim.{Trail, failed_from, failed_to, After, InOrder, Sweep, Swept, Ended}
use Rattle.epsdelta_theory.proofs.Pairs.{count, count_le, clear_count}
use Rattle.epsdelta_theory.proofs.Marks.{marks_length}

-- ---- one turn

-- where a pair stands, its tests pass, unless the lower state has no exit
abbrev pub Passing : Task → List Bool → ℕ → ℕ → Type 0
Passing Q R s t = holds Q.states R s t ≡ true → Q.no_exit s ≡ false → (Q.test R s t ≡ true) × (Q.test R t s ≡ true)

-- why the run x strikes (s, t), at the test back if b
pub record Reason (Q : Task) (x : Run) (b : Bool) (s t : ℕ) : Type 0 where
  pub stood : holds Q.states x.relation s t ≡ true
  pub exits : Q.no_exit s ≡ false
  pub forth : b ≡ true → Q.test x.relation s t ≡ true
  pub failed : Q.test x.relation (cond b t s) (cond b s t) ≡ false

abbrev pub Turned : Task → ℕ → ℕ → Run → Run → Type 0
Turned Q s t x y = ((y ≡ x) × Passing Q x.relation s t) ⊎ ((b : Bool) × (y ≡ strike Q b s t x) × Reason Q x b s t)

untested : (a b : Bool) → (a && not b) ≡ false → a ≡ true → b ≡ false → ⊥
untested a b h p q = true≢false (sym (not-false b (and_f a (not b) p h)) ∙ q)

pub turned : (Q : Task) (s t : ℕ) (x : Run) → Turned Q s t x (turn Q s t x)
unfolding turn test_pair after_forth after_back
turned Q s t x = pick (holds Q.states x.relation s t && not (Q.no_exit s)) refl
  where
    third : holds Q.states x.relation s t ≡ true → Q.no_exit s ≡ false → Q.test x.relation s t ≡ true
        → (b : Bool) → Q.test x.relation t s ≡ b → Turned Q s t x (after_back Q b s t x)
    third h z f true e = inl (refl, λ _ _. (f, e))
    third h z f false e = inr (true, refl, record { stood = h; exits = z; forth = λ _. f; failed = e })

    next : holds Q.states x.relation s t ≡ true → Q.no_exit s ≡ false
        → (b : Bool) → Q.test x.relation s t ≡ b → Turned Q s t x (after_forth Q b s t x)
    next h z true e = third h z e (Q.test x.relation t s) refl
    next h z false e = inr (false, refl, record { stood = h; exits = z; forth = λ g. absurd (true≢false (sym g)); failed = e })

    pick : (b : Bool) → (holds Q.states x.relation s t && not (Q.no_exit s)) ≡ b → Turned Q s t x (test_pair Q b s t x)
    pick true e =
        let a = and_t (holds Q.states x.relation s t) (not (Q.no_exit s)) e in
        next a.0 (not-true (Q.no_exit s) a.1) (Q.test x.relation s t) refl
    pick false e = inl (refl, λ h z. absurd (untested (holds Q.states x.relation s t) (Q.no_exit s) e h z))

-- ---- a sweep keeps what each of its turns keeps

module _ (Q : Task) (P : Run → Type 0) (keep : (s t : ℕ) (x : Run) → s < t → t < Q.states → P x → P (turn Q s t x)) where
  row_keeps : (k s t : ℕ) (x : Run) → s < t → t + k ≤ Q.states → P x → P (sweep_row Q k s t x)
  unfolding sweep_row
  row_keeps zero s t x h l p = p
  row_keeps (suc k) s t x h l p = row_keeps k s (suc t) (turn Q s t x) (omega arith) (omega arith) (keep s t x h (omega arith) p)

  rows_keeps : (k s : ℕ) (x : Run) → s + k ≤ Q.states → P x → P (sweep_rows Q k s x)
  unfolding sweep_rows
  rows_keeps zero s x l p = p
  rows_keeps (suc k) s x l p =
      rows_keeps k (suc s) (sweep_row Q (Q.states - suc s) s (suc s) x) (omega arith) (row_keeps (Q.states - suc s) s (suc s) x (omega arith) (omega arith) p)

-- a run where a sweep begins
abbrev pub begun : Run → Run
begun x = record { relation = x.relation; strikes = x.strikes; struck = false }

pub sweep_keeps : (Q : Task) (P : Run → Type 0) → ((s t : ℕ) (x : Run) → s < t → t < Q.states → P x → P (turn Q s t x)) → (x : Run) → P (begun x) → P (sweep Q x)
unfolding sweep
sweep_keeps Q P keep x p = rows_keeps Q P keep Q.states 0 (begun x) (omega arith) p

-- ---- a sweep that strikes leaves fewer pairs

measure : Run → ℕ
measure x = count x.relation + one_if x.struck

turn_measure : (Q : Task) (s t : ℕ) (x : Run) → measure (turn Q s t x) ≤ measure x
turn_measure Q s t x = pick (turned Q s t x)
  where
    pick : Turned Q s t x (turn Q s t x) → measure (turn Q s t x) ≤ measure x
    pick (inl (e, p)) = rw e (omega arith)
    pick (inr (b, e, w)) = subst⁻¹ (λ (y : Run). measure y ≤ measure x) e
        (unfold measure strike in (let c = clear_count Q.states x.relation s t w.stood in omega arith))

pub sweep_falls : (Q : Task) (x : Run) → (sweep Q x).struck ≡ true → count (sweep Q x).relation < count x.relation
sweep_falls Q x h = below (sweep Q x) h (sweep_keeps Q (λ y. measure y ≤ measure (begun x)) (λ s t y _ _ p. let q = turn_measure Q s t y in omega arith) x (omega arith))
  where
    below : (y : Run) → y.struck ≡ true → measure y ≤ measure (begun x) → count y.relation < count x.relation
    below y e g = unfold measure in (let k : count y.relation + one_if y.struck ≤ count x.relation + 0 = g in
        let f : one_if y.struck ≡ 1 = ap one_if e in omega arith)

-- ---- a sweep that does not strike changes nothing, and each pair passes against what stands

turn_unstruck : (Q : Task) (s t : ℕ) (x : Run) → (turn Q s t x).struck ≡ false → (turn Q s t x ≡ x) × Passing Q x.relation s t
turn_unstruck Q s t x h = pick (turned Q s t x)
  where
    pick : Turned Q s t x (turn Q s t x) → (turn Q s t x ≡ x) × Passing Q x.relation s t
    pick (inl q) = q
    pick (inr (b, e, w)) = absurd (true≢false (unfold strike in (subst (λ (y : Run). y.struck ≡ false) e h)))

row_unstruck : (Q : Task) (k s t : ℕ) (x : Run) → (sweep_row Q k s t x).struck ≡ false
    → (sweep_row Q k s t x ≡ x) × ((u : ℕ) → t ≤ u → u < t + k → Passing Q x.relation s u)
unfolding sweep_row
row_unstruck Q zero s t x h = (refl, λ u a b. absurd (omega arith))
row_unstruck Q (suc k) s t x h =
    let r = row_unstruck Q k s (suc t) (turn Q s t x) h in
    let q = turn_unstruck Q s t x (subst (λ (y : Run). y.struck ≡ false) r.0 h) in
    (r.0 ∙ q.0, λ u a b. pick r q u a b (eq_or_ne u t))
  where
    pick : (sweep_row Q k s (suc t) (turn Q s t x) ≡ turn Q s t x) × ((u : ℕ) → suc t ≤ u → u < suc t + k → Passing Q (turn Q s t x).relation s u)
        → (turn Q s t x ≡ x) × Passing Q x.relation s t
        → (u : ℕ) → t ≤ u → u < t + suc k → (u ≡ t) ⊎ (u ≢ t) → Passing Q x.relation s u
    pick r q u a b (inl e) = subst⁻¹ (Passing Q x.relation s) e q.1
    pick r q u a b (inr n) = subst (λ (y : Run). Passing Q y.relation s u) q.0 (r.1 u (omega arith) (omega arith))

rows_unstruck : (Q : Task) (k s : ℕ) (x : Run) → (sweep_rows Q k s x).struck ≡ false
    → (sweep_rows Q k s x ≡ x) × ((u v : ℕ) → s ≤ u → u < s + k → u < v → v < Q.states → Passing Q x.relation u v)
unfolding sweep_rows
rows_unstruck Q zero s x h = (refl, λ u v a b. absurd (omega arith))
rows_unstruck Q (suc k) s x h =
    let y = sweep_row Q (Q.states - suc s) s (suc s) x in
    let r = rows_unstruck Q k (suc s) y h in
    let q = row_unstruck Q (Q.states - suc s) s (suc s) x (subst (λ (z : Run). z.struck ≡ false) r.0 h) in
    (r.0 ∙ q.0, λ u v a b c d. pick r q u v a b c d (eq_or_ne u s))
  where
    pick : (sweep_rows Q k (suc s) (sweep_row Q (Q.states - suc s) s (suc s) x) ≡ sweep_row Q (Q.states - suc s) s (suc s) x)
        × ((u v : ℕ) → suc s ≤ u → u < suc s + k → u < v → v < Q.states → Passing Q (sweep_row Q (Q.states - suc s) s (suc s) x).relation u v)
        → (sweep_row Q (Q.states - suc s) s (suc s) x ≡ x) × ((u : ℕ) → suc s ≤ u → u < suc s + (Q.states - suc s) → Passing Q x.relation s u)
        → (u v : ℕ) → s ≤ u → u < s + suc k → u < v → v < Q.states → (u ≡ s) ⊎ (u ≢ s) → Passing Q x.relation u v
    pick r q u v a b c d (inl e) = subst⁻¹ (λ (w : ℕ). Passing Q x.relation w v) e (q.1 v (omega arith) (omega arith))
    pick r q u v a b c d (inr n) = subst (λ (y : Run). Passing Q y.relation u v) q.0 (r.1 u v (omega arith) (omega arith) c d)

pub sweep_unstruck : (Q : Task) (x : Run) → (sweep Q x).struck ≡ false
    → (sweep Q x ≡ begun x) × ((u v : ℕ) → u < v → v < Q.states → Passing Q x.relation u v)
unfolding sweep
sweep_unstruck Q x h = let r = rows_unstruck Q Q.states 0 (begun x) h in (r.0, λ u v a b. r.1 u v (omega arith) (omega arith) a b)

-- ---- the strikes of a sweep come in the order of their pairs

-- the turn of (s, t) comes after those of all strikes, the last of which is first
abbrev Next : ℕ → ℕ → List Strike → Type 0
Next s t [] = Unit {0}
Next s t (k ∷ ks) = After s t k

-- the strikes since ks, in order, each before the turn of (s, t)
record Ordered (ks : List Strike) (s t : ℕ) (x : Run) : Type 0 where
  own : List Strike
  strikes : x.strikes ≡ own ++ ks
  order : InOrder own
  next : Next s t own

next_later : (s t u v : ℕ) (own : List Strike) → ((k : Strike) → After s t k → After u v k) → Next s t own → Next u v own
next_later s t u v [] f h = tt
next_later s t u v (k ∷ ks) f h = f k h

later_column : (s t : ℕ) (k : Strike) → After s t k → After s (suc t) k
later_column s t k (inl h) = inl h
later_column s t k (inr (e, h)) = inr (e, omega arith)

later_row : (s t : ℕ) (k : Strike) → After s t k → After (suc s) (suc (suc s)) k
later_row s t k (inl h) = inl (omega arith)
later_row s t k (inr (e, h)) = inl (omega arith)

in_front : (k : Strike) (own : List Strike) → Next k.low k.high own → InOrder own → InOrder (k ∷ own)
in_front k [] h o = tt
in_front k (j ∷ own) h o = (h, o)

turn_ordered : (Q : Task) (ks : List Strike) (s t : ℕ) (x : Run) → Ordered ks s t x → Ordered ks s (suc t) (turn Q s t x)
turn_ordered Q ks s t x p = pick (turned Q s t x)
  where
    pick : Turned Q s t x (turn Q s t x) → Ordered ks s (suc t) (turn Q s t x)
    pick (inl (e, q)) = subst⁻¹ (Ordered ks s (suc t)) e (record { own = p.own; strikes = p.strikes; order = p.order; next = next_later s t s (suc t) p.own (later_column s t) p.next })
    pick (inr (b, e, w)) = subst⁻¹ (Ordered ks s (suc t)) e
        (let k : Strike = record { low = s; high = t; before = x.relation; back = b } in
        unfold strike in (record { own = k ∷ p.own; strikes = ap (λ (l : List Strike). k ∷ l) p.strikes; order = in_front k p.own p.next p.order; next = inr (refl, omega arith) }))

row_ordered : (Q : Task) (ks : List Strike) (k s t u : ℕ) (x : Run) → u ≡ t + k → Ordered ks s t x → Ordered ks s u (sweep_row Q k s t x)
unfolding sweep_row
row_ordered Q ks zero s t u x e p = subst (λ (v : ℕ). Ordered ks s v x) (let r : t ≡ u = omega arith in r) p
row_ordered Q ks (suc k) s t u x e p = row_ordered Q ks k s (suc t) u (turn Q s t x) (omega arith) (turn_ordered Q ks s t x p)

rows_ordered : (Q : Task) (ks : List Strike) (k s n : ℕ) (x : Run) → n ≡ s + k → Ordered ks s (suc s) x → Ordered ks n (suc n) (sweep_rows Q k s x)
unfolding sweep_rows
rows_ordered Q ks zero s n x e p = subst (λ (m : ℕ). Ordered ks m (suc m) x) (let r : s ≡ n = omega arith in r) p
rows_ordered Q ks (suc k) s n x e p = rows_ordered Q ks k (suc s) n y (omega arith) (on (row_ordered Q ks (Q.states - suc s) s (suc s) end x refl p))
  where
    y : Run
    y = sweep_row Q (Q.states - suc s) s (suc s) x

    end : ℕ
    end = suc s + (Q.states - suc s)

    on : Ordered ks s end y → Ordered ks (suc s) (suc (suc s)) y
    on q = record { own = q.own; strikes = q.strikes; order = q.order; next = next_later s end (suc s) (suc (suc s)) q.own (later_row s end) q.next }

sweep_ordered : (Q : Task) (x : Run) → Sweep Q x (sweep Q x)
sweep_ordered Q x = gather (unfold sweep in (rows_ordered Q x.strikes Q.states 0 Q.states (begun x) (omega arith) (record { own = []; strikes = refl; order = tt; next = tt })))
  where
    gather : Ordered x.strikes Q.states (suc Q.states) (sweep Q x) → Sweep Q x (sweep Q x)
    gather p = record { swept = refl; own = p.own; strikes = p.strikes; order = p.order }

-- ---- the run

pub sweeps_more : (Q : Task) (k : ℕ) (x : Run) → (sweep Q x).struck ≡ true → sweeps Q (suc k) x ≡ sweeps Q k (sweep Q x)
unfolding sweeps
sweeps_more Q k x h = rw (h, sweeps) refl

pub sweeps_end : (Q : Task) (k : ℕ) (x : Run) → (sweep Q x).struck ≡ false → sweeps Q (suc k) x ≡ sweep Q x
unfolding sweeps
sweeps_end Q k x h = rw (h, sweeps) refl

-- each strike had its reason
pub record Justified (Q : Task) (k : Strike) : Type 0 where
  pub apart : k.low < k.high
  pub inside : k.high < Q.states
  pub stood : holds Q.states k.before k.low k.high ≡ true
  pub exits : Q.no_exit k.low ≡ false
  pub forth : k.back ≡ true → Q.test k.before k.low k.high ≡ true
  pub failed : Q.test k.before (failed_from k) (failed_to k) ≡ false

abbrev pub AllJustified : Task → List Strike → Type 0
AllJustified Q [] = Unit {0}
AllJustified Q (k ∷ ks) = Justified Q k × AllJustified Q ks

-- what a run keeps: its strikes are the way from the marks to its relation, each with its reason
pub record Kept (Q : Task) (x : Run) : Type 0 where
  pub trail : Trail Q x.strikes x.relation
  pub justified : AllJustified Q x.strikes

pub turn_kept : (Q : Task) (s t : ℕ) (x : Run) → s < t → t < Q.states → Kept Q x → Kept Q (turn Q s t x)
turn_kept Q s t x l h p = pick (turned Q s t x)
  where
    pick : Turned Q s t x (turn Q s t x) → Kept Q (turn Q s t x)
    pick (inl (e, q)) = subst⁻¹ (Kept Q) e p
    pick (inr (b, e, w)) = subst⁻¹ (Kept Q) e
        (unfold strike in (record {
          trail = (refl, p.trail);
          justified = (record { apart = l; inside = h; stood = w.stood; exits = w.exits; forth = w.forth; failed = w.failed }, p.justified);
        }))

-- a run at its end: after a sweep without a strike, with every pair passing
pub record Finished (Q : Task) (x : Run) : Type 0 where
  pub kept : Kept Q x
  pub ended : Ended Q x
  pub passing : (u v : ℕ) → u < v → v < Q.states → Passing Q x.relation u v

pub swept : (Q : Task) (k n : ℕ) (x : Run) → Swept Q n x → Kept Q x → count x.relation < k → Finished Q (sweeps Q k x)
swept Q zero n x c p l = absurd (omega arith)
swept Q (suc k) n x c p l = pick (λ y d q m. swept Q k (suc n) y d q m) (sweep Q x).struck refl
  where
    pick : ((y : Run) → Swept Q (suc n) y → Kept Q y → count y.relation < k → Finished Q (sweeps Q k y)) → (b : Bool) → (sweep Q x).struck ≡ b → Finished Q (sweeps Q (suc k) x)
    pick r true e = subst⁻¹ (Finished Q) (sweeps_more Q k x e)
        (r (sweep Q x) (x, c, sweep_ordered Q x, e) (sweep_keeps Q (Kept Q) (turn_kept Q) x (record { trail = p.trail; justified = p.justified })) (let f = sweep_falls Q x e in omega arith))
    pick r false e = subst⁻¹ (Finished Q) (sweeps_end Q k x e)
        (let q = sweep_unstruck Q x e in
        record {
          kept = sweep_keeps Q (Kept Q) (turn_kept Q) x (record { trail = p.trail; justified = p.justified });
          ended = record { before = x; earlier = n; came = c; last = refl; none = e };
          passing = subst⁻¹ (λ (y : Run). (u v : ℕ) → u < v → v < Q.states → Passing Q y.relation u v) q.0 q.1;
        })

pub finished : (Q : Task) → Finished Q (run Q)
unfolding run
finished Q = swept Q (suc (Q.states * Q.states)) 0 (start Q) refl (record { trail = refl; justified = tt })
    (let c = count_le (marks Q) in let m = marks_length Q in omega arith)
