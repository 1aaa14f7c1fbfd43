-- A phase makes at most one push for each added link, and after it the sink's level is higher.
-- Each push leaves one admissible link less, and of a link and its reverse one at most is admissible. At the end every path of admissible links is blocked, and a link that became residual leads down, so levels set afterwards are no lower, and the sink's is higher.
use mathlib.Core.Path.{◌≡◌, refl, sym, subst, subst⁻¹, ap, ◌∙◌}
use Prim.Native.Nat.{ℕ, zero, suc, ◌≤◌, ◌<◌, ◌+◌}
use mathlib.Core.Bool.{Bool, true, false, false≢true}
use mathlib.Core.Logic.{◌≢◌, ◌⊎◌, inl, inr}
use mathlib.Core.List.{List, []}
use native.Mathlib.Omega.{arith}
use native.Mathlib.Nat.{not-suc-le-zero}
use lib.ListN.{length, get_or, replicate, length-replicate}
use lib.Ieee.{Float, le}
use Rattle.flow_theory.specs.Network.{rev, Net, nodes, links, head, tail, out, residual}
use Rattle.flow_theory.specs.Levels.{level_of}
use Rattle.flow_theory.specs.Augment.{mark, admissible, Walk, Walked, reached, blocked, walk, walk_fuel, Pushed, push, augment}
use Rattle.flow_theory.specs.Run.{PhaseState, push_counted, no_push, blocking_flow, FlowRun, phase}
use Rattle.numbers.specs.Real.{eps}
use borrow.Author.Tests.{eq-eqb}
use Rattle.numbers.proofs.Bools.{eq_or_ne, one_if}
use Rattle.numbers.proofs.Comparisons.{not_small, nought_small}
use Rattle.flow_theory.proofs.Links.{HasLevel, residual_in, WellFormed, Caps}
use Rattle.numbers.proofs.Members.{in_at, at_in}
use Rattle.flow_theory.proofs.Levels.{Levels}
use Rattle.flow_theory.proofs.Paths.{Exhausted, Dead, Ended, Walks, walk_ok, rests_le, admissible_t}
use Rattle.flow_theory.proofs.Pushes.{up_rev, Pushes, path_push}

-- ---- how many of the first n numbers pass a test

pub tally : ℕ → (ℕ → Bool) → ℕ
tally zero f = 0
tally (suc n) f = one_if (f n) + tally n f

one_le : (a b : Bool) → (a ≡ true → b ≡ true) → one_if a ≤ one_if b
one_le true true h = omega arith
one_le true false h = absurd (false≢true (h refl))
one_le false true h = omega arith
one_le false false h = omega arith

tally_mono : (n : ℕ) (f g : ℕ → Bool) → ((i : ℕ) → i < n → f i ≡ true → g i ≡ true) → tally n f ≤ tally n g
unfolding tally
tally_mono zero f g h = omega arith
tally_mono (suc n) f g h =
    let r = tally_mono n f g (λ i l. h i (omega arith)) in
    let o = one_le (f n) (g n) (h n (omega arith)) in
    omega arith

tally_strict : (n : ℕ) (f g : ℕ → Bool) → ((i : ℕ) → i < n → f i ≡ true → g i ≡ true) → (b : ℕ) → b < n → g b ≡ true → f b ≡ false → tally n f < tally n g
unfolding tally
tally_strict zero f g h b l t u = absurd (not-suc-le-zero l)
tally_strict (suc n) f g h b l t u = pick (eq_or_ne b n) (λ l'. tally_strict n f g (λ i m. h i (omega arith)) b l' t u)
  where
    pick : (b ≡ n) ⊎ (b ≢ n) → (b < n → tally n f < tally n g) → one_if (f n) + tally n f < one_if (g n) + tally n g
    pick (inl p) r = rw (sym (ap f p) ∙ u, sym (ap g p) ∙ t) (let m = tally_mono n f g (λ i l. h i (omega arith)) in omega arith)
    pick (inr n') r = let o = one_le (f n) (g n) (h n (omega arith)) in let q = r (omega arith) in omega arith

twice : ℕ → ℕ
twice zero = zero
twice (suc a) = suc (suc (twice a))

twice_is : (a : ℕ) → twice a ≡ a + a
unfolding twice
twice_is zero = refl
twice_is (suc a) = let r = twice_is a in omega arith

-- of each pair of a run of pairs, one at most
one_of : (a b : Bool) → (a ≡ true → b ≡ true → ⊥) → one_if a + one_if b ≤ 1
one_of true true h = absurd (h refl refl)
one_of true false h = omega arith
one_of false true h = omega arith
one_of false false h = omega arith

rev_even : (a : ℕ) → rev (twice a) ≡ suc (twice a)
unfolding rev
rev_even a = let t = twice_is a in omega arith

tally_pairs : (a : ℕ) (f : ℕ → Bool) → ((e : ℕ) → f e ≡ true → f (rev e) ≡ true → ⊥) → tally (twice a) f ≤ a
unfolding tally twice
tally_pairs zero f h = omega arith
tally_pairs (suc a) f h =
    let r = tally_pairs a f h in
    let o = one_of (f (twice a)) (f (suc (twice a))) (λ p q. h (twice a) p (ap f (rev_even a) ∙ q)) in
    omega arith

-- ---- links to the next level with capacity left

pub admissible_of : (N : Net) (c : List Float) (L : List ℕ) (u e : ℕ) → residual c e ≡ true → level_of L (head N e) ≡ suc (level_of L u) → admissible N c L u e ≡ true
unfolding admissible
admissible_of N c L u e l h = rw (l, (eq-eqb _ _) h)

not_admissible : (N : Net) (c : List Float) (L : List ℕ) (u e : ℕ) → residual c e ≡ false → admissible N c L u e ≡ false
unfolding admissible
not_admissible N c L u e l = rw l

abbrev admissible_link : Net → List Float → List ℕ → ℕ → Bool
admissible_link N c L e = admissible N c L (tail N e) e

pub admissible_count : Net → List Float → List ℕ → ℕ
admissible_count N c L = tally (links N) (admissible_link N c L)

module _ (N : Net) (G : WellFormed N) (L : List ℕ) where
  pub admissible_count_le : (c : List Float) → admissible_count N c L ≤ G.added
  unfolding admissible_count
  admissible_count_le c = rw (G.pairs ∙ sym (twice_is G.added)) (tally_pairs G.added (admissible_link N c L) never)
    where
      never : (e : ℕ) → admissible_link N c L e ≡ true → admissible_link N c L (rev e) ≡ true → ⊥
      never e p q =
          let a = (admissible_t N c L (tail N e) e p).1 in
          let b = up_rev N L e (admissible_t N c L (tail N (rev e)) (rev e) q).1 in
          omega arith

  admissible_count_falls : (c d : List Float) (x : Float) → Caps N c → Pushes N L c d x → admissible_count N d L < admissible_count N c L
  unfolding admissible_count
  admissible_count_falls c d x C P =
      let (b, on, up, dead) = P.dies in
      tally_strict (links N) (admissible_link N d L) (admissible_link N c L) shrinks b (rw (← C.size) (residual_in c b on)) (admissible_of N c L (tail N b) b on up) (not_admissible N d L (tail N b) b dead)
    where
      shrinks : (e : ℕ) → e < links N → admissible_link N d L e ≡ true → admissible_link N c L e ≡ true
      shrinks e l f = let (on, up) = admissible_t N d L (tail N e) e f in admissible_of N c L (tail N e) e (P.shrinks e up on) up

  -- what a mark has passed stays dead
  dead_stays : (c d : List Float) (x : Float) (nx : List ℕ) → Pushes N L c d x → Dead N c L nx → Dead N d L nx
  dead_stays c d x nx P D y i m l f =
      let e = get_or (out N y) i 0 in
      let from : tail N e ≡ y = (G.listed y e (in_at (out N y) i 0 l)).1 in
      let (on, up) = admissible_t N d L y e f in
      D y i m l (admissible_of N c L y e (P.shrinks e (rw from up) on) up)

-- ---- the loop of pushes

unmarked : (n x : ℕ) → mark (replicate n 0) x ≡ 0
unfolding mark
unmarked zero x = refl
unmarked (suc n) zero = refl
unmarked (suc n) (suc x) = unmarked n x

pub blocking_flow_more : (N : Net) (L : List ℕ) (k : ℕ) (s : PhaseState) → le (augment N s.cap L s.next).amount eps ≡ false
    → blocking_flow N L (suc k) s ≡ blocking_flow N L k (push_counted s (augment N s.cap L s.next))
unfolding blocking_flow
blocking_flow_more N L k s h = rw (h, blocking_flow) refl

pub blocking_flow_end : (N : Net) (L : List ℕ) (k : ℕ) (s : PhaseState) → le (augment N s.cap L s.next).amount eps ≡ true
    → blocking_flow N L (suc k) s ≡ no_push s (augment N s.cap L s.next)
unfolding blocking_flow
blocking_flow_end N L k s h = rw (h, blocking_flow) refl

-- since the levels were set, a link came to life only if it leads one level down
abbrev pub Valid : Net → List Float → List ℕ → List Float → Type 0
Valid N c₀ L c = (e : ℕ) → residual c e ≡ true → (residual c₀ e ≡ true) ⊎ (suc (level_of L (head N e)) ≡ level_of L (tail N e))

pub record Phasing (N : Net) (G : WellFormed N) (c₀ : List Float) (L : List ℕ) (s : PhaseState) (k : ℕ) : Type 0 where
  pub caps : Caps N s.cap
  pub size : length s.next ≡ nodes N
  pub dead : Dead N s.cap L s.next
  pub valid : Valid N c₀ L s.cap
  pub count : s.pushes + admissible_count N s.cap L ≤ G.added
  pub fuel : admissible_count N s.cap L < k

pub record Phased (N : Net) (G : WellFormed N) (c₀ : List Float) (L : List ℕ) (s : PhaseState) : Type 0 where
  pub caps : Caps N s.cap
  pub dead : Dead N s.cap L s.next
  pub spent : Exhausted N s.next N.source
  pub valid : Valid N c₀ L s.cap
  pub count : s.pushes ≤ G.added

module _ (N : Net) (G : WellFormed N) (c₀ : List Float) (L : List ℕ) (B : Levels N c₀ L) where
  -- what an `augment` comes to
  abbrev pub Augmented : List Float → Pushed → Type 0
  Augmented c r = ((le r.amount eps ≡ false) × Pushes N L c r.cap r.amount × (length r.next ≡ nodes N) × Dead N c L r.next)
      ⊎ ((le r.amount eps ≡ true) × (r.cap ≡ c) × Dead N c L r.next × Exhausted N r.next N.source)

  pushed : (c : List Float) → Caps N c → (w : Walked) → Ended N c L w → Augmented c (push c w)
  unfolding push
  pushed c C (reached p nx) E = let P = path_push N G c C L B.src nx p E.2 in inl (not_small _ P.amount, P, E.0, E.1)
  pushed c C (blocked nx) E = inr (nought_small, refl, E.1, E.2)

  pub augmented : (c : List Float) (nx : List ℕ) → Caps N c → length nx ≡ nodes N → Dead N c L nx → Augmented c (augment N c L nx)
  unfolding augment
  augmented c nx C size D = pushed c C (walk N c L (walk_fuel N) start) (walk_ok N G c c₀ L B (walk_fuel N) start begun)
    where
      start : Walk
      start = record { at = N.source; path = []; next = nx }

      begun : Walks N c L start (walk_fuel N)
      begun =
          let z = B.src in
          let few = G.few in
          let r = rests_le N.lists nx in
          record { size = size; path = refl; low = omega arith; dead = D; fuel = unfold walk_fuel in (omega arith) }

  pub gained : (k : ℕ) (s : PhaseState) (r : Pushed) → Phasing N G c₀ L s (suc k) → Pushes N L s.cap r.cap r.amount → length r.next ≡ nodes N → Dead N s.cap L r.next
      → Phasing N G c₀ L (push_counted s r) k
  unfolding push_counted
  gained k s r I P size D =
      let falls = admissible_count_falls N G L s.cap r.cap r.amount I.caps P in
      let n = I.count in
      let f = I.fuel in
      record {
        caps = P.caps;
        size = size;
        dead = dead_stays N G L s.cap r.cap r.amount r.next P D;
        valid = λ e l. older e (P.valid e l);
        count = omega arith;
        fuel = omega arith;
      }
    where
      older : (e : ℕ) → (residual s.cap e ≡ true) ⊎ (suc (level_of L (head N e)) ≡ level_of L (tail N e)) → (residual c₀ e ≡ true) ⊎ (suc (level_of L (head N e)) ≡ level_of L (tail N e))
      older e (inl l) = I.valid e l
      older e (inr d) = inr d

  pub settled : (k : ℕ) (s : PhaseState) (r : Pushed) → Phasing N G c₀ L s (suc k) → r.cap ≡ s.cap → Dead N s.cap L r.next → Exhausted N r.next N.source
      → Phased N G c₀ L (no_push s r)
  unfolding no_push
  settled k s r I q D S = record { caps = rw q I.caps; dead = rw q D; spent = S; valid = rw q I.valid; count = let n = I.count in omega arith }

  pub driven : (k : ℕ) (s : PhaseState) → Phasing N G c₀ L s k → Phased N G c₀ L (blocking_flow N L k s)
  driven zero s I = absurd (not-suc-le-zero I.fuel)
  driven (suc k) s I = pick (λ t J. driven k t J) (augmented s.cap s.next I.caps I.size I.dead)
    where
      r : Pushed
      r = augment N s.cap L s.next

      pick : ((t : PhaseState) → Phasing N G c₀ L t k → Phased N G c₀ L (blocking_flow N L k t)) → Augmented s.cap r → Phased N G c₀ L (blocking_flow N L (suc k) s)
      pick again (inl (h, P, size, D)) = rw (blocking_flow_more N L k s h) (again (push_counted s r) (gained k s r I P size D))
      pick again (inr (h, q, D, S)) = rw (blocking_flow_end N L k s h) (settled k s r I q D S)

  -- where a phase begins: no link is marked
  pub opened : (t : Float) (c : List Float) → c ≡ c₀ → Caps N c₀ → Phasing N G c₀ L (record { total = t; cap = c; next = replicate (nodes N) 0; pushes = 0 }) (suc (links N))
  opened t c q C =
      let le = admissible_count_le N G L c in
      let two = G.pairs in
      record {
        caps = rw q C;
        size = length-replicate (nodes N) 0;
        dead = λ x i m l f. absurd (not-suc-le-zero (rw (unmarked (nodes N) x) at m));
        valid = λ e l. inl (rw (← q) l);
        count = omega arith;
        fuel = omega arith;
      }

  pub phased : (s : FlowRun) → s.cap ≡ c₀ → Caps N c₀ → Phased N G c₀ L (phase N s L)
  unfolding phase
  phased s q C = driven _ _ (opened s.total s.cap q C)

-- ---- the levels that are set after the phase

module _ (N : Net) (G : WellFormed N) (c₀ : List Float) (L : List ℕ) (B : Levels N c₀ L) (s : PhaseState) (P : Phased N G c₀ L s) (L' : List ℕ) (B' : Levels N s.cap L') where
  abbrev Above : ℕ → ℕ → Type 0
  Above k v = HasLevel L v × (level_of L v ≤ k) × (level_of L v ≡ k → Exhausted N s.next v)

  -- along a link with capacity left
  along : (k e : ℕ) → residual s.cap e ≡ true → Above k (tail N e) → Above (suc k) (head N e)
  along k e l A = pick (P.valid e l)
    where
      t_low : level_of L (tail N e) < nodes N
      t_low = B.bnd (tail N e) A.0

      onto : level_of L (head N e) ≡ suc k → level_of L (head N e) ≤ suc (level_of L (tail N e)) → Exhausted N s.next (head N e)
      onto q h =
          let a = A.1 in
          let t : level_of L (tail N e) ≡ k = omega arith in
          let sp = A.2 t in
          let (i, m, z) = at_in e (out N (tail N e)) 0 (G.lists_all e (rw (← P.caps.size) (residual_in s.cap e l))) in
          let full = sp.0 in
          rw z at (P.dead (tail N e) i (omega arith) m (rw z (admissible_of N s.cap L (tail N e) e l (omega arith))))

      pick : (residual c₀ e ≡ true) ⊎ (suc (level_of L (head N e)) ≡ level_of L (tail N e)) → Above (suc k) (head N e)
      pick (inl o) = let (st, h) = B.clo e o A.0 in let a = A.1 in (st, omega arith, λ q. onto q h)
      pick (inr d) = let few = G.few in let b = t_low in let a = A.1 in (omega arith, omega arith, λ q. absurd (omega arith))

  at_source : (k v : ℕ) → v ≡ N.source → Above k v
  at_source k v p =
      let z : level_of L v ≡ 0 = ap (level_of L) p ∙ B.src in
      let few = G.few in
      (omega arith, omega arith, λ q. subst⁻¹ (Exhausted N s.next) p P.spent)

  above : (k v : ℕ) → level_of L' v ≡ k → HasLevel L' v → Above k v
  above zero v q st = pick (B'.pred v st)
    where
      pick : (v ≡ N.source) ⊎ ((e : ℕ) × (residual s.cap e ≡ true) × (head N e ≡ v) × (suc (level_of L' (tail N e)) ≡ level_of L' v)) → Above zero v
      pick (inl p) = at_source zero v p
      pick (inr (e, l, h, t)) = absurd (omega arith)
  above (suc k) v q st = pick (λ x p y. above k x p y) (B'.pred v st)
    where
      pick : ((x : ℕ) → level_of L' x ≡ k → HasLevel L' x → Above k x)
          → (v ≡ N.source) ⊎ ((e : ℕ) × (residual s.cap e ≡ true) × (head N e ≡ v) × (suc (level_of L' (tail N e)) ≡ level_of L' v)) → Above (suc k) v
      pick below (inl p) = at_source (suc k) v p
      pick below (inr (e, l, h, t)) =
          let b = B'.bnd v st in
          let few = G.few in
          subst (Above (suc k)) h (along k e l (below (tail N e) (omega arith) (omega arith)))

  pub rises : HasLevel L' N.sink → level_of L N.sink < level_of L' N.sink
  rises st =
      let (a, b, d) = above (level_of L' N.sink) N.sink refl st in
      pick b d (eq_or_ne (level_of L N.sink) (level_of L' N.sink))
    where
      pick : level_of L N.sink ≤ level_of L' N.sink → (level_of L N.sink ≡ level_of L' N.sink → Exhausted N s.next N.sink)
          → (level_of L N.sink ≡ level_of L' N.sink) ⊎ (level_of L N.sink ≢ level_of L' N.sink) → level_of L N.sink < level_of L' N.sink
      pick b d (inl q) = absurd ((d q).1 refl)
      pick b d (inr n) = omega arith
