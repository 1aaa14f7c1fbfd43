-- The levels that the search from the source leaves (`Levels`): the source has 0, each other level is one more than that of a node with a residual link to it, and no residual link leads more than one level up.
-- Invariant: the queue holds nodes of level m, then of m + 1; every node with a level is queued, at hand, or has all its links looked at. Each node is queued once, so a turn for each node is enough.
use mathlib.Core.Path.{◌≡◌, refl, sym, ap, ◌∙◌}
use Prim.Native.Nat.{ℕ, zero, suc, ◌≤◌, ◌<◌, ◌+◌}
use mathlib.Core.Bool.{Bool, true, false, ◌&&◌}
use mathlib.Core.Logic.{◌≢◌, ◌⊎◌, inl, inr}
use mathlib.Core.List.{List, [], ◌∷◌, ◌++◌}
use native.Mathlib.Omega.{arith}
use native.Mathlib.Nat.{le_of_suc-le-suc, not-suc-le-zero}
use lib.Dec.{eqb}
use lib.ListN.{length, set, replicate, length-set, length-append, length-replicate}
use lib.Ieee.{Float}
use Rattle.flow_theory.specs.Network.{Net, nodes, links, head, tail, out, residual}
use Rattle.flow_theory.specs.Levels.{unset, level_of, Search, set_level, visit, scan, bfs, levels}
use borrow.Author.Tests.{eq-eqb, eqb-false, eqb-true, ne_eqb}
use Rattle.numbers.proofs.Bools.{and_t, eq_or_ne, one_if}
use Rattle.flow_theory.proofs.Links.{HasLevel, level_same, level_other, residual_in, WellFormed, Caps}
use Rattle.numbers.specs.Lists.{In}
use Rattle.numbers.proofs.Members.{in_last, in_left, in_snoc}

-- ---- how many nodes have no level

unfoldable pub count : List ℕ → ℕ
count [] = 0
count (x ∷ xs) = one_if (eqb x unset) + count xs

pub count_set : (L : List ℕ) (v x : ℕ) → v < length L → level_of L v ≡ unset → x ≢ unset → suc (count (set L v x)) ≡ count L
unfolding count level_of
count_set [] v x h e n = absurd (not-suc-le-zero h)
count_set (y ∷ L) zero x h e n = rw ((ne_eqb _ _) n, (eq-eqb _ _) e) (omega arith)
count_set (y ∷ L) (suc v) x h e n = let r = count_set L v x (le_of_suc-le-suc h) e n in omega arith

pub count_pos : (L : List ℕ) (v : ℕ) → v < length L → level_of L v ≡ unset → 0 < count L
unfolding count level_of
count_pos [] v h e = absurd (not-suc-le-zero h)
count_pos (y ∷ L) zero h e = rw ((eq-eqb _ _) e) (omega arith)
count_pos (y ∷ L) (suc v) h e = let r = count_pos L v (le_of_suc-le-suc h) e in omega arith

pub count_replicate : (n : ℕ) → count (replicate n unset) ≡ n
unfolding count
count_replicate zero = refl
count_replicate (suc n) = let r = count_replicate n in rw (eq-eqb (unset) (unset) refl) (omega arith)

pub level_replicate : (n x : ℕ) → level_of (replicate n unset) x ≡ unset
unfolding level_of
level_replicate zero x = refl
level_replicate (suc n) zero = refl
level_replicate (suc n) (suc x) = level_replicate n x

-- ---- the queue: nodes of level m, then nodes of level m + 1

abbrev pub Late : List ℕ → ℕ → List ℕ → Type 0
Late L m [] = Unit {0}
Late L m (x ∷ q) = (level_of L x ≡ suc m) × Late L m q

abbrev pub Queue : List ℕ → ℕ → List ℕ → Type 0
Queue L m [] = Unit {0}
Queue L m (x ∷ q) = ((level_of L x ≡ m) × Queue L m q) ⊎ ((level_of L x ≡ suc m) × Late L m q)

late_queue : (L : List ℕ) (m : ℕ) (q : List ℕ) → Late L m q → Queue L (suc m) q
late_queue L m [] h = tt
late_queue L m (x ∷ q) h = inl (h.0, late_queue L m q h.1)

late_snoc : (L : List ℕ) (m : ℕ) (q : List ℕ) (v : ℕ) → Late L m q → level_of L v ≡ suc m → Late L m (q ++ (v ∷ []))
late_snoc L m [] v h e = (e, tt)
late_snoc L m (x ∷ q) v h e = (h.0, late_snoc L m q v h.1 e)

queue_snoc : (L : List ℕ) (m : ℕ) (q : List ℕ) (v : ℕ) → Queue L m q → level_of L v ≡ suc m → Queue L m (q ++ (v ∷ []))
queue_snoc L m [] v h e = inr (e, tt)
queue_snoc L m (x ∷ q) v (inl h) e = inl (h.0, queue_snoc L m q v h.1 e)
queue_snoc L m (x ∷ q) v (inr h) e = inr (h.0, late_snoc L m q v h.1 e)

module _ (L L' : List ℕ) (m : ℕ) where
  late_same : (q : List ℕ) → ((x : ℕ) → In x q → level_of L' x ≡ level_of L x) → Late L m q → Late L' m q
  late_same [] s h = tt
  late_same (x ∷ q) s h = (s x (inl refl) ∙ h.0, late_same q (λ y i. s y (inr i)) h.1)

  queue_same : (q : List ℕ) → ((x : ℕ) → In x q → level_of L' x ≡ level_of L x) → Queue L m q → Queue L' m q
  queue_same [] s h = tt
  queue_same (x ∷ q) s (inl h) = inl (s x (inl refl) ∙ h.0, queue_same q (λ y i. s y (inr i)) h.1)
  queue_same (x ∷ q) s (inr h) = inr (s x (inl refl) ∙ h.0, late_same q (λ y i. s y (inr i)) h.1)

-- ---- what holds between two steps

-- a link with capacity left leads into x from one level below, unless x is the source
abbrev pub Pred : Net → List Float → List ℕ → ℕ → Type 0
Pred N c L x = (x ≡ N.source) ⊎ ((e : ℕ) × (residual c e ≡ true) × (head N e ≡ x) × (suc (level_of L (tail N e)) ≡ level_of L x))

-- each link with capacity left that leaves x, but for those in es, leads at most one level up
abbrev pub Part : Net → List Float → List ℕ → ℕ → List ℕ → Type 0
Part N c L x es = (e : ℕ) → residual c e ≡ true → tail N e ≡ x → In e es ⊎ (HasLevel L (head N e) × (level_of L (head N e) ≤ suc (level_of L x)))

pub record Base (N : Net) (c : List Float) (L q : List ℕ) (k m : ℕ) : Type 0 where
  pub len : length L ≡ nodes N
  pub src : level_of L N.source ≡ 0
  pub bnd : (x : ℕ) → HasLevel L x → level_of L x + count L < nodes N
  pub pred : (x : ℕ) → HasLevel L x → Pred N c L x
  pub top : (x : ℕ) → HasLevel L x → level_of L x ≤ suc m
  pub queue : Queue L m q
  pub inq : (x : ℕ) → In x q → HasLevel L x
  pub fuel : count L + length q ≤ k

pub record Inv (N : Net) (c : List Float) (L q : List ℕ) (k m u : ℕ) (es : List ℕ) : Type 0 where
  pub base : Base N c L q k m
  pub here : level_of L u ≡ m
  pub mset : HasLevel L u
  pub clo : (x : ℕ) → HasLevel L x → In x q ⊎ ((x ≡ u) ⊎ Part N c L x [])
  pub cur : Part N c L u es

-- between two turns of the outer loop
pub record Rest (N : Net) (c : List Float) (L q : List ℕ) (k : ℕ) : Type 0 where
  pub m : ℕ
  pub base : Base N c L q k m
  pub clo : (x : ℕ) → HasLevel L x → In x q ⊎ Part N c L x []

-- what the search leaves behind
pub record Levels (N : Net) (c : List Float) (L : List ℕ) : Type 0 where
  pub len : length L ≡ nodes N
  pub src : level_of L N.source ≡ 0
  pub bnd : (x : ℕ) → HasLevel L x → level_of L x < nodes N
  pub pred : (x : ℕ) → HasLevel L x → Pred N c L x
  pub clo : (e : ℕ) → residual c e ≡ true → HasLevel L (tail N e) → HasLevel L (head N e) × (level_of L (head N e) ≤ suc (level_of L (tail N e)))

module _ (N : Net) (G : WellFormed N) (c : List Float) where
  -- the visit that gives v = head N e the next level
  module _ (L q es : List ℕ) (k m u e : ℕ) (I : Inv N c L q k m u (e ∷ es)) (on : residual c e ≡ true) (from : tail N e ≡ u) (inn : e < links N)
      (free : level_of L (head N e) ≡ unset) where
    abbrev pub v : ℕ
    v = head N e

    abbrev pub L' : List ℕ
    L' = set L v (suc (level_of L u))

    v_in : v < length L
    v_in = rw I.base.len (G.heads_in e inn)

    keep : (x : ℕ) → HasLevel L x → level_of L' x ≡ level_of L x
    keep x s = level_other L v (suc (level_of L u)) x (λ p. s (ap (level_of L) p ∙ free))

    new_level : level_of L' v ≡ suc m
    new_level = level_same L v (suc (level_of L u)) v_in ∙ ap suc I.here

    new_set : suc (level_of L u) ≢ unset
    new_set = let b = I.base.bnd u I.mset in let f = G.few in let p = count_pos L v v_in free in omega arith

    fewer : suc (count L') ≡ count L
    fewer = count_set L v (suc (level_of L u)) v_in free new_set

    v_set : HasLevel L' v
    v_set = rw (level_same L v (suc (level_of L u)) v_in) new_set

    stay : (x : ℕ) → HasLevel L x → HasLevel L' x
    stay x s = rw (keep x s) s

    old_or_new : (x : ℕ) → HasLevel L' x → HasLevel L x ⊎ (x ≡ v)
    old_or_new x s = go (eq_or_ne x v)
      where
        go : (x ≡ v) ⊎ (x ≢ v) → HasLevel L x ⊎ (x ≡ v)
        go (inl p) = inr p
        go (inr n) = inl (λ z. s (level_other L v (suc (level_of L u)) x n ∙ z))

    bnd' : (x : ℕ) → HasLevel L' x → level_of L' x + count L' < nodes N
    bnd' x s = go (old_or_new x s)
      where
        go : HasLevel L x ⊎ (x ≡ v) → level_of L' x + count L' < nodes N
        go (inl o) = let b = I.base.bnd x o in let f = fewer in rw (keep x o) (omega arith)
        go (inr p) = let b = I.base.bnd u I.mset in let f = fewer in rw (p, level_same L v (suc (level_of L u)) v_in) (omega arith)

    pred' : (x : ℕ) → HasLevel L' x → Pred N c L' x
    pred' x s = go (old_or_new x s)
      where
        further : (o : HasLevel L x) → Pred N c L x → Pred N c L' x
        further o (inl p) = inl p
        further o (inr (a, l, h, p)) =
            let b = I.base.bnd x o in
            let f = G.few in
            let t : HasLevel L (tail N a) = omega arith in
            inr (a, l, h, ap suc (keep (tail N a) t) ∙ p ∙ sym (keep x o))

        go : HasLevel L x ⊎ (x ≡ v) → Pred N c L' x
        go (inl o) = further o (I.base.pred x o)
        go (inr p) = inr (e, on, sym p, ap (λ (y : ℕ). suc (level_of L' y)) from ∙ ap suc (keep u I.mset ∙ I.here) ∙ sym new_level ∙ ap (level_of L') (sym p))

    part' : (x : ℕ) (fs : List ℕ) → HasLevel L x → Part N c L x fs → Part N c L' x fs
    part' x fs o P a l h = go (P a l h)
      where
        go : In a fs ⊎ (HasLevel L (head N a) × (level_of L (head N a) ≤ suc (level_of L x))) → In a fs ⊎ (HasLevel L' (head N a) × (level_of L' (head N a) ≤ suc (level_of L' x)))
        go (inl i) = inl i
        go (inr w) = inr (stay (head N a) w.0, rw (keep (head N a) w.0, keep x o) w.1)

    source_set : HasLevel L N.source
    source_set = let z = I.base.src in let f = G.few in let i = G.source_in in omega arith

    top' : (x : ℕ) → HasLevel L' x → level_of L' x ≤ suc m
    top' x s = go (old_or_new x s)
      where
        go : HasLevel L x ⊎ (x ≡ v) → level_of L' x ≤ suc m
        go (inl o) = rw (keep x o) (I.base.top x o)
        go (inr p) = rw (p, new_level) (omega arith)

    inq' : (x : ℕ) → In x (q ++ (v ∷ [])) → HasLevel L' x
    inq' x i = go (in_snoc x v q i)
      where
        go : In x q ⊎ (x ≡ v) → HasLevel L' x
        go (inl j) = stay x (I.base.inq x j)
        go (inr p) = rw p v_set

    clo' : (x : ℕ) → HasLevel L' x → In x (q ++ (v ∷ [])) ⊎ ((x ≡ u) ⊎ Part N c L' x [])
    clo' x s = go (old_or_new x s)
      where
        old : HasLevel L x → In x q ⊎ ((x ≡ u) ⊎ Part N c L x []) → In x (q ++ (v ∷ [])) ⊎ ((x ≡ u) ⊎ Part N c L' x [])
        old o (inl i) = inl (in_left x q (v ∷ []) i)
        old o (inr (inl p)) = inr (inl p)
        old o (inr (inr P)) = inr (inr (part' x [] o P))

        go : HasLevel L x ⊎ (x ≡ v) → In x (q ++ (v ∷ [])) ⊎ ((x ≡ u) ⊎ Part N c L' x [])
        go (inl o) = old o (I.clo x o)
        go (inr p) = inl (rw p (in_last v q))

    cur' : Part N c L' u es
    cur' a l h = go (part' u (e ∷ es) I.mset I.cur a l h)
      where
        go : In a (e ∷ es) ⊎ (HasLevel L' (head N a) × (level_of L' (head N a) ≤ suc (level_of L' u))) → In a es ⊎ (HasLevel L' (head N a) × (level_of L' (head N a) ≤ suc (level_of L' u)))
        go (inl (inl p)) = inr (rw p v_set, rw (p, new_level, keep u I.mset, I.here) (omega arith))
        go (inl (inr i)) = inl i
        go (inr w) = inr w

    base' : Base N c L' (q ++ (v ∷ [])) k m
    base' = record {
      len = length-set L v (suc (level_of L u)) ∙ I.base.len;
      src = keep N.source source_set ∙ I.base.src;
      bnd = bnd';
      pred = pred';
      top = top';
      queue = queue_snoc L' m q v (queue_same L L' m q (λ x i. keep x (I.base.inq x i)) I.base.queue) new_level;
      inq = inq';
      fuel = let f = fewer in let b = I.base.fuel in rw (length-append q (v ∷ [])) (omega arith);
    }

    pub taken : Inv N c L' (q ++ (v ∷ [])) k m u es
    taken = record {
      base = base';
      here = keep u I.mset ∙ I.here;
      mset = stay u I.mset;
      clo = clo';
      cur = cur';
    }

  -- a visit that changes nothing
  pub passed : (L q es : List ℕ) (k m u e : ℕ) → Inv N c L q k m u (e ∷ es) → (residual c e && eqb (level_of L (head N e)) unset) ≡ false → Inv N c L q k m u es
  passed L q es k m u e I no-visit = record { base = I.base; here = I.here; mset = I.mset; clo = I.clo; cur = cur' }
    where
      ok : (a : ℕ) → residual c a ≡ true → a ≡ e → HasLevel L (head N a) × (level_of L (head N a) ≤ suc (level_of L u))
      ok a l p =
          let s : HasLevel L (head N a) = rw p ((eqb-false _ _) (rw (ap (residual c) (sym p) ∙ l) at no-visit)) in
          (s, rw I.here (I.base.top (head N a) s))

      cur' : Part N c L u es
      cur' a l h = go (I.cur a l h)
        where
          go : In a (e ∷ es) ⊎ (HasLevel L (head N a) × (level_of L (head N a) ≤ suc (level_of L u))) → In a es ⊎ (HasLevel L (head N a) × (level_of L (head N a) ≤ suc (level_of L u)))
          go (inl (inl p)) = inr (ok a l p)
          go (inl (inr i)) = inl i
          go (inr w) = inr w

  pub visited : (w : Search) (es : List ℕ) (k m u e : ℕ) → Inv N c w.level w.queue k m u (e ∷ es) → tail N e ≡ u → e < links N
      → Inv N c (visit N c u e w).level (visit N c u e w).queue k m u es
  unfolding visit
  visited w es k m u e I from inn = go (residual c e && eqb (level_of w.level (head N e)) unset) refl
    where
      go : (b : Bool) → (residual c e && eqb (level_of w.level (head N e)) unset) ≡ b
          → Inv N c (set_level b (head N e) (suc (level_of w.level u)) w).level (set_level b (head N e) (suc (level_of w.level u)) w).queue k m u es
      go true t = let (on, f) = and_t (residual c e) (eqb (level_of w.level (head N e)) unset) t in taken w.level w.queue es k m u e I on from inn ((eqb-true _ _) f)
      go false f = passed w.level w.queue es k m u e I f

  pub scanned : (es : List ℕ) (w : Search) (k m u : ℕ) → ((e : ℕ) → In e es → (e < links N) × (tail N e ≡ u)) → Inv N c w.level w.queue k m u es
      → Inv N c (scan N c u es w).level (scan N c u es w).queue k m u []
  unfolding scan
  scanned [] w k m u h I = I
  scanned (e ∷ es) w k m u h I =
      scanned es (visit N c u e w) k m u (λ a i. h a (inr i)) (visited w es k m u e I (h e (inl refl)).1 (h e (inl refl)).0)

  -- the node u is taken from the queue
  pub popped : (L q : List ℕ) (u k m : ℕ) → length c ≡ links N → Base N c L (u ∷ q) (suc k) m → ((x : ℕ) → HasLevel L x → In x (u ∷ q) ⊎ Part N c L x [])
      → (n : ℕ) × Inv N c L q k n u (out N u)
  popped L q u k m size B clo = go B.queue
    where
      clo' : (x : ℕ) → HasLevel L x → In x q ⊎ ((x ≡ u) ⊎ Part N c L x [])
      clo' x s = go' (clo x s)
        where
          go' : In x (u ∷ q) ⊎ Part N c L x [] → In x q ⊎ ((x ≡ u) ⊎ Part N c L x [])
          go' (inl (inl p)) = inr (inl p)
          go' (inl (inr i)) = inl i
          go' (inr P) = inr (inr P)

      cur' : Part N c L u (out N u)
      cur' a l h = inl (rw (← h) (G.lists_all a (rw (← size) (residual_in c a l))))

      with_level : (n : ℕ) → m ≤ n → level_of L u ≡ n → Queue L n q → Inv N c L q k n u (out N u)
      with_level n le here Q = record {
        base = record {
          len = B.len;
          src = B.src;
          bnd = B.bnd;
          pred = B.pred;
          top = λ x s. let t = B.top x s in omega arith;
          queue = Q;
          inq = λ x i. B.inq x (inr i);
          fuel = let f = B.fuel in omega arith;
        };
        here = here;
        mset = B.inq u (inl refl);
        clo = clo';
        cur = cur';
      }

      go : Queue L m (u ∷ q) → (n : ℕ) × Inv N c L q k n u (out N u)
      go (inl h) = (m, with_level m (omega arith) h.0 h.1)
      go (inr h) = (suc m, with_level (suc m) (omega arith) h.0 (late_queue L m q h.1))

  pub done : (L : List ℕ) (k m : ℕ) → Base N c L [] k m → ((x : ℕ) → HasLevel L x → In x [] ⊎ Part N c L x []) → Levels N c L
  done L k m B clo = record {
    len = B.len;
    src = B.src;
    bnd = λ x s. let b = B.bnd x s in omega arith;
    pred = B.pred;
    clo = λ e l s. closed e l s (clo (tail N e) s);
  }
    where
      out_of : (e : ℕ) → In e [] ⊎ (HasLevel L (head N e) × (level_of L (head N e) ≤ suc (level_of L (tail N e)))) → HasLevel L (head N e) × (level_of L (head N e) ≤ suc (level_of L (tail N e)))
      out_of e (inl i) = absurd i
      out_of e (inr w) = w

      closed : (e : ℕ) → residual c e ≡ true → HasLevel L (tail N e) → In (tail N e) [] ⊎ Part N c L (tail N e) [] → HasLevel L (head N e) × (level_of L (head N e) ≤ suc (level_of L (tail N e)))
      closed e l s (inl i) = absurd i
      closed e l s (inr P) = out_of e (P e l refl)

  -- one turn of the outer loop
  pub turned : length c ≡ links N → (L q : List ℕ) (u k : ℕ) → Rest N c L (u ∷ q) (suc k)
      → Rest N c (scan N c u (out N u) (record { level = L; queue = q })).level (scan N c u (out N u) (record { level = L; queue = q })).queue k
  turned size L q u k R =
      let w : Search = record { level = L; queue = q } in
      let (n, I) = popped L q u k R.m size R.base R.clo in
      let J = scanned (out N u) w k n u (G.listed u) I in
      record { m = n; base = J.base; clo = λ x s. rest (scan N c u (out N u) w) n J x (J.clo x s) }
    where
      rest : (w : Search) (n : ℕ) → Inv N c w.level w.queue k n u [] → (x : ℕ) → In x w.queue ⊎ ((x ≡ u) ⊎ Part N c w.level x []) → In x w.queue ⊎ Part N c w.level x []
      rest w n J x (inl i) = inl i
      rest w n J x (inr (inl p)) = inr (rw p J.cur)
      rest w n J x (inr (inr P)) = inr P

  pub searched : length c ≡ links N → (k : ℕ) (L q : List ℕ) → Rest N c L q k → Levels N c (bfs N c k L q)
  unfolding bfs
  searched size zero L [] R = done L zero R.m R.base R.clo
  searched size zero L (u ∷ q) R = let f = R.base.fuel in absurd (omega arith)
  searched size (suc k) L [] R = done L (suc k) R.m R.base R.clo
  searched size (suc k) L (u ∷ q) R =
      let w : Search = record { level = L; queue = q } in
      searched size k (scan N c u (out N u) w).level (scan N c u (out N u) w).queue (turned size L q u k R)

  -- where the search begins
  pub begun : Rest N c (set (replicate (nodes N) unset) N.source 0) (N.source ∷ []) (nodes N)
  begun = record { m = 0; base = base₀; clo = λ x s. inl (inl (only x s)) }
    where
      L₁ : List ℕ
      L₁ = replicate (nodes N) unset

      L₀ : List ℕ
      L₀ = set L₁ N.source 0

      inn : N.source < length L₁
      inn = rw (length-replicate (nodes N) unset) G.source_in

      zero_level : level_of L₀ N.source ≡ 0
      zero_level = level_same L₁ N.source 0 inn

      some_unset : 0 ≢ unset
      some_unset = let f = G.few in let i = G.source_in in omega arith

      only : (x : ℕ) → HasLevel L₀ x → x ≡ N.source
      only x s = go (eq_or_ne x N.source)
        where
          go : (x ≡ N.source) ⊎ (x ≢ N.source) → x ≡ N.source
          go (inl p) = p
          go (inr n) = absurd (s (level_other L₁ N.source 0 x n ∙ level_replicate (nodes N) x))

      counted : suc (count L₀) ≡ nodes N
      counted = count_set L₁ N.source 0 inn (level_replicate (nodes N) N.source) some_unset ∙ count_replicate (nodes N)

      inq₀ : (x : ℕ) → In x (N.source ∷ []) → HasLevel L₀ x
      inq₀ x (inl p) = rw (p, zero_level) some_unset
      inq₀ x (inr x'') = elim x'' [ ]

      base₀ : Base N c L₀ (N.source ∷ []) (nodes N) 0
      base₀ = record {
        len = length-set L₁ N.source 0 ∙ length-replicate (nodes N) unset;
        src = zero_level;
        bnd = λ x s. let k = counted in rw (only x s, zero_level) (omega arith);
        pred = λ x s. inl (only x s);
        top = λ x s. rw (only x s, zero_level) (omega arith);
        queue = inl (zero_level, tt);
        inq = inq₀;
        fuel = let k = counted in omega arith;
      }

  pub levels_ok : Caps N c → Levels N c (levels N c)
  unfolding levels
  levels_ok C = searched C.size (nodes N) (set (replicate (nodes N) unset) N.source 0) (N.source ∷ []) begun
