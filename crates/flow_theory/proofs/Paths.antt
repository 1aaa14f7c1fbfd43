-- The search for a path along admissible links ends at the sink, or the source's links are all passed.
-- Invariant: the path's links are admissible and each node's mark stands at its link; a link that a mark has passed leads to a node whose links are all passed. Each step passes a link or rises a level, so `gauge` falls.
use mathlib.Core.Path.{◌≡◌, refl, sym, subst, ap, ◌∙◌}
use Prim.Native.Nat.{ℕ, zero, suc, ◌≤◌, ◌<◌, ◌+◌, ◌*◌, ◌-◌}
use mathlib.Core.Bool.{Bool, true, false, false≢true}
use mathlib.Core.Logic.{◌≢◌, ◌⊎◌, inl, inr}
use mathlib.Core.List.{List, [], ◌∷◌}
use native.Mathlib.Omega.{arith}
use native.Mathlib.Nat.{le_of_suc-le-suc, not-suc-le-zero}
use lib.Dec.{eqb, ltb}
use lib.ListN.{length, get_or, set, length-set, get_or-eq_default}
use lib.Seq.{get_or-set_same, get_or-set_other}
use lib.Ieee.{Float}
use Rattle.flow_theory.specs.Network.{Net, nodes, head, tail, out, residual}
use Rattle.flow_theory.specs.Levels.{level_of}
use Rattle.flow_theory.specs.Augment.{mark, pass_link, admissible, sizes, Walk, Walked, reached, blocked, Move, go, stop, retreat, advance, look, arrive, step, walk}
use borrow.Author.Tests.{eqb-false, eqb-true, ltb-false, ltb-true}
use Rattle.numbers.proofs.Bools.{and_t, eq_or_ne}
use Rattle.flow_theory.proofs.Links.{HasLevel, WellFormed}
use Rattle.numbers.proofs.Members.{in_at}
use Rattle.flow_theory.proofs.Levels.{Levels}

-- ---- marks

pub mark_same : (nx : List ℕ) (x : ℕ) → x < length nx → mark (pass_link nx x) x ≡ suc (mark nx x)
unfolding pass_link
mark_same nx x h = get_or-set_same nx x (suc (get_or nx x 0)) 0 h

pub mark_other : (nx : List ℕ) (x y : ℕ) → y ≢ x → mark (pass_link nx x) y ≡ mark nx y
unfolding pass_link
mark_other nx x y h = get_or-set_other nx x y (suc (get_or nx x 0)) 0 h

mark_mono : (nx : List ℕ) (x y : ℕ) → x < length nx → mark nx y ≤ mark (pass_link nx x) y
mark_mono nx x y h = pick (eq_or_ne y x)
  where
    pick : (y ≡ x) ⊎ (y ≢ x) → mark nx y ≤ mark (pass_link nx x) y
    pick (inl p) = rw (p, mark_same nx x h) (omega arith)
    pick (inr n) = rw (mark_other nx x y n) (omega arith)

length_pass_link : (nx : List ℕ) (x : ℕ) → length (pass_link nx x) ≡ length nx
unfolding pass_link
length_pass_link nx x = length-set nx x (suc (get_or nx x 0))

-- how many links the marks have not passed
pub rests : List (List ℕ) → List ℕ → ℕ
rests [] nx = 0
rests (l ∷ ls) [] = length l + rests ls []
rests (l ∷ ls) (m ∷ ms) = (length l - m) + rests ls ms

pub rests_le : (ls : List (List ℕ)) (nx : List ℕ) → rests ls nx ≤ sizes ls
unfolding rests sizes
rests_le [] nx = omega arith
rests_le (l ∷ ls) [] = let r = rests_le ls [] in omega arith
rests_le (l ∷ ls) (m ∷ ms) = let r = rests_le ls ms in omega arith

rests_set : (ls : List (List ℕ)) (nx : List ℕ) (x : ℕ) → x < length nx → get_or nx x 0 < length (get_or ls x [])
    → suc (rests ls (set nx x (suc (get_or nx x 0)))) ≡ rests ls nx
unfolding rests
rests_set [] nx x h r = absurd (not-suc-le-zero r)
rests_set (l ∷ ls) [] x h r = absurd (not-suc-le-zero h)
rests_set (l ∷ ls) (m ∷ ms) zero h r = omega arith
rests_set (l ∷ ls) (m ∷ ms) (suc x) h r = let i = rests_set ls ms x (le_of_suc-le-suc h) r in omega arith

rests_pass_link : (N : Net) (nx : List ℕ) (x : ℕ) → x < length nx → mark nx x < length (out N x) → suc (rests N.lists (pass_link nx x)) ≡ rests N.lists nx
unfolding pass_link out
rests_pass_link N nx x h r = rests_set N.lists nx x h r

out_in : (N : Net) (x n : ℕ) → n < length (out N x) → x < nodes N
unfolding out
out_in N x n h = pick (ltb x (nodes N)) refl
  where
    pick : (b : Bool) → ltb x (nodes N) ≡ b → x < nodes N
    pick true e = (ltb-true _ _) e
    pick false e = absurd (not-suc-le-zero (rw (get_or-eq_default N.lists [] ((ltb-false _ _) e)) at h))

-- ---- what holds on the way

-- the link e of the path leads to u, and the mark of the node that it leaves stands at it
pub record PathLink (N : Net) (c : List Float) (L nx : List ℕ) (u e : ℕ) : Type 0 where
  pub to : head N e ≡ u
  pub on : residual c e ≡ true
  pub higher : level_of L u ≡ suc (level_of L (tail N e))
  pub room : mark nx (tail N e) < length (out N (tail N e))
  pub here : get_or (out N (tail N e)) (mark nx (tail N e)) 0 ≡ e
  pub mid : tail N e ≢ N.sink

abbrev pub Path : Net → List Float → List ℕ → List ℕ → List ℕ → ℕ → Type 0
Path N c L nx [] u = u ≡ N.source
Path N c L nx (e ∷ p) u = PathLink N c L nx u e × Path N c L nx p (tail N e)

-- a path is as long as the level where it ends: what a path kept in an array of one place for each node needs
pub path_length : (N : Net) (c : List Float) (L nx : List ℕ) → level_of L N.source ≡ 0 → (p : List ℕ) (u : ℕ) → Path N c L nx p u → level_of L u ≡ length p
path_length N c L nx z [] u P = ap (level_of L) P ∙ z
path_length N c L nx z (e ∷ p) u P = P.0.higher ∙ ap suc (path_length N c L nx z p (tail N e) P.1)

-- no link of x is left, and x is not the sink
abbrev pub Exhausted : Net → List ℕ → ℕ → Type 0
Exhausted N nx x = (length (out N x) ≤ mark nx x) × (x ≢ N.sink)

-- a link that a mark has passed leads to a spent node, if it leads up at all
abbrev pub Dead : Net → List Float → List ℕ → List ℕ → Type 0
Dead N c L nx = (x i : ℕ) → i < mark nx x → i < length (out N x) → admissible N c L x (get_or (out N x) i 0) ≡ true → Exhausted N nx (head N (get_or (out N x) i 0))

-- what falls with each step of a walk: the measure of a loop that walks
abbrev pub gauge : Net → List ℕ → Walk → ℕ
gauge N L w = 2 * rests N.lists w.next + (nodes N - level_of L w.at)

pub record Walks (N : Net) (c : List Float) (L : List ℕ) (w : Walk) (k : ℕ) : Type 0 where
  pub size : length w.next ≡ nodes N
  pub path : Path N c L w.next w.path w.at
  pub low : HasLevel L w.at
  pub dead : Dead N c L w.next
  pub fuel : gauge N L w < k

abbrev pub Ended : Net → List Float → List ℕ → Walked → Type 0
Ended N c L (reached p nx) = (length nx ≡ nodes N) × Dead N c L nx × Path N c L nx p N.sink
Ended N c L (blocked nx) = (length nx ≡ nodes N) × Dead N c L nx × Exhausted N nx N.source

abbrev pub Moved : Net → List Float → List ℕ → ℕ → Move → Type 0
Moved N c L k (go w) = Walks N c L w k
Moved N c L k (stop r) = Ended N c L r

pub admissible_t : (N : Net) (c : List Float) (L : List ℕ) (u e : ℕ) → admissible N c L u e ≡ true → (residual c e ≡ true) × (level_of L (head N e) ≡ suc (level_of L u))
unfolding admissible
admissible_t N c L u e h = let (a, b) = and_t (residual c e) (eqb (level_of L (head N e)) (suc (level_of L u))) h in (a, (eqb-true _ _) b)

-- a walk, step by step
pub walk_go : (N : Net) (c : List Float) (L : List ℕ) (k : ℕ) (w v : Walk) → step N c L w ≡ go v → walk N c L (suc k) w ≡ walk N c L k v
unfolding walk
walk_go N c L k w v e = ap (λ (m : Move). elim m as (λ x. Walked) [ go x ↦ walk N c L k x | stop r ↦ r ]) e

pub walk_stop : (N : Net) (c : List Float) (L : List ℕ) (k : ℕ) (w : Walk) (r : Walked) → step N c L w ≡ stop r → walk N c L (suc k) w ≡ r
unfolding walk
walk_stop N c L k w r e = ap (λ (m : Move). elim m as (λ x. Walked) [ go x ↦ walk N c L k x | stop s ↦ s ]) e

module _ (N : Net) (G : WellFormed N) (c c₀ : List Float) (L : List ℕ) (B : Levels N c₀ L) where
  path_pass_link : (nx : List ℕ) (x : ℕ) (p : List ℕ) (u : ℕ) → level_of L u ≤ level_of L x → Path N c L nx p u → Path N c L (pass_link nx x) p u
  path_pass_link nx x [] u h P = P
  path_pass_link nx x (e ∷ p) u h P =
      let l = P.0 in
      let up = l.higher in
      let s : mark (pass_link nx x) (tail N e) ≡ mark nx (tail N e) = mark_other nx x (tail N e) (λ q. below q) in
      (record { to = l.to; on = l.on; higher = up; room = rw s l.room; here = rw s l.here; mid = l.mid }, path_pass_link nx x p (tail N e) (omega arith) P.1)
    where
      below : tail N e ≡ x → ⊥
      below q = let up = P.0.higher in let r = ap (level_of L) q in omega arith

  exhausted_pass_link : (nx : List ℕ) (x y : ℕ) → x < length nx → Exhausted N nx y → Exhausted N (pass_link nx x) y
  exhausted_pass_link nx x y h s = let m = mark_mono nx x y h in let t = s.0 in (omega arith, s.1)

  dead_pass_link : (nx : List ℕ) (x : ℕ) → x < length nx
      → (admissible N c L x (get_or (out N x) (mark nx x) 0) ≡ true → Exhausted N nx (head N (get_or (out N x) (mark nx x) 0)))
      → Dead N c L nx → Dead N c L (pass_link nx x)
  dead_pass_link nx x h new D y i li il ft = exhausted_pass_link nx x _ h (pick (eq_or_ne y x))
    where
      last : y ≡ x → (i ≡ mark nx x) ⊎ (i ≢ mark nx x) → Exhausted N nx (head N (get_or (out N y) i 0))
      last p (inl q) = rw (p, q) (new (rw (p, q) at ft))
      last p (inr n) =
          let m : mark (pass_link nx x) y ≡ suc (mark nx y) = rw p (mark_same nx x h) in
          let q = ap (mark nx) p in
          D y i (omega arith) il ft

      pick : (y ≡ x) ⊎ (y ≢ x) → Exhausted N nx (head N (get_or (out N y) i 0))
      pick (inl p) = last p (eq_or_ne i (mark nx x))
      pick (inr n) = D y i (rw (mark_other nx x y n) at li) il ft

  module _ (k : ℕ) (w : Walk) (I : Walks N c L w (suc k)) (not-sink : w.at ≢ N.sink) where
    abbrev u : ℕ
    u = w.at

    abbrev nx : List ℕ
    nx = w.next

    low' : level_of L u < nodes N
    low' = B.bnd u I.low

    -- the mark of u stands at a link
    module _ (more : mark nx u < length (out N u)) where
      abbrev e : ℕ
      e = get_or (out N u) (mark nx u) 0

      u_in : u < length nx
      u_in = rw I.size (out_in N u (mark nx u) more)

      from : tail N e ≡ u
      from = (G.listed u e (in_at (out N u) (mark nx u) 0 more)).1

      taken : admissible N c L u e ≡ true → Walks N c L (record { at = head N e; path = e ∷ w.path; next = nx }) k
      taken ft =
          let (on, up) = admissible_t N c L u e ft in
          let f = I.fuel in
          let l = low' in
          let few = G.few in
          record {
            size = I.size;
            path = (record { to = refl; on = on; higher = rw from up; room = rw from more; here = ap (λ (x : ℕ). get_or (out N x) (mark nx x) 0) from; mid = rw from not-sink }, rw from I.path);
            low = omega arith;
            dead = I.dead;
            fuel = rw up (omega arith);
          }

      skipped : admissible N c L u e ≡ false → Walks N c L (record { at = u; path = w.path; next = pass_link nx u }) k
      skipped nf =
          let f = I.fuel in
          let r = rests_pass_link N nx u u_in more in
          record {
            size = length_pass_link nx u ∙ I.size;
            path = path_pass_link nx u w.path u (omega arith) I.path;
            low = I.low;
            dead = dead_pass_link nx u u_in (λ ft. absurd (false≢true (sym nf ∙ ft))) I.dead;
            fuel = omega arith;
          }

      tried : (b : Bool) → admissible N c L u e ≡ b → Moved N c L k (advance N b e w)
      unfolding advance
      tried true t = taken t
      tried false f = skipped f

    -- no link of u is left
    back : length (out N u) ≤ mark nx u → (p : List ℕ) → Path N c L nx p u → Moved N c L k (retreat N p nx)
    unfolding retreat
    back none [] P = (I.size, I.dead, subst (λ (x : ℕ). Exhausted N nx x) P (none, not-sink))
    back none (e ∷ p) P =
        let l = P.0 in
        let x_in : tail N e < length nx = rw I.size (out_in N (tail N e) (mark nx (tail N e)) l.room) in
        let f = I.fuel in
        let r = rests_pass_link N nx (tail N e) x_in l.room in
        let up = l.higher in
        let lo = low' in
        let few = G.few in
        record {
          size = length_pass_link nx (tail N e) ∙ I.size;
          path = path_pass_link nx (tail N e) p (tail N e) (omega arith) P.1;
          low = omega arith;
          dead = dead_pass_link nx (tail N e) x_in (λ ft. rw (l.here, l.to) (none, not-sink)) I.dead;
          fuel = omega arith;
        }

    looked : (b : Bool) → ltb (mark nx u) (length (out N u)) ≡ b → Moved N c L k (look N c L b w)
    unfolding look
    looked true t = tried ((ltb-true _ _) t) (admissible N c L u (get_or (out N u) (mark nx u) 0)) refl
    looked false f = back ((ltb-false _ _) f) w.path I.path

  arrived : (k : ℕ) (w : Walk) → Walks N c L w (suc k) → (b : Bool) → eqb w.at N.sink ≡ b → Moved N c L k (arrive N c L b w)
  unfolding arrive
  arrived k w I true t = (I.size, I.dead, subst (λ (x : ℕ). Path N c L w.next w.path x) ((eqb-true _ _) t) I.path)
  arrived k w I false f = looked k w I ((eqb-false _ _) f) (ltb (mark w.next w.at) (length (out N w.at))) refl

  pub stepped : (k : ℕ) (w : Walk) → Walks N c L w (suc k) → Moved N c L k (step N c L w)
  unfolding step
  stepped k w I = arrived k w I (eqb w.at N.sink) refl

  -- for a loop's proof: the next state is as good, with one less fuel, and the measure falls
  pub step_on : (k : ℕ) (w v : Walk) → Walks N c L w (suc k) → step N c L w ≡ go v → Walks N c L v k
  step_on k w v I e = subst (Moved N c L k) e (stepped k w I)

  pub step_falls : (k : ℕ) (w v : Walk) → Walks N c L w k → step N c L w ≡ go v → gauge N L v < gauge N L w
  step_falls k w v I e =
      let J : Walks N c L w (suc (gauge N L w)) = record { size = I.size; path = I.path; low = I.low; dead = I.dead; fuel = omega arith } in
      (step_on (gauge N L w) w v J e).fuel

  pub walk_ok : (k : ℕ) (w : Walk) → Walks N c L w k → Ended N c L (walk N c L k w)
  unfolding walk
  walk_ok zero w I = absurd (not-suc-le-zero I.fuel)
  walk_ok (suc k) w I = pick (λ v J. walk_ok k v J) (step N c L w) (stepped k w I)
    where
      pick : ((v : Walk) → Walks N c L v k → Ended N c L (walk N c L k v)) → (m : Move) → Moved N c L k m
          → Ended N c L (elim m as (λ x. Walked) [ go v ↦ walk N c L k v | stop r ↦ r ])
      pick r (go v) J = r v J
      pick r (stop s) J = J
