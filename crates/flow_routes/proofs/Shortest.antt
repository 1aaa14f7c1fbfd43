-- A walk takes the first of the shortest paths. D bounds from below how far each node is from the sink: no link with capacity left falls by more than 1.
-- Where a path from the source falls by 1 with each link, and each is the first of its node's links that do, it is the path that a walk finds, if the sink's level is as high as D of the source; if it is lower, the walk finds none.
use mathlib.Core.Path.{◌≡◌, refl, sym, ap, subst, subst⁻¹, ◌∙◌}
use Prim.Native.Nat.{ℕ, zero, suc, ◌≤◌, ◌<◌, ◌+◌}
use mathlib.Core.Bool.{true}
use mathlib.Core.Logic.{◌≢◌, ◌⊎◌, inl, inr}
use mathlib.Core.List.{List, [], ◌∷◌, ◌++◌, reverse, reverse-cons, append_assoc, append-nil}
use native.Mathlib.Omega.{arith}
use lib.ListN.{length, get_or}
use lib.Ieee.{Float}
use Rattle.numbers.proofs.Bools.{eq_or_ne}
use Rattle.numbers.proofs.Members.{at_in}
use Rattle.flow_theory.specs.Network.{Net, head, tail, out, residual}
use Rattle.flow_theory.specs.Levels.{unset, level_of}
use Rattle.flow_theory.specs.Augment.{mark, Walked, reached, blocked}
use Rattle.flow_theory.proofs.Links.{HasLevel, residual_in, WellFormed, Caps}
use Rattle.flow_theory.proofs.Levels.{Levels}
use Rattle.flow_theory.proofs.Paths.{Path, Exhausted, Dead, Ended}
use Rattle.flow_theory.proofs.Phases.{Valid, admissible_of}
use Rattle.flow_routes.proofs.Rising.{Rising, stands_before}

-- D is 0 at the sink, and falls by at most 1 along a link with capacity left
pub record Bounding (N : Net) (c : List Float) (D : ℕ → ℕ) : Type 0 where
  pub sink : D N.sink ≡ 0
  pub falls : (e : ℕ) → residual c e ≡ true → D (tail N e) ≤ suc (D (head N e))

-- e is the first link of u with capacity left along which D falls
pub record First (N : Net) (c : List Float) (D : ℕ → ℕ) (u e : ℕ) : Type 0 where
  pub from : tail N e ≡ u
  pub on : residual c e ≡ true
  pub nearer : D u ≡ suc (D (head N e))
  pub least : (f : ℕ) → tail N f ≡ u → residual c f ≡ true → D u ≡ suc (D (head N f)) → e ≤ f

-- links from u to the sink, each the first
abbrev pub Route : Net → List Float → (ℕ → ℕ) → ℕ → List ℕ → Type 0
Route N c D u [] = u ≡ N.sink
Route N c D u (e ∷ p) = First N c D u e × Route N c D (head N e) p

-- capacities c in a phase that began with c₀ and set levels L
module _ (N : Net) (G : WellFormed N) (rising : (u : ℕ) → Rising (out N u)) {c₀ c : List Float} {L : List ℕ} (B : Levels N c₀ L) (valid : Valid N c₀ L c) (C : Caps N c) (D : ℕ → ℕ) where
  abbrev sink_level : ℕ
  sink_level = level_of L N.sink

  -- a link with capacity left leads at most one level up
  up : (e : ℕ) → residual c e ≡ true → HasLevel L (tail N e) → HasLevel L (head N e) × (level_of L (head N e) ≤ suc (level_of L (tail N e)))
  up e r h = pick (valid e r)
    where
      pick : (residual c₀ e ≡ true) ⊎ (suc (level_of L (head N e)) ≡ level_of L (tail N e)) → HasLevel L (head N e) × (level_of L (head N e) ≤ suc (level_of L (tail N e)))
      pick (inl o) = B.clo e o h
      pick (inr d) = let b = B.bnd (tail N e) h in let few = G.few in (omega arith, omega arith)

  -- what is left of a route bounds the sink's level
  pub route_level : (p : List ℕ) (u : ℕ) → Route N c D u p → HasLevel L u → HasLevel L N.sink × (sink_level ≤ level_of L u + D u)
  route_level [] u R h = let q = ap (level_of L) R in (subst (HasLevel L) R h, omega arith)
  route_level (e ∷ p) u (F, R) h =
      let (h', l) = up e F.on (subst⁻¹ (HasLevel L) F.from h) in
      let q = ap (level_of L) F.from in
      let n = F.nearer in
      let (s, r) = route_level p (head N e) R h' in
      (s, omega arith)

  -- at each node of a route that is as long as the levels allow, the next link leads one level up
  next_level : (u e : ℕ) (p : List ℕ) → First N c D u e → Route N c D (head N e) p → HasLevel L u → level_of L u + D u ≡ sink_level
      → HasLevel L (head N e) × (level_of L (head N e) ≡ suc (level_of L u)) × (level_of L (head N e) + D (head N e) ≡ sink_level)
  next_level u e p F R h z =
      let (h', l) = up e F.on (subst⁻¹ (HasLevel L) F.from h) in
      let q = ap (level_of L) F.from in
      let n = F.nearer in
      let (s, r) = route_level p (head N e) R h' in
      (h', omega arith, omega arith)

  place : (u e : ℕ) → First N c D u e → (i : ℕ) × (i < length (out N u)) × (get_or (out N u) i 0 ≡ e)
  place u e F = subst (λ (x : ℕ). (i : ℕ) × (i < length (out N x)) × (get_or (out N x) i 0 ≡ e)) F.from (at_in e (out N (tail N e)) 0 (G.lists_all e (rw (← C.size) (residual_in c e F.on))))

  module _ (nx : List ℕ) (dead : Dead N c L nx) where
    -- a link of such a route that a mark has passed leads to an exhausted node
    passed : (u e : ℕ) (p : List ℕ) → First N c D u e → Route N c D (head N e) p → HasLevel L u → level_of L u + D u ≡ sink_level
        → (i : ℕ) → i < mark nx u → i < length (out N u) → get_or (out N u) i 0 ≡ e → Exhausted N nx (head N e)
    passed u e p F R h z i m l q = rw q at (dead u i m l (rw q (admissible_of N c L u e F.on (next_level u e p F R h z).1)))

    -- so no node of it is exhausted
    not_exhausted : (p : List ℕ) (u : ℕ) → Route N c D u p → HasLevel L u → level_of L u + D u ≡ sink_level → Exhausted N nx u → ⊥
    not_exhausted [] u R h z x = x.1 R
    not_exhausted (e ∷ p) u (F, R) h z x =
        let (h', _, z') = next_level u e p F R h z in
        let (i, l, q) = place u e F in
        let full = x.0 in
        not_exhausted p (head N e) R h' z' (passed u e p F R h z i (omega arith) l q)

    module _ (S : Bounding N c D) where
      -- no path is shorter than D of the source
      pub path_bound : (q : List ℕ) (u : ℕ) → level_of L N.source ≡ 0 → Path N c L nx q u → D N.source ≤ D u + level_of L u
      path_bound [] u z P = let q = ap D P in omega arith
      path_bound (e ∷ q) u z P =
          let r = path_bound q (tail N e) z P.1 in
          let f = S.falls e P.0.on in
          let t = ap D P.0.to in
          let h = P.0.higher in
          omega arith

      module _ (p : List ℕ) (R : Route N c D N.source p) (long : sink_level ≡ D N.source) where
        -- the path so far is the first part of the route
        abbrev Along : List ℕ → ℕ → Type 0
        Along q u = (r : List ℕ) × (p ≡ reverse q ++ r) × Route N c D u r

        level_set : (u : ℕ) → D u + level_of L u ≡ D N.source → HasLevel L N.sink → HasLevel L u
        level_set u z h = let b = B.bnd N.sink h in let few = G.few in omega arith

        along : HasLevel L N.sink → (q : List ℕ) (u : ℕ) → Path N c L nx q u → D u + level_of L u ≤ D N.source → Along q u
        along h [] u P l = (p, refl, subst⁻¹ (λ (x : ℕ). Route N c D x p) P R)
        along h (e ∷ q) u P l = pick (along h q (tail N e) P.1 low)
          where
            v : ℕ
            v = tail N e

            low : D (tail N e) + level_of L (tail N e) ≤ D N.source
            low = let f = S.falls e P.0.on in let t = ap D P.0.to in let k = P.0.higher in omega arith

            here : D u + level_of L u ≡ D N.source
            here = let b = path_bound (e ∷ q) u B.src P in omega arith

            there : D (tail N e) + level_of L (tail N e) ≡ D N.source
            there = let b = path_bound q (tail N e) B.src P.1 in let k = low in omega arith

            nearer : D (tail N e) ≡ suc (D (head N e))
            nearer = let a = here in let b = there in let t = ap D P.0.to in let k = P.0.higher in omega arith

            same : (f : ℕ) (r : List ℕ) → First N c D (tail N e) f → Route N c D (head N f) r → (f ≡ e) ⊎ (f ≢ e) → f ≡ e
            same f r F Q (inl z) = z
            same f r F Q (inr d) =
                let b = F.least e refl P.0.on nearer in
                let (i, l, z) = place (tail N e) f F in
                let k = P.0.here in
                let m = P.0.room in
                let hv = level_set (tail N e) there h in
                let w : level_of L (tail N e) + D (tail N e) ≡ sink_level = let a = there in let g = long in omega arith in
                let j = stands_before (out N (tail N e)) (rising (tail N e)) i (mark nx (tail N e)) l m (omega arith) in
                let (h', _, w') = next_level (tail N e) f r F Q hv w in
                absurd (not_exhausted r (head N f) Q h' w' (passed (tail N e) f r F Q hv w i j l z))

            pick : Along q (tail N e) → Along (e ∷ q) u
            pick ([], z, Q) = absurd (P.0.mid Q)
            pick (f ∷ r, z, (F, Q)) =
                let g = same f r F Q (eq_or_ne f e) in (
                  r,
                  z ∙ ap (λ (x : ℕ). reverse q ++ (x ∷ r)) g ∙ sym (append_assoc (reverse q) (e ∷ []) r) ∙ ap (λ (l : List ℕ). l ++ r) (sym (reverse-cons e q)),
                  subst (λ (x : ℕ). Route N c D x r) (ap (head N) g ∙ P.0.to) Q,
                )

        finish : (q : List ℕ) → Along q N.sink → p ≡ reverse q
        finish q ([], k, Q) = k ∙ append-nil (reverse q)
        finish q (e ∷ r, k, (F, Q)) = let s = S.sink in let n = F.nearer in absurd (omega arith)

        whole : HasLevel L N.sink → (q : List ℕ) → Path N c L nx q N.sink → p ≡ reverse q
        whole h q P = finish q (along h q N.sink P (let s = S.sink in let g = long in omega arith))

  source_set : HasLevel L N.source
  source_set = let z = B.src in let few = G.few in let i = G.source_in in omega arith

  -- a walk finds the route, if the sink's level is D of the source
  pub finds : Bounding N c D → (p : List ℕ) → Route N c D N.source p → sink_level ≡ D N.source → (w : Walked) → Ended N c L w → (q : List ℕ) × (nx : List ℕ) × (w ≡ reached q nx) × (p ≡ reverse q)
  finds S p R long (reached q nx) E = (q, nx, refl, whole nx E.1 S p R long (route_level p N.source R source_set).0 q E.2)
  finds S p R long (blocked nx) E = let z = B.src in absurd (not_exhausted nx E.1 p N.source R source_set (omega arith) E.2)

  -- and none, if it is lower
  pub finds_none : Bounding N c D → sink_level < D N.source → (w : Walked) → Ended N c L w → (nx : List ℕ) × (w ≡ blocked nx)
  finds_none S low (reached q nx) E = let b = path_bound nx E.1 S q N.sink B.src E.2 in let s = S.sink in absurd (omega arith)
  finds_none S low (blocked nx) E = (nx, refl)

-- a walk does not leave nodes that no link with capacity left leaves
module _ (N : Net) (c : List Float) (L : List ℕ) (Z : ℕ → Type 0) (start : Z N.source) (closed : (e : ℕ) → residual c e ≡ true → Z (tail N e) → Z (head N e)) where
  stays : (nx q : List ℕ) (u : ℕ) → Path N c L nx q u → Z u
  stays nx [] u P = subst⁻¹ Z P start
  stays nx (e ∷ q) u P = subst Z P.0.to (closed e P.0.on (stays nx q (tail N e) P.1))

  pub walk_stays : (Z N.sink → ⊥) → (w : Walked) → Ended N c L w → (nx : List ℕ) × (w ≡ blocked nx)
  walk_stays off (reached q nx) E = absurd (off (stays nx q N.sink E.2))
  walk_stays off (blocked nx) E = (nx, refl)

  -- and no level is set outside
  levels_stay : WellFormed N → Levels N c L → (k u : ℕ) → level_of L u ≡ k → HasLevel L u → Z u
  levels_stay G B zero u z h = pick (B.pred u h)
    where
      pick : (u ≡ N.source) ⊎ ((e : ℕ) × (residual c e ≡ true) × (head N e ≡ u) × (suc (level_of L (tail N e)) ≡ level_of L u)) → Z u
      pick (inl p) = subst⁻¹ Z p start
      pick (inr (e, r, t, y)) = absurd (omega arith)
  levels_stay G B (suc k) u z h = pick (λ v q g. levels_stay G B k v q g) (B.pred u h)
    where
      pick : ((v : ℕ) → level_of L v ≡ k → HasLevel L v → Z v) → (u ≡ N.source) ⊎ ((e : ℕ) × (residual c e ≡ true) × (head N e ≡ u) × (suc (level_of L (tail N e)) ≡ level_of L u)) → Z u
      pick rec (inl p) = subst⁻¹ Z p start
      pick rec (inr (e, r, t, y)) = let b = B.bnd u h in let few = G.few in subst Z t (closed e r (rec (tail N e) (omega arith) (omega arith)))

  pub unreached : WellFormed N → Levels N c L → (Z N.sink → ⊥) → level_of L N.sink ≡ unset
  unreached G B off = pick (eq_or_ne (level_of L N.sink) unset)
    where
      pick : (level_of L N.sink ≡ unset) ⊎ (level_of L N.sink ≢ unset) → level_of L N.sink ≡ unset
      pick (inl e) = e
      pick (inr h) = absurd (off (levels_stay G B (level_of L N.sink) N.sink refl h))
