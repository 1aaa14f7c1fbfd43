-- A run on its way, push by push: each push is along the first of the shortest paths, and which phase it falls into does not show.
use mathlib.Core.Path.{◌≡◌, refl, sym, ap, subst, subst⁻¹, ◌∙◌}
use Prim.Native.Nat.{ℕ, zero, suc, ◌≤◌, ◌<◌, ◌+◌}
use mathlib.Core.Bool.{true, false}
use mathlib.Core.Logic.{◌≢◌, ◌⊎◌, inl, inr}
use mathlib.Core.List.{List, [], ◌∷◌, reverse}
use native.Mathlib.Omega.{arith}
use native.Mathlib.Nat.{not-suc-le-zero}
use lib.ListN.{replicate}
use lib.Ieee.{Float, inf, binary64, le, add}
use Rattle.numbers.specs.Real.{nought, eps}
use Rattle.numbers.proofs.Bools.{eq_or_ne}
use Rattle.numbers.proofs.Comparisons.{not_small, nought_small}
use Rattle.flow_theory.specs.Network.{Net, nodes, links, head, tail, out, residual}
use Rattle.flow_theory.specs.Levels.{unset, level_of, levels}
use Rattle.flow_theory.specs.Augment.{Walk, Walked, reached, blocked, walk, walk_fuel, Pushed, push, augment, least, push_path}
use Rattle.flow_theory.specs.Run.{PhaseState, push_counted, no_push, blocking_flow, phase, Phase, FlowRun, after_phase, at_end, run, start, max_flow}
use Rattle.flow_theory.proofs.Links.{HasLevel, WellFormed, Caps}
use Rattle.flow_theory.proofs.Levels.{Levels, levels_ok, Pred}
use Rattle.flow_theory.proofs.Paths.{Ended, Walks, walk_ok, rests_le}
use Rattle.flow_theory.proofs.Pushes.{Pushes, path_push}
use Rattle.flow_theory.proofs.Phases.{Phasing, opened, gained, blocking_flow_more, blocking_flow_end}
use Rattle.flow_theory.proofs.Blocking.{phase_now}
use Rattle.flow_theory.proofs.Runs.{Running, run_on, run_end, onwards, run_starts}
use Rattle.flow_routes.proofs.Rising.{Rising}
use Rattle.flow_routes.proofs.Shortest.{Bounding, Route, route_level, finds, finds_none, walk_stays, unreached}

abbrev run_now : Float → List Float → List ℕ → List Phase → FlowRun
run_now t c L ps = record { total = t; cap = c; level = L; phases = ps }

-- between two phases: what is left of the run leads from flow t and capacities c to the flow T
pub record Between (N : Net) (G : WellFormed N) (T t : Float) (c : List Float) : Type 0 where
  pub fuel : ℕ
  pub level : List ℕ
  pub phases : List Phase
  pub running : Running N G (record { total = t; cap = c; level = level; phases = phases }) fuel
  pub same : (run N fuel (record { total = t; cap = c; level = level; phases = phases })).total ≡ T

-- within a phase that began at `before`
pub record Within (N : Net) (G : WellFormed N) (T t : Float) (c : List Float) : Type 0 where
  pub before : FlowRun
  pub fuel : ℕ
  pub running : Running N G before (suc fuel)
  pub reaches : HasLevel (levels N before.cap) N.sink
  pub same : (run N (suc fuel) before).total ≡ T
  pub next : List ℕ
  pub pushes : ℕ
  pub rest : ℕ
  pub phasing : Phasing N G before.cap (levels N before.cap) (record { total = t; cap = c; next = next; pushes = pushes }) rest
  pub ends : blocking_flow N (levels N before.cap) rest (record { total = t; cap = c; next = next; pushes = pushes }) ≡ phase N before (levels N before.cap)

-- what is left of the run leads from flow t and capacities c to the flow T
abbrev pub Underway : (N : Net) → WellFormed N → Float → Float → List Float → Type 0
Underway N G T t c = Between N G T t c ⊎ Within N G T t c

-- the same one push later, along the links p
abbrev pub Further : (N : Net) → WellFormed N → Float → Float → List Float → List ℕ → Type 0
Further N G T t c p = Underway N G T (add binary64 t (least c (inf false) p)) (push_path (least c (inf false) p) p c)

module _ {N : Net} (G : WellFormed N) where
  pub run_underway : (c : List Float) → Caps N c → Underway N G (max_flow N c).total nought c
  unfolding max_flow
  run_underway c C = inl (record { fuel = nodes N; level = []; phases = []; running = run_starts N G c C; same = refl })

  pub underway_caps : {T t : Float} {c : List Float} → Underway N G T t c → Caps N c
  underway_caps (inl I) = I.running.caps
  underway_caps (inr I) = I.phasing.caps

  module _ {c : List Float} (C : Caps N c) (D : ℕ → ℕ) (S : Bounding N c D) where
    -- the source is as far from the sink as D says at least
    levels_bound : (k u : ℕ) → level_of (levels N c) u ≡ k → HasLevel (levels N c) u → D N.source ≤ D u + level_of (levels N c) u
    levels_bound zero u z h = pick ((levels_ok N G c C).pred u h)
      where
        pick : Pred N c (levels N c) u → D N.source ≤ D u + level_of (levels N c) u
        pick (inl q) = let e = ap D q in omega arith
        pick (inr (e, r, y, w)) = absurd (omega arith)
    levels_bound (suc k) u z h = pick (λ v y g. levels_bound k v y g) ((levels_ok N G c C).pred u h)
      where
        pick : ((v : ℕ) → level_of (levels N c) v ≡ k → HasLevel (levels N c) v → D N.source ≤ D v + level_of (levels N c) v) → Pred N c (levels N c) u → D N.source ≤ D u + level_of (levels N c) u
        pick rec (inl q) = let e = ap D q in omega arith
        pick rec (inr (e, r, y, w)) =
            let b = (levels_ok N G c C).bnd u h in
            let few = G.few in
            let l = rec (tail N e) (omega arith) (omega arith) in
            let f = S.falls e r in
            let j = ap D y in
            omega arith

  module _ {T t : Float} {c : List Float} where
    -- a phase begins where the levels reach the sink
    opens : (I : Between N G T t c) → HasLevel (levels N c) N.sink → (W : Within N G T t c) × (W.before ≡ run_now t c I.level I.phases)
    unfolding phase
    opens I h = pick I.fuel I.running I.same
      where
        pick : (k : ℕ) → Running N G (run_now t c I.level I.phases) k → (run N k (run_now t c I.level I.phases)).total ≡ T → (W : Within N G T t c) × (W.before ≡ run_now t c I.level I.phases)
        pick zero J e = let f = J.fuel in let l = J.low in absurd (omega arith)
        pick (suc k) J e = (
          record {
            before = run_now t c I.level I.phases;
            fuel = k;
            running = J;
            reaches = h;
            same = e;
            next = replicate (nodes N) 0;
            pushes = 0;
            rest = suc (links N);
            phasing = opened N G c (levels N c) (levels_ok N G c J.caps) t c refl J.caps;
            ends = refl;
          },
          refl,
        )

    -- and the run ends where they do not
    stops : Between N G T t c → level_of (levels N c) N.sink ≡ unset → t ≡ T
    unfolding at_end
    stops I h = pick I.fuel I.running I.same
      where
        pick : (k : ℕ) → Running N G (run_now t c I.level I.phases) k → (run N k (run_now t c I.level I.phases)).total ≡ T → t ≡ T
        pick zero J e = let f = J.fuel in let l = J.low in absurd (omega arith)
        pick (suc k) J e = sym (ap (λ (r : FlowRun). r.total) (run_end N k (run_now t c I.level I.phases) h)) ∙ e

    module _ (I : Within N G T t c) where
      abbrev L : List ℕ
      L = levels N I.before.cap

      abbrev state : PhaseState
      state = phase_now t c I.next I.pushes

      base : Levels N I.before.cap L
      base = levels_ok N G I.before.cap I.running.caps

      begun : Walk
      begun = record { at = N.source; path = []; next = I.next }

      walks : Walks N c L begun (walk_fuel N)
      unfolding walk_fuel begun
      walks =
          let z = base.src in
          let few = G.few in
          let i = G.source_in in
          let r = rests_le N.lists I.next in
          record { size = I.phasing.size; path = refl; low = omega arith; dead = I.phasing.dead; fuel = omega arith }

      abbrev found : Walked
      found = walk N c L (walk_fuel N) (record { at = N.source; path = []; next = I.next })

      ended : Ended N c L found
      unfolding begun
      ended = walk_ok N G c I.before.cap L base (walk_fuel N) begun walks

      augment_is : augment N c L I.next ≡ push c found
      unfolding augment
      augment_is = refl

      spare : (j : ℕ) × Phasing N G I.before.cap L state (suc j) × (blocking_flow N L (suc j) state ≡ phase N I.before L)
      spare = pick I.rest I.phasing I.ends
        where
          pick : (j : ℕ) → Phasing N G I.before.cap L state j → blocking_flow N L j state ≡ phase N I.before L
              → (i : ℕ) × Phasing N G I.before.cap L state (suc i) × (blocking_flow N L (suc i) state ≡ phase N I.before L)
          pick zero P e = absurd (not-suc-le-zero P.fuel)
          pick (suc j) P e = (j, P, e)

      -- the phase ends where a walk finds no path
      module _ (nx : List ℕ) (none : found ≡ blocked nx) where
        pushed_none : augment N c L I.next ≡ record { amount = nought; cap = c; next = nx }
        unfolding push
        pushed_none = augment_is ∙ ap (push c) none

        phase_is : phase N I.before L ≡ record { total = t; cap = c; next = nx; pushes = I.pushes }
        unfolding no_push
        phase_is =
            let (j, P, e) = spare in
            sym e ∙ blocking_flow_end N L j state (ap (λ (r : Pushed). le r.amount eps) pushed_none ∙ nought_small) ∙ ap (no_push state) pushed_none

        lap : Phase
        lap = record { sink_level = level_of L N.sink; pushes = I.pushes }

        after : run_now t c L (lap ∷ I.before.phases) ≡ after_phase N I.before L
        unfolding after_phase lap
        after = rw phase_is

        pub closes : Between N G T t c
        closes = record {
          fuel = I.fuel;
          level = L;
          phases = lap ∷ I.before.phases;
          running = subst⁻¹ (λ (s : FlowRun). Running N G s I.fuel) after (onwards N G I.before I.fuel I.running L base I.reaches);
          same = ap (λ (s : FlowRun). (run N I.fuel s).total) after ∙ sym (ap (λ (s : FlowRun). s.total) (run_on N I.fuel I.before I.reaches)) ∙ I.same;
        }

      -- a path that a walk finds is pushed along
      module _ (q nx p : List ℕ) (some : found ≡ reached q nx) (is : p ≡ reverse q) where
        abbrev x : Float
        x = least c (inf false) p

        abbrev d : List Float
        d = push_path x p c

        pushed_some : augment N c L I.next ≡ record { amount = x; cap = d; next = nx }
        unfolding push
        pushed_some = augment_is ∙ ap (push c) some ∙ ap (λ (l : List ℕ). record { amount = least c (inf false) l; cap = push_path (least c (inf false) l) l c; next = nx }) (sym is)

        gives : Pushes N L c d x
        gives = subst⁻¹ (λ (l : List ℕ). Pushes N L c (push_path (least c (inf false) l) l c) (least c (inf false) l)) is
            (path_push N G c I.phasing.caps L base.src nx q (subst (Ended N c L) some ended).2)

        pub goes_on : (W : Within N G T (add binary64 t x) d) × (W.before ≡ I.before)
        unfolding push_counted
        goes_on =
            let (j, P, e) = spare in
            let r : Pushed = record { amount = x; cap = d; next = nx } in
            let z = subst (Ended N c L) some ended in (
              record {
                before = I.before;
                fuel = I.fuel;
                running = I.running;
                reaches = I.reaches;
                same = I.same;
                next = nx;
                pushes = suc I.pushes;
                rest = j;
                phasing = gained N G I.before.cap L base j state r P gives z.0 z.1;
                ends = ap (λ (y : Pushed). blocking_flow N L j (push_counted state y)) (sym pushed_some)
                    ∙ sym (blocking_flow_more N L j state (ap (λ (y : Pushed). le y.amount eps) pushed_some ∙ not_small x gives.amount)) ∙ e;
              },
              refl,
            )

    module _ (rising : (u : ℕ) → Rising (out N u)) (D : ℕ → ℕ) (S : Bounding N c D) (p : List ℕ) (R : Route N c D N.source p) where
      -- within its phase, if the sink is as far there as D says
      level_pushes : (I : Within N G T t c) → level_of (levels N I.before.cap) N.sink ≡ D N.source → (W : Within N G T (add binary64 t (least c (inf false) p)) (push_path (least c (inf false) p) p c)) × (W.before ≡ I.before)
      level_pushes I z =
          let (q, nx, e, is) = finds N G rising (base I) I.phasing.valid I.phasing.caps D S p R z (found I) (ended I) in
          goes_on I q nx p e is

      -- in a new phase, whose sink is
      opens_pushes : (I : Between N G T t c) → (level_of (levels N c) N.sink ≡ D N.source)
          × (W : Within N G T (add binary64 t (least c (inf false) p)) (push_path (least c (inf false) p) p c)) × (W.before ≡ run_now t c I.level I.phases)
      opens_pushes I =
          let C = I.running.caps in
          let B = levels_ok N G c C in
          let z = B.src in
          let few = G.few in
          let i = G.source_in in
          let (h, l) = route_level N G rising B (λ e r. inl r) C D p N.source R (omega arith) in
          let b = levels_bound C D S (level_of (levels N c) N.sink) N.sink refl h in
          let s = S.sink in
          let z : level_of (levels N c) N.sink ≡ D N.source = omega arith in
          let (W, e) = opens I h in
          let (V, f) = level_pushes W (ap (λ (r : FlowRun). level_of (levels N r.cap) N.sink) e ∙ z) in
          (z, V, f ∙ e)

      -- one push more, along a route by D
      pub underway_pushes : Underway N G T t c → Further N G T t c p
      underway_pushes (inl I) = inr (opens_pushes I).1
      underway_pushes (inr I) =
          let (h, l) = route_level N G rising (base I) I.phasing.valid I.phasing.caps D p N.source R source_set in
          pick l (eq_or_ne (level_of (levels N I.before.cap) N.sink) (D N.source))
        where
          source_set : HasLevel (levels N I.before.cap) N.source
          source_set = let z = (base I).src in let few = G.few in let i = G.source_in in omega arith

          pick : level_of (levels N I.before.cap) N.sink ≤ level_of (levels N I.before.cap) N.source + D N.source
              → (level_of (levels N I.before.cap) N.sink ≡ D N.source) ⊎ (level_of (levels N I.before.cap) N.sink ≢ D N.source) → Further N G T t c p
          pick l (inl z) = inr (level_pushes I z).0
          pick l (inr d) =
              let z = (base I).src in
              let (nx, e) = finds_none N G rising (base I) I.phasing.valid I.phasing.caps D S (omega arith) (found I) (ended I) in
              inr (opens_pushes (closes I nx e)).1

    -- no push is left where nodes with the source and without the sink are left by no link with capacity left
    module _ (Z : ℕ → Type 0) (from : Z N.source) (not-to : Z N.sink → ⊥) (closed : (e : ℕ) → residual c e ≡ true → Z (tail N e) → Z (head N e)) where
      between_ends : Between N G T t c → t ≡ T
      between_ends I = stops I (unreached N c (levels N c) Z from closed G (levels_ok N G c I.running.caps) not-to)

      pub underway_ends : Underway N G T t c → t ≡ T
      underway_ends (inl I) = between_ends I
      underway_ends (inr I) = let (nx, e) = walk_stays N c (levels N I.before.cap) Z from closed not-to (found I) (ended I) in between_ends (closes I nx e)

  -- ---- the first phase of a run from capacities c₀, to a sink d links away: nothing is pushed yet, or what is pushed was pushed in it

  abbrev pub Opening : List Float → ℕ → Float → List Float → Type 0
  Opening c₀ d t c = ((t ≡ nought) × (c ≡ c₀)) ⊎ ((I : Within N G (max_flow N c₀).total t c) × (I.before ≡ start c₀) × (level_of (levels N c₀) N.sink ≡ d))

  module _ {c₀ : List Float} (C : Caps N c₀) {t : Float} {c : List Float} (D : ℕ → ℕ) (S : Bounding N c D) where
    begun_between : t ≡ nought → c ≡ c₀ → (I : Between N G (max_flow N c₀).total t c) × (run_now t c I.level I.phases ≡ start c₀)
    unfolding max_flow
    begun_between z e = rw (z, e) (record { fuel = nodes N; level = []; phases = []; running = run_starts N G c₀ C; same = refl }, refl)

    module _ (rising : (u : ℕ) → Rising (out N u)) where
      -- one push more
      pub opening_pushes : (p : List ℕ) → Route N c D N.source p → Opening c₀ (D N.source) t c → Opening c₀ (D N.source) (add binary64 t (least c (inf false) p)) (push_path (least c (inf false) p) p c)
      opening_pushes p R (inl (z, e)) =
          let (I, b) = begun_between z e in
          let (l, W, f) = opens_pushes rising D S p R I in
          inr (W, f ∙ b, ap (λ (x : List Float). level_of (levels N x) N.sink) (sym e) ∙ l)
      opening_pushes p R (inr (I, b, l)) =
          let (W, f) = level_pushes rising D S p R I (ap (λ (r : FlowRun). level_of (levels N r.cap) N.sink) b ∙ l) in
          inr (W, f ∙ b, l)

      -- the phase is over where the sink is farther by now
      pub opening_over : (I : Within N G (max_flow N c₀).total t c) → I.before ≡ start c₀ → level_of (levels N c₀) N.sink < D N.source → (run N 1 (start c₀)).total ≡ t
      unfolding run after_phase
      opening_over I b h =
          let e = ap (λ (r : FlowRun). level_of (levels N r.cap) N.sink) b in
          let (nx, f) = finds_none N G rising (base I) I.phasing.valid I.phasing.caps D S (omega arith) (found I) (ended I) in
          ap (λ (r : FlowRun). (run N 1 r).total) (sym b) ∙ ap (λ (r : FlowRun). r.total) (run_on N 0 I.before I.reaches) ∙ ap (λ (s : PhaseState). s.total) (phase_is I nx f)

  -- and there is none where the sink is farther than there are nodes
  pub opening_none : {c₀ : List Float} → Caps N c₀ → (D : ℕ → ℕ) → Bounding N c₀ D → nodes N ≤ D N.source → (run N 1 (start c₀)).total ≡ nought
  unfolding at_end
  opening_none {c₀} C D S h = ap (λ (r : FlowRun). r.total) (run_end N 0 (start c₀) (pick (eq_or_ne (level_of (levels N c₀) N.sink) unset)))
    where
      pick : (level_of (levels N c₀) N.sink ≡ unset) ⊎ (level_of (levels N c₀) N.sink ≢ unset) → level_of (levels N c₀) N.sink ≡ unset
      pick (inl e) = e
      pick (inr g) =
          let b = levels_bound C D S (level_of (levels N c₀) N.sink) N.sink refl g in
          let l = (levels_ok N G c₀ C).bnd N.sink g in
          let s = S.sink in
          absurd (omega arith)
