-- The turns of `crowded`: keys rise, so the targets of a state come one after the other. `Crowding` says that the list has the distinct ones of the state at hand, and that no other
-- state has over 31 so far.
use mathlib.Core.Path.{◌≡◌, refl, sym, subst, ap, ◌∙◌}
use mathlib.Core.Logic.{◌⊎◌, inl, inr, ◌≢◌}
use mathlib.Core.Bool.{Bool, true, false, ◌||◌, not, true≢false, false≢true}
use Prim.Native.Nat.{ℕ, zero, suc, ◌+◌, ◌/◌, ◌%◌, ◌≤◌, ◌<◌}
use mathlib.Core.List.{List, [], ◌∷◌, ◌++◌, map, map-append, append-nil}
use native.Mathlib.Omega.{arith}
use native.Mathlib.Numerals.{add-one}
use lib.Dec.{eqb, ltb}
use lib.Ieee.{Float, nan}
use lib.ListN.{length, get_or, take}
use lib.Seq.{length-take-le, take-suc, take_all}
use borrow.Author.Tests.{eq-eqb, ne_eqb, eqb-true, eqb-false, lt-ltb, le-ltb, not-true, not-false}
use Rattle.numbers.specs.Real.{is_zero}
use Rattle.numbers.specs.Search.{seek}
use Rattle.numbers.proofs.Bools.{eq_or_ne, or_f}
use Rattle.bisim_core.specs.Data.{Edge}
use Rattle.bisim_core.specs.Ids.{noted, intern, distinct}
use Rattle.bisim_core.specs.Edges.{others}
use Rattle.build_theory.specs.Edges.{keep, nonzero}
use Rattle.bisim_core.proofs.Distinct.{intern_longer}
use Rattle.bisim_core.proofs.Models.{others_append, crowded_not, crowded_by}
use Rattle.build_theory.proofs.Steps.{edge_of, Keys, Noted, Overfull, Crowded}

intern_append : (known xs ys : List ℕ) → intern known (xs ++ ys) ≡ intern (intern known xs) ys
unfolding intern
intern_append known [] ys = refl
intern_append known (x ∷ xs) ys = intern_append (noted (ltb (seek x known) (length known)) x known) xs ys

-- ---- does a transition lead to another state

pub leads_not : (z e : Bool) → not z ≡ false → not z ≡ not (z || e)
leads_not true e h = refl
leads_not false e h = absurd (true≢false h)

pub leads_if : (z e : Bool) → not z ≡ true → not e ≡ not (z || e)
leads_if true e h = absurd (false≢true h)
leads_if false e h = refl

-- ---- the targets of one edge more

other_none : (s : ℕ) (a : Edge) → a.source ≢ s → others s (a ∷ []) ≡ []
unfolding others
other_none s a h = rw (ne_eqb a.source s h)

other_self : (s : ℕ) (a : Edge) → a.source ≡ s → a.target ≡ s → others s (a ∷ []) ≡ []
unfolding others
other_self s a h k = rw (eq-eqb a.source s h, eq-eqb a.target s k)

other_one : (s : ℕ) (a : Edge) → a.source ≡ s → a.target ≢ s → others s (a ∷ []) ≡ a.target ∷ []
unfolding others
other_one s a h k = rw (eq-eqb a.source s h, ne_eqb a.target s k)

nonzero_append : (E F : List Edge) → nonzero (E ++ F) ≡ nonzero E ++ nonzero F
unfolding nonzero
nonzero_append [] F = refl
nonzero_append (a ∷ E) F = pick (nonzero_append E F) (is_zero a.weight)
  where
    pick : nonzero (E ++ F) ≡ nonzero E ++ nonzero F → (b : Bool) → keep b a (nonzero (E ++ F)) ≡ keep b a (nonzero E) ++ nonzero F
    pick ih true = ih
    pick ih false = ap (λ (l : List Edge). a ∷ l) ih

module _ (K : List ℕ) (W : List Float) where
  -- the targets of s other than itself that the first j keys have, zero weights dropped
  abbrev pub led : ℕ → ℕ → List ℕ
  led j s = others s (nonzero (map (edge_of W) (take j K)))

  abbrev pub source_at : ℕ → ℕ
  source_at j = get_or K j 0 / 4096 / 524288

  abbrev pub target_at : ℕ → ℕ
  target_at j = get_or K j 0 / 4096 % 2048

  module _ (j : ℕ) (h : j < length K) where
    abbrev a : Edge
    a = edge_of W (get_or K j 0)

    more : (s : ℕ) → led (j + 1) s ≡ led j s ++ others s (nonzero (a ∷ []))
    more s =
        ap (λ (k : ℕ). led k s) (add-one j) ∙ ap (λ (l : List ℕ). others s (nonzero (map (edge_of W) l))) (take-suc K j 0 h)
        ∙ ap (λ (l : List Edge). others s (nonzero l)) (map-append (edge_of W) (take j K) (get_or K j 0 ∷ []))
        ∙ ap (others s) (nonzero_append (map (edge_of W) (take j K)) (a ∷ []))
        ∙ others_append s (nonzero (map (edge_of W) (take j K))) (nonzero (a ∷ []))

    nothing_more : (s : ℕ) → others s (nonzero (a ∷ [])) ≡ [] → led (j + 1) s ≡ led j s
    nothing_more s e = more s ∙ ap (λ (l : List ℕ). led j s ++ l) e ∙ append-nil (led j s)

    -- of another state
    pub more_none : (s : ℕ) → source_at j ≢ s → led (j + 1) s ≡ led j s
    unfolding nonzero others
    more_none s e = nothing_more s (pick (is_zero a.weight))
      where
        pick : (b : Bool) → others s (keep b a []) ≡ []
        pick true = refl
        pick false = other_none s a e

    -- without a weight, or to the state itself
    pub more_self : (is_zero a.weight || eqb (target_at j) (source_at j)) ≡ true → led (j + 1) (source_at j) ≡ led j (source_at j)
    unfolding nonzero others
    more_self e = nothing_more (source_at j) (pick (is_zero a.weight) e)
      where
        pick : (b : Bool) → (b || eqb (target_at j) (source_at j)) ≡ true → others (source_at j) (keep b a []) ≡ []
        pick true e = refl
        pick false e = other_self (source_at j) a refl (eqb-true _ _ e)

    -- to another
    pub more_one : (is_zero a.weight || eqb (target_at j) (source_at j)) ≡ false → distinct (led (j + 1) (source_at j)) ≡ intern (distinct (led j (source_at j))) (target_at j ∷ [])
    unfolding nonzero
    more_one e =
        let (z, t) = or_f (is_zero a.weight) (eqb (target_at j) (source_at j)) e in
        ap distinct (more (source_at j) ∙ ap (λ (b : Bool). led j (source_at j) ++ others (source_at j) (keep b a [])) z
        ∙ ap (λ (l : List ℕ). led j (source_at j) ++ l) (other_one (source_at j) a refl (eqb-false _ _ t)))
        ∙ intern_append [] (led j (source_at j)) (target_at j ∷ [])

    -- a state that has too many targets keeps them
    led_longer : (s : ℕ) → length (distinct (led j s)) ≤ length (distinct (led (j + 1) s))
    led_longer s =
        let f = ap distinct (more s) ∙ intern_append [] (led j s) (others s (nonzero (a ∷ []))) in
        subst (λ (x : List ℕ). length (distinct (led j s)) ≤ length x) (sym f) (intern_longer (distinct (led j s)) (others s (nonzero (a ∷ []))))

  -- those of all keys
  pub led_all : (s : ℕ) → led (length K) s ≡ others s (nonzero (map (edge_of W) K))
  led_all s = ap (λ (l : List ℕ). others s (nonzero (map (edge_of W) l))) (take_all (length K) K (omega arith))

  -- a state without transitions so far
  pub led_none : (s k : ℕ) → k ≤ length K → ((i : ℕ) → i < k → source_at i ≢ s) → led k s ≡ []
  unfolding nonzero others
  led_none s zero w h = refl
  led_none s (suc k) w h = subst (λ (x : ℕ). led x s ≡ []) (add-one k) (more_none k (omega arith) s (h k (omega arith)) ∙ led_none s k (omega arith) (λ i l. h i (omega arith)))

  pub led_grows : (s k d : ℕ) → k + d ≤ length K → length (distinct (led k s)) ≤ length (distinct (led (k + d) s))
  led_grows s k zero w = subst (λ (x : ℕ). length (distinct (led k s)) ≤ length (distinct (led x s))) (let z : k ≡ k + 0 = omega arith in z) (omega arith)
  led_grows s k (suc d) w =
      let e = led_grows s k d (omega arith) in
      let f = led_longer (k + d) (omega arith) s in
      subst (λ (x : ℕ). length (distinct (led k s)) ≤ length (distinct (led x s))) (let z : k + d + 1 ≡ k + suc d = omega arith in z) (omega arith)

-- ---- the loop

pub record Crowding (K : List ℕ) (W : List Float) (seen : List ℕ) (count state j : ℕ) : Type 0 where
  pub j_in : j ≤ length K
  pub size : length seen ≡ 31
  pub few : count ≤ 31
  pub known : take count seen ≡ distinct (led K W j state)
  pub calm : (s : ℕ) → s ≢ state → length (distinct (led K W j s)) ≤ 31
  pub low : (i : ℕ) → i < j → source_at K W i ≤ state
  pub ahead : (i : ℕ) → j ≤ i → i < length K → state ≤ source_at K W i

pub crowding : (K : List ℕ) (W : List Float) (seen : List ℕ) → length seen ≡ 31 → Crowding K W seen 0 0 0
unfolding nonzero others intern
crowding K W seen e = record {
  j_in = omega arith;
  size = e;
  few = omega arith;
  known = refl;
  calm = λ s h. omega arith;
  low = λ i h. absurd (omega arith);
  ahead = λ i h k. omega arith;
}

module _ {K : List ℕ} {W : List Float} {seen : List ℕ} {count state j : ℕ} (I : Crowding K W seen count state j) (R : Keys K) where
  counted : length (distinct (led K W j state)) ≡ count
  counted = ap length (sym I.known) ∙ length-take-le count seen (let a = I.few in let b = I.size in omega arith)

  calm_all : (s : ℕ) → length (distinct (led K W j s)) ≤ 31
  calm_all s = pick (eq_or_ne s state)
    where
      pick : (s ≡ state) ⊎ (s ≢ state) → length (distinct (led K W j s)) ≤ 31
      pick (inl e) = subst (λ (x : ℕ). length (distinct (led K W j x)) ≤ 31) (sym e) (let a = counted in let b = I.few in omega arith)
      pick (inr e) = I.calm s e

  module _ (h : j < length K) where
    abbrev s : ℕ
    s = source_at K W j

    abbrev t : ℕ
    t = target_at K W j

    abbrev z : Bool
    z = is_zero (get_or W (get_or K j 0 % 4096) nan)

    rest : (i : ℕ) → j + 1 ≤ i → i < length K → s ≤ source_at K W i
    rest i k l = let a = R.rising j i (omega arith) l in over (get_or K j 0) (get_or K i 0) a
      where
        over : (x y : ℕ) → x ≤ y → x / 4096 / 524288 ≤ y / 4096 / 524288
        over x y h = let a : x / 4096 ≤ y / 4096 = omega arith in third (x / 4096) (y / 4096) a
          where
            third : (x y : ℕ) → x ≤ y → x / 524288 ≤ y / 524288
            third x y h = omega arith

    -- the list of the state at hand, begun anew for another
    pub record Ready (count' : ℕ) : Type 0 where
      pub few : count' ≤ 31
      pub known : take count' seen ≡ distinct (led K W j s)

    pub ready_same : s ≡ state → (count' : ℕ) → count' ≡ count → Ready count'
    ready_same e count' p = rw p (record { few = I.few; known = I.known ∙ ap (λ (x : ℕ). distinct (led K W j x)) (sym e) })

    pub ready_new : s ≢ state → (count' : ℕ) → count' ≡ 0 → Ready count'
    unfolding intern
    ready_new e count' p = rw p (record {
      few = omega arith;
      known = sym (ap distinct (led_none K W s j (omega arith) (λ i l y. let a = I.low i l in let b = I.ahead j (omega arith) h in e (omega arith))));
    })

    -- what the test of key j says, of the place, the target and the source that are read of it
    pub leads_read : (a u s' : ℕ) → a ≡ get_or K j 0 % 4096 → u ≡ t → s' ≡ s → {r b : Bool} → r ≡ not (is_zero (get_or W a nan) || eqb u s') → r ≡ b → not (z || eqb t s) ≡ b
    leads_read a u s' p q v {r} {b} = rw (p, q, v) (λ e g. sym e ∙ g)

    lows : (i : ℕ) → i < j + 1 → source_at K W i ≤ s
    lows i l = pick (eq_or_ne i j)
      where
        pick : (i ≡ j) ⊎ (i ≢ j) → source_at K W i ≤ s
        pick (inl e) = subst (λ (x : ℕ). source_at K W x ≤ s) (sym e) (omega arith)
        pick (inr e) = let a = I.low i (omega arith) in let b = I.ahead j (omega arith) h in omega arith

    calms : (x : ℕ) → x ≢ s → length (distinct (led K W (j + 1) x)) ≤ 31
    calms x e = subst (λ (l : List ℕ). length (distinct l) ≤ 31) (sym (more_none K W j h x (λ y. e (sym y)))) (calm_all x)

    module _ (count' : ℕ) (Y : Ready count') where
      pub crowd_self : not (z || eqb t s) ≡ false → (seen'' : List ℕ) (count'' s' : ℕ) → seen'' ≡ seen → count'' ≡ count' → s' ≡ s → Crowding K W seen'' count'' s' (j + 1)
      crowd_self e seen'' count'' s' p q v = rw (p, q, v) (record {
        j_in = omega arith;
        size = I.size;
        few = Y.few;
        known = Y.known ∙ ap distinct (sym (more_self K W j h (not-false _ e)));
        calm = calms;
        low = lows;
        ahead = rest;
      })

      module _ (e : not (z || eqb t s) ≡ true) (seen₁ : List ℕ) (u : ℕ) (same : seen₁ ≡ seen) (read : u ≡ t) where
        noted_is : intern (take count' seen) (t ∷ []) ≡ distinct (led K W (j + 1) s)
        noted_is = ap (λ (l : List ℕ). intern l (t ∷ [])) Y.known ∙ sym (more_one K W j h (not-true _ e))

        pub crowd_more : (seen' : List ℕ) (r : ℕ) → Noted seen₁ count' u seen' r → length seen' ≡ length seen
            → (seen'' : List ℕ) (count'' s' : ℕ) → seen'' ≡ seen' → count'' ≡ r → s' ≡ s → Crowding K W seen'' count'' s' (j + 1)
        crowd_more seen' r added y seen'' count'' s' p q v = rw (p, q, v) (record {
          j_in = omega arith;
          size = y ∙ I.size;
          few = let a = N.room in let b = I.size in omega arith;
          known = N.known ∙ noted_is;
          calm = calms;
          low = lows;
          ahead = rest;
        })
          where
            N : Noted seen count' t seen' r
            N = subst (λ (l : List ℕ). Noted l count' t seen' r) same (subst (λ (x : ℕ). Noted seen₁ count' x seen' r) read added)

        pub crowd_found : Overfull seen₁ count' u → Crowded K W true
        crowd_found full = record {
          same = λ states all.
              let a = ap length noted_is in
              let o = over in
              let size = I.size in
              let y : (j + 1) + Prim.Native.Nat.◌-◌ (length K) (j + 1) ≡ length K = omega arith in
              let b = led_grows K W s (j + 1) (Prim.Native.Nat.◌-◌ (length K) (j + 1)) (omega arith) in
              let g = ap (λ (x : ℕ). length (distinct (led K W x s))) y in
              let f = ap (λ (l : List ℕ). length (distinct l)) (led_all K W s) in
              sym (crowded_by (nonzero (map (edge_of W) K)) states s (all j h) (lt-ltb 31 (length (distinct (others s (nonzero (map (edge_of W) K))))) (omega arith)));
        }
          where
            over : Overfull seen count' t
            over = subst (λ (l : List ℕ). Overfull l count' t) same (subst (λ (x : ℕ). Overfull seen₁ count' x) read full)

  pub crowd_none : length K ≤ j → Crowded K W false
  crowd_none h = record {
    same = λ states all.
        let a = I.j_in in
        let e : j ≡ length K = omega arith in
        sym (crowded_not (nonzero (map (edge_of W) K)) states (λ s k. le-ltb 31 (length (distinct (others s (nonzero (map (edge_of W) K)))))
        (let c = calm_all s in let d = ap (λ (x : ℕ). length (distinct (led K W x s))) e in let f = ap (λ (l : List ℕ). length (distinct l)) (led_all K W s) in omega arith)));
  }
