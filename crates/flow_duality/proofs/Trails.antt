-- A whole run has at most `pushes_most` pushes, so the flow and what the links out of a set have left differ from what they had by at most `slip` times 2^-49;
-- and at the run's own cut they have next to nothing left.
use mathlib.Core.Path.{◌≡◌, refl, sym, subst, subst⁻¹, ap, ◌∙◌}
use mathlib.Core.Logic.{◌≢◌, ◌⊎◌, inl, inr}
use mathlib.Core.Bool.{Bool, true, false, not, true≢false, false≢true}
use Prim.Native.Nat.{ℕ, zero, suc, ◌≤◌, ◌<◌, ◌+◌, ◌*◌, ◌^◌}
use mathlib.Core.List.{List, [], ◌∷◌, reverse}
use native.Mathlib.Omega.{arith}
use native.Mathlib.Nat.{mul-le-mul_right, add-zero, add-suc}
use lib.ListN.{length, length-reverse}
use lib.Ieee.{Float, inf, binary64, of_bits, of_fields, lt, le, add}
use Rattle.numbers.specs.Real.{nought, eps}
use Rattle.numbers.proofs.Bools.{t_of, and_t}
use Rattle.numbers.proofs.Floats.{power, Low}
use Rattle.numbers.proofs.Comparisons.{not_small, nought_small}
use Rattle.numbers.proofs.Members.{in_reverse, apart_reverse}
use Rattle.flow_theory.specs.Network.{rev, Net, links, nodes, head, tail, left}
use Rattle.flow_theory.specs.Levels.{level_of, levels}
use Rattle.flow_theory.specs.Augment.{Walked, reached, blocked, Pushed, push, walk, walk_fuel, augment}
use Rattle.flow_theory.specs.Run.{PhaseState, push_counted, no_push, Phase, FlowRun, opening, phase, after_phase, at_end, all_pushes}
use Rattle.flow_theory.specs.Claim.{Phases, push_at, PushTrail, PhasePushes, PhaseTrail, in_cut, FlowClaim}
use Rattle.flow_theory.proofs.Links.{WellFormed, Caps}
use Rattle.flow_theory.proofs.Levels.{Levels, levels_ok}
use Rattle.flow_duality.specs.Spare.{row_most}
use Rattle.flow_duality.proofs.Wholes.{ulp, ulp_pos, val, Whole, val_ge, val_le, power_whole, power_val, nought_whole, nought_val, eps_whole, eps_val}
use Rattle.flow_duality.proofs.Cuts.{upto, upto_pairs, leads, one_way, part, out_of}
use Rattle.flow_duality.proofs.Routes.{Came, walked, route_links, route_apart, route_one_way, route_length, route_chain}
use Rattle.flow_duality.proofs.Pushed.{nodes_most, added_most, pushes_most, Allowed, Fine, Flowing, Begins, bound, total_low, finite, pushed}

-- ---- tests

over_eps : (x : Float) → x ≡ inf false → lt eps x ≡ true
unfolding lt of_bits of_fields
over_eps x q = ap (lt eps) q

not_t : (b : Bool) → not b ≡ true → b ≡ false
not_t true e = absurd (false≢true e)
not_t false e = refl

-- ---- how much at most

-- what rounding takes, in 2^-49
abbrev pub slip : ℕ
slip = nodes_most * pushes_most

-- what 1e-12 left of each link or of its reverse takes
abbrev pub leftover : ℕ
leftover = added_most * 563

-- ---- links in pairs

next_is : (e : ℕ) → suc (e + e) ≡ rev (e + e)
unfolding rev
next_is e = omega arith

-- ---- how many pushes

pushes_few : (n : ℕ) (ps : List Phase) → Phases n ps → all_pushes ps ≤ length ps * n
pushes_few n [] h = omega arith
pushes_few n (p ∷ ps) h = let r = pushes_few n ps h.2 in let l = h.0 in omega arith

module _ (N : Net) (G : WellFormed N) (few : nodes N ≤ nodes_most) (c₀ : List Float) (B : Begins N c₀) where
  -- ---- one `augment`

  -- it pushed, or it left all as it was
  abbrev Next : ℕ → Float → List Float → Pushed → Type 0
  Next n t c r = ((le r.amount eps ≡ false) × Flowing N c₀ (suc n) (add binary64 t r.amount) r.cap) ⊎ ((le r.amount eps ≡ true) × (r.cap ≡ c))

  module _ (n : ℕ) (low : n ≤ pushes_most) (t : Float) (c : List Float) (F : Flowing N c₀ n t c) (L : List ℕ) (zero-source : level_of L N.source ≡ 0) (sink-low : level_of L N.sink < nodes N) where
    along : (r : Walked) → Came N c L r → Next n t c (push c r)
    unfolding push
    along (reached p nx) R =
        let (f, above) = pushed N G c₀ B n low t c F (reverse p) (route_chain N G c L p N.sink R) (apart_reverse p (route_apart N G c L p N.sink R))
        (λ a i e j. route_one_way N G c L p N.sink R a (in_reverse a p i) e (in_reverse e p j))
        (λ y i. let k = route_links N G c L p N.sink R y (in_reverse y p i) in (k.0, k.1))
        (let l = route_length N G c L p N.sink R in let m = length-reverse p in let z = zero-source in let s = sink-low in omega arith) in
        inl (not_small _ above, f)
    along (blocked nx) R = inr (nought_small, refl)

    pub next : (nx : List ℕ) → Next n t c (augment N c L nx)
    unfolding augment
    next nx = along (walk N c L (walk_fuel N) (record { at = N.source; path = []; next = nx })) (walked N G c L (walk_fuel N) (record { at = N.source; path = []; next = nx }) refl)

  -- ---- the pushes of a phase

  module _ (L : List ℕ) (zero-source : level_of L N.source ≡ 0) (sink-low : level_of L N.sink < nodes N) where
    trail_flow : (k m : ℕ) (s t : PhaseState) → m + k ≤ pushes_most → PushTrail N L s k t → Flowing N c₀ m s.total s.cap → Flowing N c₀ (m + k) t.total t.cap
    unfolding push_counted
    trail_flow zero m s t l q F = subst⁻¹ (λ (b : PhaseState). Flowing N c₀ (m + 0) b.total b.cap) q (subst⁻¹ (λ (k : ℕ). Flowing N c₀ k s.total s.cap) (add-zero m) F)
    trail_flow (suc k) m s t l (b, h, q, P) F =
        let E = trail_flow k m s b (omega arith) P F in
        pick (next (m + k) (omega arith) b.total b.cap E L zero-source sink-low b.next)
      where
        pick : Next (m + k) b.total b.cap (push_at N L b) → Flowing N c₀ (m + suc k) t.total t.cap
        pick (inl (f, E)) =
            subst⁻¹ (λ (y : PhaseState). Flowing N c₀ (m + suc k) y.total y.cap) q
            (subst⁻¹ (λ (j : ℕ). Flowing N c₀ j (add binary64 b.total (push_at N L b).amount) (push_at N L b).cap) (add-suc m k) E)
        pick (inr (f, e)) = absurd (true≢false (sym f ∙ h))

    phase_flow : (k m : ℕ) (s e : PhaseState) → m + k ≤ pushes_most → PhasePushes N L s k e → Flowing N c₀ m s.total s.cap → Flowing N c₀ (m + k) e.total e.cap
    unfolding no_push
    phase_flow k m s e l (t, P, h, q) F =
        let E = trail_flow k m s t l P F in
        subst⁻¹ (λ (y : PhaseState). Flowing N c₀ (m + k) y.total y.cap) q (pick E (next (m + k) (omega arith) t.total t.cap E L zero-source sink-low t.next))
      where
        pick : Flowing N c₀ (m + k) t.total t.cap → Next (m + k) t.total t.cap (push_at N L t) → Flowing N c₀ (m + k) t.total (push_at N L t).cap
        pick E (inl (f, D)) = absurd (true≢false (sym h ∙ f))
        pick E (inr (f, d)) = subst⁻¹ (Flowing N c₀ (m + k) t.total) d E

  -- ---- the phases of a run

  caps_flow : (n : ℕ) → n ≤ pushes_most → (t : Float) (c : List Float) → Flowing N c₀ n t c → Caps N c
  caps_flow n l t c F = record { size = F.size; low = λ e i f. low e i f }
    where
      low : (e : ℕ) → e < links N → tail N e ≡ N.source → Low (left c e)
      low e i f =
          let (w, h) = finite N G c₀ B n l t c F e i (B.first e i f) in
          let a = total_low N G c₀ B n l t c F in
          let b = bound N G c₀ B n l t c F in
          let u = ulp_pos in
          let p = power_val in
          t_of (val_le (left c e) (power 40) w power_whole (omega arith))

  begun : Flowing N c₀ 0 nought c₀
  begun = record {
    size = B.size;
    total = nought_whole;
    fine = λ e l. pick e (B.each e l);
    balance = λ S a. let z = nought_val in (omega arith, omega arith);
  }
    where
      pick : (e : ℕ) → (left c₀ e ≡ inf false) ⊎ ((left c₀ e ≢ inf false) × Whole (left c₀ e) × (val (left c₀ e) ≤ 2 ^ 49 * ulp)) → Fine c₀ 0 nought c₀ e
      pick e (inl q) = inl (q, q)
      pick e (inr (d, w, h)) = inr (d, w, omega arith)

  run_flow : (ps : List Phase) (t : FlowRun) → all_pushes ps ≤ pushes_most → PhaseTrail N c₀ ps t → Flowing N c₀ (all_pushes ps) t.total t.cap
  unfolding after_phase
  run_flow [] t l q = subst⁻¹ (λ (y : FlowRun). Flowing N c₀ 0 y.total y.cap) q begun
  run_flow (p ∷ ps) t l (s, P, R) =
      let F = run_flow ps s (omega arith) R in
      let L : List ℕ = levels N s.cap in
      let K : Levels N s.cap L = levels_ok N G s.cap (caps_flow (all_pushes ps) (omega arith) s.total s.cap F) in
      let E = phase_flow L K.src (K.bnd N.sink P.reached) p.pushes (all_pushes ps) (opening N s) (phase N s L) (omega arith) P.pushes F in
      ended L E P.after
    where
      ended : (L : List ℕ) → Flowing N c₀ (all_pushes ps + p.pushes) (phase N s L).total (phase N s L).cap → t ≡ after_phase N s L → Flowing N c₀ (p.pushes + all_pushes ps) t.total t.cap
      ended L E q =
          subst⁻¹ (λ (y : FlowRun). Flowing N c₀ (p.pushes + all_pushes ps) y.total y.cap) q
          (subst (λ (k : ℕ). Flowing N c₀ k (phase N s L).total (phase N s L).cap) (let z : all_pushes ps + p.pushes ≡ p.pushes + all_pushes ps = omega arith in z) E)

  -- ---- the whole run

  module _ (added : ℕ) (small : added ≤ added_most) (r : FlowRun) (C : FlowClaim N c₀ added r) where
    count : all_pushes r.phases ≤ pushes_most
    count =
        let p = pushes_few added r.phases C.bounded.each_phase in
        let l = C.bounded.few_phases in
        let m : length r.phases * added ≤ (2 * row_most + 1) * added = mul-le-mul_right added (let h : length r.phases ≤ 2 * row_most + 1 = omega arith in h) in
        omega arith

    pub ran : Flowing N c₀ (all_pushes r.phases) r.total r.cap
    unfolding at_end
    ran =
        let q = C.traced.ends in
        subst⁻¹ (λ (y : FlowRun). Flowing N c₀ (all_pushes r.phases) y.total y.cap) q (run_flow r.phases C.traced.last count C.traced.trail)

    few_ulps : all_pushes r.phases * ulp ≤ pushes_most * ulp
    few_ulps = mul-le-mul_right ulp count

    -- no cut lets less through
    pub below_cut : (S : ℕ → Bool) → Allowed N c₀ S → val r.total ≤ out_of N S c₀ + slip * ulp
    below_cut S a = let h = (ran.balance S a).0 in let f = few_ulps in omega arith

    pub own_cut : Allowed N c₀ (in_cut r)
    own_cut = record { source_in = C.bounded.cut.source_in; sink_out = C.bounded.cut.sink_out; finite = λ e l h q. pick e l h q (ran.fine e l) }
      where
        pick : (e : ℕ) → e < links N → leads N (in_cut r) e ≡ true → left c₀ e ≡ inf false → Fine c₀ (all_pushes r.phases) r.total r.cap e → ⊥
        pick e l h q (inr (d, w, b)) = d q
        pick e l h q (inl (a, b)) =
            let (i, o) = and_t (in_cut r (tail N e)) (not (in_cut r (head N e))) h in
            true≢false (sym (over_eps (left r.cap e) b) ∙ C.bounded.cut.none_out e l i (not_t (in_cut r (head N e)) o))

    -- at its own cut it is next to what the cut lets through
    pub at_own_cut : links N ≤ 2 * added_most → out_of N (in_cut r) c₀ ≤ val r.total + (slip + leftover) * ulp
    unfolding out_of
    at_own_cut few-links =
        let h = (ran.balance (in_cut r) own_cut).1 in
        let f = few_ulps in
        let u = subst⁻¹ (λ (k : ℕ). upto at k ≤ G.added * (563 * ulp)) G.pairs (upto_pairs at G.added (563 * ulp) (λ e l. two e l (leads N (in_cut r) (e + e)) refl)) in
        let p = G.pairs in
        let m : G.added * (563 * ulp) ≤ added_most * (563 * ulp) = mul-le-mul_right (563 * ulp) (let k : G.added ≤ added_most = omega arith in k) in
        omega arith
      where
        at : ℕ → ℕ
        at e = part (leads N (in_cut r) e) (left r.cap e)

        small' : (e : ℕ) → e < links N → (b : Bool) → leads N (in_cut r) e ≡ b → part b (left r.cap e) ≤ 563 * ulp
        small' e l false h = omega arith
        small' e l true h =
            let (i, o) = and_t (in_cut r (tail N e)) (not (in_cut r (head N e))) h in
            let (w, x) = finite N G c₀ B (all_pushes r.phases) count r.total r.cap ran e l (own_cut.finite e l h) in
            let v = val_ge eps (left r.cap e) eps_whole w (C.bounded.cut.none_out e l i (not_t (in_cut r (head N e)) o)) in
            let z = eps_val in
            omega arith

        two : (e : ℕ) → e < G.added → (b : Bool) → leads N (in_cut r) (e + e) ≡ b → at (e + e) + at (suc (e + e)) ≤ 563 * ulp
        two e l true h =
            let a = small' (e + e) (let p = G.pairs in omega arith) true h in
            let x : at (e + e) ≡ part true (left r.cap (e + e)) = ap (λ (b : Bool). part b (left r.cap (e + e))) h in
            let y : at (suc (e + e)) ≡ 0 = ap (λ (b : Bool). part b (left r.cap (suc (e + e)))) (ap (leads N (in_cut r)) (next_is e) ∙ one_way N (in_cut r) (e + e) h) in
            omega arith
        two e l false h =
            let a = small' (suc (e + e)) (let p = G.pairs in omega arith) (leads N (in_cut r) (suc (e + e))) refl in
            let x : at (e + e) ≡ 0 = ap (λ (b : Bool). part b (left r.cap (e + e))) h in
            omega arith
