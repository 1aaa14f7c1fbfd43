-- The loops of `sweeps` over rows: one share is one item of the sum, one pair is one `update` of the definition, one sweep one `swept`.
use mathlib.Core.Path.{◌≡◌, refl, sym, subst, ap, ◌∙◌}
use Prim.Native.Nat.{ℕ, suc, ◌+◌, ◌-◌, ◌≤◌, ◌<◌}
use mathlib.Core.Bool.{true, false}
use mathlib.Core.List.{List}
use mathlib.Core.Logic.{inl}
use native.Mathlib.Numerals.{add-one}
use native.Mathlib.Omega.{arith}
use lib.ListN.{length, get_or, set, drop, drop_of_length-le, length-set}
use lib.Seq.{slice, length-slice, drop-cons}
use lib.Ieee.{Float, nan, binary64, add, mul, le}
use Rattle.numbers.specs.Choice.{larger, apart}
use Rattle.distance_theory.specs.Couplings.{Share, Metric, expected, shares_of}
use Rattle.distance_theory.specs.Rounds.{Values, backup, update, sweep, swept, sweeps}
use Rattle.distance_theory.proofs.Turns.{coupling_at, no_item, sweep_next}
use Rattle.distance_theory.proofs.Lengths.{sweeps_on, sweeps_end}
use Rattle.distance_theory.proofs.Held.{coupling, policy_in, Leads, part_is, part_leads, Holds, policy_length, policy_at}
use Rattle.distance_theory.proofs.Summing.{Adding, adding_on, adding_ends}
use Rattle.distance_theory.proofs.ValueRows.{Swept}
use Rattle.distance_words.proofs.Valuing.{priced}

-- ---- the shares of a coupling

module _ {v : List Float} {P : List ℕ} {M : List Float} {x : Float} {i : ℕ} (I : Adding v P M x (drop i P) (drop i M)) where
  pub share_on : i < length P → i < length M → Adding v P M (add binary64 x (mul binary64 (get_or M i nan) (get_or v (get_or P i 0) nan))) (drop (i + 1) P) (drop (i + 1) M)
  share_on h k = rw (add-one i) (adding_on I (drop-cons P i 0 h) (drop-cons M i nan k) refl)

  pub shares_end : length P ≤ i → x ≡ expected v (shares_of P M)
  shares_end h = adding_ends I (inl (drop_of_length-le P h))

-- ---- the pairs of a sweep

abbrev values : List Float → Float → Values
values v d = record { value = v; delta = d }

update_is : (G : Metric) (k : ℕ) (cs : List Share) (v : List Float) (d : Float)
    → update G k cs (values v d) ≡ values (set v k (backup G k (expected v cs))) (larger d (apart (backup G k (expected v cs)) (get_or v k nan)))
unfolding update
update_is G k cs v d = refl

-- the pairs still to come lead from these values to the last ones
pub record Sweeping (S L P : List ℕ) (M c : List Float) (γ : Float) (v₀ v : List Float) (d : Float) (k : ℕ) : Type 0 where
  pub ends : k ≤ length v₀
  pub size : length v ≡ length v₀
  pub same : sweep (priced γ c) k (drop k (policy_in S L P M (length v₀))) (values v d) ≡ swept (priced γ c) (policy_in S L P M (length v₀)) v₀

module _ {S L P : List ℕ} {M c : List Float} {γ : Float} {v₀ : List Float} where
  module _ {v : List Float} {d : Float} {k : ℕ} (I : Sweeping S L P M c γ v₀ v d k) where
    -- pair k is one of them, and its coupling can be read
    pub pair_in_lem : k < length v → k < length v₀
    pair_in_lem l = let s = I.size in omega arith

    pub pair_coupled : Holds S L P M (length v₀) → k < length v → (k < length S) × (k < length L) × (get_or S k 0 + get_or L k 0 ≤ length P) × (get_or S k 0 + get_or L k 0 ≤ length M)
    pair_coupled H l = let h = pair_in_lem l in let e = H.each k h in let a = H.in_starts in let b = H.in_lengths in (omega arith, omega arith, e.in_places, e.in_masses)

    -- its places are those of pairs, and there is a mass for each
    pub pair_leads : Holds S L P M (length v₀) → k < length v → {ps : List ℕ} {ms : List Float} → (let a = get_or S k 0 in let b = a + get_or L k 0 in (ps ≡ slice a b P) × (ms ≡ slice a b M)) → Leads (length v) ps × (length ps ≡ length ms)
    pair_leads H l (ep, em) =
        let e = H.each k (pair_in_lem l) in
        let a = get_or S k 0 in
        let b = a + get_or L k 0 in
        (rw I.size (subst (Leads (length v₀)) (part_is a b P (omega arith) ∙ sym ep) (part_leads e)), ap length ep ∙ length-slice a b P e.in_places ∙ sym (ap length em ∙ length-slice a b M e.in_masses))

    pub sweeping_on : k < length v → {y z e : Float} {ps : List ℕ} {ms : List Float} → (let a = get_or S k 0 in let b = a + get_or L k 0 in (ps ≡ slice a b P) × (ms ≡ slice a b M)) → y ≡ expected v (shares_of ps ms) → z ≡ apart (add binary64 (get_or c k nan) (mul binary64 γ y)) (get_or v k nan) → e ≡ larger d z
        → Sweeping S L P M c γ v₀ (set v k (add binary64 (get_or c k nan) (mul binary64 γ y))) e (k + 1)
    sweeping_on l {y} {z} {e} (ep, em) p q r =
        let h = pair_in_lem l in
        let n = policy_length S L P M (length v₀) in
        record {
          ends = omega arith;
          size = length-set v k (add binary64 (get_or c k nan) (mul binary64 γ y)) ∙ I.size;
          same = ap (λ (w : Values). sweep (priced γ c) (k + 1) (drop (k + 1) (policy_in S L P M (length v₀))) w) here
              ∙ sym (sweep_next (priced γ c) (policy_in S L P M (length v₀)) k (values v d) (omega arith)) ∙ I.same;
        }
      where
        here : values (set v k (add binary64 (get_or c k nan) (mul binary64 γ y))) e ≡ update (priced γ c) k (coupling_at (policy_in S L P M (length v₀)) k) (values v d)
        here = rw (r, q, p, ep, em, policy_at S L P M (length v₀) k (pair_in_lem l)) (sym (update_is (priced γ c) k (coupling S L P M k) v d))

    pub sweeping_ends : length v ≤ k → Swept (swept (priced γ c) (policy_in S L P M (length v₀)) v₀) v d
    unfolding sweep
    sweeping_ends l =
        let n = policy_length S L P M (length v₀) in
        let s = I.size in
        let e = sym (no_item (λ (ps : List (List Share)). sweep (priced γ c) k ps (values v d)) (policy_in S L P M (length v₀)) k (omega arith)) ∙ I.same in
        record { value_is = ap (λ (w : Values). w.value) e; delta_is = ap (λ (w : Values). w.delta) e }

-- ---- the sweeps

-- the sweeps still to come lead from these values to the last ones
pub record Repeating (limit : ℕ) (S L P : List ℕ) (M c : List Float) (γ tol : Float) (v₀ v : List Float) (k : ℕ) : Type 0 where
  pub ends : k ≤ limit
  pub size : length v ≡ length v₀
  pub same : sweeps (priced γ c) (policy_in S L P M (length v₀)) tol (limit - k) v ≡ sweeps (priced γ c) (policy_in S L P M (length v₀)) tol limit v₀

module _ {limit : ℕ} {S L P : List ℕ} {M c : List Float} {γ tol : Float} {v₀ : List Float} where
  pub repeating_starts : Repeating limit S L P M c γ tol v₀ v₀ 0
  repeating_starts = record {
    ends = omega arith;
    size = refl;
    same = let z : limit - 0 ≡ limit = omega arith in ap (λ (j : ℕ). sweeps (priced γ c) (policy_in S L P M (length v₀)) tol j v₀) z;
  }

  module _ {v : List Float} {k : ℕ} (I : Repeating limit S L P M c γ tol v₀ v k) where
    pub still_held : Holds S L P M (length v₀) → Holds S L P M (length v)
    still_held H = rw I.size H

    module _ (more : k < limit) {v' : List Float} {d : Float} (W : Swept (swept (priced γ c) (policy_in S L P M (length v)) v) v' d) where
      abbrev w : Values
      w = swept (priced γ c) (policy_in S L P M (length v₀)) v

      swept_here : Swept w v' d
      swept_here = rw I.size at W

      left : limit - k ≡ suc (limit - (k + 1))
      left = omega arith

      pub repeating_on : length v' ≡ length v → le d tol ≡ false → Repeating limit S L P M c γ tol v₀ v' (k + 1)
      repeating_on s t =
          let W' = swept_here in
          record {
            ends = omega arith;
            size = s ∙ I.size;
            same = ap (sweeps (priced γ c) (policy_in S L P M (length v₀)) tol (limit - (k + 1))) W'.value_is
                ∙ sym (sweeps_on (priced γ c) (policy_in S L P M (length v₀)) tol (limit - (k + 1)) v (ap (λ (x : Float). le x tol) (sym W'.delta_is) ∙ t))
                ∙ ap (λ (j : ℕ). sweeps (priced γ c) (policy_in S L P M (length v₀)) tol j v) (sym left) ∙ I.same;
          }

      pub repeating_settles : le d tol ≡ true → v' ≡ sweeps (priced γ c) (policy_in S L P M (length v₀)) tol limit v₀
      repeating_settles t =
          let W' = swept_here in
          W'.value_is ∙ sym (sweeps_end (priced γ c) (policy_in S L P M (length v₀)) tol (limit - (k + 1)) v (ap (λ (x : Float). le x tol) (sym W'.delta_is) ∙ t))
          ∙ ap (λ (j : ℕ). sweeps (priced γ c) (policy_in S L P M (length v₀)) tol j v) (sym left) ∙ I.same

    pub repeating_ends : limit ≤ k → v ≡ sweeps (priced γ c) (policy_in S L P M (length v₀)) tol limit v₀
    unfolding sweeps
    repeating_ends l = let z : limit - k ≡ 0 = omega arith in ap (λ (j : ℕ). sweeps (priced γ c) (policy_in S L P M (length v₀)) tol j v) (sym z) ∙ I.same
