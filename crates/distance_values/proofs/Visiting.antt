-- The loops of `visits` over rows: one share is one step of `pour`, one pair one `stay` of the definition, one round one `onward`.
use mathlib.Core.Path.{◌≡◌, refl, sym, subst, ap, ap₂, ◌∙◌}
use Prim.Native.Nat.{ℕ, zero, suc, ◌+◌, ◌-◌, ◌≤◌, ◌<◌}
use mathlib.Core.Bool.{Bool, true, false, not}
use mathlib.Core.List.{List, [], ◌∷◌, ◌++◌, append-nil}
use mathlib.Core.Logic.{◌⊎◌}
use native.Mathlib.Omega.{arith}
use lib.ListN.{length, get_or, set, take, drop, replicate, length-set, length-replicate, get_or-replicate}
use lib.Seq.{slice, length-take-le, get_or-append-add, get_or-drop, drop-length, take-set-lt}
use lib.Ieee.{Float, nan, binary64, add, sub, mul, lt, eq, ne}
use Rattle.numbers.specs.Real.{nought, one, eps, is_zero, sum_from, sum}
use Rattle.numbers.proofs.Over.{over, over_length, over_next, over_done}
use Rattle.numbers.proofs.Parts.{take_replicate}
use Rattle.numbers.proofs.Sums.{sum_next, sum_end}
use Rattle.distance_theory.specs.Pairs.{most}
use Rattle.distance_theory.specs.Couplings.{Share, shares_of}
use Rattle.distance_theory.specs.Contributions.{Visits, pour, Stay, stay, stay_all, onward, visits, depart}
use Rattle.distance_theory.proofs.Turns.{coupling_at, no_item, stay_next}
use Rattle.distance_theory.proofs.Lengths.{visits_on, visits_end}
use Rattle.distance_theory.proofs.Held.{no_shares, coupling, policy_in, Leads, leads_past, part_is, part_leads, Holds, policy_length, policy_at}
use Rattle.distance_theory.proofs.ValueRows.{staying, Stayed, Advanced, visiting, Rested}

-- ---- the shares of a coupling

-- the shares still to come, places ps and masses ms, lead from these masses to the last ones
pub record Pouring (P : List ℕ) (M : List Float) (x : Float) (l₀ l : List Float) (ps : List ℕ) (ms : List Float) : Type 0 where
  pub leads : Leads (length l) ps
  pub same : pour x (shares_of ps ms) l ≡ pour x (shares_of P M) l₀

module _ {P : List ℕ} {M : List Float} {x : Float} {l₀ : List Float} where
  module _ {l : List Float} {ps : List ℕ} {ms : List Float} (I : Pouring P M x l₀ l ps ms) where
    pub pouring_on : {p : ℕ} {m : Float} {ps' : List ℕ} {ms' : List Float} → ps ≡ p ∷ ps' → ms ≡ m ∷ ms' → Pouring P M x l₀ (set l p (add binary64 (get_or l p nan) (mul binary64 x m))) ps' ms'
    unfolding shares_of pour
    pouring_on {p} {m} e f =
        let J = rw (e, f) at I in
        record { leads = rw (length-set l p (add binary64 (get_or l p nan) (mul binary64 x m))) (leads_past J.leads); same = J.same }

    pub pouring_ends : (ps ≡ []) ⊎ (ms ≡ []) → l ≡ pour x (shares_of P M) l₀
    unfolding pour
    pouring_ends h = ap (λ (cs : List Share). pour x cs l) (sym (no_shares ps ms h)) ∙ I.same

-- ---- the pairs of a round

zero_unless : (x : Float) {b : Bool} → ne x nought ≡ b → is_zero x ≡ not b
unfolding ne
zero_unless x e = twice (eq x nought) ∙ ap not e
  where
    twice : (b : Bool) → b ≡ not (not b)
    twice true = refl
    twice false = refl

-- the pairs still to come lead from this to the last
pub record Stays (S L P : List ℕ) (M : List Float) (γ : Float) (c x₀ s₀ x s : List Float) (k : ℕ) : Type 0 where
  pub ends : k ≤ length c
  pub next_size : length x ≡ length c
  pub spent_size : length s ≡ length c
  pub same : stay_all γ c k (drop k (policy_in S L P M (length c))) (staying s x) ≡ stay_all γ c 0 (policy_in S L P M (length c)) (staying s₀ x₀)

module _ {S L P : List ℕ} {M : List Float} {γ : Float} {c x₀ s₀ : List Float} where
  pub stays_start : length x₀ ≡ length c → length s₀ ≡ length c → Stays S L P M γ c x₀ s₀ x₀ s₀ 0
  stays_start n m = record { ends = omega arith; next_size = n; spent_size = m; same = refl }

  module _ {x s : List Float} {k : ℕ} (I : Stays S L P M γ c x₀ s₀ x s k) where
    module _ (more : k < length c) where
      pub pair_coupled : Holds S L P M (length c) → (k < length S) × (k < length L) × (get_or S k 0 + get_or L k 0 ≤ length P) × (get_or S k 0 + get_or L k 0 ≤ length M)
      pair_coupled H = let e = H.each k more in let a = H.in_starts in let b = H.in_lengths in (omega arith, omega arith, e.in_places, e.in_masses)

      pub pair_leads : Holds S L P M (length c) → {ps : List ℕ} {ms : List Float} → (let a = get_or S k 0 in let b = a + get_or L k 0 in (ps ≡ slice a b P) × (ms ≡ slice a b M)) → Leads (length x) ps
      pair_leads H (ep, em) = rw I.next_size (subst (Leads (length c)) (part_is (get_or S k 0) (get_or S k 0 + get_or L k 0) P (omega arith) ∙ sym ep) (part_leads (H.each k more)))

      turned : (b : Bool) → is_zero (get_or c k nan) ≡ b → (x' s' : List Float) → length x' ≡ length c → length s' ≡ length c
          → staying s' x' ≡ stay b γ (get_or c k nan) k (coupling S L P M k) (staying s x) → Stays S L P M γ c x₀ s₀ x' s' (k + 1)
      turned b z x' s' n m q =
          let w = policy_length S L P M (length c) in
          record {
            ends = omega arith;
            next_size = n;
            spent_size = m;
            same = ap (stay_all γ c (k + 1) (drop (k + 1) (policy_in S L P M (length c)))) (q ∙ here)
                ∙ sym (stay_next γ c (policy_in S L P M (length c)) k (staying s x) (omega arith)) ∙ I.same;
          }
        where
          here : stay b γ (get_or c k nan) k (coupling S L P M k) (staying s x) ≡ stay (is_zero (get_or c k nan)) γ (get_or c k nan) k (coupling_at (policy_in S L P M (length c)) k) (staying s x)
          here = rw (z, policy_at S L P M (length c) k more)

      -- nothing is there
      pub stays_over : ne (get_or c k nan) nought ≡ false → (x' s' : List Float) → x' ≡ x → s' ≡ s → Stays S L P M γ c x₀ s₀ x' s' (k + 1)
      unfolding stay
      stays_over z x' s' e f = turned true (zero_unless (get_or c k nan) z) x' s' (ap length e ∙ I.next_size) (ap length f ∙ I.spent_size) (rw (e, f))

      pub stays_through : ne (get_or c k nan) nought ≡ true → {y : List Float} → length y ≡ length x → {ps : List ℕ} {ms : List Float} → (let a = get_or S k 0 in let b = a + get_or L k 0 in (ps ≡ slice a b P) × (ms ≡ slice a b M)) → y ≡ pour (mul binary64 γ (get_or c k nan)) (shares_of ps ms) x
          → (x' s' : List Float) → x' ≡ y → s' ≡ set s k (add binary64 (get_or s k nan) (get_or c k nan)) → Stays S L P M γ c x₀ s₀ x' s' (k + 1)
      unfolding stay
      stays_through z n (ep, em) p x' s' e f = turned false (zero_unless (get_or c k nan) z) x' s' (ap length e ∙ n ∙ I.next_size) (ap length f ∙ length-set s k (add binary64 (get_or s k nan) (get_or c k nan)) ∙ I.spent_size) (rw (e, f, p, ep, em))

    pub stays_end : length c ≤ k → Stayed (stay_all γ c 0 (policy_in S L P M (length c)) (staying s₀ x₀)) s x
    unfolding stay_all
    stays_end h =
        let n = policy_length S L P M (length c) in
        let e = sym (no_item (λ (ps : List (List Share)). stay_all γ c k ps (staying s x)) (policy_in S L P M (length c)) k (omega arith)) ∙ I.same in
        record { spent_is = ap (λ (w : Stay). w.spent) e; next_is = ap (λ (w : Stay). w.next) e }

-- ---- the next masses become the present ones

-- what stands past the entries that are written
over_at : (l d : List Float) (i : ℕ) → i ≤ length l → get_or (over l i d) i nan ≡ get_or d i nan
over_at l d i h =
    let n = length-take-le i l h in
    let z : i ≡ length (take i l) + 0 = omega arith in
    let o : i + 0 ≡ i = omega arith in
    ap (λ (j : ℕ). get_or (over l i d) j nan) z ∙ get_or-append-add (take i l) (drop i d) 0 nan ∙ get_or-drop i d 0 nan ∙ ap (λ (j : ℕ). get_or d j nan) o

-- a list over all of another
over_whole : (l d out : List Float) (i : ℕ) → out ≡ over l i d → i ≡ length l → length l ≡ length d → out ≡ l
over_whole l d out i e n m = over_done l d out i e n ∙ ap (λ (r : List Float). l ++ r) (ap (λ (j : ℕ). drop j d) m ∙ drop-length d) ∙ append-nil l

-- the first k entries are 0
module _ (l : List Float) (k : ℕ) {x : List Float} (e : x ≡ over (replicate (length l) nought) k l) where
  pub blank_size : k ≤ length l → length x ≡ length l
  blank_size h = let n = length-replicate (length l) nought in ap length e ∙ over_length (replicate (length l) nought) l k (omega arith) h

  pub blank_on : k < length l → set x k nought ≡ over (replicate (length l) nought) (k + 1) l
  blank_on h =
      let n = length-replicate (length l) nought in
      over_next (replicate (length l) nought) l x k nan nought e (sym (get_or-replicate (length l) k nought nan h)) (omega arith) h

  pub blank_ends : k ≡ length l → x ≡ replicate (length l) nought
  blank_ends h = let n = length-replicate (length l) nought in over_whole (replicate (length l) nought) l x k e (omega arith) n

-- the first k entries are moved, and added up
pub record Moving (c₀ x₀ c x : List Float) (t : Float) (k : ℕ) : Type 0 where
  pub ends : k ≤ length c₀
  pub current_is : c ≡ over x₀ k c₀
  pub next_is : x ≡ over (replicate (length x₀) nought) k x₀
  pub total_is : sum_from t (drop k x₀) ≡ sum x₀

module _ {c₀ x₀ : List Float} (size : length x₀ ≡ length c₀) where
  pub moving_starts : Moving c₀ x₀ c₀ x₀ nought 0
  unfolding sum
  moving_starts = record { ends = omega arith; current_is = refl; next_is = refl; total_is = refl }

  module _ {c x : List Float} {t : Float} {k : ℕ} (I : Moving c₀ x₀ c x t k) where
    pub current_size : length c ≡ length c₀
    current_size = let e = I.ends in ap length I.current_is ∙ over_length x₀ c₀ k (omega arith) e

    pub next_size : length x ≡ length x₀
    next_size = let e = I.ends in blank_size x₀ k I.next_is (omega arith)

    pub moving_on : k < length c₀ → Moving c₀ x₀ (set c k (get_or x k nan)) (set x k nought) (add binary64 t (get_or x k nan)) (k + 1)
    moving_on more =
        let n = length-replicate (length x₀) nought in
        let y : get_or x k nan ≡ get_or x₀ k nan = ap (λ (l : List Float). get_or l k nan) I.next_is ∙ over_at (replicate (length x₀) nought) x₀ k (omega arith) in
        record {
          ends = omega arith;
          current_is = over_next x₀ c₀ c k nan (get_or x k nan) I.current_is y (omega arith) more;
          next_is = blank_on x₀ k I.next_is (omega arith);
          total_is = ap (λ (z : Float). sum_from (add binary64 t z) (drop (k + 1) x₀)) y ∙ sum_next t x₀ k (omega arith) ∙ I.total_is;
        }

    pub moving_ends : length c₀ ≤ k → Advanced x₀ t c x
    moving_ends done =
        let e = I.ends in
        record {
          mass_is = sum_end t x₀ k (omega arith) ∙ I.total_is;
          current_is = over_whole x₀ c₀ c k I.current_is (omega arith) size;
          next_is = blank_ends x₀ k I.next_is (omega arith);
        }

-- ---- the rounds

-- the rounds still to come lead from this to the last; nothing has come for the next one yet
pub record Going (limit : ℕ) (S L P : List ℕ) (M : List Float) (γ m₀ : Float) (c₀ s₀ : List Float) (m : Float) (c x s : List Float) (k : ℕ) : Type 0 where
  pub ends : k ≤ limit
  pub current_size : length c ≡ length c₀
  pub next_is : x ≡ replicate (length c₀) nought
  pub spent_size : length s ≡ length c₀
  pub same : visits γ (policy_in S L P M (length c₀)) (limit - k) (visiting s c m) ≡ visits γ (policy_in S L P M (length c₀)) limit (visiting s₀ c₀ m₀)

onward_is : (γ : Float) (policy : List (List Share)) (s c : List Float) (m : Float) (r : Stay) → r ≡ stay_all γ c 0 policy (staying s (replicate (length c) nought))
    → onward γ policy (visiting s c m) ≡ visiting r.spent r.next (sum r.next)
unfolding onward
onward_is γ policy s c m r e = ap (λ (w : Stay). visiting w.spent w.next (sum w.next)) (sym e)

module _ {limit : ℕ} {S L P : List ℕ} {M : List Float} {γ m₀ : Float} {c₀ s₀ : List Float} where
  module _ {m : Float} {c x s : List Float} {k : ℕ} (I : Going limit S L P M γ m₀ c₀ s₀ m c x s k) where
    pub next_long : length x ≡ length c
    next_long = ap length I.next_is ∙ length-replicate (length c₀) nought ∙ sym I.current_size

    -- a round can be made
    pub round_ready : Holds S L P M (length c₀) → Holds S L P M (length c) × ((length x ≡ length c) × (length s ≡ length c))
    round_ready H = (rw I.current_size H, (next_long, I.spent_size ∙ sym I.current_size))

    pub going_on : k < limit → lt eps m ≡ true → {x' s' : List Float} → length s' ≡ length s → length x' ≡ length x → Stayed (stay_all γ c 0 (policy_in S L P M (length c)) (staying s x)) s' x'
        → {m' : Float} {c' y : List Float} → Advanced x' m' c' y → Going limit S L P M γ m₀ c₀ s₀ m' c' y s' (k + 1)
    going_on more big {x'} {s'} ns nx T {m'} {c'} {y} A =
        let z : limit - k ≡ suc (limit - (k + 1)) = omega arith in
        record {
          ends = omega arith;
          current_size = ap length A.current_is ∙ nx ∙ next_long ∙ I.current_size;
          next_is = A.next_is ∙ ap (λ (n : ℕ). replicate n nought) (nx ∙ next_long ∙ I.current_size);
          spent_size = ns ∙ I.spent_size;
          same = ap (visits γ (policy_in S L P M (length c₀)) (limit - (k + 1))) here
              ∙ sym (visits_on γ (policy_in S L P M (length c₀)) (limit - (k + 1)) (visiting s c m) big)
              ∙ ap (λ (j : ℕ). visits γ (policy_in S L P M (length c₀)) j (visiting s c m)) (sym z) ∙ I.same;
        }
      where
        here : visiting s' c' m' ≡ onward γ (policy_in S L P M (length c₀)) (visiting s c m)
        here = rw (A.mass_is, A.current_is, T.spent_is, T.next_is)
            (sym (onward_is γ (policy_in S L P M (length c₀)) s c m (stay_all γ c 0 (policy_in S L P M (length c)) (staying s x)) (rw (I.next_is, I.current_size))))

    pub going_settles : lt eps m ≡ false → Rested (visits γ (policy_in S L P M (length c₀)) limit (visiting s₀ c₀ m₀)) m s
    going_settles small =
        let e = sym (visits_end γ (policy_in S L P M (length c₀)) (limit - k) (visiting s c m) small) ∙ I.same in
        record { mass_is = ap (λ (w : Visits). w.mass) e; spent_is = ap (λ (w : Visits). w.spent) e }

    pub going_ends : limit ≤ k → Rested (visits γ (policy_in S L P M (length c₀)) limit (visiting s₀ c₀ m₀)) m s
    unfolding visits
    going_ends h =
        let z : limit - k ≡ 0 = omega arith in
        let e = ap (λ (j : ℕ). visits γ (policy_in S L P M (length c₀)) j (visiting s c m)) (sym z) ∙ I.same in
        record { mass_is = ap (λ (w : Visits). w.mass) e; spent_is = ap (λ (w : Visits). w.spent) e }

-- ---- from the first pair on

-- the front of a longer list
first_mass : (n m : ℕ) (p : Float) → n ≤ m → take n (set (replicate m nought) 0 p) ≡ set (replicate n nought) 0 p
first_mass zero m p h = refl
first_mass (suc n) m p h = take-set-lt (suc n) (replicate m nought) 0 p (omega arith) ∙ ap (λ (l : List Float). set l 0 p) (take_replicate (suc n) m nought h)

module _ (limit : ℕ) (S L P : List ℕ) (M : List Float) (γ : Float) (l : List Float) (few : length l ≤ most) where
  -- the masses at the start, in work space for the most pairs
  abbrev first : List Float
  first = take (length l) (set (replicate most nought) 0 (sub binary64 one γ))

  pub first_size : length first ≡ length l
  first_size = ap length (first_mass (length l) most (sub binary64 one γ) few) ∙ length-set (replicate (length l) nought) 0 (sub binary64 one γ) ∙ length-replicate (length l) nought

  module _ {s : List Float} (e : s ≡ replicate (length l) nought) where
    pub departing : Holds S L P M (length l) → Holds S L P M (length first) × ((take (length l) (replicate most nought) ≡ replicate (length first) nought) × (length s ≡ length first))
    departing H = (
      rw first_size H,
      (take_replicate (length l) most nought few ∙ ap (λ (n : ℕ). replicate n nought) (sym first_size), ap length e ∙ length-replicate (length l) nought ∙ sym first_size),
    )

    pub occupies : {m : Float} {s' : List Float} → Rested (visits γ (policy_in S L P M (length first)) limit (visiting s first (sub binary64 one γ))) m s' → Rested (visits γ (policy_in S L P M (length l)) limit (depart γ (length l))) m s'
    occupies {m} {s'} R = subst (λ (w : Visits). Rested w m s') run R
      where
        run : visits γ (policy_in S L P M (length first)) limit (visiting s first (sub binary64 one γ)) ≡ visits γ (policy_in S L P M (length l)) limit (depart γ (length l))
        run = ap (λ (n : ℕ). visits γ (policy_in S L P M n) limit (visiting s first (sub binary64 one γ))) first_size
            ∙ ap₂ (λ (x y : List Float). visits γ (policy_in S L P M (length l)) limit (visiting x y (sub binary64 one γ))) e (first_mass (length l) most (sub binary64 one γ) few)
