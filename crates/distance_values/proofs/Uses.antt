-- For a caller that has the couplings of a run in the store: the check passes, and what `sweeps` and `visits` leave, with the limit of `evaluate` and `occupancy`, is what the definitions say of the run.
use mathlib.Core.Path.{◌≡◌, refl, sym, subst, ap, ◌∙◌}
use Prim.Native.Nat.{ℕ, zero, suc, ◌+◌, ◌≤◌, ◌<◌}
use mathlib.Core.Bool.{true, false}
use mathlib.Core.List.{List, [], ◌∷◌}
use native.Mathlib.Omega.{arith}
use lib.ListN.{length, get_or, take}
use lib.Seq.{slice, length-slice}
use lib.Ieee.{Float, nan, le}
use borrow.Author.Tests.{le-leb, lt-ltb}
use Rattle.numbers.specs.Lists.{over}
use Rattle.numbers.proofs.Alls.{all_of, every_of}
use Rattle.numbers.proofs.Members.{in_at}
use Rattle.distance_theory.specs.Pairs.{most}
use Rattle.distance_theory.specs.Couplings.{Share, share, Metric}
use Rattle.distance_theory.specs.Rounds.{Values, update, sweep, swept, sweeps, many, evaluate}
use Rattle.distance_theory.specs.Contributions.{occupancy}
use Rattle.distance_theory.proofs.Turns.{coupling_at}
use Rattle.distance_theory.proofs.Store.{Placed, Stored}
use Rattle.distance_theory.proofs.Held.{coupling, policy_in, policy_at, shares_length, shares_at}
use Rattle.distance_words.proofs.Readable.{below, lies, held}
use Rattle.distance_words.proofs.Valuing.{priced, Valued, valued, evaluable, evaluated, Occupied, occupied, occupiable, visited}

-- ---- `evaluate` reads only the cost of each pair and the discount

module _ (G H : Metric) (c : G.cost ≡ H.cost) (g : G.gamma ≡ H.gamma) where
  update_alike : (k : ℕ) (cs : List Share) (w : Values) → update G k cs w ≡ update H k cs w
  unfolding update
  update_alike k cs w = rw (c, g)

  sweep_alike : (k : ℕ) (policy : List (List Share)) (w : Values) → sweep G k policy w ≡ sweep H k policy w
  unfolding sweep
  sweep_alike k [] w = refl
  sweep_alike k (cs ∷ policy) w = sweep_alike (suc k) policy (update G k cs w) ∙ ap (sweep H (suc k) policy) (update_alike k cs w)

  sweeps_alike : (policy : List (List Share)) (tol : Float) (k : ℕ) (v : List Float) → sweeps G policy tol k v ≡ sweeps H policy tol k v
  unfolding sweeps
  sweeps_alike policy tol zero v = refl
  sweeps_alike policy tol (suc k) v =
      ap (λ (w : Values). elim (le w.delta tol) as (λ z. List Float) [ true ↦ w.value | false ↦ sweeps G policy tol k w.value ]) (sweep_alike 0 policy _)
      ∙ ap (λ (x : List Float). elim (le (swept H policy v).delta tol) as (λ z. List Float) [ true ↦ (swept H policy v).value | false ↦ x ]) (sweeps_alike policy tol k (swept H policy v).value)

  pub evaluate_alike : (policy : List (List Share)) (tol : Float) (v : List Float) → evaluate G policy tol v ≡ evaluate H policy tol v
  unfolding evaluate
  evaluate_alike policy tol v = sweeps_alike policy tol many v

-- ---- the check

module _ (S L P : List ℕ) (M : List Float) (n : ℕ) where
  module _ (k : ℕ) where
    abbrev a : ℕ
    a = get_or S k 0

    abbrev b : ℕ
    b = get_or S k 0 + get_or L k 0

    module _ (p : b ≤ length P) (m : b ≤ length M) (h : Placed n (coupling S L P M k)) where
      alike : length (slice a b P) ≡ length (slice a b M)
      alike = length-slice a b P p ∙ sym (length-slice a b M m)

      leads : (j : ℕ) → j < length (slice a b P) → get_or (slice a b P) j 0 < n
      leads j l =
          let s = shares_length (slice a b P) (slice a b M) alike in
          let e = alike in
          subst (λ (c : Share). c.at < n) (shares_at (slice a b P) (slice a b M) j l (omega arith))
          (h (get_or (coupling S L P M k) j (share 0 nan)) (in_at (coupling S L P M k) j (share 0 nan) (omega arith)))

      -- a coupling in the store that leads to some of n pairs
      lies_of : lies S L P M n k ≡ true
      lies_of = rw (le-leb b (length P) p, le-leb b (length M) m) (all_of (below n) (slice a b P) 0 (λ j l. lt-ltb (get_or (slice a b P) j 0) n (leads j l)))

-- the couplings of a run of n pairs are in the store
pub record InStore (G : Metric) (policy : List (List Share)) (S L P : List ℕ) (M : List Float) (n : ℕ) : Type 0 where
  pub pairs : length G.found ≡ n
  pub stored : Stored G policy
  pub same : policy_in S L P M n ≡ policy
  pub in_starts : n ≤ length S
  pub in_lengths : n ≤ length L
  pub room : (k : ℕ) → k < n → (get_or S k 0 + get_or L k 0 ≤ length P) × (get_or S k 0 + get_or L k 0 ≤ length M)

module _ {G : Metric} {policy : List (List Share)} {S L P : List ℕ} {M : List Float} {n : ℕ} (I : InStore G policy S L P M n) where
  placed : (k : ℕ) → k < n → Placed n (coupling S L P M k)
  placed k h =
      let z = I.pairs in
      subst (Placed n) (ap (λ (ps : List (List Share)). coupling_at ps k) (sym I.same) ∙ policy_at S L P M n k h)
      (subst (λ (m : ℕ). Placed m (coupling_at policy k)) z (I.stored.placed k (omega arith)))

  pub stored_held : held S L P M n ≡ true
  stored_held = rw (le-leb n (length S) I.in_starts, le-leb n (length L) I.in_lengths) (every_of (lies S L P M n) n (λ k h. lies_of S L P M n k (I.room k h).0 (I.room k h).1 (placed k h)))

  -- ---- what is left behind

  pub evaluated_is : (c v : List Float) (γ tol : Float) → n ≤ length c → n ≤ length v → take n c ≡ G.cost → γ ≡ G.gamma → {r : ℕ} {u : List Float} → valued r u ≡ evaluated many S L P M c γ tol v n
      → (r ≡ 0) × (u ≡ over (evaluate G policy tol (take n v)) v)
  unfolding evaluate
  evaluated_is c v γ tol p q k g {r} {u} e =
      let o : evaluable S L P M c v n ≡ true = rw (le-leb n (length c) p, le-leb n (length v) q) stored_held in
      let f : valued r u ≡ valued 0 (over (evaluate (priced γ (take n c)) (policy_in S L P M n) tol (take n v)) v) = e ∙ rw o in
      let a : evaluate (priced γ (take n c)) (policy_in S L P M n) tol (take n v) ≡ evaluate G policy tol (take n v)
      = evaluate_alike (priced γ (take n c)) G k g (policy_in S L P M n) tol (take n v) ∙ ap (λ (ps : List (List Share)). evaluate G ps tol (take n v)) I.same in
      (ap (λ (x : Valued). x.refusal) f, ap (λ (x : Valued). x.value) f ∙ ap (λ (x : List Float). over x v) a)

  pub visited_is : (l : List Float) (γ : Float) → n ≤ most → n ≤ length l → {r : ℕ} {m : Float} {u : List Float} → occupied r m u ≡ visited many S L P M γ l n
      → (r ≡ 0) × (m ≡ (occupancy γ n policy).mass) × (u ≡ over (occupancy γ n policy).spent l)
  unfolding occupancy
  visited_is l γ p q {r} {m} {u} e =
      let o : occupiable S L P M l n ≡ true = rw (le-leb n most p, le-leb n (length l) q) stored_held in
      let w = occupancy γ n (policy_in S L P M n) in
      let f : occupied r m u ≡ occupied 0 w.mass (over w.spent l) = e ∙ rw o in (
        ap (λ (x : Occupied). x.refusal) f,
        ap (λ (x : Occupied). x.mass) f ∙ ap (λ (ps : List (List Share)). (occupancy γ n ps).mass) I.same,
        ap (λ (x : Occupied). x.spent) f ∙ ap (λ (ps : List (List Share)). over (occupancy γ n ps).spent l) I.same,
      )
