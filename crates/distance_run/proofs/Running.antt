-- Chains that can be run: what their columns give, and what is told of them.
use mathlib.Core.Path.{◌≡◌, sym, ap, ap₂, ◌∙◌}
use Prim.Native.Nat.{ℕ, ◌+◌, ◌-◌, ◌≤◌, ◌<◌, min}
use mathlib.Core.Bool.{Bool, true, false, not, ◌&&◌}
use mathlib.Core.List.{List}
use native.Mathlib.Omega.{arith}
use lib.Dec.{leb}
use lib.ListN.{length, take, replicate, length-take, length-map}
use lib.Seq.{slice, length-slice, length-take-le}
use lib.Ieee.{Float}
use borrow.Author.Tests.{leb-true, le-leb, not-true}
use Rattle.numbers.specs.Real.{nought}
use Rattle.numbers.proofs.Bools.{and_t}
use Rattle.numbers.proofs.Alls.{every_at, every_of}
use Rattle.epsdelta_theory.proofs.RowReads.{jumps_length, starts_up}
use Rattle.chain_theory.specs.Columns.{ChainColumns, begins, chain_of}
use Rattle.chain_theory.specs.Check.{misshapen}
use Rattle.chain_theory.specs.declared.ChainShape.{ChainShape}
use Rattle.chain_theory.proofs.Shaped.{Shaped, shaped}
use Rattle.distance_theory.specs.Pairs.{Pair, most, row_of, pairs}
use Rattle.distance_theory.specs.Outcome.{run}
use Rattle.distance_theory.specs.declared.MetricOptions.{MetricOptions}
use Rattle.distance_theory.proofs.Discovery.{listed, listed_if, discover, lefts, rights, Found, found, found_in}
use Rattle.distance_theory.proofs.Index.{index, index_length}
use Rattle.parts.proofs.Laid.{over_size}
use Rattle.distance_theory.proofs.Inside.{row_at}
use Rattle.std.specs.Prelude.{Result, Ok, Err}
use Rattle.std.specs.Result.{IsErrAnd}
use Rattle.numbers.specs.Refuse.{number, numbered}
use Rattle.numbers.specs.declared.refusal.Refusal.{Refusal}
use Rattle.distance_words.specs.Told.{Told, told_of, ran_as}
use Rattle.distance_words.specs.declared.told.Answer.{Answer}
use Rattle.distance_words.proofs.Found.{found_of}
use Rattle.distance_words.proofs.Run.{slim, fits, roomy, ran_if}
use Rattle.chain_theory.specs.Lent.{of_chain}
use Rattle.distance_theory.specs.declared.lent.PairsMut.{PairsMut}
use Rattle.distance_theory.specs.declared.lent.Scratch.{Scratch}
use Rattle.distance_run.specs.Asked.{ran_on, runnable_in}
use Rattle.distance_run.specs.declared.question.Question.{Question}
use Rattle.distance_run.proofs.Chains.{cut}
use Rattle.distance_run.proofs.Explored.{explored_refused, explored_told, some, left_long, right_long}

-- ---- one chain

-- what `fits` says
pub record Fit (H : ChainShape) (C : ChainColumns) : Type 0 where
  pub few : H.states ≤ 2000
  pub whole : misshapen H C ≡ false
  pub shape : Shaped H C
  pub rows : (x : ℕ) → x < H.states → length (row_of (chain_of H C) x) ≤ 32
  pub seen : H.states ≤ length C.observations

module _ (H : ChainShape) (C : ChainColumns) where
  row_length : Shaped H C → (x : ℕ) → x < H.states → length (row_of (chain_of H C) x) ≡ begins C (x + 1) - begins C x
  row_length S x h =
      let u = starts_up C.offsets H.states S.rows.rise (x + 1) H.states (omega arith) (omega arith) in
      let t = S.rows.targets_long in let p = S.rows.probabilities_long in
      let e : length (slice (begins C x) (begins C (x + 1)) C.targets) ≡ begins C (x + 1) - begins C x = length-slice (begins C x) (begins C (x + 1)) C.targets (omega arith) in
      ap length (row_at H C x h) ∙ jumps_length (slice (begins C x) (begins C (x + 1)) C.targets) (slice (begins C x) (begins C (x + 1)) C.probabilities)
      (e ∙ sym (length-slice (begins C x) (begins C (x + 1)) C.probabilities (omega arith))) ∙ e

  pub fit : fits H C ≡ true → Fit H C
  fit e =
      let (a, f) = and_t (leb H.states 2000) _ e in
      let (b, g) = and_t (not (misshapen H C)) _ f in
      let (c, d) = and_t (slim H C) _ g in
      let w = not-true (misshapen H C) b in
      let S = shaped H C w in
      record {
        few = leb-true H.states 2000 a;
        whole = w;
        shape = S;
        rows = λ x h. let z = row_length S x h in let k : begins C (x + 1) ≤ begins C x + 32 = leb-true _ _ (every_at _ H.states c x h) in omega arith;
        seen = leb-true H.states (length C.observations) d;
      }

  -- and what it takes
  pub fits_of : H.states ≤ 2000 → misshapen H C ≡ false → ((x : ℕ) → x < H.states → length (row_of (chain_of H C) x) ≤ 32) → H.states ≤ length C.observations → fits H C ≡ true
  fits_of few w rows seen = rw (le-leb H.states 2000 few, w, slim_rows, le-leb H.states (length C.observations) seen)
    where
      slim_rows : slim H C ≡ true
      slim_rows = every_of _ H.states (λ x h. let z = row_length (shaped H C w) x h in let r = rows x h in le-leb (begins C (x + 1)) (begins C x + 32) (omega arith))

-- ---- both

-- what is told of two chains, with so much room in the coupling store
abbrev answer_in : Question → ℕ → Told
answer_in Q store = told_of (run (chain_of Q.left.shape (of_chain Q.left)) (chain_of Q.right.shape (of_chain Q.right)) Q.goal.gamma Q.goal.options store)

module _ (Q : Question) (P : PairsMut) (p : List ℕ) (m : List Float) where
  abbrev HL : ChainShape
  HL = Q.left.shape

  abbrev CL : ChainColumns
  CL = of_chain Q.left

  abbrev HR : ChainShape
  HR = Q.right.shape

  abbrev CR : ChainColumns
  CR = of_chain Q.right

  abbrev γ : Float
  γ = Q.goal.gamma

  abbrev o : MetricOptions
  o = Q.goal.options

  abbrev l₀ : List ℕ
  l₀ = P.lefts.now

  abbrev r₀ : List ℕ
  r₀ = P.rights.now

  abbrev c₀ : List ℕ
  c₀ = P.codes.now

  abbrev able : Bool
  able = runnable_in Q (length l₀) (length r₀) (length c₀)

  abbrev answer : Told
  answer = answer_in Q (min (length p) (length m))

  module _ (e : able ≡ true) where
    fit_l : Fit HL CL
    fit_l = fit HL CL (and_t (fits HL CL) _ e).0

    fit_r : Fit HR CR
    fit_r = fit HR CR (and_t (fits HR CR) _ (and_t (fits HL CL) _ e).1).0

    asked : o.top ≤ 64
    asked = leb-true o.top 64 (and_t (leb o.top 64) _ (and_t (fits HR CR) _ (and_t (fits HL CL) _ e).1).1).0

    long : roomy (length l₀) (length r₀) (length c₀) ≡ true
    long = (and_t (leb o.top 64) _ (and_t (fits HR CR) _ (and_t (fits HL CL) _ e).1).1).1

    left_seen : HL.states ≤ length CL.observations
    left_seen = fit_l.seen

    right_seen : HR.states ≤ length CR.observations
    right_seen = fit_r.seen

    pub both_seen : (HL.states ≤ length CL.observations) × (HR.states ≤ length CR.observations)
    both_seen = (left_seen, right_seen)

    -- discovery lists all pairs
    pub discovers : discover HL CL HR CR l₀ r₀ c₀ ≡ listed (pairs (chain_of HL CL) (chain_of HR CR)) l₀ r₀ c₀
    discovers = ap (λ (b : Bool). listed_if b (pairs (chain_of HL CL) (chain_of HR CR)) l₀ r₀ c₀) readable_both
      where
        readable_both : (roomy (length l₀) (length r₀) (length c₀) && ((leb HL.states 2000 && not (misshapen HL CL)) && (leb HR.states 2000 && not (misshapen HR CR)))) ≡ true
        readable_both = rw (long, fit_l.whole, fit_r.whole, le-leb HL.states 2000 fit_l.few, le-leb HR.states 2000 fit_r.few)

    abbrev first_pairs : List Pair
    first_pairs = take most (pairs (chain_of HL CL) (chain_of HR CR))

    -- each list is as long as it was
    pub lengths_kept : (x : Result ℕ ℕ) (l r c : List ℕ) → found x l r c ≡ found_in (discover HL CL HR CR l₀ r₀ c₀) → (length l ≡ length l₀) × (length r ≡ length r₀) × (length c ≡ length c₀)
    lengths_kept x l r c d =
        let f : found x l r c ≡ found_in (listed (pairs (chain_of HL CL) (chain_of HR CR)) l₀ r₀ c₀) = d ∙ ap found_in discovers in
        let (kl, k) = and_t (leb most (length l₀)) _ long in
        let (kr, kc) = and_t (leb most (length r₀)) _ k in
        let al = leb-true most (length l₀) kl in
        let ar = leb-true most (length r₀) kr in
        let ac = leb-true most (length c₀) kc in
        let n = length-take most (pairs (chain_of HL CL) (chain_of HR CR)) in
        let nl = length-map first_pairs (λ (q : Pair). q.left) in
        let nr = length-map first_pairs (λ (q : Pair). q.right) in
        let nc = index_length first_pairs in (
          ap (λ (z : Found). length z.lefts) f ∙ over_size (lefts first_pairs) l₀ (omega arith),
          ap (λ (z : Found). length z.rights) f ∙ over_size (rights first_pairs) r₀ (omega arith),
          ap (λ (z : Found). length z.codes) f ∙ over_size (index first_pairs) c₀ (omega arith),
        )

    module _ {l r c : List ℕ} where
      pub pairs_refused : (x : Refusal) → found (Err (number x)) l r c ≡ found_in (discover HL CL HR CR l₀ r₀ c₀) → (t : Result Answer Refusal) → IsErrAnd t (λ y. y ≡ x) → numbered t ≡ answer
      pairs_refused x d = explored_refused HL CL HR CR γ o fit_l.shape fit_r.shape fit_r.few fit_l.rows fit_r.rows left_seen right_seen asked l r c l₀ r₀ c₀ p m x (d ∙ ap found_in discovers)

      module _ (n : ℕ) (d : found (Ok n) l r c ≡ found_in (discover HL CL HR CR l₀ r₀ c₀)) where
        pairs_few : n ≤ most
        pairs_few = (some HL CL HR CR γ o fit_l.shape fit_r.shape fit_r.few fit_l.rows fit_r.rows left_seen right_seen asked l r c l₀ r₀ c₀ p m n (d ∙ ap found_in discovers)).1

        in_lefts : n ≤ length l
        in_lefts = left_long HL CL HR CR γ o fit_l.shape fit_r.shape fit_r.few fit_l.rows fit_r.rows left_seen right_seen asked l r c l₀ r₀ c₀ p m n (d ∙ ap found_in discovers)

        in_rights : n ≤ length r
        in_rights = right_long HL CL HR CR γ o fit_l.shape fit_r.shape fit_r.few fit_l.rows fit_r.rows left_seen right_seen asked l r c l₀ r₀ c₀ p m n (d ∙ ap found_in discovers)

        -- the pairs that are noted: so many are run
        module _ {j : ℕ} (w : j ≡ n) {x y z : List ℕ} (N : (x ≡ take j l) × (y ≡ take j r) × (z ≡ take j c)) where
          pub run_few : (length x ≤ 4096) × (length x ≤ length y)
          run_few =
              let few = pairs_few in
              let a = in_lefts in
              let b = in_rights in
              let i = ap length N.0 ∙ length-take-le j l (omega arith) in
              let k = ap length N.1 ∙ length-take-le j r (omega arith) in
              (omega arith, omega arith)

          pub pairs_told : {C D : ChainColumns} → C ≡ cut HL CL → D ≡ cut HR CR → {t : Told} → t ≡ found_of (length x) x y z C D C.observations D.observations γ o p m → t ≡ answer
          pairs_told {C} {D} f g k =
              let e₁ = N.0 ∙ ap (λ (i : ℕ). take i l) w in
              let e₂ = N.1 ∙ ap (λ (i : ℕ). take i r) w in
              let e₃ = N.2 ∙ ap (λ (i : ℕ). take i c) w in
              explored_told HL CL HR CR γ o fit_l.shape fit_r.shape fit_r.few fit_l.rows fit_r.rows left_seen right_seen asked l r c l₀ r₀ c₀ p m n (d ∙ ap found_in discovers) f g
              (k ∙ ap₂ (λ (i j : List ℕ). found_of (length i) i j z C D C.observations D.observations γ o p m) e₁ e₂ ∙ ap (λ (j : List ℕ). found_of (length (take n l)) (take n l) (take n r) j C D C.observations D.observations γ o p m) e₃)

-- ---- the ways that `run` ends

module _ (Q : Question) (S : Scratch) where
  abbrev told : Told
  told = answer_in Q (min (length S.places.now) (length S.masses.now))

  pub run_clears : runnable_in Q (length S.lefts.now) (length S.rights.now) (length S.codes.now) ≡ true → {t : Told} → t ≡ told → {l r c q : List ℕ} {w : List Float} {x y z u v : ℕ}
      → (l ≡ replicate x 0) × (r ≡ replicate y 0) × (c ≡ replicate z 0) × (q ≡ replicate u 0) × (w ≡ replicate v nought)
      → x ≡ length S.lefts.now → y ≡ length S.rights.now → z ≡ length S.codes.now → u ≡ length S.places.now → v ≡ length S.masses.now → ran_as t l r c q w ≡ ran_on Q S
  run_clears h f (zl, zr, zc, zp, zm) hl hr hc hp hm = rw (f, zl, zr, zc, zp, zm, hl, hr, hc, hp, hm) (ap (λ (x : Bool). ran_if x told S.lefts.now S.rights.now S.codes.now S.places.now S.masses.now) (sym h))
