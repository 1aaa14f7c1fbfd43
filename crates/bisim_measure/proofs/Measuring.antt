-- From the chains that are made and run to what is told of two models.
use mathlib.Core.Path.{◌≡◌, refl, sym, ap, subst, ◌∙◌}
use mathlib.Core.Bool.{Bool, true, false, true≢false}
use Prim.Native.Nat.{ℕ, zero, suc, min}
use mathlib.Core.List.{List, [], ◌∷◌}
use native.Mathlib.Omega.{arith}
use lib.Dec.{leb}
use lib.Ieee.{Float}
use lib.ListN.{length, take, replicate}
use lib.Seq.{take_all}
use borrow.Author.Tests.{le-leb}
use Rattle.numbers.specs.Lists.{all}
use Rattle.numbers.specs.Real.{nought}
use Rattle.numbers.proofs.Bools.{and_t, and_second}
use Rattle.bisim_core.specs.Data.{Edge, Columns}
use Rattle.bisim_core.specs.declared.wlts.Shape.{Shape}
use Rattle.bisim_core.specs.Model.{model}
use Rattle.bisim_core.proofs.Accepted.{Accepted, accepted}
use Rattle.epsdelta_theory.proofs.Rows.{model_length}
use Rattle.chain_theory.specs.Chain.{Chain, common_rate, uniformise, normalise}
use Rattle.chain_theory.specs.Columns.{ChainColumns, chain_columns, chain_of, shape_of, columns_of}
use Rattle.chain_theory.proofs.Chains.{rows_length}
use Rattle.chains.specs.Outcome.{laid}
use Rattle.distance_theory.specs.Pairs.{most}
use Rattle.distance_theory.specs.Refusal.{bisim_refusal}
use Rattle.distance_theory.specs.Outcome.{Run, run, bisim_run, blank, zeros, noughts}
use Rattle.distance_theory.specs.declared.MetricOptions.{MetricOptions}
use Rattle.distance_words.proofs.Run.{fits, roomy, runnable, ran_if, ran_of}
use Rattle.std.specs.Prelude.{Result, Ok, Err}
use Rattle.std.specs.Result.{IsErrAnd, is_ok}
use Rattle.numbers.specs.Refuse.{number, numbered}
use Rattle.numbers.specs.declared.refusal.Refusal.{Refusal}
use Rattle.chain_theory.specs.declared.ChainShape.{ChainShape}
use Rattle.distance_words.specs.Told.{Told, told_of, Ran, ran_as}
use Rattle.distance_words.specs.declared.told.Answer.{Answer}
use Rattle.bisim_checks.proofs.Passed.{Side, Passed, passed}
use Rattle.bisim_chains.specs.Made.{Made, made, left_of, right_of, made_of, made_if, bisim_made}
use Rattle.bisim_measure.specs.Measure.{Measuring, measuring, measured_if, bisim_measure}
use Rattle.bisim_chains.proofs.Making.{left_size, right_size, seen_size}
use Rattle.bisim_chains.proofs.Rows.{rows_slender}
use Rattle.bisim_measure.proofs.Readback.{read_back, laid_fits}

-- ---- a chain made of a model can be run, and is read back

module _ {S : Shape} {M : Columns} {s : ℕ} {seen : List Float} {C : ChainColumns} (P : Side S M s seen C) (q : Float) (l : List Float) (e : length l ≡ length (model S M)) where
  abbrev chain : Chain
  chain = uniformise (model S M) q l s

  sized : length chain.observations ≡ length chain.rows
  unfolding uniformise
  sized = ap (λ (k : List Float). length k) (whole (length (model S M)) l e) ∙ e ∙ sym (rows_length q 0 (model S M))
    where
      whole : (n : ℕ) (k : List Float) → length k ≡ n → take n k ≡ k
      whole n k f = take_all n k (omega arith)

  pub reads : chain_of (shape_of chain) (laid (columns_of chain) C) ≡ chain
  reads = read_back chain C sized

  pub can_run : fits (shape_of chain) (laid (columns_of chain) C) ≡ true
  unfolding uniformise
  can_run =
      let X : Accepted S M = accepted S M P.model_passes in
      let k = rows_length q 0 (model S M) in
      let n = model_length S M in
      laid_fits chain C sized (let f = X.states_few in omega arith) (let f = P.state_in in omega arith) (λ i h. rows_slender X q i h)

-- ---- room for the pairs

roomy_so : (l r c : ℕ) → all (λ n. leb most n) (l ∷ r ∷ c ∷ []) ≡ true → roomy l r c ≡ true
unfolding all
roomy_so l r c e =
    let (a, d) = and_t (leb most l) _ e in
    let (b, f) = and_t (leb most r) _ d in
    let (g, h) = and_t (leb most c) true f in
    sym (and_second _ _ true a (sym (sym (and_second _ _ true b (sym g)))))

-- ---- the run

run_as : (γ : Float) (o : MetricOptions) (store : ℕ) {X X' Y Y' : Chain} → X ≡ X' → Y ≡ Y' → run X Y γ o store ≡ run X' Y' γ o store
run_as γ o store {X} {X'} {Y} {Y'} e f = ap (λ (Z : Chain). run Z Y γ o store) e ∙ ap (λ (Z : Chain). run X' Z γ o store) f

pub bisim_run_is : (L : List (List Edge)) (s : ℕ) (seenL : List Float) (R : List (List Edge)) (t : ℕ) (seenR : List Float) (γ : Float) (o : MetricOptions) (store : ℕ)
    → bisim_run L s seenL R t seenR γ o store ≡ run (left_of L s seenL R seenR) (right_of L seenL R t seenR) γ o store
unfolding bisim_run
bisim_run_is L s seenL R t seenR γ o store = refl

module _ (SL : Shape) (ML : Columns) (s : ℕ) (seenL : List Float) (CL : ChainColumns) (SR : Shape) (MR : Columns) (t : ℕ) (seenR : List Float) (CR : ChainColumns) (γ : Float) (o : MetricOptions)
    (l r c p : List ℕ) (m : List Float) (records : ℕ) where
  abbrev refusal : ℕ
  refusal = bisim_refusal SL ML s seenL CL SR MR t seenR CR γ o (length l ∷ length r ∷ length c ∷ []) records

  abbrev answer : Told
  answer = told_of (bisim_run (model SL ML) s seenL (model SR MR) t seenR γ o (min (length p) (length m)))

  abbrev whole : Made
  whole = made_of (model SL ML) s seenL CL (model SR MR) t seenR CR

  -- what is told of chains that were refused
  abbrev handed : Result (ChainShape × ChainShape) ℕ → Told
  handed (Ok x) = Err 0
  handed (Err k) = Err k

  abbrev told_by : Made → Measuring
  told_by Y = measuring (ran_as (handed Y.chains) l r c p m) Y.left_lists Y.right_lists

  refused_so : (n : ℕ) → is_ok (made_if n whole CL CR).chains ≡ false → told_by (made_if n whole CL CR) ≡ measured_if n answer CL CR l r c p m
  unfolding made_of
  refused_so zero h = absurd (true≢false h)
  refused_so (suc n) h = refl

  pub turned_back : (x : Refusal) (C D : ChainColumns) → made (Err (number x)) C D ≡ bisim_made SL ML s seenL CL SR MR t seenR CR γ o (length l ∷ length r ∷ length c ∷ []) records
      → (y : Result Answer Refusal) → IsErrAnd y (λ z. z ≡ x) → measuring (ran_as (numbered y) l r c p m) C D ≡ bisim_measure SL ML s seenL CL SR MR t seenR CR γ o l r c p m records
  unfolding bisim_made bisim_measure
  turned_back x C D e (Ok y) i = absurd i
  turned_back x C D e (Err y) i =
      ap (λ (z : Refusal). measuring (ran_as (Err (number z)) l r c p m) C D) i ∙ ap told_by e
      ∙ refused_so refusal (subst (λ (Y : Made). is_ok Y.chains ≡ false) e refl)

  number_is : (n : ℕ) → is_ok (made_if n whole CL CR).chains ≡ true → n ≡ 0
  unfolding made_of
  number_is zero h = refl
  number_is (suc n) h = absurd (true≢false (sym h))

  abbrev none : ChainShape
  none = record { states = 0; entries = 0; initial = record { 0 = 0 } }

  abbrev left_in : Result (ChainShape × ChainShape) ℕ → ChainShape
  left_in (Ok x) = x.0
  left_in (Err k) = none

  abbrev right_in : Result (ChainShape × ChainShape) ℕ → ChainShape
  right_in (Ok x) = x.1
  right_in (Err k) = none

  module _ (z : refusal ≡ 0) where
    facts : Passed SL ML s seenL CL SR MR t seenR CR γ o (length l ∷ length r ∷ length c ∷ []) records
    facts = passed SL ML s seenL CL SR MR t seenR CR γ o (length l ∷ length r ∷ length c ∷ []) records z

    left_side : Side SL ML s seenL CL
    left_side = facts.left

    right_side : Side SR MR t seenR CR
    right_side = facts.right

    abbrev L : List (List Edge)
    L = model SL ML

    abbrev R : List (List Edge)
    R = model SR MR

    abbrev A : Chain
    A = left_of L s seenL R seenR

    abbrev B : Chain
    B = right_of L seenL R t seenR

    left_long : length (normalise (take (length L) seenL) (take (length R) seenR)).left ≡ length L
    left_long = left_size (take (length L) seenL) (take (length R) seenR) ∙ seen_size left_side

    right_long : length (normalise (take (length L) seenL) (take (length R) seenR)).right ≡ length R
    right_long = right_size (take (length L) seenL) (take (length R) seenR) ∙ seen_size right_side

    runs : runnable (shape_of A) (laid (columns_of A) CL) (shape_of B) (laid (columns_of B) CR) o.top (length l) (length r) (length c) ≡ true
    runs =
        sym (and_second _ _ true (can_run left_side (common_rate L R) _ left_long) (sym (sym (and_second _ _ true (can_run right_side (common_rate L R) _ right_long)
        (sym (sym (and_second _ _ true (le-leb o.top 64 facts.asked) (sym (roomy_so (length l) (length r) (length c) facts.long)))))))))

    answers : told_of (run (chain_of (shape_of A) (laid (columns_of A) CL)) (chain_of (shape_of B) (laid (columns_of B) CR)) γ o (min (length p) (length m))) ≡ answer
    answers = ap (λ (X : Run). told_of X) (run_as γ o (min (length p) (length m)) (reads left_side (common_rate L R) _ left_long) (reads right_side (common_rate L R) _ right_long) ∙ sym (bisim_run_is L s seenL R t seenR γ o (min (length p) (length m))))

    abbrev ended : Ran
    ended = ran_as answer (zeros l) (zeros r) (zeros c) (zeros p) (noughts m)

    ran_so : ran_of (shape_of A) (laid (columns_of A) CL) (shape_of B) (laid (columns_of B) CR) γ o l r c p m ≡ ended
    ran_so =
        ap (λ (b : Bool). ran_if b (told_of (run (chain_of (shape_of A) (laid (columns_of A) CL)) (chain_of (shape_of B) (laid (columns_of B) CR)) γ o (min (length p) (length m)))) l r c p m) runs
        ∙ ap (λ (y : Told). ran_as y (zeros l) (zeros r) (zeros c) (zeros p) (noughts m)) answers

    -- lists of the same lengths are all zero alike
    blank_as : (C D : ChainColumns) → length D.offsets ≡ length C.offsets → length D.targets ≡ length C.targets → length D.probabilities ≡ length C.probabilities → length D.observations ≡ length C.observations → blank D ≡ blank C
    blank_as C D e f g h =
        ap (λ (n : ℕ). chain_columns (replicate n 0) (zeros D.targets) (noughts D.probabilities) (noughts D.observations)) e
        ∙ ap (λ (n : ℕ). chain_columns (zeros C.offsets) (replicate n 0) (noughts D.probabilities) (noughts D.observations)) f
        ∙ ap (λ (n : ℕ). chain_columns (zeros C.offsets) (zeros C.targets) (replicate n nought) (noughts D.observations)) g
        ∙ ap (λ (n : ℕ). chain_columns (zeros C.offsets) (zeros C.targets) (noughts C.probabilities) (replicate n nought)) h

    told_so : (X : Made) → X ≡ whole
        → length X.left_lists.offsets ≡ length CL.offsets → length X.left_lists.targets ≡ length CL.targets → length X.left_lists.probabilities ≡ length CL.probabilities → length X.left_lists.observations ≡ length CL.observations
        → length X.right_lists.offsets ≡ length CR.offsets → length X.right_lists.targets ≡ length CR.targets → length X.right_lists.probabilities ≡ length CR.probabilities → length X.right_lists.observations ≡ length CR.observations
        → (Y : Measuring) → Y ≡ measuring (ran_of (left_in X.chains) X.left_lists (right_in X.chains) X.right_lists γ o l r c p m) (blank X.left_lists) (blank X.right_lists) → Y ≡ bisim_measure SL ML s seenL CL SR MR t seenR CR γ o l r c p m records
    unfolding bisim_measure made_of
    told_so X e l₁ l₂ l₃ l₄ r₁ r₂ r₃ r₄ Y f =
        f ∙ ap (λ (D : ChainColumns). measuring (ran_of (left_in X.chains) X.left_lists (right_in X.chains) X.right_lists γ o l r c p m) D (blank X.right_lists)) (blank_as CL X.left_lists l₁ l₂ l₃ l₄)
        ∙ ap (λ (D : ChainColumns). measuring (ran_of (left_in X.chains) X.left_lists (right_in X.chains) X.right_lists γ o l r c p m) (blank CL) D) (blank_as CR X.right_lists r₁ r₂ r₃ r₄)
        ∙ ap (λ (Z : Made). measuring (ran_of (left_in Z.chains) Z.left_lists (right_in Z.chains) Z.right_lists γ o l r c p m) (blank CL) (blank CR)) e
        ∙ ap (λ (w : Ran). measuring w (blank CL) (blank CR)) ran_so
        ∙ ap (λ (k : ℕ). measured_if k answer CL CR l r c p m) (sym z)

  pub measured : (h k : ChainShape) (C D : ChainColumns) → made (Ok (h, k)) C D ≡ bisim_made SL ML s seenL CL SR MR t seenR CR γ o (length l ∷ length r ∷ length c ∷ []) records
      → length C.offsets ≡ length CL.offsets → length C.targets ≡ length CL.targets → length C.probabilities ≡ length CL.probabilities → length C.observations ≡ length CL.observations
      → length D.offsets ≡ length CR.offsets → length D.targets ≡ length CR.targets → length D.probabilities ≡ length CR.probabilities → length D.observations ≡ length CR.observations
      → (Y : Measuring) → Y ≡ measuring (ran_of h C k D γ o l r c p m) (blank C) (blank D) → Y ≡ bisim_measure SL ML s seenL CL SR MR t seenR CR γ o l r c p m records
  unfolding bisim_made
  measured h k C D e =
      let X : Made = made (Ok (h, k)) C D in
      let z = number_is refusal (subst (λ (Y : Made). is_ok Y.chains ≡ true) e refl) in
      told_so z X (e ∙ ap (λ (n : ℕ). made_if n whole CL CR) z)
