-- What is told and written is the definition's outcome.
use mathlib.Core.Path.{◌≡◌, refl, sym, ap, ◌∙◌}
use Rattle.std.specs.Prelude.{Result, Ok, Err}
use Rattle.std.specs.Result.{IsErrAnd}
use Prim.Native.Nat.{ℕ, zero, suc, ◌≤◌, min}
use mathlib.Core.Bool.{Bool, true, false, not, ◌||◌}
use mathlib.Core.List.{List, [], ◌∷◌}
use native.Mathlib.Omega.{arith}
use lib.Dec.{eqb, ltb, leb}
use lib.ListN.{length, take, length-take}
use lib.Ieee.{Float}
use borrow.Author.Tests.{ltb-false, le-leb, not-false}
use Rattle.numbers.specs.Real.{nought, one}
use Rattle.numbers.specs.Refuse.{numbered}
use Rattle.numbers.specs.Refuse.{number as number_of}
use Rattle.numbers.specs.declared.refusal.Refusal.{Refusal}
use Rattle.numbers.specs.Lists.{all}
use Rattle.numbers.proofs.Bools.{or_f}
use Rattle.numbers.proofs.Alls.{all_at}
use Rattle.numbers.proofs.Refuses.{check_none, number_positive}
use Rattle.chain_theory.specs.Chain.{Chain}
use Rattle.chain_theory.specs.Columns.{ChainColumns, chain_of}
use Rattle.chain_theory.specs.Check.{misshapen, unobserved, unfitting, improper, discount_outside}
use Rattle.chain_theory.specs.declared.ChainShape.{ChainShape}
use Rattle.distance_theory.specs.Pairs.{most}
use Rattle.distance_theory.specs.Contributions.{listed}
use Rattle.distance_theory.specs.Refusal.{short, excessive, distance_refusal}
use Rattle.distance_theory.specs.Outcome.{Run, run, zeros, noughts, Outcome, ends, settled, distance, Measured}
use Rattle.distance_theory.specs.Outcome.{ran as ranFrom}
use Rattle.distance_theory.specs.declared.MetricOptions.{MetricOptions}
use Rattle.distance_theory.specs.declared.PairContribution.{PairContribution}
use Rattle.distance_theory.proofs.Inside.{row_proper, proper_few}
use Rattle.distance_words.specs.Told.{row, Ran, ran_as}
use Rattle.distance_contributions.specs.Row.{Stored, stored, written}
use Rattle.distance_contributions.proofs.Records.{listed_written}
use Rattle.distance_words.specs.declared.told.Answer.{Answer}
use Rattle.distance_words.specs.Told.{Told, told_if, told_of}
use Rattle.distance_words.proofs.Run.{fits, roomy, runnable, ran_if, ran_of}
use Rattle.distance_run.proofs.Running.{fits_of}
use Rattle.distance.specs.Measuring.{measured_if, measured_of, answer_of, row_of, Handed, handed, hand_out, memory}

-- ---- chains that pass the checks can be run

pub passed_fits : (H : ChainShape) (C : ChainColumns) → misshapen H C ≡ false → unobserved H C ≡ false → improper H C ≡ false → fits H C ≡ true
passed_fits H C a b e =
    let (z, f) = or_f (eqb H.states 0) _ e in
    let (k, g) = or_f (ltb 2000 H.states) _ f in
    fits_of H C (ltb-false 2000 H.states k) a (λ x h. (proper_few _ (row_proper H C e x h)).1) (ltb-false (length C.observations) H.states b)

pub long_enough : (l r c records : ℕ) → short (l ∷ r ∷ c ∷ []) records ≡ false → roomy l r c ≡ true
long_enough l r c records e =
    let a = not-false _ (or_f (not (all (λ n. leb most n) (l ∷ r ∷ c ∷ []))) _ e).0 in
    let t : ℕ → Bool = λ n. leb most n in
    rw (all_at t (l ∷ r ∷ c ∷ []) 0 a 0 (omega arith), all_at t (l ∷ r ∷ c ∷ []) 0 a 1 (omega arith), all_at t (l ∷ r ∷ c ∷ []) 0 a 2 (omega arith))

module _ (HL : ChainShape) (CL : ChainColumns) (HR : ChainShape) (CR : ChainColumns) (γ : Float) (o : MetricOptions) (l r c records : ℕ) where
  -- what the checks that passed say
  record Passed : Type 0 where
    left : fits HL CL ≡ true
    right : fits HR CR ≡ true
    lists : short (l ∷ r ∷ c ∷ []) records ≡ false
    asked : o.top ≤ 64

  passes : distance_refusal HL CL HR CR γ o (l ∷ r ∷ c ∷ []) records ≡ 0 → Passed
  unfolding distance_refusal
  passes e =
      let (c4, e7) = check_none 3 (misshapen HL CL || misshapen HR CR) _ e in
      let (c7, e11) = check_none 6 (unobserved HL CL || (unobserved HR CR || short (l ∷ r ∷ c ∷ []) records)) _ e7 in
      let (c11, e12) = check_none 10 (discount_outside γ) _ e11 in
      let (c12, e13) = check_none 11 (unfitting nought one HL.states CL.observations || unfitting nought one HR.states CR.observations) _ e12 in
      let (c13, e14) = check_none 12 (improper HL CL || improper HR CR) _ e13 in
      let (c14, z) = check_none 13 (excessive o) 0 e14 in
      let (mL, mR) = or_f (misshapen HL CL) _ c4 in
      let (uL, u) = or_f (unobserved HL CL) _ c7 in
      let (uR, s) = or_f (unobserved HR CR) _ u in
      let (iL, iR) = or_f (improper HL CL) _ c13 in
      record {
        left = passed_fits HL CL mL uL iL;
        right = passed_fits HR CR mR uR iR;
        lists = s;
        asked = ltb-false 64 o.top (or_f (ltb 64 o.top) _ c14).0;
      }

  able : Passed → runnable HL CL HR CR o.top l r c ≡ true
  able P = rw (P.left, P.right, le-leb o.top 64 P.asked, long_enough l r c records P.lists)

  pub passed : distance_refusal HL CL HR CR γ o (l ∷ r ∷ c ∷ []) records ≡ 0 → runnable HL CL HR CR o.top l r c ≡ true
  passed e = able (passes e)

  pub passed_top : distance_refusal HL CL HR CR γ o (l ∷ r ∷ c ∷ []) records ≡ 0 → o.top ≤ 64
  passed_top e = (passes e).asked

  pub passed_row : distance_refusal HL CL HR CR γ o (l ∷ r ∷ c ∷ []) records ≡ 0 → 64 ≤ records
  passed_row e = ltb-false records 64 (or_f (not (all (λ n. leb most n) (l ∷ r ∷ c ∷ []))) _ (passes e).lists).1

-- ---- the ways that `measure` ends

stops : (k : ℕ) (t : Told) (l r c p : List ℕ) (m : List Float) → (k ≡ 0 → ⊥) → ran_as (Err k) l r c p m ≡ measured_if k t l r c p m
stops zero t l r c p m h = absurd (h refl)
stops (suc k) t l r c p m h = refl

-- ---- the row of records

-- what is told goes into the row, the rest is the answer
pub hands : (a : Answer) (rs : List PairContribution) {rs' : List PairContribution} {k : ℕ} → stored k rs' ≡ written a.records a.distance.contributions rs → handed (Ok a.distance) rs' ≡ hand_out (Ok a) rs
hands a rs e = ap (λ (s : Stored). handed (Ok a.distance) s.records) e

take_few : {A : Type 0} (n : ℕ) (l : List A) → n ≤ 64 → length (take n l) ≤ 64
take_few n l h = let z = length-take n l in omega arith

pub run_few : (A B : Chain) (γ : Float) (o : MetricOptions) (store : ℕ) → o.top ≤ 64 → length (run A B γ o store).listed ≤ 64
unfolding run listed
run_few A B γ o store h = take_few o.top _ h

pub run_counts : (A B : Chain) (γ : Float) (o : MetricOptions) (store : ℕ) → (run A B γ o store).distance.contributions ≡ length (run A B γ o store).listed
unfolding run
run_counts A B γ o store = refl

module _ (HL : ChainShape) (CL : ChainColumns) (HR : ChainShape) (CR : ChainColumns) (γ : Float) (o : MetricOptions) (l r c p : List ℕ) (m : List Float) (records : ℕ) where
  abbrev refusal : ℕ
  refusal = distance_refusal HL CL HR CR γ o (length l ∷ length r ∷ length c ∷ []) records

  abbrev R : Run
  R = run (chain_of HL CL) (chain_of HR CR) γ o (min (length p) (length m))

  abbrev told : Ran
  told = measured_of HL CL HR CR γ o l r c p m records

  pub measure_refused : (a : Result Answer Refusal) (x : Refusal) → IsErrAnd a (λ e. e ≡ x) → number_of x ≡ refusal → ran_as (numbered a) l r c p m ≡ told
  measure_refused (Ok y) x h e = absurd h
  measure_refused (Err y) x h e =
      stops (number_of y) (told_of R) l r c p m (number_positive y) ∙ ap (λ (j : ℕ). measured_if j (told_of R) l r c p m) (ap number_of h ∙ e)

  pub measure_ran : 0 ≡ refusal → {w : Ran} → w ≡ ran_of HL CL HR CR γ o l r c p m → w ≡ told
  measure_ran e f =
      f ∙ ap (λ (b : Bool). ran_if b (told_of R) l r c p m) (passed HL CL HR CR γ o (length l) (length r) (length c) records (sym e))
      ∙ ap (λ (j : ℕ). measured_if j (told_of R) l r c p m) e

-- ---- the whole

module _ (HL : ChainShape) (CL : ChainColumns) (HR : ChainShape) (CR : ChainColumns) (γ : Float) (o : MetricOptions) (l r c p : List ℕ) (m : List Float) (rs : List PairContribution) where
  abbrev number : ℕ
  number = distance_refusal HL CL HR CR γ o (length l ∷ length r ∷ length c ∷ []) (length rs)

  abbrev ran : Run
  ran = run (chain_of HL CL) (chain_of HR CR) γ o (min (length p) (length m))

  -- what is told, and the row it is written into
  abbrev outcome : Ran → Outcome
  outcome w = ends (answer_of w.told) (memory w.lefts w.rights w.codes w.places w.masses (row_of w.told rs))

  abbrev swept : Measured → List PairContribution → Outcome
  swept a s = ends a (memory (zeros l) (zeros r) (zeros c) (zeros p) (noughts m) s)

  -- a run that was made
  made : (e : number ≡ 0) (k : ℕ) → ran.refusal ≡ k → outcome (measured_if 0 (told_if k ran) l r c p m) ≡ ranFrom k ran (memory l r c p m rs)
  made e zero f =
      ap (λ (s : Stored). swept (Ok ran.distance) s.records)
      (ap (λ (n : ℕ). written (row ran.listed) n rs) (run_counts (chain_of HL CL) (chain_of HR CR) γ o (min (length p) (length m)))
      ∙ listed_written ran.listed rs (passed_row HL CL HR CR γ o (length l) (length r) (length c) (length rs) e) (run_few (chain_of HL CL) (chain_of HR CR) γ o (min (length p) (length m)) (passed_top HL CL HR CR γ o (length l) (length r) (length c) (length rs) e)))
  made e (suc k) f = refl

  settles : (k : ℕ) → number ≡ k → outcome (measured_if k (told_of ran) l r c p m) ≡ settled k ran (memory l r c p m rs)
  settles zero e = made e ran.refusal refl
  settles (suc k) e = refl

  pub concludes : {t : Told} {l' r' c' p' : List ℕ} {m' : List Float} {a : Measured} {rs' : List PairContribution}
      → ran_as t l' r' c' p' m' ≡ measured_of HL CL HR CR γ o l r c p m (length rs) → handed a rs' ≡ hand_out t rs → ends a (memory l' r' c' p' m' rs') ≡ distance HL CL HR CR γ o (memory l r c p m rs)
  unfolding distance
  concludes {t} {l'} {r'} {c'} {p'} {m'} e f = ap (λ (h : Handed). ends h.answer (memory l' r' c' p' m' h.records)) f ∙ ap outcome e ∙ settles number refl
