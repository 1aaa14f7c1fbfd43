-- What is told and written is the definition's outcome.
use mathlib.Core.Path.{◌≡◌, refl, sym, ap, ◌∙◌}
use Rattle.std.specs.Prelude.{Ok}
use Prim.Native.Nat.{ℕ, zero, suc, min, ◌≤◌}
use mathlib.Core.List.{List, [], ◌∷◌}
use lib.ListN.{length}
use lib.Ieee.{Float}
use Rattle.bisim_core.specs.Data.{Edge, Columns}
use Rattle.bisim_core.specs.declared.wlts.Shape.{Shape}
use Rattle.bisim_core.specs.Model.{model}
use Rattle.chain_theory.specs.Columns.{ChainColumns}
use Rattle.distance_theory.specs.Refusal.{bisim_refusal}
use Rattle.distance_theory.specs.Outcome.{Run, bisim_run, blank, zeros, noughts, ends, ChainsOutcome, chains_end, chains_settled, bisim_distance, Measured}
use Rattle.distance_theory.specs.Outcome.{ran as ranFrom}
use Rattle.distance_theory.specs.declared.MetricOptions.{MetricOptions}
use Rattle.distance_theory.specs.declared.PairContribution.{PairContribution}
use Rattle.distance_words.specs.Told.{row, ran_as}
use Rattle.distance_contributions.specs.Row.{Stored, written}
use Rattle.distance_contributions.proofs.Records.{listed_written}
use Rattle.distance_words.specs.Told.{Told, told_if, told_of}
use Rattle.distance.specs.Measuring.{answer_of, row_of, Handed, handed, hand_out, memory}
use Rattle.distance.proofs.Concluding.{run_few, run_counts}
use Rattle.bisim_checks.proofs.Passed.{Passed, passed}
use Rattle.bisim_chains.specs.Made.{left_of, right_of}
use Rattle.bisim_measure.specs.Measure.{Measuring, measuring, measured_if, bisim_measure}
use Rattle.bisim_measure.proofs.Measuring.{bisim_run_is}

-- ---- at most 64 contributions, as many as are told

module _ (L : List (List Edge)) (s : ℕ) (seenL : List Float) (R : List (List Edge)) (t : ℕ) (seenR : List Float) (γ : Float) (o : MetricOptions) (store : ℕ) where
  abbrev X : Run
  X = bisim_run L s seenL R t seenR γ o store

  few_listed : o.top ≤ 64 → length X.listed ≤ 64
  few_listed h = ap_le (ap (λ (Y : Run). length Y.listed) (bisim_run_is L s seenL R t seenR γ o store)) (run_few (left_of L s seenL R seenR) (right_of L seenL R t seenR) γ o store h)
    where
      ap_le : {m n k : ℕ} → m ≡ n → n ≤ k → m ≤ k
      ap_le e i = rw e i

  counted : X.distance.contributions ≡ length X.listed
  counted =
      ap (λ (Y : Run). Y.distance.contributions) (bisim_run_is L s seenL R t seenR γ o store)
      ∙ run_counts (left_of L s seenL R seenR) (right_of L seenL R t seenR) γ o store
      ∙ sym (ap (λ (Y : Run). length Y.listed) (bisim_run_is L s seenL R t seenR γ o store))

module _ (SL : Shape) (ML : Columns) (s : ℕ) (seenL : List Float) (CL : ChainColumns) (SR : Shape) (MR : Columns) (t : ℕ) (seenR : List Float) (CR : ChainColumns) (γ : Float) (o : MetricOptions)
    (l r c p : List ℕ) (m : List Float) (rs : List PairContribution) where
  abbrev number : ℕ
  number = bisim_refusal SL ML s seenL CL SR MR t seenR CR γ o (length l ∷ length r ∷ length c ∷ []) (length rs)

  abbrev ran : Run
  ran = bisim_run (model SL ML) s seenL (model SR MR) t seenR γ o (min (length p) (length m))

  -- what is told, and the row it is written into
  abbrev outcome : Measuring → ChainsOutcome
  outcome w =
      let x = w.ran in
      chains_end (ends (answer_of x.told) (memory x.lefts x.rights x.codes x.places x.masses (row_of x.told rs))) w.left w.right

  abbrev swept : Measured → List PairContribution → ChainsOutcome
  swept a q = chains_end (ends a (memory (zeros l) (zeros r) (zeros c) (zeros p) (noughts m) q)) (blank CL) (blank CR)

  -- a run that was made, for any run of at most 64 contributions
  made : (Y : Run) → Y.distance.contributions ≡ length Y.listed → length Y.listed ≤ 64 → 64 ≤ length rs → (k : ℕ)
      → outcome (measured_if 0 (told_if k Y) CL CR l r c p m) ≡ chains_end (ranFrom k Y (memory l r c p m rs)) (blank CL) (blank CR)
  made Y e f g zero = ap (λ (q : Stored). swept (Ok Y.distance) q.records) (ap (λ (n : ℕ). written (row Y.listed) n rs) e ∙ listed_written Y.listed rs g f)
  made Y e f g (suc k) = refl

  settles : (k : ℕ) → number ≡ k → outcome (measured_if k (told_of ran) CL CR l r c p m) ≡ chains_settled k ran (memory l r c p m rs) CL CR
  settles zero e =
      let P : Passed SL ML s seenL CL SR MR t seenR CR γ o (length l ∷ length r ∷ length c ∷ []) (length rs) = passed SL ML s seenL CL SR MR t seenR CR γ o (length l ∷ length r ∷ length c ∷ []) (length rs) e in
      made ran (counted (model SL ML) s seenL (model SR MR) t seenR γ o (min (length p) (length m))) (few_listed (model SL ML) s seenL (model SR MR) t seenR γ o (min (length p) (length m)) P.asked) P.row ran.refusal
  settles (suc k) e = refl

  pub concludes : {x : Told} {l' r' c' p' : List ℕ} {m' : List Float} {C' D' : ChainColumns} {a : Measured} {rs' : List PairContribution}
      → measuring (ran_as x l' r' c' p' m') C' D' ≡ bisim_measure SL ML s seenL CL SR MR t seenR CR γ o l r c p m (length rs) → handed a rs' ≡ hand_out x rs
      → chains_end (ends a (memory l' r' c' p' m' rs')) C' D' ≡ bisim_distance SL ML s seenL CL SR MR t seenR CR γ o (memory l r c p m rs)
  unfolding bisim_distance bisim_measure
  concludes {x} {l'} {r'} {c'} {p'} {m'} {C'} {D'} e f = ap (λ (h : Handed). chains_end (ends h.answer (memory l' r' c' p' m' h.records)) C' D') f ∙ ap outcome e ∙ settles number refl
