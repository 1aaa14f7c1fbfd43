-- What `epsdelta` is given, read from lists: its task is the one whose marks and sweeps the lists hold.
use mathlib.Core.Path.{◌≡◌, refl, sym, ap, subst⁻¹, ◌∙◌}
use Prim.Native.Nat.{ℕ, suc, ◌+◌, ◌*◌, ◌≤◌, ◌<◌}
use mathlib.Core.Bool.{Bool, true, false, ◌&&◌}
use mathlib.Core.List.{List, []}
use native.Mathlib.Omega.{arith}
use lib.Dec.{eqb, leb, ltb, leb→le}
use lib.Ieee.{Float, nan, binary64, le, sub}
use lib.Ieee.Fits.{sub-fits}
use lib.ListN.{length, get_or, take, length-map}
use lib.Seq.{get_or-take, length-slice, length-take-le, ext_get_or}
use borrow.Author.Tests.{ltb-true}
use Rattle.numbers.specs.Lists.{span, every, all}
use Rattle.numbers.proofs.Bools.{and_t, t_of}
use Rattle.numbers.proofs.Spans.{span_length}
use Rattle.numbers.proofs.Alls.{every_at}
use Rattle.numbers.specs.Real.{is_zero, one, slack}
use Rattle.numbers.specs.Bits.{packed}
use Rattle.epsdelta_theory.specs.Jumps.{Jump, Jumps, Row, no_row, exit, prob}
use Rattle.epsdelta_theory.specs.FlowTest.{run_between, test_run, needed, flow_ok}
use Rattle.epsdelta_theory.specs.Sweeps.{Task, Run, marked, marks, sweeps, run}
use Rattle.epsdelta_theory.specs.Epsdelta.{Given, given_rows, rates_close, class, task, epsdelta}
use Rattle.epsdelta_theory.specs.Relation.{relation_bytes}
use Rattle.epsdelta_theory.proofs.Pairs.{count, count_le}
use Rattle.epsdelta_theory.proofs.Marks.{marks_length, marks_symmetric}
use Rattle.epsdelta_theory.proofs.TasksIn.{marked_in, MarksIn, row_in, test_in, SweepsIn, RowsFit}
use Rattle.epsdelta_theory.proofs.Rows.{at_map_span}
use Rattle.epsdelta_theory.proofs.RowsIn.{HoldsTo}
use Rattle.epsdelta_theory.proofs.Runs.{run_bytes}
use Rattle.flow_duality.proofs.Plenty.{Formed, Even, symmetric_even}
use Rattle.flow_links.specs.Fits.{rate_fits, row_fits}
use Rattle.flow_links.proofs.RowsRead.{entries, row_at, rows_in, row_stands}
use Rattle.flow_duality.proofs.Places.{Bytes}

-- ---- marks

-- whatever classes and exit rates the lists have, there is a task that they hold
pub marks_bytes : (n : ℕ) (C : List ℕ) (E : List Float) (ρ : Float) (store : List ℕ) → ((Q : Task) → MarksIn Q n C E ρ → store ≡ packed (marks Q)) → Bytes n store
unfolding marked
marks_bytes n C E ρ store m =
    let Q : Task = record { states = n; class = λ s. get_or C s 0; rates_pass = λ s t. rates_close (get_or E s nan) (get_or E t nan) ρ; no_exit = λ s. true; test = λ R s t. true } in
    (marks Q, m Q (record { states = refl; mark = λ s t h k. refl }), marks_length Q)

pub marks_even : (n : ℕ) (C : List ℕ) (E : List Float) (ρ : Float) (store : List ℕ) → ((Q : Task) → MarksIn Q n C E ρ → store ≡ packed (marks Q)) → Even n store
unfolding marked
marks_even n C E ρ store m =
    let Q : Task = record { states = n; class = λ s. get_or C s 0; rates_pass = λ s t. rates_close (get_or E s nan) (get_or E t nan) ρ; no_exit = λ s. true; test = λ R s t. true } in
    symmetric_even n store (marks Q) (m Q (record { states = refl; mark = λ s t h k. refl })) (marks_symmetric Q)

-- and the front of the classes is enough
pub of_front : {n : ℕ} {C : List ℕ} {E : List Float} {ρ : Float} {X : Task → Type 0} → n ≤ length C → ((Q : Task) → MarksIn Q (length (take n C)) (take n C) E ρ → X Q) → (Q : Task) → MarksIn Q n C E ρ → X Q
of_front {n} {C} {E} {ρ} h f Q M =
    let z = length-take-le n C h in
    f Q (record {
      states = M.states ∙ sym z;
      mark = λ s t i j.
          let k : s < n = omega arith in
          let l : t < n = omega arith in
          rw (get_or-take n C s 0 k, get_or-take n C t 0 l) (M.mark s t k l);
    })

-- what a flow has to come to is a number of the format
pub needed_formed : {need : Float} (ε : Float) → need ≡ needed ε → Formed need
unfolding needed
needed_formed ε e = subst⁻¹ Formed e (sub-fits binary64 (sub binary64 one ε) slack)

-- ---- the rows

module _ (n : ℕ) (C : List ℕ) (E : List Float) (S T : List ℕ) (P : List Float) (ε ρ : Float) where
  abbrev J : Jumps
  J = rows_in n E S T P

  abbrev G : Given
  G = given_rows J (take n C) ε ρ

  pub rows_length : length J ≡ n
  unfolding rows_in
  rows_length = length-map (span 0 n) (row_at E S T P) ∙ span_length 0 n

  pub rows_at : (s : ℕ) → s < n → get_or J s no_row ≡ row_at E S T P s
  unfolding rows_in
  rows_at s h = at_map_span (row_at E S T P) 0 n s no_row h ∙ ap (row_at E S T P) (omega arith)

  exit_is : (s : ℕ) → s < n → get_or E s nan ≡ exit J s
  unfolding exit
  exit_is s h = ap (λ (r : Row). r.exit) (sym (rows_at s h))

  class_is : (s : ℕ) → s < n → get_or C s 0 ≡ class G s
  unfolding class
  class_is s h = sym (get_or-take n C s 0 h)

  marks_in : MarksIn (task G) n C E ρ
  unfolding marked
  marks_in = record { states = rows_length; mark = mark }
    where
      mark : (s t : ℕ) → s < n → t < n → marked_in C E ρ s t ≡ marked (task G) s t
      mark s t h k =
          ap (λ (a : ℕ). eqb a (get_or C t 0) && rates_close (get_or E s nan) (get_or E t nan) ρ) (class_is s h)
          ∙ ap (λ (a : ℕ). eqb (class G s) a && rates_close (get_or E s nan) (get_or E t nan) ρ) (class_is t k)
          ∙ ap (λ (x : Float). eqb (class G s) (class G t) && rates_close x (get_or E t nan) ρ) (exit_is s h)
          ∙ ap (λ (x : Float). eqb (class G s) (class G t) && rates_close (exit J s) x ρ) (exit_is t k)

  row_is : (s : ℕ) → s < n → row_in S T P s ≡ prob J s
  unfolding prob
  row_is s h = ap (λ (r : Row). r.prob) (sym (rows_at s h))

  test_is : (R : List Bool) (s t : ℕ) → s < n → t < n → test_in n S T P (needed ε) R s t ≡ flow_ok J R s t ε
  unfolding flow_ok test_run
  test_is R s t h k =
      ap (λ (ps : List Jump). le (needed ε) (run_between n R ps (row_in S T P t)).total) (row_is s h)
      ∙ ap (λ (pt : List Jump). le (needed ε) (run_between n R (prob J s) pt).total) (row_is t k)
      ∙ ap (λ (m : ℕ). le (needed ε) (run_between m R (prob J s) (prob J t)).total) (sym rows_length)

  sweeps_in : SweepsIn (task G) n E S T P (needed ε)
  sweeps_in = record { states = rows_length; no_exit = λ s h. ap is_zero (exit_is s h); test = test_is }

  -- the run from the marks
  pub related : {need : Float} → need ≡ needed ε → {store store' : List ℕ}
      → ((Q : Task) → MarksIn Q n C E ρ → store ≡ packed (marks Q))
      → ((Q : Task) → SweepsIn Q n E S T P need → (x : Run) → store ≡ packed x.relation → (k : ℕ) → count x.relation < k → store' ≡ packed (sweeps Q k x).relation)
      → store' ≡ packed (epsdelta G).relation
  unfolding epsdelta run
  related v m f =
      let Q = task G in
      f Q (subst⁻¹ (SweepsIn Q n E S T P) v sweeps_in) (record { relation = marks Q; strikes = []; struck = false }) (m Q marks_in) (suc (Q.states * Q.states))
      (let a = count_le (marks Q) in let b = marks_length Q in omega arith)

  -- the bytes of the final relation
  pub related_bytes : length (packed (epsdelta G).relation) ≡ relation_bytes n
  unfolding epsdelta
  related_bytes = run_bytes (task G) ∙ ap relation_bytes rows_length

-- lists that hold rows hold these alone
pub held_rows : {J : Jumps} {n : ℕ} {E : List Float} {S T : List ℕ} {P : List Float} → HoldsTo J n E S T P → length J ≡ n → rows_in n E S T P ≡ J
held_rows {J} {n} {E} {S} {T} {P} H e =
    let z = rows_length n [] E S T P nan nan in
    ext_get_or no_row (rows_in n E S T P) J (z ∙ sym e) (λ s h. rows_at n [] E S T P nan nan s (omega arith) ∙ same s (omega arith))
  where
    same : (s : ℕ) → s < n → row_at E S T P s ≡ get_or J s no_row
    same s h = ap (λ (x : Float). record { exit = x; prob = row_in S T P s }) (H.exit s h) ∙ ap (λ (js : List Jump). record { exit = (get_or J s no_row).exit; prob = js }) (H.prob s h)

-- ---- what is checked

pub lengths_known : (n c s bytes : ℕ) → (leb n 2000 && (leb n c && (ltb n s && leb (relation_bytes n) bytes))) ≡ true → (n ≤ 2000) × (n ≤ c) × (n < s) × (relation_bytes n ≤ bytes)
lengths_known n c s bytes h =
    let (p, i) = and_t (leb n 2000) (leb n c && (ltb n s && leb (relation_bytes n) bytes)) h in
    let (q, j) = and_t (leb n c) (ltb n s && leb (relation_bytes n) bytes) i in
    let (t, l) = and_t (ltb n s) (leb (relation_bytes n) bytes) j in
    (leb→le n 2000 (t_of p), leb→le n c (t_of q), ltb-true n s t, leb→le (relation_bytes n) bytes (t_of l))

stands_known : (S T : List ℕ) (P : List Float) (s : ℕ) → row_stands S T P s ≡ true
    → (get_or S s 0 ≤ get_or S (s + 1) 0) × (get_or S (s + 1) 0 ≤ length T) × (get_or S (s + 1) 0 ≤ length P) × (row_fits (entries S T s) (entries S P s) ≡ true)
stands_known S T P s h =
    let a = get_or S s 0 in
    let b = get_or S (s + 1) 0 in
    let (p, i) = and_t (leb a b) (leb b (length T) && (leb b (length P) && row_fits (entries S T s) (entries S P s))) h in
    let (q, j) = and_t (leb b (length T)) (leb b (length P) && row_fits (entries S T s) (entries S P s)) i in
    let (r, k) = and_t (leb b (length P)) (row_fits (entries S T s) (entries S P s)) j in
    (leb→le a b (t_of p), leb→le b (length T) (t_of q), leb→le b (length P) (t_of r), k)

pub rows_known : (n : ℕ) (S T : List ℕ) (P : List Float) → n ≤ 2000 → n < length S → every (row_stands S T P) n ≡ true → RowsFit n S T P
rows_known n S T P f l h =
    let at : (s : ℕ) → s < n → (get_or S s 0 ≤ get_or S (s + 1) 0) × (get_or S (s + 1) 0 ≤ length T) × (get_or S (s + 1) 0 ≤ length P) × (row_fits (entries S T s) (entries S P s) ≡ true) = λ s k. stands_known S T P s (every_at (row_stands S T P) n h s k) in
    record {
      few = f;
      starts_long = l;
      rise = λ s k. (at s k).0;
      targets_long = λ s k. (at s k).1;
      probs_long = λ s k. (at s k).2;
      short = λ s k.
          let ts = entries S T s in
          let ws = entries S P s in
          let z = length-slice (get_or S s 0) (get_or S (s + 1) 0) T (at s k).1 in
          let w = leb→le (length ts) 31 (t_of (and_t (leb (length ts) 31) (eqb (length ws) (length ts) && all rate_fits ws) (at s k).3).0) in
          omega arith;
      range = λ s k.
          let ts = entries S T s in
          let ws = entries S P s in
          (and_t (eqb (length ws) (length ts)) (all rate_fits ws) (and_t (leb (length ts) 31) (eqb (length ws) (length ts) && all rate_fits ws) (at s k).3).1).1;
    }
