-- From two models that pass their checks to lists that a relation can be made of.
use mathlib.Core.Path.{◌≡◌, refl, sym, ap, subst, subst⁻¹, ◌∙◌}
use Prim.Native.Nat.{ℕ, zero, suc, ◌+◌, ◌≤◌, ◌<◌}
use mathlib.Core.Bool.{Bool, true, false, not, ◌&&◌, ◌||◌, true≢false}
use mathlib.Core.List.{List, [], ◌∷◌, ◌++◌}
use native.Mathlib.Omega.{arith}
use lib.Dec.{T, ltb}
use lib.Ieee.{Float, of_bits, le, nan}
use lib.ListN.{length, get_or, take}
use lib.Seq.{slice, length-slice, length-take-le, get_or-take, ext_get_or}
use borrow.Author.Tests.{le-ltb, le-leb, lt-leb, lt-ltb, eq-eqb, ltb-false}
use Rattle.std.specs.Prelude.{Result, Ok, Err, OnOk, IsErrAnd}
use Rattle.std.specs.Result.{is_ok}
use Rattle.numbers.specs.declared.refusal.Refusal.{Refusal}
use Rattle.numbers.specs.Real.{nought, greatest_weight}
use Rattle.numbers.specs.Bits.{packed}
use Rattle.numbers.specs.Lists.{every, all, over}
use Rattle.numbers.specs.Refuse.{check, number, numbered, code}
use Rattle.numbers.proofs.Bools.{and_second, or_f}
use Rattle.numbers.proofs.Alls.{every_of}
use Rattle.numbers.proofs.Refuses.{first, number_positive, none, check_none}
use Rattle.bisim_core.specs.Data.{Columns, columns_of}
use Rattle.bisim_core.specs.declared.wlts.Shape.{Shape}
use Rattle.bisim_core.specs.declared.wlts.Wlts.{Wlts}
use Rattle.bisim_core.specs.Model.{large, unfit, weights_outside, crowded, model}
use Rattle.bisim_core.proofs.Accepted.{Accepted}
use Rattle.epsdelta_theory.specs.Jumps.{Jumps, union, jumps_of, no_row}
use Rattle.epsdelta_theory.specs.Refusal.{short, tolerances_outside, models_refusal, later_refusal, relation_refusal, epsdelta_refusal}
use Rattle.epsdelta_theory.specs.Relation.{relation_bytes}
use Rattle.epsdelta_theory.specs.Epsdelta.{given, given_rows, epsdelta}
use Rattle.epsdelta_theory.proofs.Unrefused.{models_passed}
use Rattle.epsdelta_theory.proofs.FlowTests.{AllInRange}
use Rattle.epsdelta_theory.proofs.Rows.{RowOf, model_length, union_length, union_rows}
use Rattle.epsdelta_theory.proofs.RowsIn.{HoldsTo}
use Rattle.epsdelta_theory.proofs.RowReads.{row_in, row_few}
use Rattle.epsdelta_theory.proofs.Layings.{laid_holds}
use Rattle.epsdelta_jumps.specs.declared.jumps.Fault.{Fault}
use Rattle.epsdelta_jumps.specs.declared.store.RowStore.{RowStore}
use Rattle.epsdelta_jumps.specs.Store.{cramped, LaidIn}
use Rattle.epsdelta_jumps.specs.Union as joins
use Rattle.flow_links.proofs.RowsRead.{entries, rows_in, row_stands, readable, relation_in, written}
use Rattle.epsdelta_sweeps.proofs.Reading.{held_rows, rows_length, rows_at}
use Rattle.flow_links.specs.Fits.{row_fits}
use Rattle.epsdelta.specs.declared.asked.Settings.{Settings}
use Rattle.epsdelta.specs.Outcome.{Outcome, Roomy, ends, settled, later_of, outcome_unless, outcome}
use Rattle.epsdelta.specs.Sides.{together, classes_of}

-- ---- the checks of both models come first

split : (a b c d : Bool) (x : ℕ) → check 3 a (check 4 b (check 5 c (check 6 d x))) ≡ first (check 3 a (check 4 b (check 5 c (check 6 d 0)))) x
split true b c d x = refl
split false true c d x = refl
split false false true d x = refl
split false false false true x = refl
split false false false false x = refl

refusal_split : (SL : Shape) (ML : Columns) (SR : Shape) (MR : Columns) (fails8 fails9 : Bool) (cl cr : List ℕ) (bytes : ℕ)
    → relation_refusal fails8 fails9 SL ML SR MR cl cr bytes ≡ first (models_refusal SL ML SR MR 0) (later_refusal fails8 fails9 SL.states SR.states (length cl) (length cr) bytes)
unfolding relation_refusal models_refusal
refusal_split SL ML SR MR fails8 fails9 cl cr bytes =
    split (large SL || large SR) (unfit SL ML || unfit SR MR) (weights_outside SL ML || weights_outside SR MR) (crowded SL ML || crowded SR MR)
    (later_refusal fails8 fails9 SL.states SR.states (length cl) (length cr) bytes)

-- ---- rows in lists

true_of : (b : Bool) → T b → b ≡ true
true_of true t = refl
true_of false t = absurd t

rates_fit : (ts : List ℕ) (ws : List Float) → length ts ≡ length ws → AllInRange (jumps_of ts ws) → all (λ w. le nought w && le w greatest_weight) ws ≡ true
unfolding jumps_of all of_bits
rates_fit [] [] h a = refl
rates_fit [] (w ∷ ws) h a = absurd (omega arith)
rates_fit (t ∷ ts) [] h a = absurd (omega arith)
rates_fit (t ∷ ts) (w ∷ ws) h a = sym (and_second _ _ true (sym (and_second _ _ true (true_of (le nought w) a.0.0) (sym (true_of (le w greatest_weight) a.0.1)))) (sym (rates_fit ts ws (omega arith) a.1)))

-- rows of accepted models can be read from the lists that hold them
rows_stand : {J : Jumps} {n : ℕ} {E : List Float} {S T' : List ℕ} {P : List Float} → HoldsTo J n E S T' P → ((s : ℕ) → s < n → RowOf n (get_or J s no_row)) → every (row_stands S T' P) n ≡ true
rows_stand {J} {n} {E} {S} {T'} {P} H rows = every_of (row_stands S T' P) n stand
  where
    fits : (s : ℕ) → s < n → true ≡ row_fits (entries S T' s) (entries S P s)
    fits s h =
        let a = get_or S s 0 in
        let b = get_or S (s + 1) 0 in
        let ts = slice a b T' in
        let ws = slice a b P in
        let t = length-slice a b T' (row_in H s h).0 in
        let p = length-slice a b P (row_in H s h).1 in
        let w = row_few H s h n (rows s h) in
        and_second _ _ true (le-leb (length ts) 31 (omega arith)) (and_second _ _ true (eq-eqb (length ws) (length ts) (p ∙ sym t)) (sym (rates_fit ts ws (t ∙ sym p) (subst⁻¹ AllInRange (H.prob s h) (rows s h).in_range))))

    stand : (s : ℕ) → s < n → row_stands S T' P s ≡ true
    stand s h =
        let b = get_or S (s + 1) 0 in
        sym (and_second _ _ true (le-leb (get_or S s 0) b (H.rise s h)) (and_second _ _ true (le-leb b (length T') (row_in H s h).0) (and_second _ _ true (le-leb b (length P) (row_in H s h).1) (fits s h))))

-- the front of the exit rates is all of them that is read
rows_front : (n : ℕ) (E : List Float) (S T' : List ℕ) (P : List Float) → n ≤ length E → rows_in (length (take n E)) (take n E) S T' P ≡ rows_in n E S T' P
rows_front n E S T' P h =
    let z = length-take-le n E h in
    let k = length (take n E) in
    let x = rows_length k [] (take n E) S T' P nan nan in
    let y = rows_length n [] E S T' P nan nan in
    ext_get_or no_row (rows_in k (take n E) S T' P) (rows_in n E S T' P) (x ∙ z ∙ sym y) (λ s l. same s (omega arith) (omega arith))
  where
    same : (s : ℕ) → s < n → s < length (take n E) → get_or (rows_in (length (take n E)) (take n E) S T' P) s no_row ≡ get_or (rows_in n E S T' P) s no_row
    same s i j =
        rows_at _ [] (take n E) S T' P nan nan s j
        ∙ ap (λ (e : Float). record { exit = e; prob = jumps_of (entries S T' s) (entries S P s) }) (get_or-take n E s nan i)
        ∙ sym (rows_at n [] E S T' P nan nan s i)

-- a run that is not refused, by the one check that it makes
not_refused : (a : Result (Unit {0}) Refusal) (b : Bool) → b ≡ true → code a ≡ check 7 (not b) 0 → numbered a ≡ Ok tt
not_refused (Ok x) b h e = refl
not_refused (Err r) true h e = absurd (number_positive r e)
not_refused (Err r) false h e = absurd (true≢false (sym h))

-- what checks 7 and 10 find none of
later_passed : (S : Settings) (bytes : ℕ) → 0 ≡ later_of S bytes → (together S.sides.now ≤ 2000) × (relation_bytes (together S.sides.now) ≤ bytes)
later_passed S bytes e =
    let L = S.sides.now.left in
    let R = S.sides.now.right in
    let N = together S.sides.now in
    let f = check_none 6 (short L.model.shape.states R.model.shape.states (length L.classes.now) (length R.classes.now) bytes) _ (sym e) in
    let g = check_none 7 S.absent _ f.1 in
    let h = check_none 8 (tolerances_outside S.tolerances.epsilon S.tolerances.rho) _ g.1 in
    let i = check_none 9 (ltb 2000 N) 0 h.1 in
    let o = or_f (ltb (length R.classes.now) R.model.shape.states) _ (or_f (ltb (length L.classes.now) L.model.shape.states) _ f.0).1 in
    (ltb-false 2000 N i.0, ltb-false bytes (relation_bytes N) o.1)

-- a run over the front of the exit rates, once checks 7 to 10 have passed
pub finished : (S : Settings) (n : ℕ) (E : List Float) (A T' : List ℕ) (P : List Float) (C store new : List ℕ) (a : Result (Unit {0}) Refusal) (J : Jumps) → n ≡ together S.sides.now
    → 0 ≡ later_of S (length store)
    → (together S.sides.now ≤ 2000 → (every (row_stands A T' P) (together S.sides.now) ≡ true) × (together S.sides.now ≤ length E) × (together S.sides.now < length A) × (together S.sides.now ≤ length C))
    → take (together S.sides.now) C ≡ classes_of S.sides.now
    → (together S.sides.now ≤ 2000 → rows_in (together S.sides.now) E A T' P ≡ J)
    → (code a ≡ check 7 (not (readable C (take n E) A T' P (length store))) 0) × (new ≡ written (readable C (take n E) A T' P (length store)) (relation_in (length (take n E)) C (take n E) A T' P S.tolerances.epsilon S.tolerances.rho) store)
    → ends (numbered a) new ≡ settled (later_of S (length store)) store (epsdelta (given_rows J (classes_of S.sides.now) S.tolerances.epsilon S.tolerances.rho)).relation
finished S n E A T' P C store new a J e z rows c are r =
    let N = together S.sides.now in
    let ε = S.tolerances.epsilon in
    let ρ = S.tolerances.rho in
    let K = classes_of S.sides.now in
    let k = length (take n E) in
    let (few, bytes) = later_passed S (length store) z in
    let (stand, exits, starts, classes) = rows few in
    let v : k ≡ N = length-take-le n E (omega arith) ∙ e in
    let b = readable C (take n E) A T' P (length store) in
    let h : b ≡ true = sym (and_second _ _ true (le-leb k 2000 (omega arith)) (and_second _ _ true (le-leb k (length C) (omega arith)) (and_second _ _ true (lt-ltb k (length A) (omega arith)) (and_second _ _ true (le-leb (relation_bytes k) (length store) (rw v bytes)) (sym (rw v stand)))))) in
    let x : rows_in k (take n E) A T' P ≡ J = rows_front n E A T' P (omega arith) ∙ ap (λ (i : ℕ). rows_in i E A T' P) e ∙ are few in
    let y : take k C ≡ K = ap (λ (i : ℕ). take i C) v ∙ c in
    ap (λ (o : Result (Unit {0}) ℕ). ends o new) (not_refused a b h r.0)
    ∙ ap (ends (Ok tt)) (r.1 ∙ ap (λ (d : Bool). written d (relation_in k C (take n E) A T' P ε ρ) store) h)
    ∙ ap (λ (X : Jumps). ends (Ok tt) (over (packed (epsdelta (given_rows X (take k C) ε ρ)).relation) store)) x
    ∙ ap (λ (Y : List ℕ). ends (Ok tt) (over (packed (epsdelta (given_rows J Y ε ρ)).relation) store)) y
    ∙ ap (λ (i : ℕ). settled i store (epsdelta (given_rows J K ε ρ)).relation) z

-- ---- what `union` answers, and what it leaves in lists that are long enough

-- what is said of an answer holds where it is one
ok_holds : {P : Type 0} (j : Result (Unit {0}) Fault) → joins.faulted j ≡ Ok tt → OnOk j P → P
ok_holds (Ok x) e p = p
ok_holds (Err f) e p = absurd (true≢false (sym (ap is_ok e)))

-- a refusal of the models is the answer
refused : (n later : ℕ) (a : Result (Unit {0}) Refusal) (r : Refusal) (store : List ℕ) (K : List Bool) → IsErrAnd a (λ e. e ≡ r) → number r ≡ n → ends (numbered a) store ≡ settled (first n later) store K
refused zero later a r store K h e = absurd (number_positive r e)
refused (suc n) later (Ok x) r store K h e = absurd h
refused (suc n) later (Err s) r store K h e = ap (λ (k : ℕ). ends (Err k) store) (ap number h ∙ e)

module _ (L R : Wlts) where
  abbrev SL : Shape
  SL = L.shape

  abbrev ML : Columns
  ML = columns_of L

  abbrev SR : Shape
  SR = R.shape

  abbrev MR : Columns
  MR = columns_of R

  abbrev n : ℕ
  n = models_refusal SL ML SR MR 0

  pub turned_back : (fails8 : Bool) (cl cr : List ℕ) (ε ρ : Float) (store : List ℕ) (a : Result (Unit {0}) Refusal) (r : Refusal) → IsErrAnd a (λ e. e ≡ r) → number r ≡ n
      → ends (numbered a) store ≡ outcome_unless fails8 SL ML SR MR cl cr ε ρ store
  turned_back fails8 cl cr ε ρ store a r h e =
      let later = later_refusal fails8 (tolerances_outside ε ρ) SL.states SR.states (length cl) (length cr) (length store) in
      refused n later a r store (epsdelta (given SL ML SR MR cl cr ε ρ)).relation h e
      ∙ ap (λ (k : ℕ). settled k store (epsdelta (given SL ML SR MR cl cr ε ρ)).relation) (sym (refusal_split SL ML SR MR fails8 (tolerances_outside ε ρ) cl cr (length store)))

  module _ (z : 0 ≡ n) where
    both : Accepted SL ML × Accepted SR MR
    both = let q = models_passed SL ML SR MR 0 (sym z) in (q.0, q.1)

    pub few : (SL.states ≤ 2000) × (SR.states ≤ 2000)
    few = let (A, B) = both in (A.states_few, B.states_few)

    pub done : (fails8 : Bool) (cl cr : List ℕ) (ε ρ : Float) (store : List ℕ) {x : Outcome (Result (Unit {0}) ℕ)}
        → x ≡ settled (later_refusal fails8 (tolerances_outside ε ρ) SL.states SR.states (length cl) (length cr) (length store)) store
        (epsdelta (given_rows (union (model SL ML) (model SR MR)) (take SL.states cl ++ take SR.states cr) ε ρ)).relation
        → x ≡ outcome_unless fails8 SL ML SR MR cl cr ε ρ store
    unfolding given
    done fails8 cl cr ε ρ store e =
        let later = later_refusal fails8 (tolerances_outside ε ρ) SL.states SR.states (length cl) (length cr) (length store) in
        e ∙ ap (λ (k : ℕ). settled k store (epsdelta (given SL ML SR MR cl cr ε ρ)).relation) (ap (λ (k : ℕ). first k later) z ∙ sym (refusal_split SL ML SR MR fails8 (tolerances_outside ε ρ) cl cr (length store)))

    module _ (V W : RowStore) (m : ℕ) (room : Roomy SL SR (length V.exits.now) (length V.starts.now) (length V.targets.now) (length V.probs.now) m) (j : Result (Unit {0}) Fault)
        (answer : joins.faulted j ≡ joins.joined SL ML SR MR (cramped (SL.states + SR.states) (SL.edges + SR.edges) V)) (made : OnOk j (LaidIn (union (model SL ML) (model SR MR)) V W)) where
      total : length (union (model SL ML) (model SR MR)) ≡ SL.states + SR.states
      total = union_length (model SL ML) (model SR MR) ∙ rw (model_length SL ML, model_length SR MR)

      roomy : SL.states + SR.states ≤ 2000 → cramped (SL.states + SR.states) (SL.edges + SR.edges) V ≡ false
      roomy f =
          let (A, B) = both in
          let (e, s, t, p, c) = room f A.edges_few B.edges_few in
          none _ _ (le-ltb (length V.exits.now) (SL.states + SR.states) e) (none _ _ (lt-leb (length V.starts.now) (SL.states + SR.states) s) (none _ _ (le-ltb (length V.targets.now) (SL.edges + SR.edges) t) (le-ltb (length V.probs.now) (SL.edges + SR.edges) p)))

      held : SL.states + SR.states ≤ 2000 → HoldsTo (union (model SL ML) (model SR MR)) (SL.states + SR.states) W.exits.now W.starts.now W.targets.now W.probs.now
      unfolding joins.joined
      held f =
          let ok : joins.faulted j ≡ Ok tt = answer ∙ ap (λ (k : ℕ). joins.settled k (cramped (SL.states + SR.states) (SL.edges + SR.edges) V)) (sym z) ∙ ap (joins.settled 0) (roomy f) in
          subst (λ (k : ℕ). HoldsTo (union (model SL ML) (model SR MR)) k W.exits.now W.starts.now W.targets.now W.probs.now) total (laid_holds (ok_holds j ok made))

      -- what the rest asks
      pub ready : SL.states + SR.states ≤ 2000 → (every (row_stands W.starts.now W.targets.now W.probs.now) (SL.states + SR.states) ≡ true) × (SL.states + SR.states ≤ length W.exits.now) × (SL.states + SR.states < length W.starts.now) × (SL.states + SR.states ≤ m)
      ready f = let (A, B) = both in let H = held f in (rows_stand H (union_rows A B), H.exits_long, H.starts_long, (room f A.edges_few B.edges_few).4)

      pub rows_are : SL.states + SR.states ≤ 2000 → rows_in (SL.states + SR.states) W.exits.now W.starts.now W.targets.now W.probs.now ≡ union (model SL ML) (model SR MR)
      rows_are f = held_rows (held f) total

-- without a need of initial states
pub plain : (L R : Wlts) (cl cr : List ℕ) (ε ρ : Float) (store : List ℕ) {o : Outcome (Result (Unit {0}) ℕ)}
    → o ≡ outcome_unless false L.shape (columns_of L) R.shape (columns_of R) cl cr ε ρ store → o ≡ outcome L.shape (columns_of L) R.shape (columns_of R) cl cr ε ρ store
unfolding epsdelta_refusal
plain L R cl cr ε ρ store e = e
