-- The flow test of two rows that stand in lists, as code makes it: of parts of the lists, against the bytes of a relation.
use mathlib.Core.Path.{◌≡◌, refl, sym, ap, subst, ◌∙◌}
use Prim.Native.Nat.{ℕ, zero, suc, ◌+◌, ◌-◌, ◌*◌, ◌≤◌, ◌<◌}
use mathlib.Core.Bool.{Bool, true, false, ◌&&◌, false≢true}
use mathlib.Core.List.{List, [], ◌∷◌}
use native.Mathlib.Omega.{arith}
use lib.Dec.{leb, eqb}
use lib.Ieee.{Float, nan}
use lib.ListN.{length, get_or, take, drop}
use lib.Seq.{get_or-take, get_or-drop, take-nil, slice, length-slice}
use borrow.Author.Tests.{le-leb, eq-eqb}
use Rattle.std.specs.Prelude.{Option, Some, None, IfSome, IsSomeAnd, MatchOption, unwrap_or, Result, Ok}
use Rattle.numbers.specs.Bits.{packed}
use Rattle.numbers.proofs.Bools.{and_second}
use Rattle.epsdelta_theory.specs.Jumps.{jumps_of}
use Rattle.epsdelta_theory.specs.FlowTest.{run_between, links_of, heads}
use Rattle.epsdelta_theory.proofs.TasksIn.{row_in, test_in, RowsFit}
use Rattle.epsdelta_theory.proofs.Unchanged.{Quiet}
use Rattle.flow_duality.specs.Spare.{row_most, is_share}
use Rattle.flow_duality.proofs.Plenty.{Formed, Light, LightRow, Plenty, Between, Even, even_symmetric}
use Rattle.flow_links.specs.Fits.{row_fits, fits}
use Rattle.flow_links.proofs.RowsRead.{entries, states_of}
use Rattle.flow_links.proofs.Fitting.{all_fit, fit, few_links, Written, laid}
use Rattle.epsdelta_theory.specs.Relation.{relation_of}
use Rattle.flow_core.specs.Test.{flow_between}
use Rattle.flow_core.proofs.Tests.{between_packed}
use Rattle.flow_core.specs.Outcome.{settled}
use Rattle.flow_theory.specs.Run.{all_pushes}
use Rattle.flow_core.specs.declared.Flow.{Flow}
use Rattle.flow_links.specs.declared.rows.Test.{Test}
use Rattle.flow_links.specs.declared.rows.Rows.{Rows}
use Rattle.flow_direct.specs.Reaches.{both_reach, reaches, test_both, test_reaches, test_lacks, Known, at_least}
use Rattle.flow_direct.specs.declared.reach.Ways.{Ways}
use Rattle.flow_direct.specs.declared.reach.Ways.TheVariants as ways
use Rattle.epsdelta_sweeps.specs.Place.{Judged}
use Rattle.epsdelta_sweeps.specs.Leading.{Paired, TestOf, Enough, Answers, passes_in}
use Rattle.epsdelta_sweeps.specs.declared.place.Asked.{Asked}
use Rattle.epsdelta_sweeps.specs.declared.changes.Memory.{Memory}
use Rattle.flow_direct.proofs.Beginning.{answer_reaches}
use Rattle.flow.specs.declared.network.FlowNetwork.{FlowNetwork}
use Rattle.flow.specs.Filled.{flow_rows}
use Rattle.flow.proofs.FlowRows.{rows_between}

-- ---- the part of a list that is a state's

-- a part of a list as code takes it
pub part : {A : Type 0} (a b : ℕ) (l : List A) → take (b - a) (drop a l) ≡ slice a b l
part zero b l = let e : b - 0 ≡ b = omega arith in ap (λ (k : ℕ). take k l) e
part (suc a) zero l = let e : 0 - suc a ≡ 0 = omega arith in ap (λ (k : ℕ). take k (drop (suc a) l)) e
part (suc a) (suc b) [] = take-nil (suc b - suc a)
part (suc a) (suc b) (x ∷ l) = let e : suc b - suc a ≡ b - a = omega arith in ap (λ (k : ℕ). take k (drop a l)) e ∙ part a b l

-- entry i of a list, in the part of the state that it is of
pub entry_at : {A : Type 0} (S : List ℕ) (l : List A) (d : A) (s i : ℕ) → get_or S s 0 ≤ i → i < get_or S (s + 1) 0 → get_or (entries S l s) (i - get_or S s 0) d ≡ get_or l i d
entry_at S l d s i h k =
    let a = get_or S s 0 in
    let b = get_or S (s + 1) 0 in
    ap (λ x. get_or x (i - a) d) (sym (part a b l)) ∙ get_or-take (b - a) (drop a l) (i - a) d (omega arith) ∙ get_or-drop a l (i - a) d ∙ ap (λ (j : ℕ). get_or l j d) (omega arith)

entry_in : (S T : List ℕ) {us : List ℕ} (s i : ℕ) → us ≡ entries S T s → get_or S (s + 1) 0 ≤ length T → get_or S s 0 ≤ i → i < get_or S (s + 1) 0 → i - get_or S s 0 < length us
entry_in S T s i x l h k = let e = ap length x in let f = length-slice (get_or S s 0) (get_or S (s + 1) 0) T l in omega arith

pub light_part : {n : ℕ} (S T : List ℕ) (P : List Float) {us : List ℕ} {vs : List Float} (s : ℕ) → us ≡ entries S T s → vs ≡ entries S P s → get_or S (s + 1) 0 ≤ length T
    → ((i : ℕ) → i < length us → Light n us vs i) → LightRow n S T P s
light_part {n} S T P {us} {vs} s x y l f i h k =
    let j = i - get_or S s 0 in
    let (p, q, r) = f j (entry_in S T s i x l h k) in
    let e : get_or us j 0 ≡ get_or T i 0 = ap (λ (u : List ℕ). get_or u j 0) x ∙ entry_at S T 0 s i h k in
    let g : get_or vs j nan ≡ get_or P i nan = ap (λ (u : List Float). get_or u j nan) y ∙ entry_at S P nan s i h k in
    (subst (λ (z : ℕ). z < n) e p, subst Formed g q, subst (λ (z : Float). is_share z ≡ true) g r)

pub quiet_parts : (S T : List ℕ) {us vs : List ℕ} {X : ℕ → ℕ → Type 0} (s t : ℕ) → us ≡ entries S T s → vs ≡ entries S T t → get_or S (s + 1) 0 ≤ length T → get_or S (t + 1) 0 ≤ length T → 0 < length us → 0 < length vs
    → ((i k : ℕ) → i < length us → k < length vs → X (get_or us i 0) (get_or vs k 0)) → Quiet S T X s t
quiet_parts S T {us} {vs} {X} s t x y l m h k f =
    let e = ap length x in
    let g = ap length y in
    let p = length-slice (get_or S s 0) (get_or S (s + 1) 0) T l in
    let q = length-slice (get_or S t 0) (get_or S (t + 1) 0) T m in
    record { some = omega arith; more = omega arith; at = at }
  where
    at : (i k : ℕ) → get_or S s 0 ≤ i → i < get_or S (s + 1) 0 → get_or S t 0 ≤ k → k < get_or S (t + 1) 0 → X (get_or T i 0) (get_or T k 0)
    at i k a b c d =
        let u : get_or us (i - get_or S s 0) 0 ≡ get_or T i 0 = ap (λ (z : List ℕ). get_or z (i - get_or S s 0) 0) x ∙ entry_at S T 0 s i a b in
        let v : get_or vs (k - get_or S t 0) 0 ≡ get_or T k 0 = ap (λ (z : List ℕ). get_or z (k - get_or S t 0) 0) y ∙ entry_at S T 0 t k c d in
        subst (λ (z : ℕ). X z (get_or T k 0)) u (subst (X (get_or us (i - get_or S s 0) 0)) v (f (i - get_or S s 0) (k - get_or S t 0) (entry_in S T s i x l a b) (entry_in S T t k y m c d)))

-- ---- a flow test

module _ {n : ℕ} {S T : List ℕ} {P : List Float} (F : RowsFit n S T P) where
  row_fits_lem : (s : ℕ) → s < n → row_fits (entries S T s) (entries S P s) ≡ true
  row_fits_lem s h =
      let a = get_or S s 0 in
      let b = get_or S (s + 1) 0 in
      let t = length-slice a b T (F.targets_long s h) in
      let p = length-slice a b P (F.probs_long s h) in
      let w = F.short s h in
      let few : leb (length (entries S T s)) 31 ≡ true = le-leb (length (entries S T s)) 31 (omega arith) in
      let same : eqb (length (entries S P s)) (length (entries S T s)) ≡ true = eq-eqb (length (entries S P s)) (length (entries S T s)) (p ∙ sym t) in
      sym (and_second _ _ true few (and_second _ _ true same (sym (F.range s h))))

  -- two rows of the lists, and the definition's run between them
  abbrev answer_to : List Bool → ℕ → ℕ → Result Flow ℕ
  answer_to R s t = let x = run_between n R (row_in S T P s) (row_in S T P t) in Ok (record { flow = x.total; phases = length x.phases; pushes = all_pushes x.phases })

  -- the answer of the flow test between two rows is that run's, against the bytes of a packed relation
  pub passed_in : (store : List ℕ) (R : List Bool) → store ≡ packed R → (s t : ℕ) → s < n → t < n
      → flow_between (entries S T s) (entries S P s) (entries S T t) (entries S P t) n (relation_of store) ≡ answer_to R s t
  passed_in store R z s t h k =
      let us = entries S T s in
      let vs = entries S P s in
      let ts = entries S T t in
      let ws = entries S P t in
      between_packed us vs ts ws n store R z
      ∙ ap (λ (b : Bool). (settled b (run_between n R (jumps_of us vs) (jumps_of ts ws)) []).answer) (all_fit us vs ts ws n F.few (row_fits_lem s h) (row_fits_lem t k))

  -- whether it is enough is the definition's test
  pub reached_in : (need : Float) (store : List ℕ) (R : List Bool) → store ≡ packed R → (s t : ℕ) → s < n → t < n
      → reaches (entries S T s) (entries S P s) (entries S T t) (entries S P t) n (relation_of store) need ≡ test_in n S T P need R s t
  reached_in need store R z s t h k =
      let us = entries S T s in
      let vs = entries S P s in
      let ts = entries S T t in
      let ws = entries S P t in
      sym (answer_reaches need (fits us vs ts ws n) (run_between n (relation_of store) (jumps_of us vs) (jumps_of ts ws))) ∙ ap (at_least need) (passed_in store R z s t h k)

  -- both ways
  pub reached_both : (need : Float) (store : List ℕ) (R : List Bool) → store ≡ packed R → (s t : ℕ) → s < n → t < n
      → both_reach (entries S T s) (entries S P s) (entries S T t) (entries S P t) n (relation_of store) need ≡ (test_in n S T P need R s t && test_in n S T P need R t s)
  reached_both need store R z s t h k = rw (reached_in need store R z s t h k, reached_in need store R z t s k h)

  -- a row of few targets takes few places
  few : (s : ℕ) → s < n → length (entries S T s) ≤ row_most → get_or S (s + 1) 0 ≤ get_or S s 0 + row_most
  few s h a = let e = length-slice (get_or S s 0) (get_or S (s + 1) 0) T (F.targets_long s h) in omega arith

  -- where an answer is plenty, both tests pass
  pub ample_in : (need : Float) (plenty : Option Float) → IfSome plenty (Plenty n S T P need) → (store : List ℕ) (R : List Bool) → store ≡ packed R → Even n store → (s t : ℕ) → s < n → t < n
      → (x : Float) → plenty ≡ Some x → length (entries S T s) ≤ row_most → length (entries S T t) ≤ row_most → test_in n S T P x R s t ≡ true → (test_in n S T P need R s t ≡ true) × (test_in n S T P need R t s ≡ true)
  ample_in need plenty K store R z E s t h k x e a b p = subst (λ (o : Option Float). IfSome o (Plenty n S T P need)) e K R (even_symmetric n store R z E) s t h k (few s h a) (few t k b) p

  -- so they do where the flow is
  pub plenty_in : (need : Float) (plenty : Option Float) → IfSome plenty (Plenty n S T P need) → (here : Option Float) (store : List ℕ) (R : List Bool) → store ≡ packed R → Even n store → (s t : ℕ) → Between (length (entries S T s)) (length (entries S T t)) plenty here → s < n → t < n
      → IsSomeAnd here (λ x. reaches (entries S T s) (entries S P s) (entries S T t) (entries S P t) n (relation_of store) x ≡ true) → (test_in n S T P need R s t ≡ true) × (test_in n S T P need R t s ≡ true)
  plenty_in need plenty K (Some x) store R z E s t (e, a, b) h k p = ample_in need plenty K store R z E s t h k x e a b (sym (reached_in x store R z s t h k) ∙ p)
  plenty_in need plenty K None store R z E s t B h k p = absurd p

-- what `is_some_and` was told, where it answers true
pub some_true : {F : Float → Type 0} (o : Option Float) {b : Bool} → MatchOption o (b ≡ false) F → b ≡ true → (x : Float) × (o ≡ Some x) × F x
some_true (Some x) k e = (x, refl, k)
some_true None k e = absurd (false≢true (sym k ∙ e))

-- what is known of a flow test, of the definition's
pub known_test : {X : List Bool → Type 0} (t : Test) (need : Float) (f : List Bool → Bool) (known : Option Bool) → MatchOption known (test_lacks t need ≡ true) (λ passes. passes ≡ test_reaches t need) → ((R : List Bool) → X R → test_reaches t need ≡ f R) → IfSome known (λ passes. (R : List Bool) → X R → f R ≡ passes)
known_test t need f (Some passes) v h = λ R e. sym (v ∙ h R e)
known_test t need f None v h = tt

-- and of the one back
pub known_judged : (t : Test) (need : Float) (here : Option Float) {f b : Bool} (w : Ways) → Known t need here w → test_both t need ≡ (f && b) → test_reaches t need ≡ f → (IsSomeAnd here (λ x. test_reaches t x ≡ true) → (f ≡ true) × (b ≡ true)) → Judged f b w
known_judged t need here (ways.Both passes) k e g h = sym (k ∙ e)
known_judged t need here ways.Plenty k e g h = h k
known_judged t need here ways.Forth k e g h = sym g ∙ k.0
known_judged t need here ways.Unknown k e g h = tt

pub first_fails : (a b : Bool) → a ≡ false → false ≡ (a && b)
first_fails a b h = ap (λ (x : Bool). x && b) (sym h)

-- ---- the links of a flow test in rows

module _ {n : ℕ} {S T : List ℕ} {P : List Float} (F : RowsFit n S T P) where
  -- so many targets a row has
  pub row_count : (s : ℕ) → s < n → length (entries S T s) ≡ get_or S (s + 1) 0 - get_or S s 0
  row_count s h = length-slice (get_or S s 0) (get_or S (s + 1) 0) T (F.targets_long s h)

  -- where the links of the test were written into rows with room for all, the run on a network that is filled from them is the definition's test
  pub laid_test : (store : List ℕ) (s t : ℕ) → s < n → t < n → (h : List ℕ) (c : List Float) → length h ≡ 2046 → length c ≡ 2046
      → {o : Option ℕ} {h' : List ℕ} {c' : List Float} → Written (entries S T s) (entries S P s) (entries S T t) (entries S P t) n (relation_of store) h c o h' c'
      → (k x y z : ℕ) → k ≡ unwrap_or o 0 → x ≡ length (entries S T s) + length (entries S T t) + 2 → y ≡ length (entries S T s) + length (entries S T t) → z ≡ length (entries S T s) + length (entries S T t) + 1
      → (N : FlowNetwork) → length N.links ≡ 2176 → length N.list ≡ 2176 → (p : List Float) → length p ≡ 2046
      → (need : Float) (R : List Bool) → store ≡ packed R → test_in n S T P need R s t ≡ at_least need (flow_rows N h' c' p k x y z).answer
  laid_test store s t i j h c lh lc {o} {h'} {c'} w k x y z ek ex ey ez N whole places p lp need R e =
      let us = entries S T s in
      let vs = entries S P s in
      let ts = entries S T t in
      let ws = entries S P t in
      let f = all_fit us vs ts ws n F.few (row_fits_lem F s i) (row_fits_lem F t j) in
      let G = fit us vs ts ws n f in
      let q = 2 * (length us + length ts + length us * length ts) in
      let few = few_links (length us) (length ts) G.left.few G.right.few in
      let rooms : (leb q (length h) && leb q (length c)) ≡ true = ap (λ (b : Bool). b && leb q (length c)) (le-leb q (length h) (omega arith)) ∙ le-leb q (length c) (omega arith) in
      let (d, L) = laid us vs ts ws n store h c w f rooms in
      let m = L.heads_in in
      let g = L.heads_size in
      let v = length (heads (links_of n (relation_of store) (jumps_of us vs) (jumps_of ts ws))) in
      let ev : k ≡ v = ek ∙ ap (λ (r : Option ℕ). unwrap_or r 0) d in
      sym (
      ap (λ (k : ℕ). at_least need (flow_rows N h' c' p k x y z).answer) ev
      ∙ ap (λ (x : ℕ). at_least need (flow_rows N h' c' p v x y z).answer) ex
      ∙ ap (λ (y : ℕ). at_least need (flow_rows N h' c' p v (length us + length ts + 2) y z).answer) ey
      ∙ ap (λ (z : ℕ). at_least need (flow_rows N h' c' p v (length us + length ts + 2) (length us + length ts) z).answer) ez
      ∙ ap (at_least need) (rows_between store L N whole places p (omega arith) ∙ passed_in F store R e s t i j)
      )

-- ---- a flow test as code makes it

module _ (rows : Rows) (memory : Memory) (s t : ℕ) (X : Test) (T : TestOf rows memory s t X) where
  -- what holds of its rows holds of those of the lists
  of_lists : (P : List ℕ → List Float → List ℕ → List Float → ℕ → List ℕ → Type 0) → P X.left.targets.now X.left.rates.now X.right.targets.now X.right.rates.now X.states X.relation.now
      → P (entries rows.starts.now rows.targets.now s) (entries rows.starts.now rows.probs.now s) (entries rows.starts.now rows.targets.now t) (entries rows.starts.now rows.probs.now t) (states_of rows) memory.relation.now
  of_lists P p = rw (T.0, T.1, T.2, T.3, T.4, T.5) at p

  -- the test back
  pub test_back : {Y : Test} → (Y.left ≡ X.right) × (Y.right ≡ X.left) × (Y.states ≡ X.states) × (Y.relation ≡ X.relation) → TestOf rows memory t s Y
  test_back (l, r, n, b) = (rw l T.2, rw l T.3, rw r T.0, rw r T.1, n ∙ T.4, rw b T.5)

  module _ (p : Paired rows s t) where
    -- whether its flow is enough is the definition's test
    pub tested : (need : Float) (R : List Bool) → memory.relation.now ≡ packed R → test_reaches X need ≡ passes_in rows need R s t
    tested need R e = of_lists (λ us vs ts ws n l. test_reaches X need ≡ reaches us vs ts ws n (relation_of l) need) refl ∙ reached_in p.0 need memory.relation.now R e s t p.1 p.2

    -- what is known of it and of the one back
    pub judged : (need : Float) (plenty here : Option Float) (w : Ways) → Enough rows need plenty → Even (states_of rows) memory.relation.now → Between (length X.left.targets.now) (length X.right.targets.now) plenty here → Known X need here w
        → (R : List Bool) → memory.relation.now ≡ packed R → Judged (passes_in rows need R s t) (passes_in rows need R t s) w
    judged need plenty here w K E b k R e =
        known_judged X need here w k
        (of_lists (λ us vs ts ws n l. test_both X need ≡ both_reach us vs ts ws n (relation_of l) need) refl ∙ reached_both p.0 need memory.relation.now R e s t p.1 p.2)
        (tested need R e)
        (λ h. plenty_in p.0 need plenty K here memory.relation.now R e E s t (of_lists (λ us vs ts ws n l. Between (length us) (length ts) plenty here) b) p.1 p.2
        (of_lists (λ us vs ts ws n l. IsSomeAnd here (λ x. reaches us vs ts ws n (relation_of l) x ≡ true)) h))

    -- its links, where they were written into rows with room for all
    pub laid_of : (h : List ℕ) (c : List Float) → length h ≡ 2046 → length c ≡ 2046
        → {o : Option ℕ} {h' : List ℕ} {c' : List Float} → Written X.left.targets.now X.left.rates.now X.right.targets.now X.right.rates.now X.states (relation_of X.relation.now) h c o h' c'
        → (k x y z : ℕ) → k ≡ unwrap_or o 0 → x ≡ length X.left.targets.now + length X.right.targets.now + 2 → y ≡ length X.left.targets.now + length X.right.targets.now → z ≡ length X.left.targets.now + length X.right.targets.now + 1
        → (N : FlowNetwork) → length N.links ≡ 2176 → length N.list ≡ 2176 → (costs : List Float) → length costs ≡ 2046
        → (need : Float) (R : List Bool) → memory.relation.now ≡ packed R → passes_in rows need R s t ≡ at_least need (flow_rows N h' c' costs k x y z).answer
    laid_of h c lh lc {o} {h'} {c'} w k x y z ek ex ey ez =
        let l = ap length T.0 in
        let r = ap length T.2 in
        laid_test p.0 memory.relation.now s t p.1 p.2 h c lh lc (of_lists (λ us vs ts ws n b. Written us vs ts ws n (relation_of b) h c o h' c') w) k x y z ek (omega arith) (omega arith) (omega arith)

-- the links of the test that is asked for, the one back or not
pub laid_asked : (rows : Rows) (memory : Memory) (a : Asked) (X : Test) → (a.back ≡ false → TestOf rows memory a.s a.t X) → (a.back ≡ true → TestOf rows memory a.t a.s X) → Paired rows a.s a.t
    → (h : List ℕ) (c : List Float) → length h ≡ 2046 → length c ≡ 2046
    → {o : Option ℕ} {h' : List ℕ} {c' : List Float} → Written X.left.targets.now X.left.rates.now X.right.targets.now X.right.rates.now X.states (relation_of X.relation.now) h c o h' c'
    → (k x y z : ℕ) → k ≡ unwrap_or o 0 → x ≡ length X.left.targets.now + length X.right.targets.now + 2 → y ≡ length X.left.targets.now + length X.right.targets.now → z ≡ length X.left.targets.now + length X.right.targets.now + 1
    → (N : FlowNetwork) → length N.links ≡ 2176 → length N.list ≡ 2176 → (costs : List Float) → length costs ≡ 2046 → Answers rows memory a (flow_rows N h' c' costs k x y z).answer
laid_asked rows memory a X forth back p h c lh lc w k x y z ek ex ey ez N i j costs l need R e = (
  λ q. laid_of rows memory a.s a.t X (forth q) p h c lh lc w k x y z ek ex ey ez N i j costs l need R e,
  λ q. laid_of rows memory a.t a.s X (back q) (p.0, p.2, p.1) h c lh lc w k x y z ek ex ey ez N i j costs l need R e,
)
