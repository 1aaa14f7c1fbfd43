-- Sweeps resumed at a place: each test of a pair, the end of a row and the end of a sweep lead from place to place as the definition goes on.
use mathlib.Core.Path.{◌≡◌, refl, sym, ap, subst, subst⁻¹, ◌∙◌}
use Prim.Native.Nat.{ℕ, zero, suc, ◌+◌, ◌-◌, ◌*◌, ◌≤◌, ◌<◌}
use mathlib.Core.Bool.{Bool, true, false, ◌&&◌, not, false≢true}
use mathlib.Core.List.{List}
use mathlib.Core.Logic.{◌⊎◌, inl, inr}
use native.Mathlib.Omega.{arith}
use native.Mathlib.Numerals.{add-one}
use native.Mathlib.Nat.{mul-le-mul_right, suc-mul}
use lib.Ieee.{Float, nan}
use lib.ListN.{length, get_or}
use Rattle.std.specs.Prelude.{⊤, Option, IfSome, Result, Ok, Err}
use Rattle.std.specs.Result.{IsErrAnd}
use Rattle.numbers.specs.Real.{is_zero}
use Rattle.numbers.specs.Bits.{packed, unpack, bit_at, cleared}
use Rattle.numbers.proofs.Bools.{one_if, lt_or_ge, and_f}
use Rattle.numbers.proofs.Packed.{unpack_packed}
use Rattle.epsdelta_theory.specs.Relation.{holds, clear}
use Rattle.epsdelta_theory.specs.Sweeps.{Task, Run, strike, after_back, after_forth, test_pair, turn, sweep_row, sweep_rows, sweep, sweeps}
use Rattle.epsdelta_theory.proofs.Pairs.{count, entry_in, clear_count, clear_length, packed_holds, packed_cleared}
use Rattle.epsdelta_theory.proofs.Sweeps.{begun, sweeps_more, sweeps_end}
use Rattle.epsdelta_theory.proofs.TasksIn.{RowsFit, SweepsIn, Stored, test_in, RunsTo}
use Rattle.epsdelta_theory.proofs.Unchanged.{Noted, noted, noted_next, noted_strike, noted_row, noted_again, noted_start}
use Rattle.flow_duality.proofs.Plenty.{Plenty, Even, even_strike}
use Rattle.flow_duality.proofs.Places.{row_from, rows_from, ending, from_turn, At, Bytes, standing, Held, room, weight, Moves}
use Rattle.flow_links.proofs.RowsRead.{states_of}
use Rattle.epsdelta_sweeps.specs.declared.place.Asked.{Asked}
use Rattle.epsdelta_sweeps.specs.declared.place.Place.{Place}
use Rattle.epsdelta_sweeps.specs.declared.place.Terms.{Terms}
use Rattle.epsdelta_sweeps.specs.declared.changes.Memory.{Memory}
use Rattle.epsdelta_sweeps.specs.Leading.{Moving, FromTurn, ToEnd}
use Rattle.epsdelta_sweeps.proofs.Noting.{noted_absent, noted_no_exit, noted_as}

-- ---- what the definition still does

row_more : (n s : ℕ) (Q : Task) (t : ℕ) → t < n → (y : Run) → row_from n s Q t y ≡ row_from n s Q (t + 1) (turn Q s t y)
unfolding sweep_row
row_more n s Q t h y =
    let e : n - t ≡ suc (n - suc t) = omega arith in
    ap (λ (m : ℕ). sweep_row Q m s t y) e ∙ ap (λ (u : ℕ). sweep_row Q (n - u) s u (turn Q s t y)) (sym (add-one t))

row_stop : (n s : ℕ) (Q : Task) (t : ℕ) → n ≤ t → (y : Run) → row_from n s Q t y ≡ y
unfolding sweep_row
row_stop n s Q t h y = let e : n - t ≡ 0 = omega arith in ap (λ (m : ℕ). sweep_row Q m s t y) e

rows_stop : (n : ℕ) (Q : Task) (s : ℕ) → n ≤ s → (y : Run) → rows_from n Q s y ≡ y
unfolding sweep_rows
rows_stop n Q s h y = let e : n - s ≡ 0 = omega arith in ap (λ (m : ℕ). sweep_rows Q m s y) e

rows_next : (n : ℕ) (Q : Task) → Q.states ≡ n → (s : ℕ) → s < n → (y : Run) → rows_from n Q s y ≡ rows_from n Q (s + 1) (row_from n s Q (s + 1) y)
unfolding sweep_rows
rows_next n Q k s h y =
    let e : n - s ≡ suc (n - suc s) = omega arith in
    ap (λ (m : ℕ). sweep_rows Q m s y) e
    ∙ ap (λ (m : ℕ). sweep_rows Q (n - suc s) (suc s) (sweep_row Q (m - suc s) s (suc s) y)) k
    ∙ ap (λ (u : ℕ). sweep_rows Q (n - u) u (sweep_row Q (n - u) s u y)) (sym (add-one s))

-- a row, and those after it
rows_more : (n : ℕ) (Q : Task) → Q.states ≡ n → (s : ℕ) (y : Run) → rows_from n Q s y ≡ rows_from n Q (s + 1) (row_from n s Q (s + 1) y)
rows_more n Q k s y = pick (lt_or_ge s n)
  where
    pick : (s < n) ⊎ (n ≤ s) → rows_from n Q s y ≡ rows_from n Q (s + 1) (row_from n s Q (s + 1) y)
    pick (inl h) = rows_next n Q k s h y
    pick (inr h) = rows_stop n Q s h y ∙ sym (rows_stop n Q (s + 1) (omega arith) (row_from n s Q (s + 1) y) ∙ row_stop n s Q (s + 1) (omega arith) y)

-- what comes after a sweep
abbrev after : Task → ℕ → Run → Run
after Q k w = ending w.struck Q k w

sweeps_after : (Q : Task) (k : ℕ) (x : Run) → sweeps Q (suc k) x ≡ after Q k (sweep Q x)
sweeps_after Q k x = pick (sweep Q x).struck refl
  where
    pick : (b : Bool) → (sweep Q x).struck ≡ b → sweeps Q (suc k) x ≡ after Q k (sweep Q x)
    pick true e = sweeps_more Q k x e ∙ ap (λ (b : Bool). ending b Q k (sweep Q x)) (sym e)
    pick false e = sweeps_end Q k x e ∙ ap (λ (b : Bool). ending b Q k (sweep Q x)) (sym e)

sweep_is : (n : ℕ) (Q : Task) → Q.states ≡ n → (x : Run) → rows_from n Q 0 (begun x) ≡ sweep Q x
unfolding sweep
sweep_is n Q K x = let e : n - 0 ≡ n = omega arith in ap (λ (m : ℕ). sweep_rows Q m 0 (begun x)) (e ∙ sym K)

module _ (n : ℕ) (Q : Task) (K : Q.states ≡ n) (k : ℕ) where
  from_next : (s t : ℕ) → t < n → (y : Run) → from_turn n Q k s t y ≡ from_turn n Q k s (t + 1) (turn Q s t y)
  from_next s t h y = ap (λ (w : Run). after Q k (rows_from n Q (s + 1) w)) (row_more n s Q t h y)

  from_row : (s t : ℕ) → n ≤ t → (y : Run) → from_turn n Q k s t y ≡ from_turn n Q k (s + 1) (s + 1 + 1) y
  from_row s t h y = ap (λ (w : Run). after Q k (rows_from n Q (s + 1) w)) (row_stop n s Q t h y) ∙ ap (after Q k) (rows_more n Q K (s + 1) y)

  -- nothing is left of a sweep
  from_end : (s t : ℕ) → n ≤ s → n ≤ t → (y : Run) → from_turn n Q k s t y ≡ after Q k y
  from_end s t h i y = ap (after Q k) (rows_stop n Q (s + 1) (omega arith) (row_from n s Q t y) ∙ row_stop n s Q t i y)

  from_start : (x : Run) → from_turn n Q k 0 1 (begun x) ≡ sweeps Q (suc k) x
  from_start x = ap (after Q k) (sym (rows_more n Q K 0 (begun x)) ∙ sweep_is n Q K x) ∙ sym (sweeps_after Q k x)

-- ---- the turn of the definition

module _ (Q : Task) (s t : ℕ) (x : Run) where
  untested : (holds Q.states x.relation s t && not (Q.no_exit s)) ≡ false → turn Q s t x ≡ x
  unfolding turn test_pair
  untested h = ap (λ (b : Bool). test_pair Q b s t x) h

  tested : (holds Q.states x.relation s t && not (Q.no_exit s)) ≡ true → turn Q s t x ≡ after_forth Q (Q.test x.relation s t) s t x
  unfolding turn test_pair
  tested h = ap (λ (b : Bool). test_pair Q b s t x) h

  without_exit : Q.no_exit s ≡ true → turn Q s t x ≡ x
  without_exit e = untested (pick (holds Q.states x.relation s t))
    where
      pick : (b : Bool) → (b && not (Q.no_exit s)) ≡ false
      pick true = ap not e
      pick false = refl

  without_pair : holds Q.states x.relation s t ≡ false → turn Q s t x ≡ x
  without_pair e = untested (ap (λ (b : Bool). b && not (Q.no_exit s)) e)

-- ---- a run at a place

module _ (Q : Task) (n : ℕ) {E : List Float} {S T : List ℕ} {P : List Float} {need : Float} (K : SweepsIn Q n E S T P need) (z : Run) (store : List ℕ) (s t : ℕ) (struck : Bool) where
  stands : (y : Run) → Stored y store struck → holds Q.states y.relation s t ≡ bit_at store (s * n + t)
  stands y Y =
      sym (packed_holds Q.states y.relation s t)
      ∙ ap (λ (l : List ℕ). bit_at l (s * Q.states + t)) (sym Y.0) ∙ ap (λ (m : ℕ). bit_at store (s * m + t)) K.states

  at_next : t < n → (a : At n Q z store s t false struck false) → turn Q s t a.run ≡ a.run → At n Q z store s (t + 1) false struck false
  at_next h a e = record {
    run = a.run;
    more = a.more;
    stored = a.stored;
    last = a.last;
    rest = ap (from_turn n Q a.more s (t + 1)) (sym e) ∙ sym (from_next n Q K.states a.more s t h a.run) ∙ a.rest;
  }

  at_asks : s < n → t < n → is_zero (get_or E s nan) ≡ false → bit_at store (s * n + t) ≡ true → At n Q z store s t false struck false → At n Q z store s t false struck true
  at_asks hs ht e h a =
      let y = a.run in
      let g : (holds Q.states y.relation s t && not (Q.no_exit s)) ≡ true = ap (λ (b : Bool). b && not (Q.no_exit s)) (stands y a.stored ∙ h) ∙ ap not (sym (K.no_exit s hs) ∙ e) in
      record {
        run = y;
        more = a.more;
        stored = a.stored;
        last = a.last;
        rest = ap (from_turn n Q a.more s (t + 1)) (sym (tested Q s t y g)) ∙ sym (from_next n Q K.states a.more s t ht y) ∙ a.rest;
      }

  at_forth : (a : At n Q z store s t false struck true) → Q.test a.run.relation s t ≡ true → At n Q z store s t true struck true
  unfolding after_forth
  at_forth a f = record {
    run = a.run;
    more = a.more;
    stored = a.stored;
    last = a.last;
    rest = ap (λ (b : Bool). from_turn n Q a.more s (t + 1) (after_forth Q b s t a.run)) (sym f) ∙ a.rest;
  }

  at_back : (a : At n Q z store s t true struck true) → Q.test a.run.relation t s ≡ true → At n Q z store s (t + 1) false struck false
  unfolding after_back
  at_back a f = record {
    run = a.run;
    more = a.more;
    stored = a.stored;
    last = a.last;
    rest = ap (λ (b : Bool). from_turn n Q a.more s (t + 1) (after_back Q b s t a.run)) (sym f) ∙ a.rest;
  }

  -- a pair that stands is struck
  at_strike : {store' : List ℕ} (back : Bool) → bit_at store (s * n + t) ≡ true → store' ≡ cleared (cleared store (s * n + t)) (t * n + s)
      → (y : Run) (k : ℕ) → Stored y store struck → count y.relation + one_if struck ≤ k → from_turn n Q k s (t + 1) (strike Q back s t y) ≡ z → At n Q z store' s (t + 1) false true false
  unfolding strike
  at_strike back h e y k Y l r = record {
    run = strike Q back s t y;
    more = k;
    stored = (
      e ∙ ap (λ (l : List ℕ). cleared (cleared l (s * n + t)) (t * n + s)) Y.0 ∙ packed_cleared n y.relation s t ∙ ap (λ (m : ℕ). packed (clear m y.relation s t)) (sym K.states),
      refl,
    );
    last = (let c = clear_count Q.states y.relation s t (stands y Y ∙ h) in omega arith);
    rest = r;
  }

  at_forth_fails : {store' : List ℕ} → bit_at store (s * n + t) ≡ true → store' ≡ cleared (cleared store (s * n + t)) (t * n + s)
      → (a : At n Q z store s t false struck true) → Q.test a.run.relation s t ≡ false → At n Q z store' s (t + 1) false true false
  unfolding after_forth
  at_forth_fails h e a f = at_strike false h e a.run a.more a.stored a.last (ap (λ (b : Bool). from_turn n Q a.more s (t + 1) (after_forth Q b s t a.run)) (sym f) ∙ a.rest)

  at_back_fails : {store' : List ℕ} → bit_at store (s * n + t) ≡ true → store' ≡ cleared (cleared store (s * n + t)) (t * n + s)
      → (a : At n Q z store s t true struck true) → Q.test a.run.relation t s ≡ false → At n Q z store' s (t + 1) false true false
  unfolding after_back
  at_back_fails h e a f = at_strike true h e a.run a.more a.stored a.last (ap (λ (b : Bool). from_turn n Q a.more s (t + 1) (after_back Q b s t a.run)) (sym f) ∙ a.rest)

  at_row : n ≤ t → At n Q z store s t false struck false → At n Q z store (s + 1) (s + 1 + 1) false struck false
  at_row h a = record { run = a.run; more = a.more; stored = a.stored; last = a.last; rest = sym (from_row n Q K.states a.more s t h a.run) ∙ a.rest }

  at_over : {back : Bool} → n ≤ s → n ≤ t → struck ≡ false → At n Q z store s t back struck false → store ≡ packed z.relation
  at_over h i e a =
      let y = a.run in
      let k = a.more in
      a.stored.0 ∙ ap (λ (w : Run). packed w.relation) (sym (from_end n Q K.states k s t h i y ∙ ap (λ (b : Bool). ending b Q k y) (sym a.stored.1 ∙ e)) ∙ a.rest)

  again : n ≤ s → n ≤ t → struck ≡ true → (y : Run) (k : ℕ) → Stored y store struck → count y.relation + one_if struck ≤ k → from_turn n Q k s t y ≡ z → At n Q z store 0 1 false false false
  again h i e y zero Y l r = let o : one_if struck ≡ 1 = ap one_if e in absurd (omega arith)
  again h i e y (suc k) Y l r = record {
    run = begun y;
    more = k;
    stored = (Y.0, refl);
    last = (let o : one_if struck ≡ 1 = ap one_if e in omega arith);
    rest = from_start n Q K.states k y ∙ sym (from_end n Q K.states (suc k) s t h i y ∙ ap (λ (b : Bool). ending b Q (suc k) y) (sym Y.1 ∙ e)) ∙ r;
  }

  at_again : n ≤ s → n ≤ t → struck ≡ true → At n Q z store s t false struck false → At n Q z store 0 1 false false false
  at_again h i e a = again h i e a.run a.more a.stored a.last a.rest

at_start : (Q : Task) (n : ℕ) {E : List Float} {S T : List ℕ} {P : List Float} {need : Float} → SweepsIn Q n E S T P need → {store : List ℕ}
    → (x : Run) → store ≡ packed x.relation → (k : ℕ) → count x.relation < k → At n Q (sweeps Q k x) store 0 1 false false false
at_start Q n K x e zero h = absurd (omega arith)
at_start Q n K x e (suc k) h = record { run = begun x; more = k; stored = (e, refl); last = (omega arith); rest = from_start n Q K.states k x }

-- ---- what falls

standing_is : (n : ℕ) (store : List ℕ) (R : List Bool) → store ≡ packed R → length R ≡ n * n → standing n store ≡ count R
unfolding standing
standing_is n store R e z = ap (λ (l : List ℕ). count (unpack l (n * n) 0)) e ∙ ap (λ (m : ℕ). count (unpack (packed R) m 0)) (sym z) ∙ ap count (unpack_packed R)

lower : (a b r x y c d : ℕ) → a ≤ b → x + 1 ≤ y → x < r → c ≤ 1 → a + (2 * (r - y) + c) < b + (2 * (r - x) + d)
lower a b r x y c d h i j k = omega arith

no_higher : (a r x y : ℕ) → x ≤ y → a + (2 * (r - y) + 1) < a + (2 * (r - x) + 1) + 1
no_higher a r x y h = omega arith

fewer : (c w r x y : ℕ) → w ≡ 2 * r + 2 → (c + 0) * w + (2 * (r - x) + 1) < (c + 1) * w + y
fewer c w r x y e =
    let f : (c + 1) * w ≡ c * w + w = ap (λ (m : ℕ). m * w) (add-one c) ∙ suc-mul c w in
    let g : c + 0 ≡ c = omega arith in
    let i : (c + 0) * w ≡ c * w = ap (λ (m : ℕ). m * w) g in
    omega arith

entry_low : (n s t : ℕ) → s < n → t < n → s * n + t < room n
entry_low n s t h k = let e = entry_in n s t h k in omega arith

module _ (n : ℕ) (store : List ℕ) where
  -- the next turn of a row
  turn_falls : (s t : ℕ) (back struck : Bool) → s < n → t < n → weight n store s (t + 1) false struck < weight n store s t back struck
  unfolding weight
  turn_falls s t back struck h k =
      let w = (standing n store + one_if struck) * (2 * room n + 2) in
      lower w w (room n) (s * n + t) (s * n + (t + 1)) 1 (one_if (not back)) (omega arith) (omega arith) (entry_low n s t h k) (omega arith)

  -- after a strike
  strike_falls : (store' : List ℕ) (s t : ℕ) (back struck : Bool) → s < n → t < n → standing n store' < standing n store → weight n store' s (t + 1) false true < weight n store s t back struck
  unfolding weight
  strike_falls store' s t back struck h k f =
      let l : standing n store' + 1 ≤ standing n store + one_if struck = omega arith in
      lower ((standing n store' + 1) * (2 * room n + 2)) ((standing n store + one_if struck) * (2 * room n + 2)) (room n) (s * n + t) (s * n + (t + 1)) 1 (one_if (not back))
      (mul-le-mul_right (2 * room n + 2) l) (omega arith) (entry_low n s t h k) (omega arith)

  -- from the test of a pair to the one back
  back_falls : (s t : ℕ) (struck : Bool) → weight n store s t true struck < weight n store s t false struck
  unfolding weight
  back_falls s t struck = omega arith

  row_falls : (s t : ℕ) (struck : Bool) → t ≤ n → weight n store (s + 1) (s + 1 + 1) false struck < weight n store s t false struck + 1
  unfolding weight
  row_falls s t struck h =
      let e : (s + 1) * n ≡ s * n + n = ap (λ (m : ℕ). m * n) (add-one s) ∙ suc-mul s n in
      no_higher ((standing n store + one_if struck) * (2 * room n + 2)) (room n) (s * n + t) ((s + 1) * n + (s + 1 + 1)) (omega arith)

  again_falls : (s t : ℕ) → weight n store 0 1 false false < weight n store s t false true
  unfolding weight
  again_falls s t = fewer (standing n store) (2 * room n + 2) (room n) (0 * n + 1) (2 * (room n - (s * n + t)) + 1) refl

-- ---- from place to place

unasked : {A : Type 0} → false ≡ true → A
unasked e = absurd (false≢true e)

module _ {n : ℕ} {E : List Float} {S T : List ℕ} {P : List Float} {need : Float} {plenty : Option Float} where
  pub moves_start : {store C : List ℕ} {s t : ℕ} {back struck asks : Bool} → Held n E S T P need plenty store C s t back asks
      → Moves n E S T P need plenty store s t back struck asks (weight n store s t back struck + 1) store C s t back struck asks
  moves_start H = record { leads = λ Q K z a. a; held = H; falls = omega arith }

  pub moves_then : {store : List ℕ} {s t : ℕ} {back struck asks : Bool} {w : ℕ} {store₁ C₁ : List ℕ} {s₁ t₁ : ℕ} {back₁ struck₁ asks₁ : Bool} {v : ℕ} {store₂ C₂ : List ℕ} {s₂ t₂ : ℕ} {back₂ struck₂ asks₂ : Bool}
      → Moves n E S T P need plenty store s t back struck asks w store₁ C₁ s₁ t₁ back₁ struck₁ asks₁ → v ≤ weight n store₁ s₁ t₁ back₁ struck₁ + 1
      → Moves n E S T P need plenty store₁ s₁ t₁ back₁ struck₁ asks₁ v store₂ C₂ s₂ t₂ back₂ struck₂ asks₂ → Moves n E S T P need plenty store s t back struck asks w store₂ C₂ s₂ t₂ back₂ struck₂ asks₂
  moves_then M h N = record { leads = λ Q K z a. N.leads Q K z (M.leads Q K z a); held = N.held; falls = (let f = M.falls in let g = N.falls in omega arith) }

-- what a call hands on that asks
pub handed : {A : Type 0} (X : Result A Asked → Type 0) (r : Result A Asked) {a : Asked} → IsErrAnd r (λ b. b ≡ a) → X (Err a) → X r
handed X (Ok x) h p = absurd h
handed X (Err b) h p = subst⁻¹ (λ c. X (Err c)) h p

-- both orders are cleared, and the strike is noted
struck_held : {n : ℕ} {E : List Float} {S T : List ℕ} {P : List Float} {need : Float} {plenty : Option Float} → RowsFit n S T P → {store C : List ℕ} {s t : ℕ} {back : Bool} {store' C' : List ℕ} → Held n E S T P need plenty store C s t back true → store' ≡ cleared (cleared store (s * n + t)) (t * n + s) → C' ≡ noted C s t
    → Held n E S T P need plenty store' C' s (t + 1) false false × (standing n store' < standing n store)
struck_held {n} F {store} {C} {s} {t} {back} {store'} H e f =
    let A = H.asked refl in
    let l = A.apart in
    let k = A.inside in
    let R = H.bytes.0 in
    let p = H.bytes.1 in
    let q = H.bytes.2 in
    let e' : store' ≡ packed (clear n R s t) = e ∙ ap (λ (x : List ℕ). cleared (cleared x (s * n + t)) (t * n + s)) p ∙ packed_cleared n R s t in
    let z : length (clear n R s t) ≡ n * n = clear_length n R s t ∙ q in
    let c = clear_count n R s t (sym (packed_holds n R s t) ∙ ap (λ (x : List ℕ). bit_at x (s * n + t)) (sym p) ∙ A.stands) in
    let x = standing_is n store R p q in
    let y = standing_is n store' (clear n R s t) e' z in
    (record { bytes = (clear n R s t, e', z); noted = noted_as e f (noted_strike F H.noted (omega arith) k l); even = even_strike R p s t (omega arith) k e H.even; enough = H.enough; asked = unasked }, omega arith)

-- how a test ended, against whatever relation the bytes are
abbrev pub Ends : ℕ → List ℕ → List ℕ → List Float → Float → List ℕ → Bool → ℕ → ℕ → Type 0
Ends n S T P need store b u v = (R : List Bool) → store ≡ packed R → test_in n S T P need R u v ≡ b

told : {Q : Task} {n : ℕ} {E : List Float} {S T : List ℕ} {P : List Float} {need : Float} → SweepsIn Q n E S T P need → {store : List ℕ} {struck b : Bool} (u v : ℕ)
    → Ends n S T P need store b u v → u < n → v < n → (y : Run) → Stored y store struck → Q.test y.relation u v ≡ b
told K u v f hu hv y Y = sym (K.test y.relation u v hu hv) ∙ f y.relation Y.0

module _ {n : ℕ} {E : List Float} {S T : List ℕ} {P : List Float} {need : Float} {plenty : Option Float} (F : RowsFit n S T P) {store C : List ℕ} {s t : ℕ} (struck : Bool) where
  -- a turn without a test
  module _ (hs : s < n) (ht : t < n) (H : Held n E S T P need plenty store C s t false false) where
    passed_over : ((Q : Task) → SweepsIn Q n E S T P need → (y : Run) → Stored y store struck → turn Q s t y ≡ y) → Noted n E S T P need store C s (t + 1)
        → Moves n E S T P need plenty store s t false struck false (weight n store s t false struck + 1) store C s (t + 1) false struck false
    passed_over f N = record {
      leads = λ Q K z a. at_next Q n K z store s t struck ht a (f Q K a.run a.stored);
      held = record { bytes = H.bytes; noted = N; even = H.even; enough = H.enough; asked = unasked };
      falls = (let g = turn_falls n store s t false struck hs ht in omega arith);
    }

    pub turn_absent : bit_at store (s * n + t) ≡ false → Moves n E S T P need plenty store s t false struck false (weight n store s t false struck + 1) store C s (t + 1) false struck false
    turn_absent e = passed_over (λ Q K y Y. without_pair Q s t y (stands Q n K y store s t struck y Y ∙ e)) (noted_absent F H.noted e)

    pub turn_no_exit : is_zero (get_or E s nan) ≡ true → Moves n E S T P need plenty store s t false struck false (weight n store s t false struck + 1) store C s (t + 1) false struck false
    turn_no_exit e = passed_over (λ Q K y Y. without_exit Q s t y (sym (K.no_exit s hs) ∙ e)) (noted_no_exit F H.noted e)

    -- a pair that stands and has an exit waits for its test
    pub turn_asks : s < t → is_zero (get_or E s nan) ≡ false → bit_at store (s * n + t) ≡ true → Moves n E S T P need plenty store s t false struck false (weight n store s t false struck + 1) store C s t false struck true
    turn_asks l e h = record {
      leads = λ Q K z a. at_asks Q n K z store s t struck hs ht e h a;
      held = record { bytes = H.bytes; noted = H.noted; even = H.even; enough = H.enough; asked = λ _. record { apart = l; inside = ht; stands = h; forth = λ f. unasked f } };
      falls = omega arith;
    }

  pub forth_passes : Held n E S T P need plenty store C s t false true → Ends n S T P need store true s t → Moves n E S T P need plenty store s t false struck true (weight n store s t false struck) store C s t true struck true
  forth_passes H f =
      let A = H.asked refl in
      let l = A.apart in
      let k = A.inside in
      record {
        leads = λ Q K z a. at_forth Q n K z store s t struck a (told K s t f (omega arith) k a.run a.stored);
        held = record { bytes = H.bytes; noted = H.noted; even = H.even; enough = H.enough; asked = λ _. record { apart = l; inside = k; stands = A.stands; forth = λ _. f } };
        falls = back_falls n store s t struck;
      }

  pub back_passes : Held n E S T P need plenty store C s t true true → Ends n S T P need store true t s → Moves n E S T P need plenty store s t true struck true (weight n store s t true struck) store C s (t + 1) false struck false
  back_passes H f =
      let A = H.asked refl in
      let l = A.apart in
      let k = A.inside in
      let N = H.noted in
      record {
        leads = λ Q K z a. at_back Q n K z store s t struck a (told K t s f k (omega arith) a.run a.stored);
        held = record { bytes = H.bytes; noted = noted_next F N (λ _ _. (A.forth refl N.relation N.bytes, f N.relation N.bytes)); even = H.even; enough = H.enough; asked = unasked };
        falls = turn_falls n store s t true struck (omega arith) k;
      }

  -- both tests pass
  pub both_pass : Held n E S T P need plenty store C s t false true → ((R : List Bool) → store ≡ packed R → (test_in n S T P need R s t ≡ true) × (test_in n S T P need R t s ≡ true))
      → Moves n E S T P need plenty store s t false struck true (weight n store s t false struck) store C s (t + 1) false struck false
  both_pass H p = let N = forth_passes H (λ R q. (p R q).0) in moves_then N (omega arith) (back_passes N.held (λ R q. (p R q).1))

  pub forth_fails : {store' C' : List ℕ} → Held n E S T P need plenty store C s t false true → Ends n S T P need store false s t → store' ≡ cleared (cleared store (s * n + t)) (t * n + s) → C' ≡ noted C s t
      → Moves n E S T P need plenty store s t false struck true (weight n store s t false struck) store' C' s (t + 1) false true false
  forth_fails {store'} H f e g =
      let A = H.asked refl in
      let l = A.apart in
      let k = A.inside in
      let h = struck_held F H e g in
      record {
        leads = λ Q K z a. at_forth_fails Q n K z store s t struck A.stands e a (told K s t f (omega arith) k a.run a.stored);
        held = h.0;
        falls = strike_falls n store store' s t false struck (omega arith) k h.1;
      }

  pub back_fails : {store' C' : List ℕ} → Held n E S T P need plenty store C s t true true → Ends n S T P need store false t s → store' ≡ cleared (cleared store (s * n + t)) (t * n + s) → C' ≡ noted C s t
      → Moves n E S T P need plenty store s t true struck true (weight n store s t true struck) store' C' s (t + 1) false true false
  back_fails {store'} H f e g =
      let A = H.asked refl in
      let l = A.apart in
      let k = A.inside in
      let h = struck_held F H e g in
      record {
        leads = λ Q K z a. at_back_fails Q n K z store s t struck A.stands e a (told K t s f k (omega arith) a.run a.stored);
        held = h.0;
        falls = strike_falls n store store' s t true struck (omega arith) k h.1;
      }

  -- the test that is asked for, whichever
  pub asked_fails : {store' C' : List ℕ} (back : Bool) → Held n E S T P need plenty store C s t back true → (back ≡ false → Ends n S T P need store false s t) → (back ≡ true → Ends n S T P need store false t s)
      → store' ≡ cleared (cleared store (s * n + t)) (t * n + s) → C' ≡ noted C s t → Moves n E S T P need plenty store s t back struck true (weight n store s t back struck) store' C' s (t + 1) false true false
  asked_fails false H f g e c = forth_fails H (f refl) e c
  asked_fails true H f g e c = back_fails H (g refl) e c

  -- a pair that reads nothing noted passes both tests
  pub turn_quiet : s < t → t < n → Held n E S T P need plenty store C s t false false → is_zero (get_or E s nan) ≡ false → bit_at store (s * n + t) ≡ true
      → ((R : List Bool) → store ≡ packed R → (test_in n S T P need R s t ≡ true) × (test_in n S T P need R t s ≡ true))
      → Moves n E S T P need plenty store s t false struck false (weight n store s t false struck + 1) store C s (t + 1) false struck false
  turn_quiet l k H e h p =
      let M = turn_asks (omega arith) k H l e h in
      moves_then M (omega arith) (both_pass M.held p)

  -- its test, or the one back where that passes, is asked for
  pub turn_waits : s < t → t < n → Held n E S T P need plenty store C s t false false → is_zero (get_or E s nan) ≡ false → bit_at store (s * n + t) ≡ true
      → (b : Bool) → (b ≡ true → Ends n S T P need store true s t) → Moves n E S T P need plenty store s t false struck false (weight n store s t false struck + 1) store C s t b struck true
  turn_waits l k H e h false f = turn_asks (omega arith) k H l e h
  turn_waits l k H e h true f = let M = turn_asks (omega arith) k H l e h in moves_then M (omega arith) (forth_passes M.held (f refl))

  -- one of its tests fails, whichever
  pub turn_fails : {store' C' : List ℕ} → s < t → t < n → Held n E S T P need plenty store C s t false false → is_zero (get_or E s nan) ≡ false → bit_at store (s * n + t) ≡ true
      → ((R : List Bool) → store ≡ packed R → (test_in n S T P need R s t && test_in n S T P need R t s) ≡ false)
      → store' ≡ cleared (cleared store (s * n + t)) (t * n + s) → C' ≡ noted C s t
      → Moves n E S T P need plenty store s t false struck false (weight n store s t false struck + 1) store' C' s (t + 1) false true false
  unfolding at_forth
  turn_fails {store'} l k H e h p q c =
      let M = turn_asks (omega arith) k H l e h in
      let x = struck_held F M.held q c in
      record {
        leads = λ Q K z a. let b = at_asks Q n K z store s t struck (omega arith) k e h a in fails Q K z b (test_in n S T P need b.run.relation s t) refl;
        held = x.0;
        falls = (let g = strike_falls n store store' s t false struck (omega arith) k x.1 in omega arith);
      }
    where
      fails : (Q : Task) → SweepsIn Q n E S T P need → (z : Run) → (a : At n Q z store s t false struck true) → (b : Bool) → test_in n S T P need a.run.relation s t ≡ b → At n Q z store' s (t + 1) false true false
      fails Q K z a false f = at_forth_fails Q n K z store s t struck h q a (sym (K.test a.run.relation s t (omega arith) k) ∙ f)
      fails Q K z a true f =
          let R = a.run.relation in
          at_back_fails Q n K z store s t struck h q (at_forth Q n K z store s t struck a (sym (K.test R s t (omega arith) k) ∙ f))
          (sym (K.test R t s k (omega arith)) ∙ and_f (test_in n S T P need R s t) (test_in n S T P need R t s) f (p R a.stored.0))

  pub row_ends_lem : n ≤ t → t ≤ n → Held n E S T P need plenty store C s t false false
      → Moves n E S T P need plenty store s t false struck false (weight n store s t false struck + 1) store C (s + 1) (s + 1 + 1) false struck false
  row_ends_lem h i H = record {
    leads = λ Q K z a. at_row Q n K z store s t struck h a;
    held = record { bytes = H.bytes; noted = noted_row F H.noted h; even = H.even; enough = H.enough; asked = unasked };
    falls = row_falls n store s t struck i;
  }

  -- a sweep that struck is over, and its strikes are those of the sweep before
  pub sweep_ends : n ≤ s → n ≤ t → struck ≡ true → {C' : List ℕ} → length C' ≡ length C → ((u : ℕ) → u < n → get_or C' (2 * u + 1) 0 ≡ get_or C (2 * u) 0) → Held n E S T P need plenty store C s t false false
      → Moves n E S T P need plenty store s t false struck false (weight n store s t false struck) store C' 0 1 false false false
  sweep_ends h i e {C'} z f H = record {
    leads = λ Q K z a. at_again Q n K z store s t struck h i e a;
    held = record { bytes = H.bytes; noted = noted_again F H.noted h C' z f; even = H.even; enough = H.enough; asked = unasked };
    falls = subst⁻¹ (λ (b : Bool). weight n store 0 1 false false < weight n store s t false b) e (again_falls n store s t);
  }

-- the turns of pairs that don't stand
module _ {n : ℕ} {E : List Float} {S T : List ℕ} {P : List Float} {need : Float} {plenty : Option Float} (F : RowsFit n S T P) {store C : List ℕ} {s : ℕ} (struck : Bool) (hs : s < n) where
  turns_over : (d t : ℕ) → t + d ≤ n → ((v : ℕ) → t ≤ v → v < t + d → bit_at store (s * n + v) ≡ false) → Held n E S T P need plenty store C s t false false
      → Moves n E S T P need plenty store s t false struck false (weight n store s t false struck + 1) store C s (t + d) false struck false
  turns_over zero t k f H = let e : t ≡ t + 0 = omega arith in subst (λ (u : ℕ). Moves n E S T P need plenty store s t false struck false (weight n store s t false struck + 1) store C s u false struck false) e (moves_start H)
  turns_over (suc d) t k f H =
      let M = turn_absent F struck hs (omega arith) H (f t (omega arith) (omega arith)) in
      let e : t + 1 + d ≡ t + suc d = omega arith in
      subst (λ (u : ℕ). Moves n E S T P need plenty store s t false struck false (weight n store s t false struck + 1) store C s u false struck false) e
      (moves_then M (omega arith) (turns_over d (t + 1) (omega arith) (λ v h i. f v (omega arith) (omega arith)) M.held))

  pub turns_absent : {t : ℕ} (u : ℕ) → t ≤ u → u ≤ n → ((v : ℕ) → t ≤ v → v < u → bit_at store (s * n + v) ≡ false) → Held n E S T P need plenty store C s t false false
      → Moves n E S T P need plenty store s t false struck false (weight n store s t false struck + 1) store C s u false struck false
  turns_absent {t} u h k f H =
      let e : t + (u - t) ≡ u = omega arith in
      subst (λ (v : ℕ). Moves n E S T P need plenty store s t false struck false (weight n store s t false struck + 1) store C s v false struck false) e
      (turns_over (u - t) t (omega arith) (λ v i j. f v i (omega arith)) H)

-- a sweep from the first pair leaves no more pairs, with one for a strike
pub sweep_falls : (n : ℕ) (store store' : List ℕ) (s t : ℕ) (struck : Bool) → weight n store' s t false struck < weight n store 0 1 false false + 1 → standing n store' + one_if struck ≤ standing n store
unfolding weight
sweep_falls n store store' s t struck h = pick (lt_or_ge (standing n store) (standing n store' + one_if struck))
  where
    a : ℕ
    a = standing n store' + one_if struck

    c : ℕ
    c = standing n store

    w : ℕ
    w = 2 * room n + 2

    pick : (c < a) ⊎ (a ≤ c) → a ≤ c
    pick (inr l) = l
    pick (inl l) =
        let e : (c + 1) * w ≡ c * w + w = ap (λ (m : ℕ). m * w) (add-one c) ∙ suc-mul c w in
        let f : (c + 0) * w ≡ c * w = ap (λ (m : ℕ). m * w) (let z : c + 0 ≡ c = omega arith in z) in
        let g : (c + 1) * w ≤ a * w = mul-le-mul_right w (omega arith) in
        absurd (omega arith)

-- a sweep that struck, and the next
pub sweep_again : {n : ℕ} {E : List Float} {S T : List ℕ} {P : List Float} {need : Float} {plenty : Option Float} → RowsFit n S T P
    → {store : List ℕ} {s t : ℕ} {back struck asks : Bool} {w : ℕ} {store₁ C₁ : List ℕ} {s₁ t₁ : ℕ} {struck₁ : Bool} (C' : List ℕ) {store₂ C₂ : List ℕ} {s₂ t₂ : ℕ} {back₂ struck₂ asks₂ : Bool}
    → Moves n E S T P need plenty store s t back struck asks w store₁ C₁ s₁ t₁ false struck₁ false → n ≤ s₁ → n ≤ t₁ → struck₁ ≡ true
    → length C' ≡ length C₁ → ((u : ℕ) → u < n → get_or C' (2 * u + 1) 0 ≡ get_or C₁ (2 * u) 0)
    → Moves n E S T P need plenty store₁ 0 1 false false false (weight n store₁ 0 1 false false + 1) store₂ C₂ s₂ t₂ back₂ struck₂ asks₂
    → Moves n E S T P need plenty store s t back struck asks w store₂ C₂ s₂ t₂ back₂ struck₂ asks₂
sweep_again F {struck₁ = struck₁} C' M h i k z f N =
    let A = sweep_ends F struck₁ h i k {C' = C'} z f M.held in
    moves_then M (omega arith) (moves_then A (omega arith) N)

-- from a place to the turn of another, and the sweeps from there
pub ended_then : (terms : Terms) (old mid new : Memory) (p q : Place) (b asks : Bool) (w : ℕ) (r : Result ⊤ Asked) → Moving terms old p b asks w mid q.s q.t false q.struck false → ToEnd (FromTurn terms mid q new) (states_of terms.rows) r
    → ToEnd (Moving terms old p b asks w new) (states_of terms.rows) r
ended_then terms old mid new p q b asks w (Ok x) M E = (E.0, E.1, E.2, E.3, moves_then M (omega arith) E.4)
ended_then terms old mid new p q b asks w (Err a) M N = moves_then M (omega arith) N

-- ---- the run

module _ {n : ℕ} {E : List Float} {S T : List ℕ} {P : List Float} {need : Float} {plenty : Option Float} where
  pub held_start : {store C : List ℕ} → Bytes n store → IfSome plenty (Plenty n S T P need) → Even n store → 2 * n < length C → get_or C (2 * n) 0 ≡ 0 → Held n E S T P need plenty store C 0 1 false false
  held_start B p e l f = record { bytes = B; noted = noted_start B.0 B.1 l f; even = e; enough = p; asked = unasked }

  -- past the last pair, after a sweep without a strike, is the end
  pub runs_to : {store₀ store C : List ℕ} {w s t : ℕ} → Moves n E S T P need plenty store₀ 0 1 false false false w store C s t false false false → n ≤ s → n ≤ t → RunsTo n E S T P need store₀ store
  runs_to {store = store} {s = s} {t = t} M h i Q K x q k l = at_over Q n K (sweeps Q k x) store s t false h i refl (M.leads Q K (sweeps Q k x) (at_start Q n K x q k l))
