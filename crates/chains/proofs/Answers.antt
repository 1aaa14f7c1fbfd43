-- Which answer is due of `common_rate`, `uniformise`, `try_lay_chain` and `lay_chain`, and what follows where nothing is refused.
use mathlib.Core.Path.{◌≡◌, refl, sym, ap, subst, ◌∙◌}
use mathlib.Core.Logic.{◌≢◌}
use mathlib.Core.Bool.{Bool, true, false, not, ◌&&◌}
use Prim.Native.Nat.{ℕ, zero, suc, ◌+◌, ◌-◌, ◌≤◌, ◌<◌}
use mathlib.Core.List.{List, [], ◌∷◌, ◌++◌, map}
use native.Mathlib.Omega.{arith}
use lib.Dec.{ltb, eqb}
use lib.Ieee.{Float}
use lib.ListN.{length, take, drop}
use lib.Seq.{length-take-le}
use borrow.Author.Tests.{ltb-false, ne_eqb}
use Rattle.std.specs.Prelude.{Result, Ok, Err}
use Rattle.std.specs.Result.{IsErrAnd, result_unwrap_or}
use Rattle.numbers.specs.Refuse
use Rattle.numbers.specs.Refuse.{check, numbered}
use Rattle.numbers.specs.declared.refusal.Refusal.{Refusal}
use Rattle.numbers.specs.Lists.{span, over}
use Rattle.numbers.specs.Real.{nought, least_observation, greatest_weight}
use Rattle.numbers.specs.Choice.{larger}
use Rattle.numbers.proofs.Bools.{or_f}
use Rattle.numbers.proofs.Refuses.{first, first_hit, first_skip, first_none, check_hit, check_skip, check_none, number_positive, answered_ok}
use Rattle.bisim_core.specs.Data
use Rattle.bisim_core.specs.Data.{Columns}
use Rattle.bisim_core.specs.declared.wlts.Wlts.{Wlts}
use Rattle.chain_theory.specs.Lent.{of_store}
use Rattle.chain_theory.specs.declared.ChainStore.{ChainStore}
use Rattle.bisim_core.specs.declared.ids.StateId.{StateId}
use Rattle.bisim_core.specs.declared.wlts.Shape.{Shape}
use Rattle.bisim_core.specs.Model.{row, model, model_refusal, large, unfit, weights_outside, crowded}
use Rattle.epsdelta_theory.specs.Refusal.{absent, models_refusal}
use Rattle.epsdelta_theory.specs.Bisimilar.{start}
use Rattle.epsdelta_theory.proofs.Rows.{model_length}
use Rattle.parts.specs.Earlier.{earlier}
use Rattle.parts.proofs.Models.{models_number}
use Rattle.chain_theory.specs.Chain.{Chain, exit_rate, greatest_from, greatest_exit, or_one, common_rate, uniformise}
use Rattle.chain_theory.specs.Columns.{ChainColumns, chain_columns, shape_of, columns_of}
use Rattle.chain_theory.specs.Check.{rate_outside, unfitting, cramped}
use Rattle.chain_theory.specs.declared.ChainShape.{ChainShape}
use Rattle.chains.specs.Outcome.{Outcome, Laying, rated, uniformise_refusal, ends, settled, uniformised, lay_refusal, try_lay_chain, laying, layable, lay_if, lay_chain, shape, LaidOut, RowsLaid}
use Rattle.chains.proofs.Rowing.{Made, made_length, equal_columns}

-- ---- `common_rate`

map_map : {A B C : Type 0} (f : B → C) (g : A → B) (l : List A) → map (λ (x : A). f (g x)) l ≡ map f (map g l)
map_map f g [] = refl
map_map f g (x ∷ l) = ap (λ (r : List _). f (g x) ∷ r) (map_map f g l)

pub greatest_of : (S : Shape) (M : Columns) (q : Float) → q ≡ greatest_from nought (map (λ (s : ℕ). exit_rate (row M s)) (span 0 S.states)) → q ≡ greatest_exit (model S M)
unfolding greatest_exit model
greatest_of S M q e = e ∙ ap (greatest_from nought) (map_map exit_rate (row M) (span 0 S.states))

module _ (SL : Shape) (ML : Columns) (SR : Shape) (MR : Columns) (x y n : ℕ) (l : x ≡ model_refusal SL ML) (r : y ≡ model_refusal SR MR) (f : n ≡ earlier x y) where
  pub number : n ≡ models_refusal SL ML SR MR 0
  number = models_number SL ML SR MR x y n l r f

  pub rate_is : n ≡ 0 → (p q u v : Float) → p ≡ greatest_exit (model SL ML) → q ≡ greatest_exit (model SR MR) → u ≡ larger p q → v ≡ or_one u → Ok v ≡ rated SL ML SR MR
  unfolding rated common_rate
  rate_is h p q u v a b d e =
      ap (λ (z : Float). Ok z) (e ∙ ap or_one (d ∙ ap (λ (z : Float). larger z q) a ∙ ap (larger (greatest_exit (model SL ML))) b))
      ∙ answered_ok _ _ (sym h ∙ number)

-- ---- `uniformise`: what is refused

pub split : (a b c d : Bool) (x : ℕ) → first (check 3 a (check 4 b (check 5 c (check 6 d 0)))) x ≡ check 3 a (check 4 b (check 5 c (check 6 d x)))
split true b c d x = refl
split false true c d x = refl
split false false true d x = refl
split false false false true x = refl
split false false false false x = refl

module _ (W : Wlts) (q : Float) (seen : List Float) (D : ChainStore) {m : ℕ} (e : m ≡ model_refusal W.shape (Data.columns_of W)) where
  abbrev later : ℕ
  later =
      check 7 (cramped W.shape.states W.shape.edges (length seen) (of_store D))
      (check 8 (absent W.shape.initial)
      (check 11 (rate_outside q)
      (check 12 (unfitting least_observation greatest_weight W.shape.states seen)
      0)))

  refusal_is : first m later ≡ uniformise_refusal W.shape (Data.columns_of W) q seen (of_store D)
  unfolding uniformise_refusal model_refusal
  refusal_is = ap (λ (k : ℕ). first k later) e ∙ split (large W.shape) (unfit W.shape (Data.columns_of W)) (weights_outside W.shape (Data.columns_of W)) (crowded W.shape (Data.columns_of W)) later

  pub refused_model : m ≢ 0 → m ≡ uniformise_refusal W.shape (Data.columns_of W) q seen (of_store D)
  refused_model h = sym (first_hit m later h) ∙ refusal_is

  module _ (z : m ≡ 0) where
    passed : (r : ℕ) → later ≡ r → r ≡ uniformise_refusal W.shape (Data.columns_of W) q seen (of_store D)
    passed r f = sym (first_skip m later r z f) ∙ refusal_is

    pub refused_7 : cramped W.shape.states W.shape.edges (length seen) (of_store D) ≡ true → 7 ≡ uniformise_refusal W.shape (Data.columns_of W) q seen (of_store D)
    refused_7 a = passed 7 (check_hit 7 _ _ a)

    module _ (a : cramped W.shape.states W.shape.edges (length seen) (of_store D) ≡ false) where
      pub refused_8 : absent W.shape.initial ≡ true → 8 ≡ uniformise_refusal W.shape (Data.columns_of W) q seen (of_store D)
      refused_8 b = passed 8 (check_skip 7 _ _ _ a (check_hit 8 _ _ b))

      module _ (b : absent W.shape.initial ≡ false) where
        pub refused_11 : rate_outside q ≡ true → 11 ≡ uniformise_refusal W.shape (Data.columns_of W) q seen (of_store D)
        refused_11 c = passed 11 (check_skip 7 _ _ _ a (check_skip 8 _ _ _ b (check_hit 11 _ _ c)))

        module _ (c : rate_outside q ≡ false) where
          pub refused_12 : unfitting least_observation greatest_weight W.shape.states seen ≡ true → 12 ≡ uniformise_refusal W.shape (Data.columns_of W) q seen (of_store D)
          refused_12 d = passed 12 (check_skip 7 _ _ _ a (check_skip 8 _ _ _ b (check_skip 11 _ _ _ c (check_hit 12 _ _ d))))

          pub refused_none : unfitting least_observation greatest_weight W.shape.states seen ≡ false → 0 ≡ uniformise_refusal W.shape (Data.columns_of W) q seen (of_store D)
          refused_none d = passed 0 (check_skip 7 _ _ _ a (check_skip 8 _ _ _ b (check_skip 11 _ _ _ c (check_skip 12 _ _ _ d refl))))

-- ---- the chain laid in the lists

-- what is known of the lists where none is short
pub record Ready (S : Shape) (seen : List Float) (C : ChainColumns) : Type 0 where
  pub seen_long : S.states ≤ length seen
  pub offsets_long : S.states < length C.offsets
  pub targets_long : S.edges + S.states ≤ length C.targets
  pub probabilities_long : S.edges + S.states ≤ length C.probabilities
  pub observations_long : S.states ≤ length C.observations

pub ready : (S : Shape) (seen : List Float) (C : ChainColumns) → cramped S.states S.edges (length seen) C ≡ false → Ready S seen C
ready S seen C g =
    let (b₁, c₁) = or_f (ltb (length seen) S.states) _ g in
    let (b₂, c₂) = or_f (ltb (length C.offsets) (S.states + 1)) _ c₁ in
    let (b₃, c₃) = or_f (ltb (length C.targets) (S.edges + S.states)) _ c₂ in
    let (b₄, b₅) = or_f (ltb (length C.probabilities) (S.edges + S.states)) _ c₃ in
    let o : S.states + 1 ≤ length C.offsets = ltb-false (length C.offsets) (S.states + 1) b₂ in
    record { seen_long = ltb-false _ _ b₁; offsets_long = omega arith; targets_long = ltb-false _ _ b₃; probabilities_long = ltb-false _ _ b₄; observations_long = ltb-false _ _ b₅ }

-- the front of a list, lent from place 0 on and put back with a copy
pub copied : (n : ℕ) (s l x : List Float) → n ≤ length s → x ≡ take n s → x ++ drop (n - 0) l ≡ over (take n s) l
copied n s l x h e = let k : n - 0 ≡ length (take n s) = (let z = length-take-le n s h in omega arith) in ap (λ (m : List Float). m ++ drop (n - 0) l) e ∙ ap (λ (j : ℕ). take n s ++ drop j l) k

-- what `lay` leaves is the chain's
module _ (S : Shape) (M : Columns) (q : Float) (seen : List Float) (s : StateId) (C : ChainColumns) where
  pub laid_out : (n : ℕ) (W : List Float) (D : ChainColumns) → W ≡ over (take S.states seen) C.observations → RowsLaid (Made S M q) n (chain_columns C.offsets C.targets C.probabilities W) D
      → LaidOut (uniformise (model S M) q seen s.0) (shape S.states n s) C D
  unfolding uniformise shape_of columns_of
  laid_out n W D e R =
      let l = model_length S M in
      let k = made_length S M q in
      record {
        shape_is = equal_shapes (sym k) R.count;
        lists_are = R.lists_are ∙ equal_columns refl refl refl (e ∙ ap (λ (j : ℕ). over (take j seen) C.observations) (sym l));
      }
    where
      equal_shapes : {a b c d : ℕ} → a ≡ b → c ≡ d → shape a c s ≡ shape b d (record { 0 = s.0 })
      equal_shapes p r = rw (p, r)

-- ---- the answer and the lists

module _ (A : Chain) (C : ChainColumns) where
  pub settled_refused : (a : Result ChainShape Refusal) (r : Refusal) (k : ℕ) → IsErrAnd a (λ s. s ≡ r) → Refuse.number r ≡ k → ends (numbered a) C ≡ settled k A C
  settled_refused (Ok H) r k h f = absurd h
  settled_refused (Err s) r zero h f = absurd (number_positive r f)
  settled_refused (Err s) r (suc k) h f = ap (λ (j : ℕ). ends (Err j) C) (ap Refuse.number h ∙ f)

  pub settled_made : (k : ℕ) → 0 ≡ k → (H : ChainShape) (D : ChainColumns) → LaidOut A H C D → ends (Ok H) D ≡ settled k A C
  settled_made k z H D L =
      ap (λ (K : ChainShape). ends (Ok K) D) L.shape_is ∙ ap (ends (Ok (shape_of A))) L.lists_are
      ∙ ap (λ (j : ℕ). settled j A C) z

-- ---- `try_lay_chain`

-- a refusal by a number up to 7 comes before a short list
before : (n : ℕ) (b : Bool) → n < 7 → earlier (suc n) (check 7 b 0) ≡ suc n
before n true h = omega arith
before n false h = refl

together : (a b c d e : Bool) → earlier (check 3 a (check 4 b (check 5 c (check 6 d 0)))) (check 7 e 0) ≡ check 3 a (check 4 b (check 5 c (check 6 d (check 7 e 0))))
together true b c d e = before 2 e (omega arith)
together false true c d e = before 3 e (omega arith)
together false false true d e = before 4 e (omega arith)
together false false false true e = before 5 e (omega arith)
together false false false false e = refl

module _ (S : Shape) (M : Columns) (seen : List Float) (C : ChainColumns) where
  abbrev short : ℕ
  short = check 7 (cramped S.states S.edges (length seen) C) 0

  -- the checks 3 to 7 in a row
  pub in_a_row : lay_refusal S M seen C ≡ check 3 (large S) (check 4 (unfit S M) (check 5 (weights_outside S M) (check 6 (crowded S M) short)))
  unfolding lay_refusal model_refusal
  in_a_row = together (large S) (unfit S M) (weights_outside S M) (crowded S M) (cramped S.states S.edges (length seen) C)

module _ (S : Shape) (M : Columns) (seen : List Float) (C : ChainColumns) {m : ℕ} (e : m ≡ model_refusal S M) where
  lay_refusal_is : first m (short S M seen C) ≡ lay_refusal S M seen C
  unfolding model_refusal
  lay_refusal_is = ap (λ (k : ℕ). first k (short S M seen C)) e ∙ split (large S) (unfit S M) (weights_outside S M) (crowded S M) (short S M seen C) ∙ sym (in_a_row S M seen C)

  pub lay_unfit : m ≢ 0 → m ≡ lay_refusal S M seen C
  lay_unfit h = sym (first_hit m (short S M seen C) h) ∙ lay_refusal_is

  pub lay_short : m ≡ 0 → cramped S.states S.edges (length seen) C ≡ true → 7 ≡ lay_refusal S M seen C
  lay_short z c = sym (first_skip m (short S M seen C) 7 z (check_hit 7 _ _ c)) ∙ lay_refusal_is

  pub lay_fit : m ≡ 0 → cramped S.states S.edges (length seen) C ≡ false → 0 ≡ lay_refusal S M seen C
  lay_fit z c = sym (first_skip m (short S M seen C) 0 z (check_skip 7 _ _ _ c refl)) ∙ lay_refusal_is

module _ (S : Shape) (M : Columns) (q : Float) (seen : List Float) (i : ℕ) (C : ChainColumns) where
  pub lay_refused : (a : Result ChainShape Refusal) (r : Refusal) → IsErrAnd a (λ s. s ≡ r) → Refuse.number r ≡ lay_refusal S M seen C → ends (numbered a) C ≡ try_lay_chain S M q seen i C
  unfolding try_lay_chain
  lay_refused a r h f = settled_refused (uniformise (model S M) q seen i) C a r _ h f

  pub lay_made : 0 ≡ lay_refusal S M seen C → (H : ChainShape) (D : ChainColumns) → LaidOut (uniformise (model S M) q seen i) H C D → ends (Ok H) D ≡ try_lay_chain S M q seen i C
  unfolding try_lay_chain
  lay_made z H D L = settled_made (uniformise (model S M) q seen i) C _ z H D L

-- ---- `lay_chain`: what `try_lay_chain` lays, or no states

-- no states, and the lists, where the answer is a refusal
laying_or : Outcome → Laying
laying_or o = laying (result_unwrap_or o.answer (shape 0 0 (record { 0 = 0 }))) o.lists

number_or : (a : Result ChainShape Refusal) (H : ChainShape) → result_unwrap_or a H ≡ result_unwrap_or (numbered a) H
number_or (Ok K) H = refl
number_or (Err r) H = refl

settled_or : (k : ℕ) (A : Chain) (C : ChainColumns) → laying_or (settled k A C) ≡ lay_if (eqb k 0) A C
unfolding laying_or
settled_or zero A C = refl
settled_or (suc k) A C = ap (λ (b : Bool). lay_if b A C) (sym (ne_eqb (suc k) 0 (λ z. omega arith)))

passes : (m : ℕ) (b : Bool) → eqb (first m (check 7 b 0)) 0 ≡ (eqb m 0 && not b)
passes zero true = refl
passes zero false = refl
passes (suc m) b = let e = ne_eqb (suc m) 0 (λ z. omega arith) in e ∙ ap (λ (p : Bool). p && not b) (sym e)

module _ (S : Shape) (M : Columns) (q : Float) (seen : List Float) (i : ℕ) (C : ChainColumns) where
  layable_is : eqb (lay_refusal S M seen C) 0 ≡ layable S M seen C
  layable_is = ap (λ (k : ℕ). eqb k 0) (sym (lay_refusal_is S M seen C refl)) ∙ passes (model_refusal S M) (cramped S.states S.edges (length seen) C)

  pub lay_or_none : (a : Result ChainShape Refusal) (D : ChainColumns) → ends (numbered a) D ≡ try_lay_chain S M q seen i C
      → laying (result_unwrap_or a (shape 0 0 (record { 0 = 0 }))) D ≡ lay_chain S M q seen i C
  unfolding laying_or try_lay_chain lay_chain
  lay_or_none a D e =
      ap (λ (H : ChainShape). laying H D) (number_or a (shape 0 0 (record { 0 = 0 })))
      ∙ ap laying_or e
      ∙ settled_or (lay_refusal S M seen C) (uniformise (model S M) q seen i) C
      ∙ ap (λ (b : Bool). lay_if b (uniformise (model S M) q seen i) C) layable_is

-- ---- `uniformise`

module _ (W : Wlts) (q : Float) (seen : List Float) (D : ChainStore) {n : ℕ} (e : n ≡ uniformise_refusal W.shape (Data.columns_of W) q seen (of_store D)) where
  abbrev from_start : Chain
  from_start = uniformise (model W.shape (Data.columns_of W)) q seen (start W.shape.initial)

  pub answer_refused : (a : Result ChainShape Refusal) (r : Refusal) → IsErrAnd a (λ s. s ≡ r) → Refuse.number r ≡ n → ends (numbered a) (of_store D) ≡ uniformised W.shape (Data.columns_of W) q seen (of_store D)
  unfolding uniformised
  answer_refused a r h f = settled_refused from_start (of_store D) a r _ h (f ∙ e)

  pub ready_to : n ≡ 0 → (model_refusal W.shape (Data.columns_of W) ≡ 0) × (cramped W.shape.states W.shape.edges (length seen) (of_store D) ≡ false)
  ready_to z =
      let (a, f) = first_none (model_refusal W.shape (Data.columns_of W)) (later W q seen D refl) (refusal_is W q seen D refl ∙ sym e ∙ z) in
      let (g, h) = check_none 6 _ _ f in
      (a, g)

  -- from the initial state
  pub answer_made : n ≡ 0 → {s : ℕ} → s ≡ start W.shape.initial → (H : ChainShape) (E : ChainColumns) → LaidOut (uniformise (model W.shape (Data.columns_of W)) q seen s) H (of_store D) E → ends (Ok H) E ≡ uniformised W.shape (Data.columns_of W) q seen (of_store D)
  unfolding uniformised
  answer_made z f H E L = settled_made from_start (of_store D) _ (sym z ∙ e) H E (subst (λ (i : ℕ). LaidOut (uniformise (model W.shape (Data.columns_of W)) q seen i) H (of_store D) E) f L)
