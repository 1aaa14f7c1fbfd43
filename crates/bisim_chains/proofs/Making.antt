-- What `lay_chains` leaves is the chains of the definition: laid at the common rate, and their observations scaled together.
use mathlib.Core.Path.{◌≡◌, refl, sym, ap, ◌∙◌}
use mathlib.Core.Bool.{true≢false}
use Prim.Native.Nat.{ℕ, zero, suc, ◌-◌, ◌≤◌}
use mathlib.Core.List.{List, [], ◌∷◌, ◌++◌}
use native.Mathlib.Omega.{arith}
use lib.Ieee.{Float}
use lib.ListN.{length, take, drop, length-map, length-append}
use lib.Seq.{take_at, drop_at, take_all, length-take-le}
use Rattle.std.specs.Prelude.{Result, Ok, Err}
use Rattle.std.specs.Result.{IsErrAnd, is_ok}
use Rattle.numbers.specs.Lists.{over}
use Rattle.numbers.specs.Refuse
use Rattle.numbers.specs.Refuse.{numbered, answered}
use Rattle.numbers.specs.declared.refusal.Refusal.{Refusal}
use Rattle.numbers.proofs.Refuses.{number_positive}
use Rattle.bisim_core.specs.Data.{Edge, Columns}
use Rattle.bisim_core.specs.declared.wlts.Shape.{Shape}
use Rattle.bisim_core.specs.Model.{model}
use Rattle.epsdelta_theory.proofs.Rows.{model_length}
use Rattle.parts.proofs.Models.{models_number}
use Rattle.chain_theory.specs.declared.ChainShape.{ChainShape}
use Rattle.chain_theory.specs.Chain.{Chain, common_rate, uniformise, Scaled, normalise}
use Rattle.chain_theory.specs.Columns.{ChainColumns, chain_columns, shape_of, columns_of}
use Rattle.chain_theory.proofs.Chains.{rows_length}
use Rattle.chains.specs.Outcome.{Outcome, rated, ends, laid, settled, lay_refusal, try_lay_chain, LaidOut}
use Rattle.chains.proofs.Answers.{ready, lay_fit}
use Rattle.normalise.specs.Outcome.{scaling}
use Rattle.bisim_core.specs.Data
use Rattle.chain_theory.specs.Lent.{of_store}
use Rattle.chain_theory.specs.declared.ChainStore.{ChainStore}
use Rattle.chains.specs.Observing.{of_both}
use Rattle.chains.specs.declared.observed.Observed.{Observed}
use Rattle.bisim_checks.specs.Rest.{of_rest}
use Rattle.bisim_checks.specs.declared.rest.Rest.{Rest}
use Rattle.bisim_checks.proofs.Passed.{Side, SideOf, passed}
use Rattle.distance_theory.specs.Refusal.{bisim_refusal}
use Rattle.bisim_chains.specs.Made.{Made, made, made_of, models_made, made_if, bisim_made}

-- ---- a list over another

module _ {A : Type 0} where
  pub over_long : (l d : List A) → length l ≤ length (over l d)
  over_long l d = let e = length-append l (drop (length l) d) in omega arith

  over_same : (x a d : List A) → length x ≡ length a → over x (over a d) ≡ over x d
  over_same x a d e = ap (λ (r : List A). x ++ r) (drop_at a (drop (length a) d) (length x) (sym e) ∙ ap (λ (k : ℕ). drop k d) (sym e))

-- ---- numbers over the fronts of two lists, scaled together

pub left_size : (a b : List Float) → length (normalise a b).left ≡ length a
unfolding normalise
left_size a b = length-map a _

pub right_size : (a b : List Float) → length (normalise a b).right ≡ length b
unfolding normalise
right_size a b = length-map b _

-- the front of a list, lent from place 0 on, is what was laid there; and scaled numbers are put back over it
module _ (a d : List Float) (n : ℕ) (p : length a ≡ n) where
  pub front_is : take (n - 0) (over a d) ≡ a
  front_is = let z : n - 0 ≡ n = omega arith in ap (λ (k : ℕ). take k (over a d)) z ∙ take_at a (drop (length a) d) n p

  pub put_back : (l : List Float) → length l ≡ n → l ++ drop (n - 0) (over a d) ≡ over l d
  put_back l e = let z : n - 0 ≡ length l = omega arith in ap (λ (k : ℕ). l ++ drop k (over a d)) z ∙ over_same l a d (e ∙ sym p)

or_that : Float → Result Float ℕ → Float
or_that x (Ok y) = y
or_that x (Err n) = x

-- ---- one side

abbrev or_this : ChainShape → Result ChainShape ℕ → ChainShape
or_this H (Ok K) = K
or_this H (Err n) = H

module _ {S : Shape} {M : Columns} {s : ℕ} {seen : List Float} {C : ChainColumns} (P : Side S M s seen C) where
  lays : 0 ≡ lay_refusal S M seen C
  lays = lay_fit S M seen C refl P.model_passes P.roomy

  laid_so : (q : Float) → try_lay_chain S M q seen s C ≡ ends (Ok (shape_of (uniformise (model S M) q seen s))) (laid (columns_of (uniformise (model S M) q seen s)) C)
  unfolding try_lay_chain
  laid_so q = ap (λ (k : ℕ). settled k (uniformise (model S M) q seen s) C) (sym lays)

  module _ (q x : Float) (e : x ≡ q) (r : Result ChainShape ℕ) (D : ChainColumns) (f : ends r D ≡ try_lay_chain S M x seen s C) where
    is_laid : ends r D ≡ ends (Ok (shape_of (uniformise (model S M) q seen s))) (laid (columns_of (uniformise (model S M) q seen s)) C)
    is_laid = f ∙ ap (λ (z : Float). try_lay_chain S M z seen s C) e ∙ laid_so q

    -- a chain is made
    pub not_turned_back : (n : ℕ) → r ≡ Err n → ⊥
    not_turned_back n h = true≢false (ap is_ok (sym (ap (λ (X : Outcome). X.answer) is_laid) ∙ h))

    first_laid : (H : ChainShape) → r ≡ Ok H → LaidOut (uniformise (model S M) q seen s) H C D
    first_laid H h = record { shape_is = ap (or_this H) (sym h ∙ ap (λ (X : Outcome). X.answer) is_laid); lists_are = ap (λ (X : Outcome). X.lists) is_laid }

  pub seen_size : length (take (length (model S M)) seen) ≡ length (model S M)
  seen_size = length-take-le (length (model S M)) seen (let h = (ready S seen C P.roomy).seen_long in let e = model_length S M in omega arith)

-- ---- both

-- a chain's lists with other observations
abbrev observed : ChainColumns → List Float → ChainColumns
observed C l = chain_columns C.offsets C.targets C.probabilities l

module _ {SL : Shape} {ML : Columns} {s : ℕ} {seenL : List Float} {CL : ChainColumns} {SR : Shape} {MR : Columns} {t : ℕ} {seenR : List Float} {CR : ChainColumns} (P : Side SL ML s seenL CL) (Q : Side SR MR t seenR CR) where
  abbrev L : List (List Edge)
  L = model SL ML

  abbrev R : List (List Edge)
  R = model SR MR

  abbrev q : Float
  q = common_rate L R

  rated_so : rated SL ML SR MR ≡ Ok q
  unfolding rated
  rated_so = ap (λ (k : ℕ). answered k q) (sym (models_number SL ML SR MR 0 0 0 (sym P.model_passes) (sym Q.model_passes) refl))

  pub rate_is : (y : Float) → Ok y ≡ rated SL ML SR MR → y ≡ q
  unfolding or_that common_rate
  rate_is y e = ap (or_that q) (e ∙ rated_so)

  -- so it is not refused
  pub not_refused : (n : ℕ) → Err n ≡ rated SL ML SR MR → ⊥
  not_refused n e = true≢false (ap is_ok (sym (e ∙ rated_so)))

  abbrev A : Chain
  A = uniformise L q seenL s

  abbrev B : Chain
  B = uniformise R q seenR t

  abbrev a : List Float
  a = take (length L) seenL

  abbrev b : List Float
  b = take (length R) seenR

  abbrev N : Scaled
  N = normalise a b

  all_taken : (n : ℕ) (l : List Float) → length l ≡ n → l ≡ take n l
  all_taken n l e = sym (take_all n l (omega arith))

  is_made : made (Ok (shape_of A, shape_of B)) (observed (laid (columns_of A) CL) (over N.left CL.observations)) (observed (laid (columns_of B) CR) (over N.right CR.observations)) ≡ made_of L s seenL CL R t seenR CR
  unfolding made_of uniformise shape_of columns_of
  is_made =
      let c = all_taken (length L) N.left (left_size a b ∙ seen_size P) in
      let d = all_taken (length R) N.right (right_size a b ∙ seen_size Q) in
      ap (λ (l : List Float). made (Ok (shape_of A, shape_of B)) (observed (laid (columns_of A) CL) (over l CL.observations)) (observed (laid (columns_of B) CR) (over N.right CR.observations))) c
      ∙ ap (λ (l : List Float). made (Ok (shape_of A, shape_of B)) (observed (laid (columns_of A) CL) (over (take (length L) N.left) CL.observations)) (observed (laid (columns_of B) CR) (over l CR.observations))) d

  -- both are laid at that rate
  module _ {y : Float} (z : Ok y ≡ rated SL ML SR MR) {H K : ChainShape} {D E : ChainColumns} (f : ends (Ok H) D ≡ try_lay_chain SL ML y seenL s CL) (g : ends (Ok K) E ≡ try_lay_chain SR MR y seenR t CR) where
    X : LaidOut A H CL D
    X = first_laid P q y (rate_is y z) _ _ f H refl

    Y : LaidOut B K CR E
    Y = first_laid Q q y (rate_is y z) _ _ g K refl

    left_long : length a ≡ H.states
    unfolding uniformise shape_of
    left_long = seen_size P ∙ sym (rows_length q 0 L) ∙ ap (λ (G : ChainShape). G.states) (sym X.shape_is)

    right_long : length b ≡ K.states
    unfolding uniformise shape_of
    right_long = seen_size Q ∙ sym (rows_length q 0 R) ∙ ap (λ (G : ChainShape). G.states) (sym Y.shape_is)

    left_seen : D.observations ≡ over a CL.observations
    unfolding uniformise columns_of
    left_seen = ap (λ (Z : ChainColumns). Z.observations) X.lists_are

    right_seen : E.observations ≡ over b CR.observations
    unfolding uniformise columns_of
    right_seen = ap (λ (Z : ChainColumns). Z.observations) Y.lists_are

    -- where the lists of observations are long enough to be cut
    pub cut : (H.states ≤ length D.observations) × (K.states ≤ length E.observations)
    cut =
        let c = over_long a CL.observations in
        let d = over_long b CR.observations in
        let e = ap length left_seen in
        let f = ap length right_seen in
        let g = left_long in
        let h = right_long in
        (omega arith, omega arith)

    pub all_made : (x : Float) (l r : List Float) → scaling x l r ≡ normalise (take (H.states - 0) D.observations) (take (K.states - 0) E.observations)
        → made (Ok (H, K)) (observed D (l ++ drop (H.states - 0) D.observations)) (observed E (r ++ drop (K.states - 0) E.observations)) ≡ made_of L s seenL CL R t seenR CR
    all_made x l r e =
        let f : scaling x l r ≡ N =
        e ∙ ap (λ (z : List Float). normalise (take (H.states - 0) z) (take (K.states - 0) E.observations)) left_seen ∙ ap (λ (z : List Float). normalise z (take (K.states - 0) E.observations)) (front_is a CL.observations H.states left_long)
        ∙ ap (λ (z : List Float). normalise a (take (K.states - 0) z)) right_seen ∙ ap (normalise a) (front_is b CR.observations K.states right_long) in
        let i = ap (λ (Z : Scaled). Z.left) f in
        let j = ap (λ (Z : Scaled). Z.right) f in
        let u : l ++ drop (H.states - 0) D.observations ≡ over N.left CL.observations =
        ap (λ (z : List Float). l ++ drop (H.states - 0) z) left_seen ∙ put_back a CL.observations H.states left_long l (ap length i ∙ left_size a b ∙ left_long) ∙ ap (λ (z : List Float). over z CL.observations) i in
        let v : r ++ drop (K.states - 0) E.observations ≡ over N.right CR.observations =
        ap (λ (z : List Float). r ++ drop (K.states - 0) z) right_seen ∙ put_back b CR.observations K.states right_long r (ap length j ∙ right_size a b ∙ right_long) ∙ ap (λ (z : List Float). over z CR.observations) j in
        ap (λ (z : List Float). made (Ok (H, K)) (observed D z) (observed E (r ++ drop (K.states - 0) E.observations))) u
        ∙ ap (λ (z : List Float). made (Ok (H, K)) (observed D (over N.left CL.observations)) (observed E z)) v
        ∙ ap (λ (G : ChainShape). made (Ok (G, K)) (observed D (over N.left CL.observations)) (observed E (over N.right CR.observations))) X.shape_is
        ∙ ap (λ (G : ChainShape). made (Ok (shape_of A, G)) (observed D (over N.left CL.observations)) (observed E (over N.right CR.observations))) Y.shape_is
        ∙ ap (λ (Z : ChainColumns). made (Ok (shape_of A, shape_of B)) (observed Z (over N.left CL.observations)) (observed E (over N.right CR.observations))) X.lists_are
        ∙ ap (λ (Z : ChainColumns). made (Ok (shape_of A, shape_of B)) (observed (laid (columns_of A) CL) (over N.left CL.observations)) (observed Z (over N.right CR.observations))) Y.lists_are
        ∙ is_made

-- ---- with the checks before

module _ (l : Observed) (c : ChainStore) (k : Observed) (d : ChainStore) (rest : Rest) where
  abbrev refusal : ℕ
  refusal = of_rest (of_both bisim_refusal l c k d) rest

  abbrev whole : Made
  whole = of_both models_made l c k d

  none_made : (a : Result (ChainShape × ChainShape) Refusal) (r : Refusal) (n : ℕ) → IsErrAnd a (λ e. e ≡ r) → Refuse.number r ≡ n → made (numbered a) (of_store c) (of_store d) ≡ made_if n whole (of_store c) (of_store d)
  none_made (Ok p) r n h e = absurd h
  none_made (Err x) r zero h e = absurd (number_positive r e)
  none_made (Err x) r (suc n) h e = ap (λ (k : ℕ). made (Err k) (of_store c) (of_store d)) (ap Refuse.number h ∙ e)

  pub unmade : (a : Result (ChainShape × ChainShape) Refusal) (r : Refusal) → IsErrAnd a (λ e. e ≡ r) → Refuse.number r ≡ refusal → made (numbered a) (of_store c) (of_store d) ≡ of_rest (of_both bisim_made l c k d) rest
  unfolding bisim_made
  unmade a r h e = none_made a r _ h e

  pub sides : 0 ≡ refusal → SideOf l c × SideOf k d
  sides e =
      let P = passed l.model.shape (Data.columns_of l.model) l.state.0 l.observations.now (of_store c) k.model.shape (Data.columns_of k.model) k.state.0 k.observations.now (of_store d) rest.goal.gamma rest.goal.options (rest.lefts ∷ rest.rights ∷ rest.codes ∷ []) rest.records (sym e) in
      (P.left, P.right)

  pub as_made : 0 ≡ refusal → (X : Made) → X ≡ whole → X ≡ of_rest (of_both bisim_made l c k d) rest
  unfolding bisim_made
  as_made e X f = f ∙ ap (λ (k : ℕ). made_if k whole (of_store c) (of_store d)) e
