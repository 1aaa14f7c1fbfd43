-- What `build` and `epsdelta` answer of a card is what the definition says: `build` refuses only with 4, what it makes is accepted and is the edges of each state, and `epsdelta` refuses only with 9.
use Rattle.std.specs.Prelude.{Some, Option}
use Rattle.bisim_core.specs.declared.ids.StateId.{StateId}
use mathlib.Core.Path.{◌≡◌, refl, sym, subst, ap, ◌∙◌}
use mathlib.Core.Bool.{Bool, true, false, ◌&&◌, ◌||◌, not}
use mathlib.Core.List.{List, [], ◌∷◌, ◌++◌, map}
use Prim.Native.Nat.{ℕ, min, ◌+◌, ◌≤◌, ◌<◌}
use native.Mathlib.Omega.{arith}
use lib.Dec.{ltb}
use lib.Ieee.{Float}
use lib.ListN.{length, get_or, take, length-take, length-map, length-replicate}
use lib.Seq.{take_all, take-length}
use borrow.Author.Tests.{ltb-true, le-ltb, not-false}
use Rattle.numbers.specs.Real.{nought}
use Rattle.numbers.specs.Refuse.{check}
use Rattle.numbers.specs.Lists.{all}
use Rattle.numbers.proofs.Alls.{all_front}
use Rattle.numbers.proofs.Bools.{or_f}
use Rattle.numbers.proofs.Refuses.{check_skip, check_none, check_same, none}
use Rattle.bisim_core.specs.Data.{Edge, Transitions, Columns}
use Rattle.bisim_core.specs.Model as models
use Rattle.bisim_core.specs.Model.{large, unfit, weighs, weights_outside, model, model_refusal}
use Rattle.bisim_core.specs.declared.wlts.Shape.{Shape}
use Rattle.bisim_core.proofs.Distinct.{distinct_length}
use Rattle.build_theory.specs.Edges.{nonzero}
use Rattle.build_theory.specs.Checks.{labels_of, oversized, outside, unweighed, jump_at, reach, jumps, crowded, missing, refusal}
use Rattle.build_theory.proofs.Ranks.{AllE, all_span, all_nonzero}
use Rattle.bisim_build.specs.Build.{short, Outcome, ends, made, settled, build}
use Rattle.std.specs.Prelude.{Result, Ok, Err}
use Rattle.bisim_build.proofs.Accepts.{built_accepted, read_back}
use Rattle.epsdelta_theory.specs.Jumps.{union}
use Rattle.epsdelta_theory.specs.Relation.{relation_bytes}
use Rattle.epsdelta_theory.specs.Refusal.{tolerances_outside, models_refusal, relation_refusal, epsdelta_refusal}
use Rattle.epsdelta_theory.specs.Refusal as refusals
use Rattle.epsdelta_theory.specs.Epsdelta.{Given, given, given_rows}
use Rattle.epsdelta_theory.specs.Claim.{final, Sound}
use Rattle.epsdelta_theory.proofs.Theorem.{epsdelta_sound}
use Rattle.card_layout.specs.Card.{Transition, Side, Card, AllTransitions, SideWithin, Within}
use Rattle.card_layout.specs.Lists.{source_of, label_of, target_of, weight_of}
use Rattle.card_report.specs.Report.{report, most_report}
use Rattle.card_report.proofs.Texts.{report_fits}
use Rattle.card_relation.specs.Relating.{parts, text_of, relation_text}
use Rattle.card_relation.proofs.Relates.{text_fits}
use Rattle.card_models.specs.Models.{given_of, edges_of, model_of, inside, stray, card_refusal, card_given, card_text}
use Rattle.card_models.specs.Together.{both}
use Rattle.card_models.proofs.Handing.{blank, built_of, models_text, built_text}
use Rattle.card_models.proofs.Wholes.{whole_weighs}
use Rattle.card_models.proofs.Crowds.{uncrowded}
use Rattle.card_models.proofs.Rows.{model_leaving}

-- ---- tests of transitions, and of their columns

all_inside : (n : ℕ) (l : List Transition) → (all (λ x. ltb x n) (map source_of l) && all (λ x. ltb x n) (map target_of l)) ≡ all (inside n) l
unfolding all
all_inside n [] = refl
all_inside n (m ∷ l) =
    four (ltb m.source n) (all (λ x. ltb x n) (map source_of l)) (ltb m.target n) (all (λ x. ltb x n) (map target_of l))
    ∙ ap (λ (b : Bool). (ltb m.source n && ltb m.target n) && b) (all_inside n l)
  where
    four : (a x b y : Bool) → ((a && x) && (b && y)) ≡ ((a && b) && (x && y))
    four false x b y = refl
    four true false false y = refl
    four true false true y = refl
    four true true b y = refl

not_both : (a b : Bool) → (not a || not b) ≡ not (a && b)
not_both true b = refl
not_both false b = refl

all_weigh : (l : List Transition) → AllTransitions l → all weighs (map weight_of l) ≡ true
unfolding all
all_weigh [] h = refl
all_weigh (m ∷ l) h = rw (whole_weighs m.weight h.0.1.1.1.0) (all_weigh l h.1)

-- ---- a model of a card

module _ (s : Side) (w : SideWithin s) where
  abbrev states : ℕ
  states = length s.classes

  abbrev n : ℕ
  n = length s.transitions

  abbrev C : Transitions
  C = given_of s

  abbrev initial : Option StateId
  initial = Some (record { 0 = s.initial })

  whole : {A : Type 0} (f : Transition → A) → take n (map f s.transitions) ≡ map f s.transitions
  whole f = take_all n (map f s.transitions) (let e = length-map s.transitions f in omega arith)

  not_oversized : oversized states C n ≡ false
  not_oversized =
      let a = w.few_states in
      let b = w.few_transitions in
      let d = distinct_length (take n C.labels) in
      let e = length-take n C.labels in
      none _ _ (le-ltb 2000 states (omega arith)) (none _ _ (le-ltb 4096 n (omega arith)) (le-ltb 256 (length (labels_of C n)) (omega arith)))

  outside_is : outside states initial C n ≡ stray s
  outside_is =
      ap (λ (l : List ℕ). not (ltb s.initial states) || (not (all (λ x. ltb x states) l) || not (all (λ x. ltb x states) (take n C.targets)))) (whole source_of)
      ∙ ap (λ (l : List ℕ). not (ltb s.initial states) || (not (all (λ x. ltb x states) C.sources) || not (all (λ x. ltb x states) l))) (whole target_of)
      ∙ ap (λ (b : Bool). not (ltb s.initial states) || b) (not_both (all (λ x. ltb x states) C.sources) (all (λ x. ltb x states) C.targets) ∙ ap not (all_inside states s.transitions))

  all_weighed : unweighed C n ≡ false
  all_weighed = ap (λ (l : List Float). not (all weighs l)) (whole weight_of) ∙ ap not (all_weigh s.transitions w.transitions_fit)

  module _ (h : stray s ≡ false) where
    target_low : (j : ℕ) → j < n → get_or C.targets j 0 < states
    target_low j k =
        let a = or_f (not (ltb s.initial states)) _ (outside_is ∙ h) in
        let b = or_f (not (all (λ x. ltb x states) (take n C.sources))) _ a.1 in
        let e = length-map s.transitions target_of in
        ltb-true _ _ (all_front (λ x. ltb x states) C.targets 0 n (omega arith) (not-false _ b.1) j k)

    targets_low : AllE (λ a. a.target < states) (nonzero (jumps C n))
    targets_low = all_nonzero (λ a. a.target < states) (jumps C n) (all_span (λ a. a.target < states) (jump_at C) 0 (reach C n) (λ j a b. target_low j (omega arith)))

    not_crowded : crowded states C n ≡ false
    not_crowded = uncrowded states (nonzero (jumps C n)) w.few_states targets_low

  none_missing : missing C n ≡ false
  none_missing =
      let a = length-map s.transitions source_of in
      let b = length-map s.transitions label_of in
      let d = length-map s.transitions target_of in
      let e = length-map s.transitions weight_of in
      le-ltb (min (length C.sources) (min (length C.labels) (min (length C.targets) (length C.weights)))) n (omega arith)

  not_short : short states n blank ≡ false
  not_short =
      let a = w.few_states in
      let b = w.few_transitions in
      let o = length-replicate {A = ℕ} 33 0 in
      let l = length-replicate {A = ℕ} 200 0 in
      let f = length-replicate {A = Float} 200 nought in
      none _ _ (le-ltb (length blank.offsets) (states + 1) (omega arith))
      (none _ _ (le-ltb (length blank.labels) n (omega arith))
      (none _ _ (le-ltb (length blank.edge_labels) n (omega arith))
      (none _ _ (le-ltb (length blank.edge_targets) n (omega arith)) (le-ltb (length blank.edge_weights) n (omega arith)))))

  -- `build` refuses only with 4
  refusal_is : refusal states initial C n (short states n blank) ≡ check 4 (stray s) 0
  refusal_is =
      check_skip 3 (oversized states C n) _ _ not_oversized
      (ap (λ (b : Bool). check 4 b (check 5 (unweighed C n) (check 6 (crowded states C n) (check 7 (missing C n || short states n blank) 0)))) outside_is
      ∙ check_same 4 (stray s) _ 0 (λ h. check_skip 5 (unweighed C n) _ 0 all_weighed (check_skip 6 (crowded states C n) _ 0 (not_crowded h)
      (check_skip 7 (missing C n || short states n blank) 0 0 (none _ _ none_missing not_short) refl))))

  pub built_stray : stray s ≡ true → built_of s ≡ ends (Err 4) blank
  unfolding build
  built_stray h = ap (λ (r : ℕ). settled r blank (made states initial C n blank)) (refusal_is ∙ ap (λ (b : Bool). check 4 b 0) h)

  abbrev pub shape : Shape
  shape = record { states = states; edges = length (edges_of s); labels = length (labels_of C n); initial = initial }

  module _ (h : stray s ≡ false) where
    pub built_model : (built_of s).answer ≡ Ok shape
    unfolding build
    built_model = ap (λ (r : ℕ). (settled r blank (made states initial C n blank)).answer) (refusal_is ∙ ap (λ (b : Bool). check 4 b 0) h)

    pub accepted : model_refusal shape (built_of s).memory ≡ 0
    accepted = built_accepted states initial C n blank shape built_model

    -- the model is the edges of each state
    pub model_is : model shape (built_of s).memory ≡ model_of s
    unfolding model_of
    model_is = model_leaving (built_of s).memory shape states (edges_of s) refl (read_back states initial C n blank shape built_model)

-- ---- their relation

passes : (S : Shape) (M : Columns) → model_refusal S M ≡ 0 → (large S ≡ false) × (unfit S M ≡ false) × (weights_outside S M ≡ false) × (models.crowded S M ≡ false)
unfolding model_refusal
passes S M e =
    let a = check_none 2 (large S) _ e in
    let b = check_none 3 (unfit S M) _ a.1 in
    let d = check_none 4 (weights_outside S M) _ b.1 in
    let f = check_none 5 (models.crowded S M) 0 d.1 in
    (a.0, b.0, d.0, f.0)

-- `epsdelta` refuses accepted models of at most 32 states, with a class for each, only with 9
only_nine : (SL : Shape) (ML : Columns) (SR : Shape) (MR : Columns) (cl cr : List ℕ) (ε ρ : Float)
    → model_refusal SL ML ≡ 0 → model_refusal SR MR ≡ 0 → SL.states ≤ 32 → SR.states ≤ 32 → SL.states ≤ length cl → SR.states ≤ length cr
    → epsdelta_refusal SL ML SR MR cl cr ε ρ (relation_bytes (SL.states + SR.states)) ≡ check 9 (tolerances_outside ε ρ) 0
unfolding epsdelta_refusal relation_refusal models_refusal
only_nine SL ML SR MR cl cr ε ρ a b f g h k =
    let (p, q, r, t) = passes SL ML a in
    let (p', q', r', t') = passes SR MR b in
    let m = relation_bytes (SL.states + SR.states) in
    check_skip 3 (large SL || large SR) _ _ (none _ _ p p')
    (check_skip 4 (unfit SL ML || unfit SR MR) _ _ (none _ _ q q')
    (check_skip 5 (weights_outside SL ML || weights_outside SR MR) _ _ (none _ _ r r')
    (check_skip 6 (models.crowded SL ML || models.crowded SR MR) _ _ (none _ _ t t')
    (check_skip 7 (refusals.short SL.states SR.states (length cl) (length cr) m) _ _
    (none _ _ (le-ltb (length cl) SL.states h) (none _ _ (le-ltb (length cr) SR.states k) (le-ltb m m (omega arith))))
    (ap (check 9 (tolerances_outside ε ρ)) (check_skip 10 (ltb 2000 (SL.states + SR.states)) 0 0 (le-ltb 2000 (SL.states + SR.states) (omega arith)) refl))))))

-- ---- the card

module _ (c : Card) (w : Within c) where
  abbrev misfit : Bool
  misfit = tolerances_outside (parts c.epsilon) (parts c.rho)

  abbrev ML : Columns
  ML = (built_of c.left).memory

  abbrev MR : Columns
  MR = (built_of c.right).memory

  abbrev SL : Shape
  SL = shape c.left w.left_within

  abbrev SR : Shape
  SR = shape c.right w.right_within

  module _ (h : stray c.left ≡ false) (k : stray c.right ≡ false) where
    nine : epsdelta_refusal SL ML SR MR c.left.classes c.right.classes (parts c.epsilon) (parts c.rho) (relation_bytes (SL.states + SR.states))
        ≡ check 9 misfit 0
    nine = only_nine SL ML SR MR c.left.classes c.right.classes (parts c.epsilon) (parts c.rho) (accepted c.left w.left_within h) (accepted c.right w.right_within k)
        w.left_within.few_states w.right_within.few_states (omega arith) (omega arith)

    given_is : given SL ML SR MR c.left.classes c.right.classes (parts c.epsilon) (parts c.rho) ≡ card_given c
    unfolding given card_given
    given_is =
        ap (λ (L : List (List Edge)). given_rows (union L (model SR MR)) (take SL.states c.left.classes ++ take SR.states c.right.classes) (parts c.epsilon) (parts c.rho)) (model_is c.left w.left_within h)
        ∙ ap (λ (R : List (List Edge)). given_rows (union (model_of c.left) R) (take SL.states c.left.classes ++ take SR.states c.right.classes) (parts c.epsilon) (parts c.rho)) (model_is c.right w.right_within k)
        ∙ ap (λ (l : List ℕ). given_rows (union (model_of c.left) (model_of c.right)) (l ++ take SR.states c.right.classes) (parts c.epsilon) (parts c.rho)) (take-length c.left.classes)
        ∙ ap (λ (l : List ℕ). given_rows (union (model_of c.left) (model_of c.right)) (c.left.classes ++ l) (parts c.epsilon) (parts c.rho)) (take-length c.right.classes)

    related : relation_text SL ML SR MR c.left.classes c.right.classes c.epsilon c.rho
        ≡ text_of (check 9 misfit 0) (report (final (card_given c)) (length c.left.classes) (length c.right.classes))
    related =
        ap (λ (r : ℕ). text_of r (report (final (given SL ML SR MR c.left.classes c.right.classes (parts c.epsilon) (parts c.rho))) SL.states SR.states)) nine
        ∙ ap (λ (G : Given). text_of (check 9 misfit 0) (report (final G) SL.states SR.states)) given_is

    pub run_sound : misfit ≡ false → Sound (card_given c)
    run_sound e = subst Sound given_is
        (epsdelta_sound SL ML SR MR c.left.classes c.right.classes (parts c.epsilon) (parts c.rho) (relation_bytes (SL.states + SR.states)) (nine ∙ ap (λ (b : Bool). check 9 b 0) e))

  abbrev printing : Result Shape ℕ → Result Shape ℕ → List ℕ
  printing x y = models_text (both x y) ML MR c.left.classes c.right.classes c.epsilon c.rho

  abbrev wanted : Bool → List ℕ
  wanted b = text_of (check 4 b (check 9 misfit 0)) (report (final (card_given c)) (length c.left.classes) (length c.right.classes))

  -- what is printed for the models built is what the definition prints
  pub built_text_lem : built_text c ≡ card_text c
  unfolding card_text card_refusal
  built_text_lem = pick (stray c.left) refl (stray c.right) refl
    where
      pick : (p : Bool) → stray c.left ≡ p → (q : Bool) → stray c.right ≡ q → printing (built_of c.left).answer (built_of c.right).answer ≡ wanted (stray c.left || stray c.right)
      pick true e true f =
          ap (λ (o : Outcome). printing o.answer (built_of c.right).answer) (built_stray c.left w.left_within e)
          ∙ ap (λ (o : Outcome). printing (Err 4) o.answer) (built_stray c.right w.right_within f)
          ∙ ap (λ (b : Bool). wanted (b || stray c.right)) (sym e)
      pick true e false f =
          ap (λ (o : Outcome). printing o.answer (built_of c.right).answer) (built_stray c.left w.left_within e)
          ∙ ap (λ (y : Result Shape ℕ). printing (Err 4) y) (built_model c.right w.right_within f)
          ∙ ap (λ (b : Bool). wanted (b || stray c.right)) (sym e)
      pick false e true f =
          ap (λ (x : Result Shape ℕ). printing x (built_of c.right).answer) (built_model c.left w.left_within e)
          ∙ ap (λ (o : Outcome). printing (Ok SL) o.answer) (built_stray c.right w.right_within f)
          ∙ ap (λ (b : Bool). wanted (b || true)) (sym e) ∙ ap (λ (b : Bool). wanted (stray c.left || b)) (sym f)
      pick false e false f =
          ap (λ (x : Result Shape ℕ). printing x (built_of c.right).answer) (built_model c.left w.left_within e)
          ∙ ap (λ (y : Result Shape ℕ). printing (Ok SL) y) (built_model c.right w.right_within f)
          ∙ related e f
          ∙ ap (λ (b : Bool). wanted (b || false)) (sym e) ∙ ap (λ (b : Bool). wanted (stray c.left || b)) (sym f)

  -- the text fits the store
  pub card_fits : length (card_text c) ≤ most_report
  unfolding card_text
  card_fits = text_fits (card_refusal c) _ (report_fits (final (card_given c)) (length c.left.classes) (length c.right.classes) w.left_within.few_states w.right_within.few_states)

  -- a card that is not refused has a sound relation
  pub card_sound : card_refusal c ≡ 0 → Sound (card_given c)
  unfolding card_refusal
  card_sound e =
      let a = check_none 3 (stray c.left || stray c.right) _ e in
      let b = check_none 8 misfit 0 a.1 in
      let d = or_f (stray c.left) (stray c.right) a.0 in
      run_sound d.0 d.1 b.0
