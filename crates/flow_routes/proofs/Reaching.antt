-- Words of private contracts: one try of the search for a flow that is enough, its first labels, and its start from the rates of two rows.
use mathlib.Core.Path.{◌≡◌, refl, sym, ap, subst⁻¹, ◌∙◌}
use mathlib.Core.Logic.{inl}
use Prim.Native.Nat.{ℕ, ◌≤◌, ◌<◌, ◌*◌}
use mathlib.Core.Bool.{Bool, true, false, cond}
use mathlib.Core.List.{List}
use native.Mathlib.Omega.{arith}
use lib.ListN.{length, get_or}
use lib.Ieee.{Float, nan, binary64, lt, le, add}
use Rattle.std.specs.Prelude.{Option, Some, None, IfSome}
use Rattle.std.specs.Option.{MatchOption}
use Rattle.std.specs.declared.ops.ControlFlow.{ControlFlow}
use Rattle.std.specs.declared.ops.ControlFlow.TheVariants.{Continue, Break}
use Rattle.std.proofs.lemmas.Option.{IfSome_then}
use Rattle.numbers.specs.Real.{nought, eps}
use Rattle.flow_theory.proofs.Accepted.{Accepted}
use Rattle.flow_theory.proofs.Theorem.{accepted_good, accepted_caps}
use Rattle.epsdelta_theory.specs.FlowTest.{links_of, caps}
use Rattle.flow_routes.specs.declared.Step.{Step}
use Rattle.flow_routes.specs.declared.Step.TheVariants as steps
use Rattle.flow_routes.specs.declared.Reached.{Reached}
use Rattle.flow_routes.proofs.Rising.{out_rising}
use Rattle.flow_routes.proofs.Underway.{run_underway}
use Rattle.flow_routes.proofs.Growth.{flow_starts}
use Rattle.flow_routes.proofs.Crossing.{rate_at}
use Rattle.flow_routes.proofs.Labelled.{mapped_first}
use Rattle.flow_routes.proofs.Standing.{Rows, net, holding, flow_of, first_flow, Standing, Labelled, enough}
use Rattle.flow_routes.proofs.Giving.{Cursor, First, cursor_starts, first_phase}
use Rattle.flow_routes.proofs.Coding.{Reads, Room, StartsAt, Giving}
use Rattle.flow_routes.proofs.Pathing.{Stepped, Settling, Settled, settling_stays, settling_pushes, settled_yes, settled_no}

-- ---- one try

-- a try leads on, or to an end of which something is known or not
abbrev pub Tried : List ℕ → List ℕ → ℕ → List ℕ → Float → List Float → List Float → List Float → List ℕ → List ℕ → ℕ → Float → List Float → List Float → List Float → List ℕ → List ℕ → ControlFlow (Option Bool) Reached → Type 0
Tried us ts n store need A B F l r s t A' B' F' l' r' (Continue c) =
    (A₀ B₀ F₀ : List Float) (l₀ r₀ : List ℕ) (t₀ : Float) → Settling us ts n store need A₀ B₀ F₀ l₀ r₀ t₀ A B F l r s t → Settling us ts n store need A₀ B₀ F₀ l₀ r₀ t₀ A' B' F' l' r' c.label c.flow
Tried us ts n store need A B F l r s t A' B' F' l' r' (Break known) =
    (A₀ B₀ F₀ : List Float) (l₀ r₀ : List ℕ) (t₀ : Float) → Settling us ts n store need A₀ B₀ F₀ l₀ r₀ t₀ A B F l r s t → Settled us ts n store need A₀ B₀ F₀ l₀ r₀ t₀ known

-- what a step leads to, whatever the lists are
abbrev pub Judged : Float → Reached → Step → ControlFlow (Option Bool) Reached → Type 0
Judged need c step next =
    (us ts : List ℕ) (n : ℕ) (store : List ℕ) (A B F : List Float) (l r : List ℕ) (start : ℕ) (A' B' F' : List Float) (l' r' : List ℕ) → StartsAt A l c.label (length us) start → Stepped us ts n store A B F l r c.label start A' B' F' l' r' step
    → Tried us ts n store need A B F l r c.label c.flow A' B' F' l' r' next

module _ {need : Float} {c : Reached} where
  -- no flow more after a cut
  pub judged_cut : Judged need c steps.Cut (Break (Some false))
  judged_cut us ts n store A B F l r start A' B' F' l' r' P Q A₀ B₀ F₀ l₀ r₀ t₀ I = settled_no I P Q

  -- the rise of a label
  pub judged_rise : Judged need c steps.Risen (Continue c)
  judged_rise us ts n store A B F l r start A' B' F' l' r' P Q A₀ B₀ F₀ l₀ r₀ t₀ I = settling_stays I P Q

  -- a push that is enough
  pub judged_enough : {x : Float} → le need (add binary64 c.flow x) ≡ true → Judged need c (steps.Pushed x) (Break (Some true))
  judged_enough d us ts n store A B F l r start A' B' F' l' r' P Q A₀ B₀ F₀ l₀ r₀ t₀ I = settled_yes I P Q d

  -- one that is not yet
  pub judged_pushed : {x : Float} → le need (add binary64 c.flow x) ≡ false → Judged need c (steps.Pushed x) (Continue (record { label = c.label; flow = add binary64 c.flow x }))
  judged_pushed d us ts n store A B F l r start A' B' F' l' r' P Q A₀ B₀ F₀ l₀ r₀ t₀ I = settling_pushes I P Q d

-- ---- the first labels: 2 for a target of s with rate left and for a target of t with none, else 1

abbrev pub label_of : ℕ → ℕ → Float → ℕ
label_of some none x = cond (lt eps x) some none

-- the first k labels
pub record Labelling (some none : ℕ) (B : List Float) (r₀ r : List ℕ) (k : ℕ) : Type 0 where
  pub size : length r ≡ length r₀
  pub are : (j : ℕ) → j < k → get_or r j 0 ≡ label_of some none (get_or B j nan)

-- the first pushes are made: no target of s with rate left is held with a target of t with rate left
pub first_labelled : {G : Rows} {us ts : List ℕ} {n : ℕ} {store : List ℕ} → Reads G us ts n store → {A B : List Float} {i : ℕ} → Cursor G A B i 0 → length us ≤ i → (F : List Float) (l r : List ℕ) → length us ≤ length l → length ts ≤ length r
    → ((i : ℕ) → i < length us → get_or l i 0 ≡ label_of 2 1 (get_or A i nan)) → ((k : ℕ) → k < length ts → get_or r k 0 ≡ label_of 1 2 (get_or B k nan)) → Labelled G A B F l r 2
first_labelled {G} {us} {ts} R {A} {B} K done F l r hl hr one two = record {
  room_l = let e = R.lefts in omega arith;
  room_r = let e = R.rights in omega arith;
  labels = record {
    source = λ i h o. let e : label_of 2 1 (get_or A i nan) ≡ 2 = rw o in let a = one i (rw (← R.lefts) h) in omega arith;
    sink = λ k h o. let e : label_of 1 2 (get_or B k nan) ≡ 1 = rw o in let a = two k (rw (← R.rights) h) in omega arith;
    forth = λ i k h g t. forth i k h g t (lt eps (get_or A i nan)) refl;
    back = λ i k h g t o. let a = left i h in let b = right k g in omega arith;
    low = λ i h. let a = left i h in omega arith;
    least = λ i h. let a = left i h in omega arith;
    some = λ k h. let b = right k h in omega arith;
  };
}
  where
    low : (b : Bool) → (1 ≤ cond b 2 1) × (cond b 2 1 ≤ 2) × (1 ≤ cond b 1 2) × (cond b 1 2 ≤ 2)
    low true = (omega arith, omega arith, omega arith, omega arith)
    low false = (omega arith, omega arith, omega arith, omega arith)

    left : (i : ℕ) → i < length G.ps → (1 ≤ get_or l i 0) × (get_or l i 0 ≤ 2)
    left i h = let (a, b, c, d) = low (lt eps (get_or A i nan)) in subst⁻¹ (λ (y : ℕ). (1 ≤ y) × (y ≤ 2)) (one i (rw (← R.lefts) h)) (a, b)

    right : (k : ℕ) → k < length G.pt → (1 ≤ get_or r k 0) × (get_or r k 0 ≤ 2)
    right k h = let (a, b, c, d) = low (lt eps (get_or B k nan)) in subst⁻¹ (λ (y : ℕ). (1 ≤ y) × (y ≤ 2)) (two k (rw (← R.rights) h)) (c, d)

    forth : (i k : ℕ) → i < length G.ps → k < length G.pt → holding G i k ≡ true → (b : Bool) → lt eps (get_or A i nan) ≡ b → get_or l i 0 ≤ get_or r k 0
    forth i k h g t true e =
        let a = left i h in
        let z = K.rows i k (let q = R.lefts in omega arith) h g t e in
        let f : label_of 1 2 (get_or B k nan) ≡ 2 = rw z in
        let b = two k (rw (← R.rights) g) in
        omega arith
    forth i k h g t false e = let f : label_of 2 1 (get_or A i nan) ≡ 1 = rw e in let a = one i (rw (← R.lefts) h) in let b = right k g in omega arith

-- what the search from the first labels says of every flow test that the lists are of, whose first pushes are made, and whose flow t is not enough yet
abbrev pub Searched : List ℕ → List ℕ → ℕ → List ℕ → Float → List Float → List Float → List Float → Float → Option Bool → Type 0
Searched us ts n store need A B F t known =
    IfSome known (λ passes. le need t ≡ false → (G : Rows) → Reads G us ts n store → Standing G A B F t → (i : ℕ) → Cursor G A B i 0 → length us ≤ i → passes ≡ le need (flow_of G))

pub searched : (us ts : List ℕ) (n : ℕ) (store : List ℕ) (need : Float) (A B F : List Float) (l r : List ℕ) (t : Float) (known : Option Bool) → length us ≤ length l → length ts ≤ length r → ((i : ℕ) → i < length us → get_or l i 0 ≡ label_of 2 1 (get_or A i nan))
    → ((k : ℕ) → k < length ts → get_or r k 0 ≡ label_of 1 2 (get_or B k nan)) → Settled us ts n store need A B F l r t known → Searched us ts n store need A B F t known
searched us ts n store need A B F l r t known hl hr one two D = IfSome_then known D (λ _ E h G R S i K done. E h G R S (first_labelled R K done F l r hl hr one two))

-- ---- from the rates of both rows, with nothing pushed

-- the flow test of two rows
pub record Begins (G : Rows) (us : List ℕ) (vs : List Float) (ts : List ℕ) (ws : List Float) (n : ℕ) (store : List ℕ) : Type 0 where
  pub reads : Reads G us ts n store
  pub accepted : Accepted (net G) (caps (links_of G.states G.relation G.ps G.pt)) (length (links_of G.states G.relation G.ps G.pt))
  pub left : (i : ℕ) → rate_at G.ps i ≡ get_or vs i nan
  pub right : (k : ℕ) → rate_at G.pt k ≡ get_or ws k nan

-- what is said of it: nothing is known only where the first phase is not enough
abbrev pub Told : List ℕ → List Float → List ℕ → List Float → ℕ → List ℕ → Float → Option Bool → Type 0
Told us vs ts ws n store need known =
    MatchOption known ((G : Rows) → Begins G us vs ts ws n store → le need (first_flow G) ≡ false) (λ passes. (G : Rows) → Begins G us vs ts ws n store → passes ≡ le need (flow_of G))

module _ {us : List ℕ} (vs : List Float) {ts : List ℕ} (ws : List Float) {n : ℕ} {A B F : List Float} (R : Room us ts n A B F) (ev : length vs ≡ length us) (ew : length ws ≡ length ts) (fa : (i : ℕ) → i < length vs → get_or A i nan ≡ get_or vs i nan)
    (fb : (k : ℕ) → k < length ws → get_or B k nan ≡ get_or ws k nan) (ff : (j : ℕ) → j < length F → get_or F j nan ≡ nought) where
  first_state : {store : List ℕ} {G : Rows} → Begins G us vs ts ws n store → First G A B F nought
  first_state {store} {G} K =
      let c = caps (links_of G.states G.relation G.ps G.pt) in
      let m = length (links_of G.states G.relation G.ps G.pt) in
      let good = accepted_good (net G) c m K.accepted in
      let a = K.reads.lefts in
      let b = K.reads.rights in
      let ra = R.size_a in
      let rb = R.size_b in
      let rf : length G.ps * length G.pt ≤ length F = rw (a, b) R.room_f in
      let caps_in = accepted_caps (net G) c m K.accepted in
      record {
        standing = record {
          good = good;
          rising = out_rising (net G) K.accepted.lists;
          caps = c;
          flow = flow_starts;
          underway = run_underway good c caps_in;
          mapped = mapped_first G.states G.relation G.ps G.pt A B F (omega arith) (omega arith) rf (λ i h. fa i (omega arith) ∙ sym (K.left i)) (λ k h. fb k (omega arith) ∙ sym (K.right k)) (λ j h. ff j (omega arith));
        };
        caps = caps_in;
        opening = inl (refl, refl);
      }

  module _ {store : List ℕ} {A' B' F' : List Float} {t : Float} {i : ℕ} (I : Giving us ts n store A B F nought 0 A' B' F' t i 0) (need : Float) where
    -- the first pushes are enough
    pub told_first : le need t ≡ true → Told us vs ts ws n store need (Some true)
    told_first h G K = sym (enough (I.state G K.reads (first_state K) cursor_starts).0.standing need h)

    -- all first pushes are made, and the search says whether
    pub told_search : le need t ≡ false → (le need t ≡ false → length us ≤ i) → (known : Option Bool) → Searched us ts n store need A' B' F' t known → Told us vs ts ws n store need known
    told_search h done (Some _) E = λ G K. let (X, Y) = I.state G K.reads (first_state K) cursor_starts in E h G K.reads X.standing i Y (done h)
    told_search h done None D = λ G K. let (X, Y) = I.state G K.reads (first_state K) cursor_starts in ap (le need) (first_phase X Y (let e = K.reads.lefts in let d = done h in omega arith)) ∙ h
