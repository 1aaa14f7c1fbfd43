-- The state of a flow test on its way: three lists that hold what is left of each link, and the flow so far. One push more leads to the next state, and labels stay bounds.
use mathlib.Core.Path.{◌≡◌, refl, sym, ap, subst, ◌∙◌}
use Prim.Native.Nat.{ℕ, suc, ◌≤◌, ◌<◌, ◌+◌, ◌*◌}
use mathlib.Core.Bool.{Bool, true, false, true≢false}
use mathlib.Core.Logic.{◌≢◌, ◌⊎◌, inl, inr}
use mathlib.Core.List.{List, [], ◌∷◌}
use native.Mathlib.Omega.{arith}
use lib.ListN.{length, get_or, set, length-set}
use lib.Seq.{get_or-set_same, get_or-set_other}
use lib.Ieee.{Float, nan, inf, fin, binary64, lt, le, sub}
use Rattle.numbers.specs.Real.{eps}
use Rattle.numbers.specs.Choice.{choose, smaller}
use Rattle.numbers.proofs.Bools.{eq_or_ne}
use Rattle.numbers.proofs.Floats.{Plain}
use Rattle.flow_theory.specs.Network.{Net, out, left}
use Rattle.flow_theory.specs.Augment.{least}
use Rattle.flow_theory.specs.Run.{run, start}
use Rattle.flow_theory.proofs.Links.{WellFormed}
use Rattle.flow_theory.proofs.Floats.{above_low, sub_self}
use Rattle.flow_theory.proofs.Pushes.{plain_next, plain_below}
use Rattle.epsdelta_theory.specs.Jumps.{Jump}
use Rattle.epsdelta_theory.specs.FlowTest.{links_of, caps, network_between, run_between}
use Rattle.epsdelta_theory.proofs.Pairs.{same_entry, pair_cases}
use Rattle.flow_routes.proofs.Rising.{Rising}
use Rattle.flow_routes.proofs.Underway.{Underway, underway_caps}
use Rattle.flow_routes.proofs.Growth.{Flow, underway_grows, le_further}
use Rattle.flow_routes.proofs.Numbered.{held, source_link, source_in, source_tail}
use Rattle.flow_routes.proofs.Labelled.{Mapped, Labels}

-- what a flow test is made of: the states of the relation, the relation, and the jumps of both rows
pub record Rows : Type 0 where
  pub states : ℕ
  pub relation : List Bool
  pub ps : List Jump
  pub pt : List Jump

abbrev pub net : Rows → Net
net G = network_between G.states G.relation G.ps G.pt

-- whether targets i and k are held together
abbrev pub holding : Rows → ℕ → ℕ → Bool
holding G i k = held G.states G.relation G.ps G.pt i k

-- the flow at the end of the run
abbrev pub flow_of : Rows → Float
flow_of G = (run_between G.states G.relation G.ps G.pt).total

-- the capacities at first
abbrev pub caps_of : Rows → List Float
caps_of G = caps (links_of G.states G.relation G.ps G.pt)

-- the flow after its first phase
abbrev pub first_flow : Rows → Float
first_flow G = (run (net G) 1 (start (caps_of G))).total

-- A, B and F hold what is left, and the flow is t so far
pub record Standing (G : Rows) (A B F : List Float) (t : Float) : Type 0 where
  pub good : WellFormed (net G)
  pub rising : (u : ℕ) → Rising (out (net G) u)
  pub caps : List Float
  pub flow : Flow t
  pub underway : Underway (net G) good (flow_of G) t caps
  pub mapped : Mapped G.states G.relation G.ps G.pt caps A B F

-- labels in two lists
pub record Labelled (G : Rows) (A B F : List Float) (l r : List ℕ) (s : ℕ) : Type 0 where
  pub room_l : length G.ps ≤ length l
  pub room_r : length G.pt ≤ length r
  pub labels : Labels G.states G.relation G.ps G.pt A B F (λ i. get_or l i 0) (λ k. get_or r k 0) s

module _ {G : Rows} {A B F : List Float} {t : Float} (S : Standing G A B F t) where
  -- a flow that is enough on the way is enough at the end
  pub enough : (need : Float) → le need t ≡ true → le need (flow_of G) ≡ true
  enough need h =
      let (a, l) = underway_grows (net G) S.good S.underway S.flow in
      le_further need t (flow_of G) S.flow.above a h l

  -- what is left from the source is finite
  pub source_plain : (i : ℕ) → i < length G.ps → lt eps (get_or A i nan) ≡ true → Plain (get_or A i nan)
  source_plain i h o =
      let C = underway_caps S.good S.underway in
      subst Plain (S.mapped.source i h)
      (above_low (left S.caps (source_link G.states G.relation G.ps G.pt i)) (ap (lt eps) (S.mapped.source i h) ∙ o)
      (C.low (source_link G.states G.relation G.ps G.pt i) (source_in G.states G.relation G.ps G.pt i h) (source_tail G.states G.relation G.ps G.pt i h)))

-- ---- the least of two

pub smaller_plain : (x y : Float) → Plain x → lt eps y ≡ true → Plain (smaller x y)
unfolding smaller
smaller_plain x y p h = pick (lt y x) refl
  where
    pick : (b : Bool) → lt y x ≡ b → Plain (choose b y x)
    pick true e = plain_next y x h p e
    pick false e = p

pub smaller_above : (x y : Float) → lt eps x ≡ true → lt eps y ≡ true → lt eps (smaller x y) ≡ true
unfolding smaller
smaller_above x y p h = pick (lt y x)
  where
    pick : (b : Bool) → lt eps (choose b y x) ≡ true
    pick true = h
    pick false = p

-- one of the two is used up
pub smaller_spends : (x y : Float) → Plain x → lt eps y ≡ true → (lt eps (sub binary64 x (smaller x y)) ≡ false) ⊎ (lt eps (sub binary64 y (smaller x y)) ≡ false)
unfolding smaller
smaller_spends x y p h = pick (lt y x) refl
  where
    pick : (b : Bool) → lt y x ≡ b → (lt eps (sub binary64 x (choose b y x)) ≡ false) ⊎ (lt eps (sub binary64 y (choose b y x)) ≡ false)
    pick true e = inr (sub_self y (plain_next y x h p e))
    pick false e = inl (sub_self x p)

inf_not_below : (x : Float) → Plain x → lt (inf false) x ≡ false
unfolding lt
inf_not_below x p = pick x p
  where
    pick : (x : Float) → Plain x → lt (inf false) x ≡ false
    pick nan p = absurd p
    pick (inf s) p = absurd p
    pick (fin true m e) p = absurd p
    pick (fin false m e) p = refl

-- along a path: first what is left from the source, then an infinite link changes nothing
pub least_first : (c : List Float) (e : ℕ) (p : List ℕ) (x : Float) → left c e ≡ x → Plain x → least c (inf false) (e ∷ p) ≡ least c x p
unfolding least smaller
least_first c e p x z q = rw (z, plain_below x q)

pub least_over : (c : List Float) (e : ℕ) (p : List ℕ) (x : Float) → left c e ≡ inf false → Plain x → least c x (e ∷ p) ≡ least c x p
unfolding least smaller
least_over c e p x z q = rw (z, inf_not_below x q)

pub least_next : (c : List Float) (e : ℕ) (p : List ℕ) (x y : Float) → left c e ≡ y → least c x (e ∷ p) ≡ least c (smaller x y) p
unfolding least
least_next c e p x y z = ap (λ (w : Float). least c (smaller x w) p) z

pub least_none : (c : List Float) (x : Float) → least c x [] ≡ x
unfolding least
least_none c x = refl

-- ---- one push over a link of each kind, and the labels

module _ {G : Rows} {A B F : List Float} {l r : ℕ → ℕ} {s : ℕ} (I : Labels G.states G.relation G.ps G.pt A B F l r s) (x : Float) where
  abbrev entry : ℕ → ℕ → ℕ
  entry i k = i * length G.pt + k

  -- the labels of a link whose amount changes are right whatever is left of it
  pub keep_source : (i : ℕ) → s ≤ l i → Labels G.states G.relation G.ps G.pt (set A i x) B F l r s
  keep_source i z = record {
    source = λ j h o. pick j h o (eq_or_ne j i);
    sink = I.sink;
    forth = I.forth;
    back = I.back;
    low = I.low;
    least = I.least;
    some = I.some;
  }
    where
      pick : (j : ℕ) → j < length G.ps → lt eps (get_or (set A i x) j nan) ≡ true → (j ≡ i) ⊎ (j ≢ i) → s ≤ l j
      pick j h o (inl e) = let q = ap l e in omega arith
      pick j h o (inr d) = I.source j h (ap (lt eps) (sym (get_or-set_other A i j x nan d)) ∙ o)

  pub keep_sink : (k : ℕ) → r k ≤ 1 → Labels G.states G.relation G.ps G.pt A (set B k x) F l r s
  keep_sink k z = record {
    source = I.source;
    sink = λ j h o. pick j h o (eq_or_ne j k);
    forth = I.forth;
    back = I.back;
    low = I.low;
    least = I.least;
    some = I.some;
  }
    where
      pick : (j : ℕ) → j < length G.pt → lt eps (get_or (set B k x) j nan) ≡ true → (j ≡ k) ⊎ (j ≢ k) → r j ≤ 1
      pick j h o (inl e) = let q = ap r e in omega arith
      pick j h o (inr d) = I.sink j h (ap (lt eps) (sym (get_or-set_other B k j x nan d)) ∙ o)

  pub keep_flow : (i k : ℕ) → k < length G.pt → r k ≤ suc (l i) → Labels G.states G.relation G.ps G.pt A B (set F (i * length G.pt + k) x) l r s
  keep_flow i k hk z = record {
    source = I.source;
    sink = I.sink;
    forth = I.forth;
    back = λ j q h g t o. pick j q h g t o (pair_cases j q i k);
    low = I.low;
    least = I.least;
    some = I.some;
  }
    where
      pick : (j q : ℕ) → j < length G.ps → q < length G.pt → holding G j q ≡ true → lt eps (get_or (set F (entry i k) x) (entry j q) nan) ≡ true → ((j ≡ i) × (q ≡ k)) ⊎ ((j ≡ i) → (q ≡ k) → ⊥) → r q ≤ suc (l j)
      pick j q h g t o (inl (e, f)) = let u = ap l e in let v = ap r f in omega arith
      pick j q h g t o (inr d) =
          I.back j q h g t (ap (lt eps) (sym (get_or-set_other F (entry i k) (entry j q) x nan (λ z. let (y, w) = same_entry (length G.pt) j q i k g hk z in d y w))) ∙ o)

-- ---- labels that rise

module _ {G : Rows} {A B F : List Float} {l r : List ℕ} {s : ℕ} (J : Labelled G A B F l r s) where
  abbrev I : Labels G.states G.relation G.ps G.pt A B F (λ i. get_or l i 0) (λ k. get_or r k 0) s
  I = J.labels

  -- of a target of s that no target of t with its label is held with
  pub raise_left : (i : ℕ) → i < length l → get_or l i 0 ≤ s → ((k : ℕ) → k < length G.pt → holding G i k ≡ true → get_or r k 0 ≢ get_or l i 0) → Labelled G A B F (set l i (get_or l i 0 + 1)) r s
  raise_left i hi low none = record {
    room_l = let n = length-set l i (get_or l i 0 + 1) in let q = J.room_l in omega arith;
    room_r = J.room_r;
    labels = record {
      source = λ j h o. let w = I.source j h o in let y = up j in omega arith;
      sink = I.sink;
      forth = λ j k h g t. forth j k h g t (eq_or_ne j i);
      back = λ j k h g t o. let w = I.back j k h g t o in let y = up j in omega arith;
      low = λ j h. bounded j h (eq_or_ne j i);
      least = λ j h. let w = I.least j h in let y = up j in omega arith;
      some = I.some;
    };
  }
    where
      same : get_or (set l i (get_or l i 0 + 1)) i 0 ≡ get_or l i 0 + 1
      same = get_or-set_same l i (get_or l i 0 + 1) 0 hi

      up : (j : ℕ) → get_or l j 0 ≤ get_or (set l i (get_or l i 0 + 1)) j 0
      up j = pick (eq_or_ne j i)
        where
          pick : (j ≡ i) ⊎ (j ≢ i) → get_or l j 0 ≤ get_or (set l i (get_or l i 0 + 1)) j 0
          pick (inl e) = let q = ap (λ (x : ℕ). get_or l x 0) e in let w = ap (λ (x : ℕ). get_or (set l i (get_or l i 0 + 1)) x 0) e in let y = same in omega arith
          pick (inr d) = let q = get_or-set_other l i j (get_or l i 0 + 1) 0 d in omega arith

      forth : (j k : ℕ) → j < length G.ps → k < length G.pt → holding G j k ≡ true → (j ≡ i) ⊎ (j ≢ i) → get_or (set l i (get_or l i 0 + 1)) j 0 ≤ get_or r k 0
      forth j k h g t (inl e) =
          let w = I.forth j k h g t in
          let d = none k g (ap (λ (x : ℕ). holding G x k) (sym e) ∙ t) in
          let q = ap (λ (x : ℕ). get_or l x 0) e in
          let y = ap (λ (x : ℕ). get_or (set l i (get_or l i 0 + 1)) x 0) e in
          let z = same in
          omega arith
      forth j k h g t (inr d) = let w = I.forth j k h g t in let q = get_or-set_other l i j (get_or l i 0 + 1) 0 d in omega arith

      bounded : (j : ℕ) → j < length G.ps → (j ≡ i) ⊎ (j ≢ i) → get_or (set l i (get_or l i 0 + 1)) j 0 ≤ suc s
      bounded j h (inl e) = let y = ap (λ (x : ℕ). get_or (set l i (get_or l i 0 + 1)) x 0) e in let z = same in omega arith
      bounded j h (inr d) = let w = I.low j h in let q = get_or-set_other l i j (get_or l i 0 + 1) 0 d in omega arith

  -- of a target of t with nothing left to the sink, and nothing to take back from a target of s with a label lower by 1
  pub raise_right : (k : ℕ) → k < length r → lt eps (get_or B k nan) ≡ false → ((i : ℕ) → i < length G.ps → holding G i k ≡ true → lt eps (get_or F (i * length G.pt + k) nan) ≡ true → suc (get_or l i 0) ≢ get_or r k 0)
      → Labelled G A B F l (set r k (get_or r k 0 + 1)) s
  raise_right k hk off none = record {
    room_l = J.room_l;
    room_r = let n = length-set r k (get_or r k 0 + 1) in let q = J.room_r in omega arith;
    labels = record {
      source = I.source;
      sink = λ j h o. sink j h o (eq_or_ne j k);
      forth = λ i j h g t. let w = I.forth i j h g t in let y = up j in omega arith;
      back = λ i j h g t o. back i j h g t o (eq_or_ne j k);
      low = I.low;
      least = I.least;
      some = λ j h. let w = I.some j h in let y = up j in omega arith;
    };
  }
    where
      same : get_or (set r k (get_or r k 0 + 1)) k 0 ≡ get_or r k 0 + 1
      same = get_or-set_same r k (get_or r k 0 + 1) 0 hk

      up : (j : ℕ) → get_or r j 0 ≤ get_or (set r k (get_or r k 0 + 1)) j 0
      up j = pick (eq_or_ne j k)
        where
          pick : (j ≡ k) ⊎ (j ≢ k) → get_or r j 0 ≤ get_or (set r k (get_or r k 0 + 1)) j 0
          pick (inl e) = let q = ap (λ (x : ℕ). get_or r x 0) e in let w = ap (λ (x : ℕ). get_or (set r k (get_or r k 0 + 1)) x 0) e in let y = same in omega arith
          pick (inr d) = let q = get_or-set_other r k j (get_or r k 0 + 1) 0 d in omega arith

      sink : (j : ℕ) → j < length G.pt → lt eps (get_or B j nan) ≡ true → (j ≡ k) ⊎ (j ≢ k) → get_or (set r k (get_or r k 0 + 1)) j 0 ≤ 1
      sink j h o (inl e) = absurd (true≢false (sym o ∙ ap (λ (x : ℕ). lt eps (get_or B x nan)) e ∙ off))
      sink j h o (inr d) = let w = I.sink j h o in let q = get_or-set_other r k j (get_or r k 0 + 1) 0 d in omega arith

      back : (i j : ℕ) → i < length G.ps → j < length G.pt → holding G i j ≡ true → lt eps (get_or F (i * length G.pt + j) nan) ≡ true → (j ≡ k) ⊎ (j ≢ k) → get_or (set r k (get_or r k 0 + 1)) j 0 ≤ suc (get_or l i 0)
      back i j h g t o (inl e) =
          let w = I.back i j h g t o in
          let d = none i h (ap (λ (x : ℕ). holding G i x) (sym e) ∙ t) (ap (λ (x : ℕ). lt eps (get_or F (i * length G.pt + x) nan)) (sym e) ∙ o) in
          let q = ap (λ (x : ℕ). get_or r x 0) e in
          let y = ap (λ (x : ℕ). get_or (set r k (get_or r k 0 + 1)) x 0) e in
          let z = same in
          omega arith
      back i j h g t o (inr d) = let w = I.back i j h g t o in let q = get_or-set_other r k j (get_or r k 0 + 1) 0 d in omega arith

  -- of the source, where no target of s with rate left has its label
  pub raise_source : ((i : ℕ) → i < length G.ps → lt eps (get_or A i nan) ≡ true → get_or l i 0 ≢ s) → Labelled G A B F l r (s + 1)
  raise_source none = record {
    room_l = J.room_l;
    room_r = J.room_r;
    labels = record {
      source = λ i h o. let w = I.source i h o in let d = none i h o in omega arith;
      sink = I.sink;
      forth = I.forth;
      back = I.back;
      low = λ i h. let w = I.low i h in omega arith;
      least = I.least;
      some = I.some;
    };
  }
