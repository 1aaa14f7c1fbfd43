-- The pushes of the first phase: each target i of s in turn gives to each target k of t in turn that is held with it, as much as both have left. Each is the push of the definition's run.
use mathlib.Core.Path.{◌≡◌, refl, sym, ap, subst, subst⁻¹, ◌∙◌}
use Prim.Native.Nat.{ℕ, suc, ◌≤◌, ◌<◌, ◌+◌, ◌*◌}
use mathlib.Core.Bool.{Bool, true, false, ◌&&◌, cond, true≢false}
use mathlib.Core.Logic.{◌≢◌, ◌⊎◌, inl, inr}
use mathlib.Core.List.{List, [], ◌∷◌}
use native.Mathlib.Omega.{arith}
use borrow.Author.Tests.{lt-ltb, le-ltb, ltb-true}
use lib.Dec.{ltb}
use lib.ListN.{length, get_or, set}
use lib.Seq.{get_or-set_same, get_or-set_other}
use lib.Ieee.{Float, nan, inf, binary64, lt, add, sub}
use Rattle.numbers.specs.Real.{eps}
use Rattle.numbers.specs.Choice.{smaller}
use Rattle.numbers.proofs.Bools.{and_t, eq_or_ne}
use Rattle.numbers.proofs.Floats.{Plain}
use Rattle.flow_theory.specs.Network.{nodes, left}
use Rattle.flow_theory.specs.Augment.{least, push_path}
use Rattle.flow_routes.proofs.Shortest.{Bounding, Route}
use Rattle.flow_theory.proofs.Links.{Caps}
use Rattle.flow_routes.proofs.Underway.{Underway, underway_pushes, Opening, opening_pushes, opening_over, opening_none}
use Rattle.flow_routes.proofs.Growth.{flow_grows}
use Rattle.flow_routes.proofs.Numbered.{source_link, sink_link, cross_link, cross_back_cap, source_head, cross_head}
use Rattle.flow_routes.proofs.Labelled.{Mapped, Labels, dist, dist_source, none_above, push_source, push_sink, push_cross}
use Rattle.flow_routes.proofs.Tight.{bounding, first_source, first_left, ends_route, longer_route}
use Rattle.flow_routes.proofs.Standing.{Rows, net, holding, flow_of, caps_of, first_flow, Standing, source_plain, smaller_plain, smaller_above, smaller_spends, least_first, least_over, least_next, least_none}

-- the turn is at i and k: no earlier pair that is held has something left on both sides
pub record Cursor (G : Rows) (A B : List Float) (i k : ℕ) : Type 0 where
  pub rows : (j q : ℕ) → j < i → j < length G.ps → q < length G.pt → holding G j q ≡ true → lt eps (get_or A j nan) ≡ true → lt eps (get_or B q nan) ≡ false
  pub row : (q : ℕ) → q < k → q < length G.pt → holding G i q ≡ true → lt eps (get_or A i nan) ≡ true → lt eps (get_or B q nan) ≡ false

-- the same before the run's second phase, whose paths have more links than the 3 of the first
pub record First (G : Rows) (A B F : List Float) (t : Float) : Type 0 where
  pub standing : Standing G A B F t
  pub caps : Caps (net G) (caps_of G)
  pub opening : Opening standing.good (caps_of G) 3 t standing.caps

-- labels that fit: 2 for what can give or take no more
abbrev left_label : List Float → ℕ → ℕ → ℕ
left_label A i j = cond (lt eps (get_or A j nan) && ltb j i) 2 1

abbrev right_label : List Float → ℕ → ℕ
right_label B k = cond (lt eps (get_or B k nan)) 1 2

one_or_two : (b : Bool) → (1 ≤ cond b 1 2) × (cond b 1 2 ≤ 2)
one_or_two true = (omega arith, omega arith)
one_or_two false = (omega arith, omega arith)

two_or_one : (b : Bool) → (1 ≤ cond b 2 1) × (cond b 2 1 ≤ 2)
two_or_one true = (omega arith, omega arith)
two_or_one false = (omega arith, omega arith)

module _ {G : Rows} {A B : List Float} {i k : ℕ} (K : Cursor G A B i k) where
  abbrev l : ℕ → ℕ
  l j = left_label A i j

  abbrev r : ℕ → ℕ
  r q = right_label B q

  first_labels : (F : List Float) → Labels G.states G.relation G.ps G.pt A B F (λ j. left_label A i j) (λ q. right_label B q) 1
  first_labels F = record {
    source = λ j h o. (two_or_one (lt eps (get_or A j nan) && ltb j i)).0;
    sink = λ q h o. rw o (omega arith);
    forth = λ j q h g t. forth j q h g t (lt eps (get_or A j nan) && ltb j i) refl;
    back = λ j q h g t o. let a = (two_or_one (lt eps (get_or A j nan) && ltb j i)).0 in let b = (one_or_two (lt eps (get_or B q nan))).1 in omega arith;
    low = λ j h. (two_or_one (lt eps (get_or A j nan) && ltb j i)).1;
    least = λ j h. (two_or_one (lt eps (get_or A j nan) && ltb j i)).0;
    some = λ q h. (one_or_two (lt eps (get_or B q nan))).0;
  }
    where
      forth : (j q : ℕ) → j < length G.ps → q < length G.pt → holding G j q ≡ true → (b : Bool) → (lt eps (get_or A j nan) && ltb j i) ≡ b → cond b 2 1 ≤ right_label B q
      forth j q h g t true e =
          let (o, z) = and_t (lt eps (get_or A j nan)) (ltb j i) e in
          rw (K.rows j q (ltb-true j i z) h g t o) (omega arith)
      forth j q h g t false e = (one_or_two (lt eps (get_or B q nan))).0

  -- no push: the pair is not held, or one of the two has nothing left
  pub cursor_skips : (holding G i k ≡ true → lt eps (get_or A i nan) ≡ true → lt eps (get_or B k nan) ≡ false) → Cursor G A B i (k + 1)
  cursor_skips f = record { rows = K.rows; row = λ q l h t o. pick q l h t o (eq_or_ne q k) }
    where
      pick : (q : ℕ) → q < k + 1 → q < length G.pt → holding G i q ≡ true → lt eps (get_or A i nan) ≡ true → (q ≡ k) ⊎ (q ≢ k) → lt eps (get_or B q nan) ≡ false
      pick q l h t o (inl e) = ap (λ (x : ℕ). lt eps (get_or B x nan)) e ∙ f (ap (λ (x : ℕ). holding G i x) (sym e) ∙ t) o
      pick q l h t o (inr d) = K.row q (omega arith) h t o

  -- the turn of the next i
  pub cursor_turns : (lt eps (get_or A i nan) ≡ true → length G.pt ≤ k) → Cursor G A B (i + 1) 0
  cursor_turns f = record { rows = λ j q l h g t o. pick j q l h g t o (eq_or_ne j i); row = λ q l h t o. absurd (omega arith) }
    where
      pick : (j q : ℕ) → j < i + 1 → j < length G.ps → q < length G.pt → holding G j q ≡ true → lt eps (get_or A j nan) ≡ true → (j ≡ i) ⊎ (j ≢ i) → lt eps (get_or B q nan) ≡ false
      pick j q l h g t o (inl e) =
          let u = ap (λ (x : ℕ). lt eps (get_or A x nan)) (sym e) ∙ o in
          let w = f u in
          K.row q (omega arith) g (ap (λ (x : ℕ). holding G x q) (sym e) ∙ t) u
      pick j q l h g t o (inr d) = K.rows j q (omega arith) h g t o

  module _ {F : List Float} {t : Float} (X : First G A B F t) (hi : i < length G.ps) (hk : k < length G.pt) (u : holding G i k ≡ true) (oa : lt eps (get_or A i nan) ≡ true) (ob : lt eps (get_or B k nan) ≡ true) where
    abbrev S : Standing G A B F t
    S = X.standing

    abbrev x : Float
    x = smaller (get_or A i nan) (get_or B k nan)

    abbrev e1 : ℕ
    e1 = source_link G.states G.relation G.ps G.pt i

    abbrev e2 : ℕ
    e2 = cross_link G.states G.relation G.ps G.pt i k

    abbrev e3 : ℕ
    e3 = sink_link G.states G.relation G.ps G.pt k

    abbrev p : List ℕ
    p = e1 ∷ e2 ∷ e3 ∷ []

    abbrev D : ℕ → ℕ
    D = dist G.states G.relation G.ps G.pt (λ j. left_label A i j) (λ q. right_label B q) 1

    plain : Plain (get_or A i nan)
    plain = source_plain S i hi oa

    x_plain : Plain x
    x_plain = smaller_plain (get_or A i nan) (get_or B k nan) plain ob

    own : left_label A i i ≡ 1
    own = rw (oa, le-ltb i i (omega arith))

    takes : right_label B k ≡ 1
    takes = rw ob

    passed_left : (j : ℕ) → j < i → lt eps (get_or A j nan) ≡ true → left_label A i j ≢ 1
    passed_left j h o e = let z : left_label A i j ≡ 2 = rw (o, lt-ltb j i h) in absurd (omega arith)

    passed_right : (q : ℕ) → q < k → holding G i q ≡ true → right_label B q ≢ left_label A i i
    passed_right q h t e = let z : right_label B q ≡ 2 = rw (K.row q h (omega arith) t oa) in let w = own in absurd (omega arith)

    route : Route (net G) S.caps D (length G.ps + length G.pt) p
    route =
        let I = first_labels F in
        let M = S.mapped in
        longer_route G.states G.relation G.ps G.pt M I (length G.ps + length G.pt) e1 i (e2 ∷ e3 ∷ [])
        (first_source G.states G.relation G.ps G.pt M I i hi oa own (λ j h o. passed_left j h o)) (source_head G.states G.relation G.ps G.pt i hi)
        (longer_route G.states G.relation G.ps G.pt M I i e2 (length G.ps + k) (e3 ∷ [])
        (first_left G.states G.relation G.ps G.pt M I i k hi hk u (takes ∙ sym own) (let z = own in omega arith) (λ q h t. passed_right q h t)) (cross_head G.states G.relation G.ps G.pt i k hi hk u)
        (ends_route G.states G.relation G.ps G.pt M I k hk ob))

    amount : least S.caps (inf false) p ≡ x
    amount =
        let M = S.mapped in
        least_first S.caps e1 (e2 ∷ e3 ∷ []) (get_or A i nan) (M.source i hi) plain ∙ least_over S.caps e2 (e3 ∷ []) (get_or A i nan) (M.cross i k hi hk u) plain
        ∙ least_next S.caps e3 [] (get_or A i nan) (get_or B k nan) (M.sink k hk) ∙ least_none S.caps x

    pushed : Underway (net G) S.good (flow_of G) (add binary64 t x) (push_path x p S.caps)
    pushed = subst (λ (y : Float). Underway (net G) S.good (flow_of G) (add binary64 t y) (push_path y p S.caps)) amount
        (underway_pushes S.good S.rising D (bounding G.states G.relation G.ps G.pt S.mapped (first_labels F)) p route S.underway)

    abbrev A' : List Float
    A' = set A i (sub binary64 (get_or A i nan) x)

    abbrev B' : List Float
    B' = set B k (sub binary64 (get_or B k nan) x)

    abbrev F' : List Float
    F' = set F (i * length G.pt + k) (add binary64 (get_or F (i * length G.pt + k) nan) x)

    far : D (length G.ps + length G.pt) ≡ 3
    far = dist_source G.states G.relation G.ps G.pt (λ j. left_label A i j) (λ q. right_label B q) 1 (length G.ps + length G.pt) refl

    opened : Opening S.good (caps_of G) 3 (add binary64 t x) (push_path x p S.caps)
    opened =
        subst (λ (y : Float). Opening S.good (caps_of G) 3 (add binary64 t y) (push_path y p S.caps)) amount
        (subst (λ (d : ℕ). Opening S.good (caps_of G) d (add binary64 t (least S.caps (inf false) p)) (push_path (least S.caps (inf false) p) p S.caps)) far
        (opening_pushes S.good X.caps D (bounding G.states G.relation G.ps G.pt S.mapped (first_labels F)) S.rising p route (subst⁻¹ (λ (d : ℕ). Opening S.good (caps_of G) d t S.caps) far X.opening)))

    moved : Mapped G.states G.relation G.ps G.pt (push_path x p S.caps) A' B' F'
    unfolding push_path
    moved =
        push_sink G.states G.relation G.ps G.pt
        (push_cross G.states G.relation G.ps G.pt (push_source G.states G.relation G.ps G.pt S.mapped x x_plain i hi) x x_plain i k hi hk u) x x_plain k hk

    pub gives : First G A' B' F' (add binary64 t x)
    gives = record {
      standing = record {
        good = S.good;
        rising = S.rising;
        caps = push_path x p S.caps;
        flow = (flow_grows t x S.flow (smaller_above (get_or A i nan) (get_or B k nan) oa ob)).0;
        underway = pushed;
        mapped = moved;
      };
      caps = X.caps;
      opening = opened;
    }

    left_same : get_or A' i nan ≡ sub binary64 (get_or A i nan) x
    left_same = let r = S.mapped.room_a in get_or-set_same A i (sub binary64 (get_or A i nan) x) nan (omega arith)

    right_same : get_or B' k nan ≡ sub binary64 (get_or B k nan) x
    right_same = let r = S.mapped.room_b in get_or-set_same B k (sub binary64 (get_or B k nan) x) nan (omega arith)

    pub cursor_gives : Cursor G A' B' i (k + 1)
    cursor_gives = record {
      rows = λ j q l h g v o. rows j q l h g v o (eq_or_ne q k);
      row = λ q l h v o. row q l h v o (eq_or_ne q k);
    }
      where
        rows : (j q : ℕ) → j < i → j < length G.ps → q < length G.pt → holding G j q ≡ true → lt eps (get_or A' j nan) ≡ true → (q ≡ k) ⊎ (q ≢ k) → lt eps (get_or B' q nan) ≡ false
        rows j q l h g v o (inl e) =
            let o' = ap (lt eps) (sym (get_or-set_other A i j (sub binary64 (get_or A i nan) x) nan (omega arith))) ∙ o in
            absurd (true≢false (sym ob ∙ ap (λ (y : ℕ). lt eps (get_or B y nan)) (sym e) ∙ K.rows j q l h g v o'))
        rows j q l h g v o (inr d) =
            let o' = ap (lt eps) (sym (get_or-set_other A i j (sub binary64 (get_or A i nan) x) nan (omega arith))) ∙ o in
            ap (lt eps) (get_or-set_other B k q (sub binary64 (get_or B k nan) x) nan d) ∙ K.rows j q l h g v o'

        spent : lt eps (get_or A' i nan) ≡ true → lt eps (get_or B' k nan) ≡ false
        spent o = pick (smaller_spends (get_or A i nan) (get_or B k nan) plain ob)
          where
            pick : (lt eps (sub binary64 (get_or A i nan) x) ≡ false) ⊎ (lt eps (sub binary64 (get_or B k nan) x) ≡ false) → lt eps (get_or B' k nan) ≡ false
            pick (inl z) = absurd (true≢false (sym o ∙ ap (lt eps) left_same ∙ z))
            pick (inr z) = ap (lt eps) right_same ∙ z

        row : (q : ℕ) → q < k + 1 → q < length G.pt → holding G i q ≡ true → lt eps (get_or A' i nan) ≡ true → (q ≡ k) ⊎ (q ≢ k) → lt eps (get_or B' q nan) ≡ false
        row q l h v o (inl e) = ap (λ (y : ℕ). lt eps (get_or B' y nan)) e ∙ spent o
        row q l h v o (inr d) = ap (lt eps) (get_or-set_other B k q (sub binary64 (get_or B k nan) x) nan d) ∙ K.row q (omega arith) h v oa

pub cursor_starts : {G : Rows} {A B : List Float} → Cursor G A B 0 0
cursor_starts = record { rows = λ j q l h g t o. absurd (omega arith); row = λ q l h t o. absurd (omega arith) }

-- ---- all first pushes are made: the flow is that of the run's first phase

-- labels that fit then: any n for what can give or take no more, 2 where something can be taken back
spent_labels : {G : Rows} {A B : List Float} {i : ℕ} → Cursor G A B i 0 → length G.ps ≤ i → (F : List Float) (n : ℕ) → 1 ≤ n → ((j q : ℕ) → j < length G.ps → q < length G.pt → holding G j q ≡ true → lt eps (get_or F (j * length G.pt + q) nan) ≡ true → n ≤ 2)
    → Labels G.states G.relation G.ps G.pt A B F (λ j. cond (lt eps (get_or A j nan)) n 1) (λ q. cond (lt eps (get_or B q nan)) 1 n) n
spent_labels {G} {A} {B} K done F n some back = record {
  source = λ j h o. rw o (omega arith);
  sink = λ q h o. rw o (omega arith);
  forth = λ j q h g t. forth j q h g t (lt eps (get_or A j nan)) refl;
  back = λ j q h g t o. let e = back j q h g t o in let a = (high (lt eps (get_or A j nan))).0 in let b = (low (lt eps (get_or B q nan))).1 in omega arith;
  low = λ j h. let a = (high (lt eps (get_or A j nan))).1 in omega arith;
  least = λ j h. (high (lt eps (get_or A j nan))).0;
  some = λ q h. (low (lt eps (get_or B q nan))).0;
}
  where
    high : (b : Bool) → (1 ≤ cond b n 1) × (cond b n 1 ≤ n)
    high true = (omega arith, omega arith)
    high false = (omega arith, omega arith)

    low : (b : Bool) → (1 ≤ cond b 1 n) × (cond b 1 n ≤ n)
    low true = (omega arith, omega arith)
    low false = (omega arith, omega arith)

    forth : (j q : ℕ) → j < length G.ps → q < length G.pt → holding G j q ≡ true → (b : Bool) → lt eps (get_or A j nan) ≡ b → cond b n 1 ≤ cond (lt eps (get_or B q nan)) 1 n
    forth j q h g t true e = rw (K.rows j q (omega arith) h g t e) (omega arith)
    forth j q h g t false e = (low (lt eps (get_or B q nan))).0

pub first_phase : {G : Rows} {A B F : List Float} {t : Float} {i : ℕ} → First G A B F t → Cursor G A B i 0 → length G.ps ≤ i → first_flow G ≡ t
first_phase {G} {A} {B} {F} {t} X K done = pick X.opening
  where
    pick : Opening X.standing.good (caps_of G) 3 t X.standing.caps → first_flow G ≡ t
    pick (inl (z, e)) =
        let n = nodes (net G) in
        opening_none X.standing.good X.caps (dist G.states G.relation G.ps G.pt (λ j. cond (lt eps (get_or A j nan)) n 1) (λ q. cond (lt eps (get_or B q nan)) 1 n) n)
        (subst (λ (c : List Float). Bounding (net G) c (dist G.states G.relation G.ps G.pt (λ j. cond (lt eps (get_or A j nan)) n 1) (λ q. cond (lt eps (get_or B q nan)) 1 n) n)) e
        (bounding G.states G.relation G.ps G.pt X.standing.mapped (spent_labels K done F n (omega arith) (λ j q h g u o. absurd (true≢false (sym o ∙ untaken j q h g u e))))))
        (let f = dist_source G.states G.relation G.ps G.pt (λ j. cond (lt eps (get_or A j nan)) n 1) (λ q. cond (lt eps (get_or B q nan)) 1 n) n (length G.ps + length G.pt) refl in omega arith)
        ∙ sym z
      where
        untaken : (j q : ℕ) → j < length G.ps → q < length G.pt → holding G j q ≡ true → X.standing.caps ≡ caps_of G → lt eps (get_or F (j * length G.pt + q) nan) ≡ false
        untaken j q h g u e =
            ap (lt eps) (sym (X.standing.mapped.back j q h g u) ∙ ap (λ (c : List Float). left c (suc (cross_link G.states G.relation G.ps G.pt j q))) e ∙ cross_back_cap G.states G.relation G.ps G.pt j q h g u) ∙ none_above
    pick (inr (I, b, l)) =
        opening_over X.standing.good X.caps (dist G.states G.relation G.ps G.pt (λ j. cond (lt eps (get_or A j nan)) 2 1) (λ q. cond (lt eps (get_or B q nan)) 1 2) 2)
        (bounding G.states G.relation G.ps G.pt X.standing.mapped (spent_labels K done F 2 (omega arith) (λ j q h g u o. omega arith))) X.standing.rising I b
        (let f = dist_source G.states G.relation G.ps G.pt (λ j. cond (lt eps (get_or A j nan)) 2 1) (λ q. cond (lt eps (get_or B q nan)) 1 2) 2 (length G.ps + length G.pt) refl in omega arith)
