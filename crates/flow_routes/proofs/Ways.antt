-- A path by labels: from the source to a target of s with the source's label, from there to a target of t with the same label, back to a target of s with a label lower by 1, and so down to label 1 and the sink.
-- Ls and Rs hold the targets of s and of t that it goes by, at their labels.
use mathlib.Core.Path.{◌≡◌, refl, sym, ap, subst, subst⁻¹, ◌∙◌}
use Prim.Native.Nat.{ℕ, zero, suc, ◌≤◌, ◌<◌, ◌+◌, ◌*◌}
use mathlib.Core.Bool.{Bool, true, false}
use mathlib.Core.Logic.{◌≢◌, inl, inr}
use mathlib.Core.List.{List, [], ◌∷◌}
use native.Mathlib.Omega.{arith}
use lib.ListN.{length, get_or, set}
use lib.Ieee.{Float, nan, inf, binary64, lt, add, sub}
use Rattle.numbers.specs.Real.{eps}
use Rattle.numbers.specs.Choice.{smaller}
use Rattle.numbers.proofs.Floats.{Plain}
use Rattle.flow_theory.specs.Augment.{least, push_path}
use Rattle.flow_theory.specs.Network.{head, tail, residual}
use Rattle.flow_theory.proofs.Links.{residual_in}
use Rattle.flow_routes.proofs.Shortest.{Route}
use Rattle.flow_routes.proofs.Underway.{Underway, underway_pushes, underway_ends}
use Rattle.flow_routes.proofs.Growth.{flow_grows}
use Rattle.flow_routes.proofs.Numbered.{source_link, sink_link, cross_link, source_head, source_back_head, sink_head, sink_back_tail, cross_head, cross_back_head, Kind, kind}
use Rattle.flow_routes.proofs.Labelled.{Mapped, Labels, dist, dist_left, dist_right, dist_source, dist_sink, push_source, push_sink, push_cross, push_back}
use Rattle.flow_routes.proofs.Tight.{bounding, first_source, first_left, first_right, ends_route, longer_route}
use Rattle.flow_routes.proofs.Standing.{Rows, net, holding, flow_of, Standing, Labelled, source_plain, smaller_plain, smaller_above, least_first, least_over, least_next, least_none, keep_source, keep_sink, keep_flow}

-- a target i of s at label h
pub record LeftAt (G : Rows) (l : List ℕ) (i h : ℕ) : Type 0 where
  pub low : i < length G.ps
  pub label : get_or l i 0 ≡ h

-- the first target k of t at label h that is held with i
pub record ForthAt (G : Rows) (r : List ℕ) (i k h : ℕ) : Type 0 where
  pub low : k < length G.pt
  pub held : holding G i k ≡ true
  pub label : get_or r k 0 ≡ h
  pub first : (j : ℕ) → j < k → holding G i j ≡ true → get_or r j 0 ≢ h

-- the first target i of s at label h that takes back from k
pub record BackAt (G : Rows) (F : List Float) (l : List ℕ) (i k h : ℕ) : Type 0 where
  pub held : holding G i k ≡ true
  pub on : lt eps (get_or F (i * length G.pt + k) nan) ≡ true
  pub first : (j : ℕ) → j < i → holding G j k ≡ true → lt eps (get_or F (j * length G.pt + k) nan) ≡ true → get_or l j 0 ≢ h

-- a path so far: targets of s down to label g, targets of t down to the label above f
pub record Trace (G : Rows) (A F : List Float) (l r : List ℕ) (s : ℕ) (Ls Rs : List ℕ) (g f : ℕ) : Type 0 where
  pub upto : g ≤ s
  pub on : lt eps (get_or A (get_or Ls s 0) nan) ≡ true
  pub first : (j : ℕ) → j < get_or Ls s 0 → lt eps (get_or A j nan) ≡ true → get_or l j 0 ≢ s
  pub left : (h : ℕ) → g ≤ h → h ≤ s → LeftAt G l (get_or Ls h 0) h
  pub forth : (h : ℕ) → f < h → h ≤ s → ForthAt G r (get_or Ls h 0) (get_or Rs h 0) h
  pub back : (h : ℕ) → g ≤ h → h < s → BackAt G F l (get_or Ls h 0) (get_or Rs (suc h) 0) h

-- its links from label g on
pub way : Rows → List ℕ → List ℕ → ℕ → List ℕ
way G Ls Rs zero = []
way G Ls Rs (suc zero) = cross_link G.states G.relation G.ps G.pt (get_or Ls 1 0) (get_or Rs 1 0) ∷ sink_link G.states G.relation G.ps G.pt (get_or Rs 1 0) ∷ []
way G Ls Rs (suc (suc g)) =
    cross_link G.states G.relation G.ps G.pt (get_or Ls (suc (suc g)) 0) (get_or Rs (suc (suc g)) 0)
    ∷ suc (cross_link G.states G.relation G.ps G.pt (get_or Ls (suc g) 0) (get_or Rs (suc (suc g)) 0)) ∷ way G Ls Rs (suc g)

-- from the source on
abbrev pub whole_way : Rows → List ℕ → List ℕ → ℕ → List ℕ
whole_way G Ls Rs s = source_link G.states G.relation G.ps G.pt (get_or Ls s 0) ∷ way G Ls Rs s

-- ---- a whole path is a route

module _ {G : Rows} {A B F : List Float} {t : Float} (S : Standing G A B F t) {l r : List ℕ} {s : ℕ} (J : Labelled G A B F l r s) {Ls Rs : List ℕ} (W : Trace G A F l r s Ls Rs 1 0) (spare : lt eps (get_or B (get_or Rs 1 0) nan) ≡ true) where
  abbrev I : Labels G.states G.relation G.ps G.pt A B F (λ i. get_or l i 0) (λ k. get_or r k 0) s
  I = J.labels

  abbrev D : ℕ → ℕ
  D = dist G.states G.relation G.ps G.pt (λ i. get_or l i 0) (λ k. get_or r k 0) s

  abbrev cross : ℕ → ℕ → ℕ
  cross i k = cross_link G.states G.relation G.ps G.pt i k

  -- the sink is reached from label 1 alone
  closed : (h : ℕ) → 1 < h → h ≤ s → lt eps (get_or B (get_or Rs h 0) nan) ≡ false
  closed h lo hi = pick (lt eps (get_or B (get_or Rs h 0) nan)) refl
    where
      pick : (b : Bool) → lt eps (get_or B (get_or Rs h 0) nan) ≡ b → b ≡ false
      pick false e = refl
      pick true e = let w = I.sink (get_or Rs h 0) (W.forth h (omega arith) hi).low e in let q = (W.forth h (omega arith) hi).label in absurd (omega arith)

  goes_forth : (h : ℕ) → 1 ≤ h → h ≤ s → (p : List ℕ) → Route (net G) S.caps D (length G.ps + get_or Rs h 0) p → Route (net G) S.caps D (get_or Ls h 0) (cross (get_or Ls h 0) (get_or Rs h 0) ∷ p)
  goes_forth h lo hi p R =
      let X = W.left h lo hi in
      let Y = W.forth h (omega arith) hi in
      let a = X.label in
      longer_route G.states G.relation G.ps G.pt S.mapped I (get_or Ls h 0) (cross (get_or Ls h 0) (get_or Rs h 0)) (length G.ps + get_or Rs h 0) p
      (first_left G.states G.relation G.ps G.pt S.mapped I (get_or Ls h 0) (get_or Rs h 0) X.low Y.low Y.held (Y.label ∙ sym X.label) (omega arith) (λ j m u e. Y.first j m u (e ∙ X.label)))
      (cross_head G.states G.relation G.ps G.pt (get_or Ls h 0) (get_or Rs h 0) X.low Y.low Y.held) R

  route : (g : ℕ) → 1 ≤ g → g ≤ s → Route (net G) S.caps D (get_or Ls g 0) (way G Ls Rs g)
  unfolding way
  route zero lo hi = absurd (omega arith)
  route (suc zero) lo hi =
      goes_forth 1 (omega arith) hi (sink_link G.states G.relation G.ps G.pt (get_or Rs 1 0) ∷ [])
      (ends_route G.states G.relation G.ps G.pt S.mapped I (get_or Rs 1 0) (W.forth 1 (omega arith) hi).low spare)
  route (suc (suc g)) lo hi =
      let X = W.left (suc g) (omega arith) (omega arith) in
      let Y = W.forth (suc (suc g)) (omega arith) hi in
      let Z = W.back (suc g) (omega arith) (omega arith) in
      let R = route (suc g) (omega arith) (omega arith) in
      goes_forth (suc (suc g)) lo hi (suc (cross (get_or Ls (suc g) 0) (get_or Rs (suc (suc g)) 0)) ∷ way G Ls Rs (suc g))
      (longer_route G.states G.relation G.ps G.pt S.mapped I (length G.ps + get_or Rs (suc (suc g)) 0) (suc (cross (get_or Ls (suc g) 0) (get_or Rs (suc (suc g)) 0))) (get_or Ls (suc g) 0) (way G Ls Rs (suc g))
      (first_right G.states G.relation G.ps G.pt S.mapped I (get_or Ls (suc g) 0) (get_or Rs (suc (suc g)) 0) X.low Y.low Z.held (closed (suc (suc g)) (omega arith) hi) Z.on
      (ap suc X.label ∙ sym Y.label) (λ j m u o e. let y = Y.label in Z.first j m u o (omega arith)))
      (cross_back_head G.states G.relation G.ps G.pt (get_or Ls (suc g) 0) (get_or Rs (suc (suc g)) 0) X.low Y.low Z.held) R)

  start : LeftAt G l (get_or Ls s 0) s
  start = W.left s W.upto (omega arith)

  whole_route : Route (net G) S.caps D (length G.ps + length G.pt) (whole_way G Ls Rs s)
  whole_route =
      longer_route G.states G.relation G.ps G.pt S.mapped I (length G.ps + length G.pt) (source_link G.states G.relation G.ps G.pt (get_or Ls s 0)) (get_or Ls s 0) (way G Ls Rs s)
      (first_source G.states G.relation G.ps G.pt S.mapped I (get_or Ls s 0) start.low W.on start.label (λ j m o. W.first j m o))
      (source_head G.states G.relation G.ps G.pt (get_or Ls s 0) start.low) (route s W.upto (omega arith))

  -- ---- the least that is left on it

  pub least_begins : (Plain (get_or A (get_or Ls s 0) nan)) × (least S.caps (inf false) (whole_way G Ls Rs s) ≡ least S.caps (get_or A (get_or Ls s 0) nan) (way G Ls Rs s))
  least_begins =
      let q = source_plain S (get_or Ls s 0) start.low W.on in
      (q, least_first S.caps (source_link G.states G.relation G.ps G.pt (get_or Ls s 0)) (way G Ls Rs s) (get_or A (get_or Ls s 0) nan) (S.mapped.source (get_or Ls s 0) start.low) q)

  abbrev Falls : ℕ → ℕ → Float → Type 0
  Falls g h x = (Plain (smaller x (get_or F (get_or Ls h 0 * length G.pt + get_or Rs g 0) nan))) × (lt eps (smaller x (get_or F (get_or Ls h 0 * length G.pt + get_or Rs g 0) nan)) ≡ true)
      × (least S.caps x (way G Ls Rs g) ≡ least S.caps (smaller x (get_or F (get_or Ls h 0 * length G.pt + get_or Rs g 0) nan)) (way G Ls Rs h))

  one_fall : (g : ℕ) → suc (suc g) ≤ s → (x : Float) → Plain x → lt eps x ≡ true → Falls (suc (suc g)) (suc g) x
  unfolding way
  one_fall g hi x p o =
      let T = W.left (suc (suc g)) (omega arith) hi in
      let X = W.left (suc g) (omega arith) (omega arith) in
      let Y = W.forth (suc (suc g)) (omega arith) hi in
      let Z = W.back (suc g) (omega arith) (omega arith) in
      let y = get_or F (get_or Ls (suc g) 0 * length G.pt + get_or Rs (suc (suc g)) 0) nan in
      let q = suc (cross (get_or Ls (suc g) 0) (get_or Rs (suc (suc g)) 0)) ∷ way G Ls Rs (suc g) in (
        smaller_plain x y p Z.on,
        smaller_above x y o Z.on,
        least_over S.caps (cross (get_or Ls (suc (suc g)) 0) (get_or Rs (suc (suc g)) 0)) q x (S.mapped.cross (get_or Ls (suc (suc g)) 0) (get_or Rs (suc (suc g)) 0) T.low Y.low Y.held) p
            ∙ least_next S.caps (suc (cross (get_or Ls (suc g) 0) (get_or Rs (suc (suc g)) 0))) (way G Ls Rs (suc g)) x y (S.mapped.back (get_or Ls (suc g) 0) (get_or Rs (suc (suc g)) 0) X.low Y.low Z.held),
      )

  pub least_falls : (g h : ℕ) → g ≡ suc h → 1 ≤ h → g ≤ s → (x : Float) → Plain x → lt eps x ≡ true → Falls g h x
  least_falls g zero e lo hi x p o = absurd (omega arith)
  least_falls g (suc h) e lo hi x p o = subst⁻¹ (λ (y : ℕ). Falls y (suc h) x) e (one_fall h (omega arith) x p o)

  pub least_ends : 1 ≤ s → (x : Float) → Plain x → least S.caps x (way G Ls Rs 1) ≡ smaller x (get_or B (get_or Rs 1 0) nan)
  unfolding way
  least_ends hi x p =
      let X = W.left 1 (omega arith) hi in
      let Y = W.forth 1 (omega arith) hi in
      least_over S.caps (cross (get_or Ls 1 0) (get_or Rs 1 0)) (sink_link G.states G.relation G.ps G.pt (get_or Rs 1 0) ∷ []) x (S.mapped.cross (get_or Ls 1 0) (get_or Rs 1 0) X.low Y.low Y.held) p
      ∙ least_next S.caps (sink_link G.states G.relation G.ps G.pt (get_or Rs 1 0)) [] x (get_or B (get_or Rs 1 0) nan) (S.mapped.sink (get_or Rs 1 0) Y.low) ∙ least_none S.caps (smaller x (get_or B (get_or Rs 1 0) nan))

-- ---- pushes along it

-- x given to an entry, and taken from it
abbrev pub plus : Float → List Float → ℕ → List Float
plus x F e = set F e (add binary64 (get_or F e nan) x)

abbrev pub minus : Float → List Float → ℕ → List Float
minus x F e = set F e (sub binary64 (get_or F e nan) x)

-- x was pushed as far as label g, and what is left of the path leads to the capacities after the whole push
pub record Sending (G : Rows) (c₀ : List Float) (x : Float) (A B F : List Float) (l r : List ℕ) (s : ℕ) (Ls Rs : List ℕ) (g : ℕ) : Type 0 where
  pub caps : List Float
  pub mapped : Mapped G.states G.relation G.ps G.pt caps A B F
  pub labelled : Labelled G A B F l r s
  pub rest : push_path x (way G Ls Rs g) caps ≡ push_path x (whole_way G Ls Rs s) c₀

-- and after the whole push
pub record Sent (G : Rows) (c₀ : List Float) (x : Float) (A B F : List Float) (l r : List ℕ) (s : ℕ) (Ls Rs : List ℕ) : Type 0 where
  pub mapped : Mapped G.states G.relation G.ps G.pt (push_path x (whole_way G Ls Rs s) c₀) A B F
  pub labelled : Labelled G A B F l r s

-- from label g to the label h below
abbrev Hop : Rows → List Float → Float → List Float → List Float → List Float → List ℕ → List ℕ → ℕ → List ℕ → List ℕ → ℕ → ℕ → Type 0
Hop G c₀ x A B F l r s Ls Rs g h =
    Sending G c₀ x A B F l r s Ls Rs g → Sending G c₀ x A B (minus x (plus x F (get_or Ls g 0 * length G.pt + get_or Rs g 0)) (get_or Ls h 0 * length G.pt + get_or Rs g 0)) l r s Ls Rs h

module _ {G : Rows} {A₀ F₀ : List Float} {l r : List ℕ} {s : ℕ} {Ls Rs : List ℕ} (W : Trace G A₀ F₀ l r s Ls Rs 1 0) {x : Float} (px : Plain x) {c₀ A B F : List Float} where
  pub sends_source : Mapped G.states G.relation G.ps G.pt c₀ A B F → Labelled G A B F l r s
      → Sending G c₀ x (set A (get_or Ls s 0) (sub binary64 (get_or A (get_or Ls s 0) nan) x)) B F l r s Ls Rs s
  unfolding push_path
  sends_source M J =
      let X = W.left s W.upto (omega arith) in
      let q = X.label in
      record {
        caps = _;
        mapped = push_source G.states G.relation G.ps G.pt M x px (get_or Ls s 0) X.low;
        labelled = record { room_l = J.room_l; room_r = J.room_r; labels = keep_source J.labels (sub binary64 (get_or A (get_or Ls s 0) nan) x) (get_or Ls s 0) (omega arith) };
        rest = refl;
      }

  one_hop : (g : ℕ) → suc (suc g) ≤ s → Hop G c₀ x A B F l r s Ls Rs (suc (suc g)) (suc g)
  unfolding way push_path
  one_hop g hi Q =
      let T = W.left (suc (suc g)) (omega arith) hi in
      let X = W.left (suc g) (omega arith) (omega arith) in
      let Y = W.forth (suc (suc g)) (omega arith) hi in
      let Z = W.back (suc g) (omega arith) (omega arith) in
      let a = T.label in
      let b = X.label in
      let c = Y.label in
      let J = Q.labelled in
      let e = get_or Ls (suc (suc g)) 0 * length G.pt + get_or Rs (suc (suc g)) 0 in
      let f = get_or Ls (suc g) 0 * length G.pt + get_or Rs (suc (suc g)) 0 in
      record {
        caps = _;
        mapped = push_back G.states G.relation G.ps G.pt
            (push_cross G.states G.relation G.ps G.pt Q.mapped x px (get_or Ls (suc (suc g)) 0) (get_or Rs (suc (suc g)) 0) T.low Y.low Y.held) x px
            (get_or Ls (suc g) 0) (get_or Rs (suc (suc g)) 0) X.low Y.low Z.held;
        labelled = record {
          room_l = J.room_l;
          room_r = J.room_r;
          labels = keep_flow (keep_flow J.labels (add binary64 (get_or F e nan) x) (get_or Ls (suc (suc g)) 0) (get_or Rs (suc (suc g)) 0) Y.low (omega arith))
              (sub binary64 (get_or (plus x F e) f nan) x) (get_or Ls (suc g) 0) (get_or Rs (suc (suc g)) 0) Y.low (omega arith);
        };
        rest = Q.rest;
      }

  pub sends_hop : (g h : ℕ) → g ≡ suc h → 1 ≤ h → g ≤ s → Hop G c₀ x A B F l r s Ls Rs g h
  sends_hop g zero e lo hi = absurd (omega arith)
  sends_hop g (suc h) e lo hi = subst⁻¹ (λ (y : ℕ). Hop G c₀ x A B F l r s Ls Rs y (suc h)) e (one_hop h (omega arith))

  pub sends_last : 1 ≤ s → Sending G c₀ x A B F l r s Ls Rs 1 → Sent G c₀ x A (minus x B (get_or Rs 1 0)) (plus x F (get_or Ls 1 0 * length G.pt + get_or Rs 1 0)) l r s Ls Rs
  unfolding way push_path
  sends_last hi Q =
      let X = W.left 1 (omega arith) hi in
      let Y = W.forth 1 (omega arith) hi in
      let a = X.label in
      let b = Y.label in
      let J = Q.labelled in
      record {
        mapped = subst (λ (c : List Float). Mapped G.states G.relation G.ps G.pt c A (minus x B (get_or Rs 1 0)) (plus x F (get_or Ls 1 0 * length G.pt + get_or Rs 1 0))) Q.rest
            (push_sink G.states G.relation G.ps G.pt
            (push_cross G.states G.relation G.ps G.pt Q.mapped x px (get_or Ls 1 0) (get_or Rs 1 0) X.low Y.low Y.held) x px (get_or Rs 1 0) Y.low);
        labelled = record {
          room_l = J.room_l;
          room_r = J.room_r;
          labels = keep_sink (keep_flow J.labels (add binary64 (get_or F (get_or Ls 1 0 * length G.pt + get_or Rs 1 0) nan) x) (get_or Ls 1 0) (get_or Rs 1 0) Y.low (omega arith)) (sub binary64 (get_or B (get_or Rs 1 0) nan) x) (get_or Rs 1 0) (omega arith);
        };
      }

-- what a push of the least along a whole path leaves is a state of the run
pub sent_stands : {G : Rows} {A B F : List Float} {t : Float} (S : Standing G A B F t) {l r : List ℕ} {s : ℕ} → Labelled G A B F l r s → {Ls Rs : List ℕ} → Trace G A F l r s Ls Rs 1 0 → lt eps (get_or B (get_or Rs 1 0) nan) ≡ true
    → {x : Float} → x ≡ least S.caps (inf false) (whole_way G Ls Rs s) → lt eps x ≡ true → {A' B' F' : List Float} → Sent G S.caps x A' B' F' l r s Ls Rs → Standing G A' B' F' (add binary64 t x)
sent_stands {G} {t = t} S {l = l} {r = r} {s = s} J {Ls = Ls} {Rs = Rs} W spare {x = x} e o Q = record {
  good = S.good;
  rising = S.rising;
  caps = push_path x (whole_way G Ls Rs s) S.caps;
  flow = (flow_grows t x S.flow o).0;
  underway = subst⁻¹ (λ (y : Float). Underway (net G) S.good (flow_of G) (add binary64 t y) (push_path y (whole_way G Ls Rs s) S.caps)) e
      (underway_pushes S.good S.rising (dist G.states G.relation G.ps G.pt (λ i. get_or l i 0) (λ k. get_or r k 0) s)
      (bounding G.states G.relation G.ps G.pt S.mapped J.labels) (whole_way G Ls Rs s) (whole_route S J W spare) S.underway);
  mapped = Q.mapped;
}

-- ---- no path is left where no target of s has a label g up to the source's: each link falls by 1 at most

module _ {G : Rows} {A B F : List Float} {t : Float} (S : Standing G A B F t) {l r : List ℕ} {s : ℕ} (J : Labelled G A B F l r s) (g : ℕ) (lo : 1 ≤ g) (hi : g ≤ s) (none : (i : ℕ) → i < length G.ps → get_or l i 0 ≢ g) where
  abbrev far : ℕ → ℕ
  far = dist G.states G.relation G.ps G.pt (λ i. get_or l i 0) (λ k. get_or r k 0) s

  beyond : (e : ℕ) → residual S.caps e ≡ true → g + g < far (tail (net G) e) → Kind G.states G.relation G.ps G.pt e → g + g < far (head (net G) e)
  beyond e o d (inl (i, h, inl z)) =
      let f = (bounding G.states G.relation G.ps G.pt S.mapped J.labels).falls e o in
      let n = none i h in
      let v = dist_left G.states G.relation G.ps G.pt (λ i. get_or l i 0) (λ k. get_or r k 0) s (head (net G) e) i (ap (head (net G)) z ∙ source_head G.states G.relation G.ps G.pt i h) h in
      omega arith
  beyond e o d (inl (i, h, inr z)) =
      let v = dist_source G.states G.relation G.ps G.pt (λ i. get_or l i 0) (λ k. get_or r k 0) s (head (net G) e) (ap (head (net G)) z ∙ source_back_head G.states G.relation G.ps G.pt i h) in
      omega arith
  beyond e o d (inr (inl (k, h, inl z))) =
      let f = (bounding G.states G.relation G.ps G.pt S.mapped J.labels).falls e o in
      let v = dist_sink G.states G.relation G.ps G.pt (λ i. get_or l i 0) (λ k. get_or r k 0) s (head (net G) e) (ap (head (net G)) z ∙ sink_head G.states G.relation G.ps G.pt k h) in
      absurd (omega arith)
  beyond e o d (inr (inl (k, h, inr z))) =
      let v = dist_sink G.states G.relation G.ps G.pt (λ i. get_or l i 0) (λ k. get_or r k 0) s (tail (net G) e) (ap (λ (y : ℕ). tail (net G) y) z ∙ sink_back_tail G.states G.relation G.ps G.pt k h) in
      absurd (omega arith)
  beyond e o d (inr (inr (i, k, h, q, u, inl z))) =
      let f = (bounding G.states G.relation G.ps G.pt S.mapped J.labels).falls e o in
      let n = J.labels.some k q in
      let v = dist_right G.states G.relation G.ps G.pt (λ i. get_or l i 0) (λ k. get_or r k 0) s (head (net G) e) k (ap (head (net G)) z ∙ cross_head G.states G.relation G.ps G.pt i k h q u) q in
      omega arith
  beyond e o d (inr (inr (i, k, h, q, u, inr z))) =
      let f = (bounding G.states G.relation G.ps G.pt S.mapped J.labels).falls e o in
      let n = none i h in
      let v = dist_left G.states G.relation G.ps G.pt (λ i. get_or l i 0) (λ k. get_or r k 0) s (head (net G) e) i (ap (head (net G)) z ∙ cross_back_head G.states G.relation G.ps G.pt i k h q u) h in
      omega arith

  pub gap_ends : t ≡ flow_of G
  gap_ends =
      let a = dist_source G.states G.relation G.ps G.pt (λ i. get_or l i 0) (λ k. get_or r k 0) s (length G.ps + length G.pt) refl in
      let b = dist_sink G.states G.relation G.ps G.pt (λ i. get_or l i 0) (λ k. get_or r k 0) s (suc (length G.ps + length G.pt)) refl in
      underway_ends S.good (λ v. g + g < far v) (omega arith) (λ h. omega arith)
      (λ e o d. beyond e o d (kind G.states G.relation G.ps G.pt e (rw (← S.mapped.size) (residual_in S.caps e o)))) S.underway
