-- The least capacity on a path: a finite number that no link of the path has less of; and what a push leaves of each link.
use mathlib.Core.Path.{◌≡◌, refl, sym, subst, ap, ◌∙◌}
use mathlib.Core.Logic.{◌≢◌, ◌⊎◌, inl, inr}
use mathlib.Core.Bool.{Bool, true, false, false≢true}
use Prim.Native.Nat.{ℕ, ◌≤◌, ◌<◌}
use mathlib.Core.List.{List, [], ◌∷◌}
use native.Mathlib.Omega.{arith}
use lib.ListN.{length}
use lib.Ieee.{Float, nan, inf, fin, binary64, lt, add, sub}
use Rattle.numbers.specs.Real.{eps}
use Rattle.numbers.specs.Choice.{choose, smaller}
use Rattle.numbers.specs.Lists.{In}
use Rattle.numbers.proofs.Floats.{Plain}
use Rattle.numbers.proofs.Members.{Apart, apart_ne}
use Rattle.flow_theory.specs.Network.{rev, left}
use Rattle.flow_theory.specs.Augment.{least, push_link, push_path}
use Rattle.flow_theory.proofs.Links.{rev_rev}
use Rattle.flow_theory.proofs.Pushes.{plain_below, push_link_length, push_link_other, push_path_other}
use Rattle.flow_duality.proofs.Wholes.{val, Whole, val_ge, val_lt}
use Rattle.flow_duality.proofs.Cuts.{push_link_back}

-- an infinity, or finite
abbrev pub Capacity : Float → Type 0
Capacity y = (y ≡ inf false) ⊎ Whole y

-- x is no more than y
abbrev pub Within : Float → Float → Type 0
Within x y = (y ≡ inf false) ⊎ (Whole y × (val x ≤ val y))

-- a number that is finite and above 1e-12
abbrev Amount : Float → Type 0
Amount x = Whole x × (lt eps x ≡ true)

inf_not_below : (x : Float) → Plain x → lt (inf false) x ≡ true → ⊥
unfolding lt
inf_not_below nan p h = p
inf_not_below (inf s) p h = p
inf_not_below (fin s m e) p h = false≢true h

module _ (c : List Float) where
  -- y becomes x, or stays
  lesser : (x y : Float) → Amount x → Capacity y → lt eps y ≡ true → (b : Bool) → lt y x ≡ b
      → Amount (choose b y x) × (val (choose b y x) ≤ val x) × Within (choose b y x) y
  lesser x y (w, h) (inl q) l true t = absurd (inf_not_below x w.0 (subst (λ (z : Float). lt z x ≡ true) q t))
  lesser x y (w, h) (inl q) l false t = ((w, h), omega arith, inl q)
  lesser x y (w, h) (inr v) l true t = ((v, l), val_lt y x v w t, inr (v, omega arith))
  lesser x y (w, h) (inr v) l false t = ((w, h), omega arith, inr (v, val_ge y x v w t))

  within_less : (x x' y : Float) → val x' ≤ val x → Within x y → Within x' y
  within_less x x' y h (inl q) = inl q
  within_less x x' y h (inr (w, l)) = inr (w, omega arith)

  least_from_lem : (ps : List ℕ) (x : Float) → Amount x → ((e : ℕ) → In e ps → Capacity (left c e) × (lt eps (left c e) ≡ true))
      → Amount (least c x ps) × (val (least c x ps) ≤ val x) × ((e : ℕ) → In e ps → Within (least c x ps) (left c e))
  unfolding least smaller
  least_from_lem [] x A H = (A, omega arith, λ e i. absurd i)
  least_from_lem (e ∷ es) x A H =
      let (p, l) = H e (inl refl) in
      let x' = choose (lt (left c e) x) (left c e) x in
      let (A', m, v) = lesser x (left c e) A p l (lt (left c e) x) refl in
      let (B, n, w) = least_from_lem es x' A' (λ y i. H y (inr i)) in
      (B, omega arith, λ y i. pick (least c x' es) x' n v w y i)
    where
      pick : (z x' : Float) → val z ≤ val x' → Within x' (left c e) → ((y : ℕ) → In y es → Within z (left c y)) → (y : ℕ) → In y (e ∷ es) → Within z (left c y)
      pick z x' n v w y (inl q) = rw q (within_less x' z (left c e) n v)
      pick z x' n v w y (inr i) = w y i

  -- along a path whose first link is finite
  pub least_of : (e : ℕ) (es : List ℕ) → Whole (left c e) → ((y : ℕ) → In y (e ∷ es) → Capacity (left c y) × (lt eps (left c y) ≡ true))
      → Whole (least c (inf false) (e ∷ es)) × (lt eps (least c (inf false) (e ∷ es)) ≡ true) × ((y : ℕ) → In y (e ∷ es) → Within (least c (inf false) (e ∷ es)) (left c y))
  unfolding least smaller
  least_of e es w H =
      rw (plain_below (left c e) w.0)
      (let (B, n, v) = least_from_lem es (left c e) (w, (H e (inl refl)).1) (λ y i. H y (inr i)) in (B.0, B.1, λ y i. pick (least c (left c e) es) n v y i))
    where
      pick : (z : Float) → val z ≤ val (left c e) → ((y : ℕ) → In y es → Within z (left c y)) → (y : ℕ) → In y (e ∷ es) → Within z (left c y)
      pick z n v y (inl q) = rw q (inr (w, n))
      pick z n v y (inr i) = v y i

-- ---- what a push leaves

-- a link whose reverse is on the path has more
pub push_path_back : (x : Float) (ps : List ℕ) (c : List Float) (y : ℕ) → In (rev y) ps → Apart ps → ((e : ℕ) → In e ps → y ≢ e) → y < length c
    → left (push_path x ps c) y ≡ add binary64 (left c y) x
unfolding push_path
push_path_back x (e ∷ es) c y (inl p) a h l =
    let q : y ≡ rev e = sym (rev_rev y) ∙ ap rev p in
    push_path_other x es (push_link x e c) y (λ b i. (h b (inr i), λ r. apart_ne e b es a i (sym (rev_rev b) ∙ ap rev (sym r) ∙ p)))
    ∙ rw q (push_link_back x e c (rw (← q) l))
push_path_back x (e ∷ es) c y (inr i) a h l =
    push_path_back x es (push_link x e c) y i a.1 (λ b j. h b (inr j)) (rw (push_link_length x e c) l)
    ∙ ap (λ (z : Float). add binary64 z x) (push_link_other x e c y (h e (inl refl)) (λ q. apart_ne e (rev y) es a i (ap rev q ∙ rev_rev e)))
push_path_back x [] c y x5 a h l = elim x5 [ ]

-- an infinity stays one
pub sub_inf : (x y : Float) → Plain x → y ≡ inf false → sub binary64 y x ≡ inf false
unfolding sub
sub_inf nan y p q = absurd p
sub_inf (inf s) y p q = absurd p
sub_inf (fin s m e) y p q = ap (λ (z : Float). sub binary64 z (fin s m e)) q

pub add_inf : (x y : Float) → Plain x → y ≡ inf false → add binary64 y x ≡ inf false
unfolding add
add_inf nan y p q = absurd p
add_inf (inf s) y p q = absurd p
add_inf (fin s m e) y p q = ap (λ (z : Float). add binary64 z (fin s m e)) q
