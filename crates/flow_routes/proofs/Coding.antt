-- Words of private contracts: a flow test as its code holds it, over every flow test that the lists may be of.
use mathlib.Core.Path.{◌≡◌, refl, sym, ap, subst, subst⁻¹, ◌∙◌}
use Prim.Native.Nat.{ℕ, suc, ◌≤◌, ◌<◌, ◌+◌, ◌-◌, ◌*◌}
use mathlib.Core.Bool.{Bool, true, false, true≢false}
use mathlib.Core.Logic.{◌≢◌, ◌⊎◌, inl, inr}
use mathlib.Core.List.{List}
use native.Mathlib.Omega.{arith}
use native.Mathlib.Nat.{mul-le-mul}
use lib.ListN.{length, get_or, set, length-set}
use lib.Seq.{get_or-set_same, get_or-set_other}
use lib.Ieee.{Float, nan, binary64, lt, add, sub}
use Rattle.std.specs.Prelude.{Option, Some, None}
use Rattle.numbers.specs.Real.{eps}
use Rattle.numbers.specs.Bits.{bit_at}
use Rattle.numbers.specs.Choice.{smaller}
use Rattle.numbers.proofs.Bools.{eq_or_ne}
use Rattle.flow_routes.proofs.Labelled.{entry_low}
use Rattle.flow_routes.proofs.Standing.{Rows, holding, Standing}
use Rattle.flow_routes.proofs.Giving.{Cursor, First, cursor_skips, cursor_turns, gives, cursor_gives}
use Rattle.flow_routes.proofs.Ways.{LeftAt, ForthAt, BackAt, Trace}

-- the flow test that the lists are of: targets us and ts, and the bits of a relation over n states
pub record Reads (G : Rows) (us ts : List ℕ) (n : ℕ) (store : List ℕ) : Type 0 where
  pub lefts : length G.ps ≡ length us
  pub rights : length G.pt ≡ length ts
  pub bit : (i k : ℕ) → bit_at store (get_or us i 0 * n + get_or ts k 0) ≡ holding G i k

-- lists with an entry for each target, and for each pair
pub record Room (us ts : List ℕ) (n : ℕ) (A B F : List Float) : Type 0 where
  pub states : n ≤ 2000
  pub lefts : length us ≤ 31
  pub rights : length ts ≤ 31
  pub size_a : length A ≡ length us
  pub size_b : length B ≡ length ts
  pub room_f : length us * length ts ≤ length F

-- the lists are as long as they were
pub record Sized (A₀ B₀ F₀ A B F : List Float) : Type 0 where
  pub size_a : length A ≡ length A₀
  pub size_b : length B ≡ length B₀
  pub size_f : length F ≡ length F₀

-- an entry of at most 31 rows of at most 31
pub pair_low : (a b i k : ℕ) → a ≤ 31 → b ≤ 31 → i < a → k < b → (i * b ≤ 961) × (i * b + k < a * b)
pair_low a b i k ha hb hi hk = let l : i ≤ 31 = omega arith in let m : i * b ≤ 31 * 31 = mul-le-mul l hb in (omega arith, entry_low a b i k hi hk)

-- ---- a search

-- r is the first number below n of which P holds, or n
pub record FirstOf (n r : ℕ) (P : ℕ → Type 0) : Type 0 where
  pub upto : r ≤ n
  pub found : r < n → P r
  pub none : (j : ℕ) → j < r → P j → ⊥

-- the same, if there is one
abbrev pub Found : ℕ → (ℕ → Type 0) → Option ℕ → Type 0
Found n P (Some r) = (r < n) × FirstOf n r P
Found n P None = FirstOf n n P

-- of the numbers from j on, r is the first below n of which P holds, or n
pub record FirstFrom (n j r : ℕ) (P : ℕ → Type 0) : Type 0 where
  pub upto : r ≤ n
  pub found : r < n → P r
  pub none : (i : ℕ) → j ≤ i → i < r → P i → ⊥

-- a search that has come to the first number: it found one, or none
module _ {n j r : ℕ} {P : ℕ → Type 0} (I : FirstFrom n j r P) (e : j ≤ 0) where
  pub found_one : r < n → Found n P (Some r)
  found_one h = (h, record { upto = I.upto; found = I.found; none = λ i l x. I.none i (omega arith) l x })

  pub found_none : n ≤ r → Found n P None
  found_none h = record { upto = omega arith; found = λ l. absurd (omega arith); none = λ i l x. I.none i (omega arith) (omega arith) x }

-- one number down: q is j where P holds of it, and else r
pub from_down : {n j r : ℕ} {P : ℕ → Type 0} → FirstFrom n j r P → 0 < j → j ≤ n → {q : ℕ} → ((q ≡ j - 1) × P (j - 1)) ⊎ ((q ≡ r) × (P (j - 1) → ⊥)) → FirstFrom n (j - 1) q P
from_down {n} {j} {r} {P} I lo hi {q} (inl (e, x)) = record { upto = omega arith; found = λ _. subst⁻¹ P e x; none = λ i h g. absurd (omega arith) }
from_down {n} {j} {r} {P} I lo hi {q} (inr (e, f)) = record {
  upto = let u = I.upto in omega arith;
  found = λ h. subst⁻¹ P e (I.found (omega arith));
  none = λ i h g x. pick i h g x (eq_or_ne i (j - 1));
}
  where
    pick : (i : ℕ) → j - 1 ≤ i → i < q → P i → (i ≡ j - 1) ⊎ (i ≢ j - 1) → ⊥
    pick i h g x (inl z) = f (subst P z x)
    pick i h g x (inr d) = I.none i (omega arith) (omega arith) x

-- `lower`: of two tests that hold where P's parts do
pub both_or_none : {j r q : ℕ} {X Y : Type 0} (one two : Bool) → (one ≡ true → two ≡ true → q ≡ j) × (one ≡ false → q ≡ r) × (two ≡ false → q ≡ r) → (one ≡ true → X) → (one ≡ false → X → ⊥) → (two ≡ true → Y) → (two ≡ false → Y → ⊥)
    → ((q ≡ j) × (X × Y)) ⊎ ((q ≡ r) × (X × Y → ⊥))
both_or_none true true (a, b, c) f g h k = inl (a refl refl, (f refl, h refl))
both_or_none true false (a, b, c) f g h k = inr (c refl, λ p. k refl p.1)
both_or_none false two (a, b, c) f g h k = inr (b refl, λ p. g refl p.0)

-- ---- the first pushes

-- nothing is left of the first f targets of t
pub record Shut (f : ℕ) (B : List Float) : Type 0 where
  pub at : (q : ℕ) → q < f → lt eps (get_or B q nan) ≡ false

pub shut_on : {f k : ℕ} {B : List Float} → Shut f B → f ≤ k → (x : Float) → Shut f (set B k x)
shut_on {f} {k} {B} h l x = record { at = λ q m. ap (lt eps) (get_or-set_other B k q x nan (omega arith)) ∙ h.at q m }

-- from the state A₀ B₀ F₀ t₀ with the turn at i₀ to the state A B F t with the turn at i and k
pub record Giving (us ts : List ℕ) (n : ℕ) (store : List ℕ) (A₀ B₀ F₀ : List Float) (t₀ : Float) (i₀ : ℕ) (A B F : List Float) (t : Float) (i k : ℕ) : Type 0 where
  pub sized : Sized A₀ B₀ F₀ A B F
  pub state : (G : Rows) → Reads G us ts n store → First G A₀ B₀ F₀ t₀ → Cursor G A₀ B₀ i₀ 0 → First G A B F t × Cursor G A B i k

module _ {us ts : List ℕ} {n : ℕ} {store : List ℕ} {A₀ B₀ F₀ : List Float} {t₀ : Float} {i₀ : ℕ} {A B F : List Float} {t : Float} {i k : ℕ} (I : Giving us ts n store A₀ B₀ F₀ t₀ i₀ A B F t i k) where
  -- nothing is left of k
  pub giving_full : lt eps (get_or B k nan) ≡ false → Giving us ts n store A₀ B₀ F₀ t₀ i₀ A B F t i (k + 1)
  giving_full o = record { sized = I.sized; state = λ G R S K. let (X, Y) = I.state G R S K in (X, cursor_skips Y (λ h a. o)) }

  -- i and k are not held together
  pub giving_apart : bit_at store (get_or us i 0 * n + get_or ts k 0) ≡ false → Giving us ts n store A₀ B₀ F₀ t₀ i₀ A B F t i (k + 1)
  giving_apart o = record {
    sized = I.sized;
    state = λ G R S K. let (X, Y) = I.state G R S K in (X, cursor_skips Y (λ h a. absurd (true≢false (sym h ∙ sym (R.bit i k) ∙ o))));
  }

  -- one push
  pub giving_push : i < length us → k < length ts → lt eps (get_or A i nan) ≡ true → lt eps (get_or B k nan) ≡ true → bit_at store (get_or us i 0 * n + get_or ts k 0) ≡ true
      → {x : Float} {A' B' F' : List Float} → x ≡ smaller (get_or A i nan) (get_or B k nan) → A' ≡ set A i (sub binary64 (get_or A i nan) x) → B' ≡ set B k (sub binary64 (get_or B k nan) x)
      → F' ≡ set F (i * length ts + k) (add binary64 (get_or F (i * length ts + k) nan) x) → Giving us ts n store A₀ B₀ F₀ t₀ i₀ A' B' F' (add binary64 t x) i (k + 1)
  giving_push hi hk oa ob o ex ea eb ef = rw (ea, eb, ef, ex) (record {
    sized = record {
      size_a = length-set A i _ ∙ I.sized.size_a;
      size_b = length-set B k _ ∙ I.sized.size_b;
      size_f = length-set F (i * length ts + k) _ ∙ I.sized.size_f;
    };
    state = λ G R S K.
        let (X, Y) = I.state G R S K in
        let hi' : i < length G.ps = rw R.lefts hi in
        let hk' : k < length G.pt = rw R.rights hk in
        let u = sym (R.bit i k) ∙ o in
        rw (← R.rights) (gives Y X hi' hk' u oa ob, cursor_gives Y X hi' hk' u oa ob);
  })

  -- the turn of the next i
  pub giving_turns : (lt eps (get_or A i nan) ≡ true → length ts ≤ k) → Giving us ts n store A₀ B₀ F₀ t₀ i₀ A B F t (i + 1) 0
  giving_turns f = record { sized = I.sized; state = λ G R S K. let (X, Y) = I.state G R S K in (X, cursor_turns Y (λ a. rw R.rights (f a))) }

-- the same lists and flow under other names
pub giving_same : {us ts : List ℕ} {n : ℕ} {store : List ℕ} {A₀ B₀ F₀ : List Float} {t₀ : Float} {i₀ : ℕ} {A B F : List Float} {t : Float} {i k : ℕ} → Giving us ts n store A₀ B₀ F₀ t₀ i₀ A B F t i k
    → {A' B' F' : List Float} {t' : Float} → A' ≡ A → B' ≡ B → F' ≡ F → t' ≡ t → Giving us ts n store A₀ B₀ F₀ t₀ i₀ A' B' F' t' i k
giving_same I ea eb ef et = rw (ea, eb, ef, et) I

pub given_on : {us ts : List ℕ} {n : ℕ} {store : List ℕ} {A₀ B₀ F₀ : List Float} {t₀ : Float} {i₀ : ℕ} {A B F : List Float} {t : Float} {i k f : ℕ} → f ≤ k → Shut f B → Giving us ts n store A₀ B₀ F₀ t₀ i₀ A B F t i (k + 1)
    → {A' B' F' : List Float} {t' : Float} → A' ≡ A → B' ≡ B → F' ≡ F → t' ≡ t → Giving us ts n store A₀ B₀ F₀ t₀ i₀ A' B' F' t' i (k + 1) × (f ≤ k + 1) × Shut f B'
given_on {f = f} l h I ea eb ef et = (giving_same I ea eb ef et, omega arith, subst⁻¹ (Shut f) eb h)

-- from one turn to a later one
pub giving_joins : {us ts : List ℕ} {n : ℕ} {store : List ℕ} {A₀ B₀ F₀ : List Float} {t₀ : Float} {i₀ : ℕ} {A₁ B₁ F₁ : List Float} {t₁ : Float} {i₁ : ℕ} {A B F : List Float} {t : Float} {i : ℕ}
    → Giving us ts n store A₀ B₀ F₀ t₀ i₀ A₁ B₁ F₁ t₁ i₁ 0 → Giving us ts n store A₁ B₁ F₁ t₁ i₁ A B F t i 0 → Giving us ts n store A₀ B₀ F₀ t₀ i₀ A B F t i 0
giving_joins I J = record {
  sized = record { size_a = J.sized.size_a ∙ I.sized.size_a; size_b = J.sized.size_b ∙ I.sized.size_b; size_f = J.sized.size_f ∙ I.sized.size_f };
  state = λ G R S K. let (X, Y) = I.state G R S K in J.state G R X Y;
}

-- ---- a walk by labels

-- lists of a path: the targets of s down to label g and those of t down to the label above f are numbers of targets
pub record Placed (a b s : ℕ) (Ls Rs : List ℕ) (g f : ℕ) : Type 0 where
  pub some : 1 ≤ g
  pub upto : g ≤ s
  pub lefts : (h : ℕ) → g ≤ h → h ≤ s → get_or Ls h 0 < a
  pub rights : (h : ℕ) → f < h → h ≤ s → get_or Rs h 0 < b

-- on a whole path: the entry of its targets at labels h and k
pub placed_entry : {a b s : ℕ} {Ls Rs : List ℕ} → Placed a b s Ls Rs 1 0 → a ≤ 31 → b ≤ 31 → (h k : ℕ) → 1 ≤ h → h ≤ s → 1 ≤ k → k ≤ s
    → (get_or Ls h 0 ≤ 31) × (get_or Rs k 0 ≤ 31) × (get_or Ls h 0 * b ≤ 961) × (get_or Ls h 0 * b + get_or Rs k 0 < a * b)
placed_entry {a} {b} {Ls = Ls} {Rs = Rs} P ha hb h k lo hi lo' hi' =
    let x = P.lefts h lo hi in
    let y = P.rights k lo' hi' in
    let (p, q) = pair_low a b (get_or Ls h 0) (get_or Rs k 0) ha hb x y in
    (omega arith, omega arith, p, q)

-- `start` is the first target of s with rate left and the source's label
abbrev pub StartsAt : List Float → List ℕ → ℕ → ℕ → ℕ → Type 0
StartsAt A l s n start = FirstOf n start (λ j. (lt eps (get_or A j nan) ≡ true) × (get_or l j 0 ≡ s))

-- of every flow test that the lists are of, the path so far
abbrev pub Traced : List ℕ → List ℕ → ℕ → List ℕ → List Float → List ℕ → List ℕ → ℕ → ℕ → List ℕ → List ℕ → ℕ → ℕ → Type 0
Traced us ts n store F l r s start Ls Rs g f = (G : Rows) → Reads G us ts n store → (A B : List Float) (t : Float) → Standing G A B F t → StartsAt A l s (length us) start → Trace G A F l r s Ls Rs g f

pub record Walking (us ts : List ℕ) (n : ℕ) (store : List ℕ) (F : List Float) (l r : List ℕ) (s start : ℕ) (Ls Rs : List ℕ) (g f : ℕ) : Type 0 where
  pub placed : Placed (length us) (length ts) s Ls Rs g f
  pub traced : Traced us ts n store F l r s start Ls Rs g f

-- its labels, and those of the next link back, are places of its lists
pub walking_low : {us ts : List ℕ} {n : ℕ} {store : List ℕ} {F : List Float} {l r : List ℕ} {s start : ℕ} {Ls Rs : List ℕ} {g f : ℕ} → Walking us ts n store F l r s start Ls Rs g f → s ≤ 8 → (1 ≤ g) × (g ≤ s) × (g < 10)
walking_low W h = let u = W.placed.upto in (W.placed.some, u, omega arith)

-- a search over what target k of t can give back, once k stands at label g
pub first_here : {n i : ℕ} {P : ℕ → Type 0} (F : List Float) (w : ℕ) (Rs : List ℕ) (g k : ℕ) → g < length Rs → FirstOf n i (λ j. P j × (lt eps (get_or F (j * w + k) nan) ≡ true))
    → FirstOf n i (λ j. P j × (lt eps (get_or F (j * w + get_or (set Rs g k) g 0) nan) ≡ true))
first_here {n} {i} {P} F w Rs g k h I = subst⁻¹ (λ (v : ℕ). FirstOf n i (λ j. P j × (lt eps (get_or F (j * w + v) nan) ≡ true))) (get_or-set_same Rs g k 0 h) I

module _ {us ts : List ℕ} {n : ℕ} {store : List ℕ} {F : List Float} {l r : List ℕ} {s start : ℕ} {Ls Rs : List ℕ} {g : ℕ} where
  -- the first target of t at label g that is held with the target of s there
  pub walking_forth : Walking us ts n store F l r s start Ls Rs g g → g < length Rs → {k : ℕ} → k < length ts
      → FirstOf (length ts) k (λ j. (get_or r j 0 ≡ g) × (bit_at store (get_or us (get_or Ls g 0) 0 * n + get_or ts j 0) ≡ true)) → Walking us ts n store F l r s start Ls (set Rs g k) g (g - 1)
  walking_forth W hg {k} hk I = record {
    placed = record { some = W.placed.some; upto = W.placed.upto; lefts = W.placed.lefts; rights = λ h a b. low h a b (eq_or_ne h g) };
    traced = λ G R A B t S Q. let T = W.traced G R A B t S Q in record {
      upto = T.upto;
      on = T.on;
      first = T.first;
      left = T.left;
      forth = λ h a b. forth G R T h a b (eq_or_ne h g);
      back = λ h a b. subst⁻¹ (λ (y : ℕ). BackAt G F l (get_or Ls h 0) y h) (other (suc h) (omega arith)) (T.back h a b);
    };
  }
    where
      other : (h : ℕ) → h ≢ g → get_or (set Rs g k) h 0 ≡ get_or Rs h 0
      other h d = get_or-set_other Rs g h k 0 d

      here : (h : ℕ) → h ≡ g → get_or (set Rs g k) h 0 ≡ k
      here h e = ap (λ (y : ℕ). get_or (set Rs g k) y 0) e ∙ get_or-set_same Rs g k 0 hg

      low : (h : ℕ) → g - 1 < h → h ≤ s → (h ≡ g) ⊎ (h ≢ g) → get_or (set Rs g k) h 0 < length ts
      low h a b (inl e) = let z = here h e in omega arith
      low h a b (inr d) = let z = other h d in let o = W.placed.some in let q = W.placed.rights h (omega arith) b in omega arith

      forth : (G : Rows) → Reads G us ts n store → {A : List Float} → Trace G A F l r s Ls Rs g g → (h : ℕ) → g - 1 < h → h ≤ s → (h ≡ g) ⊎ (h ≢ g) → ForthAt G r (get_or Ls h 0) (get_or (set Rs g k) h 0) h
      forth G R T h a b (inl e) =
          subst⁻¹ (λ (y : ℕ). ForthAt G r (get_or Ls h 0) y h) (here h e) (subst⁻¹ (λ (y : ℕ). ForthAt G r (get_or Ls y 0) k y) e
          (record { low = rw R.rights hk; held = sym (R.bit (get_or Ls g 0) k) ∙ (I.found hk).1; label = (I.found hk).0; first = λ j m u z. I.none j m (z, R.bit (get_or Ls g 0) j ∙ u) }))
      forth G R T h a b (inr d) = let o = W.placed.some in subst⁻¹ (λ (y : ℕ). ForthAt G r (get_or Ls h 0) y h) (other h d) (T.forth h (omega arith) b)

  -- the first target of s at the label below that takes back from it
  pub walking_back : Walking us ts n store F l r s start Ls Rs g (g - 1) → 1 < g → g ≤ length Ls → {i : ℕ} → i < length us
      → FirstOf (length us) i (λ j. (get_or l j 0 ≡ g - 1) × (lt eps (get_or F (j * length ts + get_or Rs g 0) nan) ≡ true)) → Walking us ts n store F l r s start (set Ls (g - 1) i) Rs (g - 1) (g - 1)
  walking_back W lo hg {i} hi I = record {
    placed = record { some = omega arith; upto = (let u = W.placed.upto in omega arith); lefts = λ h a b. low h a b (eq_or_ne h (g - 1)); rights = W.placed.rights };
    traced = λ G R A B t S Q. let T = W.traced G R A B t S Q in let u = W.placed.upto in record {
      upto = omega arith;
      on = ap (λ (y : ℕ). lt eps (get_or A y nan)) (other s (omega arith)) ∙ T.on;
      first = λ j m o. T.first j (let z = other s (omega arith) in omega arith) o;
      left = λ h a b. left G R T h a b (eq_or_ne h (g - 1));
      forth = λ h a b. subst⁻¹ (λ (y : ℕ). ForthAt G r y (get_or Rs h 0) h) (other h (omega arith)) (T.forth h a b);
      back = λ h a b. back G R S T h a b (eq_or_ne h (g - 1));
    };
  }
    where
      other : (h : ℕ) → h ≢ g - 1 → get_or (set Ls (g - 1) i) h 0 ≡ get_or Ls h 0
      other h d = get_or-set_other Ls (g - 1) h i 0 d

      here : (h : ℕ) → h ≡ g - 1 → get_or (set Ls (g - 1) i) h 0 ≡ i
      here h e = ap (λ (y : ℕ). get_or (set Ls (g - 1) i) y 0) e ∙ get_or-set_same Ls (g - 1) i 0 (omega arith)

      low : (h : ℕ) → g - 1 ≤ h → h ≤ s → (h ≡ g - 1) ⊎ (h ≢ g - 1) → get_or (set Ls (g - 1) i) h 0 < length us
      low h a b (inl e) = let z = here h e in omega arith
      low h a b (inr d) = let z = other h d in let q = W.placed.lefts h (omega arith) b in omega arith

      left : (G : Rows) → Reads G us ts n store → {A : List Float} → Trace G A F l r s Ls Rs g (g - 1) → (h : ℕ) → g - 1 ≤ h → h ≤ s → (h ≡ g - 1) ⊎ (h ≢ g - 1) → LeftAt G l (get_or (set Ls (g - 1) i) h 0) h
      left G R T h a b (inl e) = subst⁻¹ (λ (y : ℕ). LeftAt G l y h) (here h e) (record { low = rw R.lefts hi; label = (I.found hi).0 ∙ sym e })
      left G R T h a b (inr d) = subst⁻¹ (λ (y : ℕ). LeftAt G l y h) (other h d) (T.left h (omega arith) b)

      -- what can be taken back was given between targets that are held together
      held : (G : Rows) → Reads G us ts n store → {A B : List Float} {t : Float} → Standing G A B F t → (j : ℕ) → j < length us → lt eps (get_or F (j * length ts + get_or Rs g 0) nan) ≡ true → holding G j (get_or Rs g 0) ≡ true
      held G R S j hj o = pick (holding G j (get_or Rs g 0)) refl
        where
          pick : (b : Bool) → holding G j (get_or Rs g 0) ≡ b → b ≡ true
          pick true e = refl
          pick false e =
              let q = W.placed.rights g (omega arith) W.placed.upto in
              absurd (true≢false (sym o ∙ ap (λ (y : ℕ). lt eps (get_or F (j * y + get_or Rs g 0) nan)) (sym R.rights) ∙ S.mapped.idle j (get_or Rs g 0) (rw R.lefts hj) (rw R.rights q) e))

      back : (G : Rows) → Reads G us ts n store → {A B : List Float} {t : Float} → Standing G A B F t → Trace G A F l r s Ls Rs g (g - 1) → (h : ℕ) → g - 1 ≤ h → h < s → (h ≡ g - 1) ⊎ (h ≢ g - 1)
          → BackAt G F l (get_or (set Ls (g - 1) i) h 0) (get_or Rs (suc h) 0) h
      back G R S T h a b (inl e) =
          let z : suc h ≡ g = omega arith in
          subst⁻¹ (λ (y : ℕ). BackAt G F l y (get_or Rs (suc h) 0) h) (here h e) (subst⁻¹ (λ (y : ℕ). BackAt G F l i (get_or Rs y 0) h) z
          (record {
            held = held G R S i hi (I.found hi).1;
            on = ap (λ (y : ℕ). lt eps (get_or F (i * y + get_or Rs g 0) nan)) R.rights ∙ (I.found hi).1;
            first = λ j m u o w. I.none j m (w ∙ e, ap (λ (y : ℕ). lt eps (get_or F (j * y + get_or Rs g 0) nan)) (sym R.rights) ∙ o);
          }))
      back G R S T h a b (inr d) = subst⁻¹ (λ (y : ℕ). BackAt G F l y (get_or Rs (suc h) 0) h) (other h d) (T.back h (omega arith) b)
