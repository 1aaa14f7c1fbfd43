-- What the links out of a set of nodes have left, as one whole number: a push over a link changes it by what is pushed, and one rounding, where the link leads out of the set or into it.
use mathlib.Core.Path.{◌≡◌, refl, sym, subst, subst⁻¹, ap, ◌∙◌}
use mathlib.Core.Logic.{◌≢◌, ◌⊎◌, inl, inr}
use mathlib.Core.Bool.{Bool, true, false, not, ◌&&◌}
use Prim.Native.Nat.{ℕ, zero, suc, ◌≤◌, ◌<◌, ◌+◌, ◌*◌, ◌-◌, ◌^◌}
use mathlib.Core.List.{List, [], ◌∷◌}
use native.Mathlib.Omega.{arith}
use native.Mathlib.Nat.{not-suc-le-zero}
use lib.ListN.{length, set, length-set}
use lib.Seq.{get_or-set_same, get_or-set_other}
use lib.Ieee.{Float, nan, binary64, add, sub}
use Rattle.numbers.specs.Lists.{In}
use Rattle.numbers.proofs.Bools.{eq_or_ne, and_t}
use Rattle.numbers.proofs.Members.{Apart, apart_ne}
use Rattle.flow_theory.specs.Network.{rev, Net, links, head, tail, left}
use Rattle.flow_theory.specs.Augment.{push_link, push_path}
use Rattle.flow_theory.proofs.Links.{rev_rev, rev_ne}
use Rattle.flow_theory.proofs.Pushes.{push_link_length, push_link_same, push_link_other}
use Rattle.flow_duality.proofs.Wholes.{ulp, val, Whole, add_near, sub_near}

-- ---- sums

-- f 0 and on, n of them
unfoldable pub upto : (ℕ → ℕ) → ℕ → ℕ
upto f zero = 0
upto f (suc n) = upto f n + f n

pub upto_same : (f g : ℕ → ℕ) (n : ℕ) → ((e : ℕ) → e < n → f e ≡ g e) → upto f n ≡ upto g n
unfolding upto
upto_same f g zero h = refl
upto_same f g (suc n) h = let r = upto_same f g n (λ e l. h e (omega arith)) in let s = h n (omega arith) in omega arith

-- two that differ at k alone
pub upto_one : (f g : ℕ → ℕ) (n k : ℕ) → k < n → ((e : ℕ) → e < n → e ≢ k → f e ≡ g e) → upto g n + f k ≡ upto f n + g k
unfolding upto
upto_one f g zero k l h = absurd (not-suc-le-zero l)
upto_one f g (suc n) k l h = pick (λ m. upto_one f g n k m (λ e i. h e (omega arith))) (eq_or_ne k n)
  where
    pick : (k < n → upto g n + f k ≡ upto f n + g k) → (k ≡ n) ⊎ (k ≢ n) → upto g n + g n + f k ≡ upto f n + f n + g k
    pick r (inl q) =
        let s = upto_same f g n (λ e i. h e (omega arith) (λ p. omega arith)) in
        let a = ap f q in
        let b = ap g q in
        omega arith
    pick r (inr d) = let s = r (omega arith) in let t = h n (omega arith) (λ p. d (sym p)) in omega arith

-- a bound of each two
pub upto_pairs : (f : ℕ → ℕ) (n b : ℕ) → ((e : ℕ) → e < n → f (e + e) + f (suc (e + e)) ≤ b) → upto f (n + n) ≤ n * b
unfolding upto
upto_pairs f zero b h = omega arith
upto_pairs f (suc n) b h =
    let r = upto_pairs f n b (λ e l. h e (omega arith)) in
    let s = h n (omega arith) in
    subst⁻¹ (λ (m : ℕ). upto f m ≤ suc n * b) (let z : suc n + suc n ≡ suc (suc (n + n)) = omega arith in z) (omega arith)

-- ---- out of a set

-- does a link lead out of S
abbrev pub leads : Net → (ℕ → Bool) → ℕ → Bool
leads N S e = S (tail N e) && not (S (head N e))

abbrev pub part : Bool → Float → ℕ
part true x = val x
part false x = 0

back_leads : (N : Net) (S : ℕ → Bool) (e : ℕ) (a b : Bool) → S (tail N e) ≡ a → S (head N e) ≡ b → leads N S (rev e) ≡ (b && not a)
back_leads N S e a b p q = ap (λ (y : ℕ). S (head N y) && not (S (tail N e))) (rev_rev e) ∙ ap (λ (y : Bool). y && not (S (tail N e))) q ∙ ap (λ (y : Bool). b && not y) p

-- a link out has its reverse in
pub one_way : (N : Net) (S : ℕ → Bool) (e : ℕ) → leads N S e ≡ true → leads N S (rev e) ≡ false
one_way N S e h = let (i, o) = and_t (S (tail N e)) (not (S (head N e))) h in back_leads N S e true (S (head N e)) i refl ∙ and_not (S (head N e))
  where
    and_not : (b : Bool) → (b && false) ≡ false
    and_not true = refl
    and_not false = refl

-- what the links out of S have left
unfoldable pub out_of : Net → (ℕ → Bool) → List Float → ℕ
unfolding upto
out_of N S c = upto (λ (e : ℕ). part (leads N S e) (left c e)) (links N)

-- ---- a push over a link

pub push_link_back : (x : Float) (e : ℕ) (c : List Float) → rev e < length c → left (push_link x e c) (rev e) ≡ add binary64 (left c (rev e)) x
unfolding push_link left
push_link_back x e c h =
    get_or-set_same (set c e (sub binary64 (left c e) x)) (rev e) _ nan (rw (length-set c e (sub binary64 (left c e) x)) h)
    ∙ ap (λ (y : Float). add binary64 y x) (get_or-set_other c e (rev e) (sub binary64 (left c e) x) nan (rev_ne e))

part_same : (b : Bool) (x y : Float) → x ≡ y → part b x ≡ part b y
part_same b x y q = ap (part b) q

-- the set's link e has x to give, and the set's link back has room for it
pub record Ready (N : Net) (S : ℕ → Bool) (c : List Float) (x : Float) (e : ℕ) : Type 0 where
  pub gives : leads N S e ≡ true → Whole (left c e) × (val x ≤ val (left c e)) × (val (left c e) < 2 ^ 54 * ulp)
  pub takes : leads N S (rev e) ≡ true → Whole (left c (rev e)) × (val (left c (rev e)) + val x < 2 ^ 54 * ulp)

-- o' is o less X where the path starts in the set
abbrev pub Ends : Bool → ℕ → ℕ → ℕ → ℕ → Type 0
Ends true o o' X w = (o' + X ≤ o + w) × (o ≤ o' + X + w)
Ends false o o' X w = (o' ≤ o + w) × (o ≤ o' + w)

module _ (N : Net) (S : ℕ → Bool) (x : Float) (W : Whole x) where
  abbrev at : List Float → ℕ → ℕ
  at c e = part (leads N S e) (left c e)

  module _ (c : List Float) (e : ℕ) (in_c : e < length c) (back-c : rev e < length c) (size : length c ≡ links N) (R : Ready N S c x e) where
    abbrev d : List Float
    d = push_link x e c

    -- a link that does not lead out counts for nothing
    quiet : (y : ℕ) → leads N S y ≡ false → at c y ≡ at d y
    quiet y h = ap (λ (b : Bool). part b (left c y)) h ∙ ap (λ (b : Bool). part b (left d y)) (sym h)

    other : (y : ℕ) → y ≢ e → y ≢ rev e → at c y ≡ at d y
    other y n m = part_same (leads N S y) (left c y) (left d y) (sym (push_link_other x e c y n m))

    neither : leads N S e ≡ false → leads N S (rev e) ≡ false → out_of N S d ≡ out_of N S c
    unfolding out_of
    neither h k = sym (upto_same (at c) (at d) (links N) (λ y l. pick y (eq_or_ne y e) (eq_or_ne y (rev e))))
      where
        pick : (y : ℕ) → (y ≡ e) ⊎ (y ≢ e) → (y ≡ rev e) ⊎ (y ≢ rev e) → at c y ≡ at d y
        pick y (inl q) b = quiet y (ap (leads N S) q ∙ h)
        pick y (inr n) (inl q) = quiet y (ap (leads N S) q ∙ k)
        pick y (inr n) (inr m) = other y n m

    outward : leads N S e ≡ true → leads N S (rev e) ≡ false → Ends true (out_of N S c) (out_of N S d) (val x) ulp
    unfolding out_of
    outward h k =
        let one : upto (at d) (links N) + at c e ≡ upto (at c) (links N) + at d e = upto_one (at c) (at d) (links N) e (rw (← size) in_c) (λ y l n. pick y n (eq_or_ne y (rev e))) in
        let a : at c e ≡ val (left c e) = ap (λ (b : Bool). part b (left c e)) h in
        let b : at d e ≡ val (sub binary64 (left c e) x) = ap (λ (b : Bool). part b (left d e)) h ∙ ap val (push_link_same x e c in_c) in
        let (w, g, l) = R.gives h in
        let (f, u, v) = sub_near (left c e) x (val (left c e) - val x) w W (omega arith) l in
        (omega arith, omega arith)
      where
        pick : (y : ℕ) → y ≢ e → (y ≡ rev e) ⊎ (y ≢ rev e) → at c y ≡ at d y
        pick y n (inl q) = quiet y (ap (leads N S) q ∙ k)
        pick y n (inr m) = other y n m

    inward : leads N S e ≡ false → leads N S (rev e) ≡ true → (out_of N S d ≤ out_of N S c + val x + ulp) × (out_of N S c + val x ≤ out_of N S d + ulp)
    unfolding out_of
    inward h k =
        let one : upto (at d) (links N) + at c (rev e) ≡ upto (at c) (links N) + at d (rev e) = upto_one (at c) (at d) (links N) (rev e) (rw (← size) back-c) (λ y l n. pick y n (eq_or_ne y e)) in
        let a : at c (rev e) ≡ val (left c (rev e)) = ap (λ (b : Bool). part b (left c (rev e))) k in
        let b : at d (rev e) ≡ val (add binary64 (left c (rev e)) x) = ap (λ (b : Bool). part b (left d (rev e))) k ∙ ap val (push_link_back x e c back-c) in
        let (w, l) = R.takes k in
        let (f, u, v) = add_near (left c (rev e)) x w W l in
        (omega arith, omega arith)
      where
        pick : (y : ℕ) → y ≢ rev e → (y ≡ e) ⊎ (y ≢ e) → at c y ≡ at d y
        pick y n (inl q) = quiet y (ap (leads N S) q ∙ h)
        pick y n (inr m) = other y m n

    -- one link of a path, and the rest of it
    step : (w o : ℕ) (a b : Bool) → S (tail N e) ≡ a → S (head N e) ≡ b → Ends b (out_of N S d) o (val x) w → Ends a (out_of N S c) o (val x) (ulp + w)
    step w o true true p q h = let r = neither (ap (λ (y : Bool). y && not (S (head N e))) p ∙ ap not q) (back_leads N S e true true p q) in (omega arith, omega arith)
    step w o false false p q h = let r = neither (ap (λ (y : Bool). y && not (S (head N e))) p) (back_leads N S e false false p q) in (omega arith, omega arith)
    step w o true false p q h = let r = outward (ap (λ (y : Bool). y && not (S (head N e))) p ∙ ap not q) (back_leads N S e true false p q) in (omega arith, omega arith)
    step w o false true p q h = let r = inward (ap (λ (y : Bool). y && not (S (head N e))) p) (back_leads N S e false true p q) in (omega arith, omega arith)

-- ---- along a path

-- links one after the other from u to v
abbrev pub Chain : Net → ℕ → List ℕ → ℕ → Type 0
Chain N u [] v = u ≡ v
Chain N u (e ∷ es) v = (tail N e ≡ u) × Chain N (head N e) es v

ready_on : (N : Net) (S : ℕ → Bool) (x : Float) (c d : List Float) (e : ℕ) → left d e ≡ left c e → left d (rev e) ≡ left c (rev e) → Ready N S c x e → Ready N S d x e
ready_on N S x c d e p q R = record { gives = rw p R.gives; takes = rw q R.takes }

pub path_out : (N : Net) (S : ℕ → Bool) (x : Float) → Whole x → (ps : List ℕ) (u v : ℕ) (c : List Float) → length c ≡ links N → S v ≡ false → Chain N u ps v
    → Apart ps → ((y : ℕ) → In y ps → (e : ℕ) → In e ps → y ≢ rev e) → ((e : ℕ) → In e ps → (e < links N) × (rev e < links N) × Ready N S c x e)
    → Ends (S u) (out_of N S c) (out_of N S (push_path x ps c)) (val x) (length ps * ulp)
unfolding push_path
path_out N S x W [] u v c size out C A R H = subst⁻¹ (λ (b : Bool). Ends b (out_of N S c) (out_of N S c) (val x) (0 * ulp)) (ap S C ∙ out) (omega arith, omega arith)
path_out N S x W (e ∷ es) u v c size out (t, C) A R H =
    let (l, m, Q) = H e (inl refl) in
    let d = push_link x e c in
    let r = path_out N S x W es (head N e) v d (push_link_length x e c ∙ size) out C A.1 (λ y i z j. R y (inr i) z (inr j)) (λ y i. keep y i (H y (inr i))) in
    let s = step N S x W c e (rw size l) (rw size m) size Q (length es * ulp) (out_of N S (push_path x es d)) (S u) (S (head N e)) (ap S t) refl r in
    subst (λ (w : ℕ). Ends (S u) (out_of N S c) (out_of N S (push_path x es d)) (val x) w) (let z : ulp + length es * ulp ≡ suc (length es) * ulp = omega arith in z) s
  where
    keep : (y : ℕ) → In y es → (y < links N) × (rev y < links N) × Ready N S c x y → (y < links N) × (rev y < links N) × Ready N S (push_link x e c) x y
    keep y i (l, m, Q) =
        let n : y ≢ e = apart_ne e y es A i in
        let o : y ≢ rev e = R y (inr i) e (inl refl) in (
          l,
          m,
          ready_on N S x c (push_link x e c) y (push_link_other x e c y n o)
              (push_link_other x e c (rev y) (λ q. o (sym (rev_rev y) ∙ ap rev q)) (λ q. n (sym (rev_rev y) ∙ ap rev q ∙ rev_rev e))) Q,
        )
