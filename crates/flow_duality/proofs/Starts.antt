-- The network of a flow test at its start: what the links out of a set have is a sum over the two rows, and no infinite link leads out of it if it parts no related targets.
use mathlib.Core.Path.{◌≡◌, refl, sym, subst, subst⁻¹, ap, ◌∙◌}
use mathlib.Core.Logic.{◌≢◌}
use mathlib.Core.Bool.{Bool, true, false, not, ◌&&◌, true≢false}
use Prim.Native.Nat.{ℕ, zero, suc, ◌<◌, ◌+◌}
use mathlib.Core.List.{List, [], ◌∷◌, ◌++◌}
use native.Mathlib.Omega.{arith}
use native.Mathlib.Nat.{not-suc-le-zero}
use lib.ListN.{length, get_or}
use lib.Ieee.{Float, nan, inf, of_bits, of_fields}
use Rattle.numbers.specs.Real.{nought}
use Rattle.flow_theory.specs.Network.{rev}
use Rattle.epsdelta_theory.specs.Jumps.{Jump}
use Rattle.epsdelta_theory.specs.Relation.{holds}
use Rattle.epsdelta_theory.specs.FlowTest.{Link, source_links, sink_links, link_if, cross_links, all_cross_links, heads, caps}
use Rattle.epsdelta_theory.proofs.RowReads.{no_jump}
use Rattle.flow_duality.proofs.Wholes.{val}
use Rattle.flow_duality.proofs.Cuts.{upto, upto_same, part}

-- ---- the sum over the added links

nought_part : (b : Bool) → part b nought ≡ 0
unfolding val of_bits of_fields
nought_part true = refl
nought_part false = refl

inf_part : (b : Bool) → part b (inf false) ≡ 0
unfolding val
inf_part true = refl
inf_part false = refl

pub inf_nought : nought ≢ inf false
unfolding of_bits of_fields
inf_nought q = let z : ◌≡◌ {A = ℕ} 0 1 = cc in omega arith

upto_front : (f : ℕ → ℕ) (n : ℕ) → upto f (suc n) ≡ f 0 + upto (λ (e : ℕ). f (suc e)) n
unfolding upto
upto_front f zero = omega arith
upto_front f (suc n) = let r = upto_front f n in omega arith

pub rev_up : (e : ℕ) → rev (suc (suc e)) ≡ suc (suc (rev e))
unfolding rev
rev_up e = omega arith

-- what an added link out of S has
abbrev pub has : (ℕ → Bool) → Link → ℕ
has S l = part (S l.from && not (S l.to)) l.cap

unfoldable pub through : (ℕ → Bool) → List Link → ℕ
through S [] = 0
through S (l ∷ ls) = has S l + through S ls

-- what link e of these heads and capacities has, if it leads out
abbrev pub share : (ℕ → Bool) → List ℕ → List Float → ℕ → ℕ
share S H C e = part (S (get_or H (rev e) 0) && not (S (get_or H e 0))) (get_or C e nan)

pub through_is : (S : ℕ → Bool) (ls : List Link) → upto (share S (heads ls) (caps ls)) (length (heads ls)) ≡ through S ls
unfolding through heads caps upto rev
through_is S [] = refl
through_is S (l ∷ ls) =
    let H = l.to ∷ l.from ∷ heads ls in
    let C = l.cap ∷ nought ∷ caps ls in
    let f = share S H C in
    let a = upto_front f (suc (length (heads ls))) in
    let b = upto_front (λ (e : ℕ). f (suc e)) (length (heads ls)) in
    let z : f 1 ≡ 0 = nought_part (S l.to && not (S l.from)) in
    let s : upto (λ (e : ℕ). f (suc (suc e))) (length (heads ls)) ≡ upto (share S (heads ls) (caps ls)) (length (heads ls))
    = upto_same (λ (e : ℕ). f (suc (suc e))) (share S (heads ls) (caps ls)) (length (heads ls)) (λ e i. ap (λ (r : ℕ). part (S (get_or H r 0) && not (S (get_or (heads ls) e 0))) (get_or (caps ls) e nan)) (rev_up e)) in
    let r = through_is S ls in
    let o : f 0 ≡ has S l = refl in
    omega arith

pub through_append : (S : ℕ → Bool) (xs ys : List Link) → through S (xs ++ ys) ≡ through S xs + through S ys
unfolding through
through_append S [] ys = omega arith
through_append S (x ∷ xs) ys = let r = through_append S xs ys in omega arith

-- ---- the sum over a row

-- the rates of the jumps, nodes from i on, whose nodes are in P
unfoldable pub row_of : (ℕ → Bool) → ℕ → List Jump → ℕ
row_of P i [] = 0
row_of P i (j ∷ js) = part (P i) j.rate + row_of P (suc i) js

pub row_of_same : (P Q : ℕ → Bool) (i k : ℕ) (js : List Jump) → ((m : ℕ) → m < length js → P (i + m) ≡ Q (k + m)) → row_of P i js ≡ row_of Q k js
unfolding row_of
row_of_same P Q i k [] h = refl
row_of_same P Q i k (j ∷ js) h =
    let r = row_of_same P Q (suc i) (suc k) js (λ m l. ap P (let z : suc i + m ≡ i + suc m = omega arith in z) ∙ h (suc m) (omega arith) ∙ ap Q (let z : k + suc m ≡ suc k + m = omega arith in z)) in
    let s : P i ≡ Q k = ap P (let z : i ≡ i + 0 = omega arith in z) ∙ h 0 (omega arith) ∙ ap Q (let z : k + 0 ≡ k = omega arith in z) in
    let t = ap (λ (b : Bool). part b j.rate) s in
    omega arith

pub through_source : (S : ℕ → Bool) (src i : ℕ) (js : List Jump) → through S (source_links src i js) ≡ row_of (λ (v : ℕ). S src && not (S v)) i js
unfolding through source_links row_of
through_source S src i [] = refl
through_source S src i (j ∷ js) = let r = through_source S src (suc i) js in omega arith

pub through_sink : (S : ℕ → Bool) (snk i : ℕ) (js : List Jump) → through S (sink_links snk i js) ≡ row_of (λ (v : ℕ). S v && not (S snk)) i js
unfolding through sink_links row_of
through_sink S snk i [] = refl
through_sink S snk i (j ∷ js) = let r = through_sink S snk (suc i) js in omega arith

through_if : (S : ℕ → Bool) (b : Bool) (i k : ℕ) (ls : List Link) → through S (link_if b i k ls) ≡ through S ls
unfolding through link_if
through_if S true i k ls = let z = inf_part (S i && not (S k)) in omega arith
through_if S false i k ls = refl

through_cross : (S : ℕ → Bool) (n : ℕ) (R : List Bool) (u i k : ℕ) (ts : List Jump) → through S (cross_links n R u i k ts) ≡ 0
unfolding through cross_links
through_cross S n R u i k [] = refl
through_cross S n R u i k (t ∷ ts) = through_if S (holds n R u t.target) i k (cross_links n R u i (suc k) ts) ∙ through_cross S n R u i (suc k) ts

pub through_all : (S : ℕ → Bool) (n : ℕ) (R : List Bool) (i k : ℕ) (js ts : List Jump) → through S (all_cross_links n R i k js ts) ≡ 0
unfolding through all_cross_links
through_all S n R i k [] ts = refl
through_all S n R i k (j ∷ js) ts =
    let a = through_append S (cross_links n R j.target i k ts) (all_cross_links n R (suc i) k js ts) in
    let b = through_cross S n R j.target i k ts in
    let c = through_all S n R (suc i) k js ts in
    omega arith

-- ---- no infinite link out of a set

abbrev pub Sealed : (ℕ → Bool) → List Link → Type 0
Sealed S [] = Unit {0}
Sealed S (l ∷ ls) = (l.cap ≡ inf false → (S l.from && not (S l.to)) ≡ false) × Sealed S ls

pub sealed_append : (S : ℕ → Bool) (xs ys : List Link) → Sealed S xs → Sealed S ys → Sealed S (xs ++ ys)
sealed_append S [] ys a b = b
sealed_append S (x ∷ xs) ys (h, a) b = (h, sealed_append S xs ys a b)

pub sealed_right : (S : ℕ → Bool) (xs ys : List Link) → Sealed S (xs ++ ys) → Sealed S ys
sealed_right S [] ys a = a
sealed_right S (x ∷ xs) ys (h, a) = sealed_right S xs ys a

sealed_left : (S : ℕ → Bool) (xs ys : List Link) → Sealed S (xs ++ ys) → Sealed S xs
sealed_left S [] ys a = tt
sealed_left S (x ∷ xs) ys (h, a) = (h, sealed_left S xs ys a)

-- as links of the network
pub sealed_finite : (S : ℕ → Bool) (ls : List Link) → Sealed S ls → (e : ℕ) → e < length (heads ls) → (S (get_or (heads ls) (rev e) 0) && not (S (get_or (heads ls) e 0))) ≡ true → get_or (caps ls) e nan ≢ inf false
unfolding heads caps rev
sealed_finite S [] a e l h = absurd (not-suc-le-zero l)
sealed_finite S (x ∷ ls) (p, a) zero l h = λ q. true≢false (sym h ∙ p q)
sealed_finite S (x ∷ ls) (p, a) (suc zero) l h = inf_nought
sealed_finite S (x ∷ ls) (p, a) (suc (suc e)) l h =
    sealed_finite S ls a e (omega arith) (subst (λ (r : ℕ). (S (get_or (x.to ∷ x.from ∷ heads ls) r 0) && not (S (get_or (heads ls) e 0))) ≡ true) (rev_up e) h)

pub finite_sealed : (S : ℕ → Bool) (ls : List Link)
    → ((e : ℕ) → e < length (heads ls) → (S (get_or (heads ls) (rev e) 0) && not (S (get_or (heads ls) e 0))) ≡ true → get_or (caps ls) e nan ≢ inf false) → Sealed S ls
unfolding heads caps rev
finite_sealed S [] h = tt
finite_sealed S (x ∷ ls) h = (
  λ q. pick (S x.from && not (S x.to)) refl q,
  finite_sealed S ls (λ e l i. h (suc (suc e)) (omega arith) (subst⁻¹ (λ (r : ℕ). (S (get_or (x.to ∷ x.from ∷ heads ls) r 0) && not (S (get_or (heads ls) e 0))) ≡ true) (rev_up e) i)),
)
  where
    pick : (b : Bool) → (S x.from && not (S x.to)) ≡ b → x.cap ≡ inf false → b ≡ false
    pick true e q = absurd (h 0 (omega arith) e q)
    pick false e q = refl

-- ---- and the rows

-- no related targets, nodes from i and from k on, are parted by S
abbrev pub Unparted : (ℕ → Bool) → ℕ → List Bool → ℕ → ℕ → List Jump → List Jump → Type 0
Unparted S n R i k js ts = (x y : ℕ) → x < length js → y < length ts → holds n R (get_or js x no_jump).target (get_or ts y no_jump).target ≡ true → (S (i + x) && not (S (k + y))) ≡ false

sealed_if : (S : ℕ → Bool) (b : Bool) (i k : ℕ) (ls : List Link) → (b ≡ true → (S i && not (S k)) ≡ false) → Sealed S ls → Sealed S (link_if b i k ls)
unfolding link_if
sealed_if S true i k ls h a = (λ q. h refl, a)
sealed_if S false i k ls h a = a

if_sealed : (S : ℕ → Bool) (b : Bool) (i k : ℕ) (ls : List Link) → Sealed S (link_if b i k ls) → (b ≡ true → (S i && not (S k)) ≡ false) × Sealed S ls
unfolding link_if
if_sealed S true i k ls (h, a) = (λ q. h refl, a)
if_sealed S false i k ls a = (λ q. absurd (true≢false (sym q)), a)

module _ (S : ℕ → Bool) (n : ℕ) (R : List Bool) where
  cross_sealed : (u i k : ℕ) (ts : List Jump) → ((y : ℕ) → y < length ts → holds n R u (get_or ts y no_jump).target ≡ true → (S i && not (S (k + y))) ≡ false) → Sealed S (cross_links n R u i k ts)
  unfolding cross_links
  cross_sealed u i k [] h = tt
  cross_sealed u i k (t ∷ ts) h =
      sealed_if S (holds n R u t.target) i k (cross_links n R u i (suc k) ts) (λ q. ap (λ (v : ℕ). S i && not (S v)) (let z : k ≡ k + 0 = omega arith in z) ∙ h 0 (omega arith) q)
      (cross_sealed u i (suc k) ts (λ y l q. ap (λ (v : ℕ). S i && not (S v)) (let z : suc k + y ≡ k + suc y = omega arith in z) ∙ h (suc y) (omega arith) q))

  sealed_cross : (u i k : ℕ) (ts : List Jump) → Sealed S (cross_links n R u i k ts) → (y : ℕ) → y < length ts → holds n R u (get_or ts y no_jump).target ≡ true → (S i && not (S (k + y))) ≡ false
  unfolding cross_links
  sealed_cross u i k [] a y l q = absurd (not-suc-le-zero l)
  sealed_cross u i k (t ∷ ts) a zero l q =
      ap (λ (v : ℕ). S i && not (S v)) (let z : k + 0 ≡ k = omega arith in z) ∙ (if_sealed S (holds n R u t.target) i k (cross_links n R u i (suc k) ts) a).0 q
  sealed_cross u i k (t ∷ ts) a (suc y) l q =
      ap (λ (v : ℕ). S i && not (S v)) (let z : k + suc y ≡ suc k + y = omega arith in z)
      ∙ sealed_cross u i (suc k) ts (if_sealed S (holds n R u t.target) i k (cross_links n R u i (suc k) ts) a).1 y (omega arith) q

  pub all_sealed : (i k : ℕ) (js ts : List Jump) → Unparted S n R i k js ts → Sealed S (all_cross_links n R i k js ts)
  unfolding all_cross_links
  all_sealed i k [] ts h = tt
  all_sealed i k (j ∷ js) ts h =
      sealed_append S (cross_links n R j.target i k ts) (all_cross_links n R (suc i) k js ts)
      (cross_sealed j.target i k ts (λ y l q. ap (λ (v : ℕ). S v && not (S (k + y))) (let z : i ≡ i + 0 = omega arith in z) ∙ h 0 y (omega arith) l q))
      (all_sealed (suc i) k js ts (λ x y l m q. ap (λ (v : ℕ). S v && not (S (k + y))) (let z : suc i + x ≡ i + suc x = omega arith in z) ∙ h (suc x) y (omega arith) m q))

  pub sealed_all : (i k : ℕ) (js ts : List Jump) → Sealed S (all_cross_links n R i k js ts) → Unparted S n R i k js ts
  unfolding all_cross_links
  sealed_all i k [] ts a x y l m q = absurd (not-suc-le-zero l)
  sealed_all i k (j ∷ js) ts a zero y l m q =
      ap (λ (v : ℕ). S v && not (S (k + y))) (let z : i + 0 ≡ i = omega arith in z)
      ∙ sealed_cross j.target i k ts (sealed_left S (cross_links n R j.target i k ts) (all_cross_links n R (suc i) k js ts) a) y m q
  sealed_all i k (j ∷ js) ts a (suc x) y l m q =
      ap (λ (v : ℕ). S v && not (S (k + y))) (let z : i + suc x ≡ suc i + x = omega arith in z)
      ∙ sealed_all (suc i) k js ts (sealed_right S (cross_links n R j.target i k ts) (all_cross_links n R (suc i) k js ts) a) x y (omega arith) m q
