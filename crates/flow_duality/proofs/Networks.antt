-- The network of a flow test as a run begins on it: capacities of 1 at most, and for a set of nodes what its links have and whether no infinite one leads out.
use mathlib.Core.Path.{◌≡◌, refl, ap, ◌∙◌}
use mathlib.Core.Logic.{◌≢◌, ◌⊎◌, inl, inr}
use mathlib.Core.Bool.{Bool, true, false, not, ◌&&◌, false≢true}
use Prim.Native.Nat.{ℕ, zero, suc, ◌≤◌, ◌<◌, ◌+◌, ◌*◌, ◌^◌}
use mathlib.Core.List.{List, [], ◌∷◌, ◌++◌}
use native.Mathlib.Omega.{arith}
use native.Mathlib.Nat.{not-suc-le-zero, mul-le-mul_right}
use borrow.Author.Tests.{eq-eqb, ne_eqb, eqb-true}
use lib.Dec.{T}
use lib.ListN.{length, get_or, length-append}
use lib.Ieee.{Float, nan, inf, fin, binary64, of_bits, of_fields, lt, le, eq, fits}
use Rattle.numbers.specs.Real.{nought, one}
use Rattle.numbers.proofs.Bools.{and_t, t_of}
use Rattle.numbers.proofs.Floats.{power, Plain}
use Rattle.numbers.proofs.Comparisons.{fin_inf}
use Rattle.flow_theory.specs.Network.{Net, links, head, tail, left}
use Rattle.epsdelta_theory.specs.Jumps.{Jump}
use Rattle.epsdelta_theory.specs.Relation.{holds}
use Rattle.epsdelta_theory.specs.FlowTest.{Link, source_links, sink_links, link_if, cross_links, all_cross_links, links_of, heads, caps, network_between}
use Rattle.epsdelta_theory.proofs.FlowTests.{AllInRange, caps_length, between_accepted}
use Rattle.flow_duality.specs.Spare.{row_most, is_share}
use Rattle.flow_duality.proofs.Wholes.{ulp, ulp_pos, val, Whole, val_le, le_val, power_whole, power_val, nought_whole, nought_val, one_whole, one_val}
use Rattle.flow_duality.proofs.Cuts.{part, out_of}
use Rattle.flow_duality.proofs.Pushed.{added_most, Allowed, alone, Begins}
use Rattle.flow_duality.proofs.Starts.{inf_nought, through_is, through_append, row_of, row_of_same, through_source, through_sink, through_all, Sealed, sealed_append, sealed_right, sealed_finite, finite_sealed, Unparted, all_sealed, sealed_all}

-- ---- rates

-- a number of the format from 0 to 1
abbrev pub Share : Float → Type 0
Share x = Whole x × (le x one ≡ true)

abbrev pub Shares : List Jump → Type 0
Shares [] = Unit {0}
Shares (j ∷ js) = Share j.rate × Shares js

above_plain : (x : Float) → lt nought x ≡ true → le x one ≡ true → Plain x
unfolding lt le eq of_bits of_fields
above_plain nan h k = false≢true h
above_plain (inf true) h k = false≢true h
above_plain (inf false) h k = false≢true k
above_plain (fin true m e) h k = false≢true h
above_plain (fin false m e) h k = tt

pub share_of_lem : (x : Float) → T (fits binary64 x) → is_share x ≡ true → Share x
share_of_lem x f h = let (a, b) = and_t (lt nought x) (le x one) h in ((above_plain x a b, f), b)

share_low : (x : Float) → Share x → val x ≤ 2 ^ 49 * ulp
share_low x (w, h) = let l = le_val x one w one_whole h in let o = one_val in omega arith

whole_finite : (x : Float) → Whole x → x ≢ inf false
whole_finite nan (p, f) q = p
whole_finite (inf s) (p, f) q = p
whole_finite (fin s m e) w q = fin_inf s m e q

pub in_range : (js : List Jump) → Shares js → AllInRange js
in_range [] h = tt
in_range (j ∷ js) (s, h) =
    let l = share_low j.rate s in
    let p = power_val in
    let z = nought_val in
    let u = ulp_pos in
    ((t_of (val_le nought j.rate nought_whole s.0 (omega arith)), t_of (val_le j.rate (power 40) s.0 power_whole (omega arith))), in_range js h)

-- ---- each capacity

abbrev Rated : List Link → Type 0
Rated [] = Unit {0}
Rated (l ∷ ls) = ((l.cap ≡ inf false) ⊎ ((l.cap ≢ inf false) × Whole l.cap × (val l.cap ≤ 2 ^ 49 * ulp))) × Rated ls

rated_append : (xs ys : List Link) → Rated xs → Rated ys → Rated (xs ++ ys)
rated_append [] ys a b = b
rated_append (x ∷ xs) ys (h, a) b = (h, rated_append xs ys a b)

rated_source : (src i : ℕ) (js : List Jump) → Shares js → Rated (source_links src i js)
unfolding source_links
rated_source src i [] h = tt
rated_source src i (j ∷ js) (s, h) = (inr (whole_finite j.rate s.0, s.0, share_low j.rate s), rated_source src (suc i) js h)

rated_sink : (snk i : ℕ) (js : List Jump) → Shares js → Rated (sink_links snk i js)
unfolding sink_links
rated_sink snk i [] h = tt
rated_sink snk i (j ∷ js) (s, h) = (inr (whole_finite j.rate s.0, s.0, share_low j.rate s), rated_sink snk (suc i) js h)

rated_if : (b : Bool) (i k : ℕ) (ls : List Link) → Rated ls → Rated (link_if b i k ls)
unfolding link_if
rated_if true i k ls h = (inl refl, h)
rated_if false i k ls h = h

rated_cross : (n : ℕ) (R : List Bool) (u i k : ℕ) (ts : List Jump) → Rated (cross_links n R u i k ts)
unfolding cross_links
rated_cross n R u i k [] = tt
rated_cross n R u i k (t ∷ ts) = rated_if (holds n R u t.target) i k (cross_links n R u i (suc k) ts) (rated_cross n R u i (suc k) ts)

rated_all : (n : ℕ) (R : List Bool) (i k : ℕ) (js ts : List Jump) → Rated (all_cross_links n R i k js ts)
unfolding all_cross_links
rated_all n R i k [] ts = tt
rated_all n R i k (j ∷ js) ts = rated_append (cross_links n R j.target i k ts) (all_cross_links n R (suc i) k js ts) (rated_cross n R j.target i k ts) (rated_all n R (suc i) k js ts)

rated_each : (ls : List Link) → Rated ls → (e : ℕ) → e < length (heads ls)
    → (get_or (caps ls) e nan ≡ inf false) ⊎ ((get_or (caps ls) e nan ≢ inf false) × Whole (get_or (caps ls) e nan) × (val (get_or (caps ls) e nan) ≤ 2 ^ 49 * ulp))
unfolding heads caps
rated_each [] h e l = absurd (not-suc-le-zero l)
rated_each (x ∷ ls) (p, h) zero l = p
rated_each (x ∷ ls) (p, h) (suc zero) l = let z = nought_val in inr (inf_nought, nought_whole, omega arith)
rated_each (x ∷ ls) (p, h) (suc (suc e)) l = rated_each ls h e (omega arith)

-- ---- how many links

source_length : (src i : ℕ) (js : List Jump) → length (source_links src i js) ≡ length js
unfolding source_links
source_length src i [] = refl
source_length src i (j ∷ js) = ap suc (source_length src (suc i) js)

sink_length : (snk i : ℕ) (js : List Jump) → length (sink_links snk i js) ≡ length js
unfolding sink_links
sink_length snk i [] = refl
sink_length snk i (j ∷ js) = ap suc (sink_length snk (suc i) js)

if_length : (b : Bool) (i k : ℕ) (ls : List Link) → length (link_if b i k ls) ≤ suc (length ls)
unfolding link_if
if_length true i k ls = omega arith
if_length false i k ls = omega arith

cross_length : (n : ℕ) (R : List Bool) (u i k : ℕ) (ts : List Jump) → length (cross_links n R u i k ts) ≤ length ts
unfolding cross_links
cross_length n R u i k [] = omega arith
cross_length n R u i k (t ∷ ts) =
    let r = cross_length n R u i (suc k) ts in
    let a = if_length (holds n R u t.target) i k (cross_links n R u i (suc k) ts) in
    omega arith

all_cross_length : (n : ℕ) (R : List Bool) (i k : ℕ) (js ts : List Jump) → length ts ≤ row_most → length (all_cross_links n R i k js ts) ≤ row_most * length js
unfolding all_cross_links
all_cross_length n R i k [] ts h = omega arith
all_cross_length n R i k (j ∷ js) ts h =
    let r = all_cross_length n R (suc i) k js ts h in
    let a = cross_length n R j.target i k ts in
    rw (length-append (cross_links n R j.target i k ts) (all_cross_links n R (suc i) k js ts)) (omega arith)

-- ---- sums over a row

row_under : (P : ℕ → Bool) (i : ℕ) (js : List Jump) → Shares js → row_of P i js ≤ length js * (2 ^ 49 * ulp)
unfolding row_of
row_under P i [] h = omega arith
row_under P i (j ∷ js) (s, h) = let r = row_under P (suc i) js h in let p = pick (P i) in omega arith
  where
    pick : (b : Bool) → part b j.rate ≤ 2 ^ 49 * ulp
    pick true = share_low j.rate s
    pick false = omega arith

row_none : (i : ℕ) (js : List Jump) → row_of (λ (v : ℕ). false) i js ≡ 0
unfolding row_of
row_none i [] = refl
row_none i (j ∷ js) = let r = row_none (suc i) js in omega arith

module _ (n : ℕ) (R : List Bool) (ps pt : List Jump) where
  abbrev a : ℕ
  a = length ps

  abbrev src : ℕ
  src = length ps + length pt

  abbrev N : Net
  N = network_between n R ps pt

  abbrev c₀ : List Float
  c₀ = caps (links_of n R ps pt)

  -- what the links out of a set have
  pub out_is : (S : ℕ → Bool) → out_of N S c₀ ≡ row_of (λ (v : ℕ). S src && not (S v)) 0 ps + row_of (λ (v : ℕ). S v && not (S (suc src))) a pt
  unfolding out_of head left links_of
  out_is S =
      let xs = source_links src 0 ps in
      let ys = sink_links (suc src) a pt in
      let zs = all_cross_links n R 0 a ps pt in
      let w = through_is S (links_of n R ps pt) in
      let f = through_append S xs (ys ++ zs) in
      let g = through_append S ys zs in
      let p = through_source S src 0 ps in
      let q = through_sink S (suc src) a pt in
      let r = through_all S n R 0 a ps pt in
      omega arith

  -- a set that holds the source and not the sink, and parts no related targets
  module _ (S : ℕ → Bool) where
    pub unparted_of : Allowed N c₀ S → Unparted S n R 0 a ps pt
    unfolding head left links_of
    unparted_of A =
        sealed_all S n R 0 a ps pt
        (sealed_right S (sink_links (suc src) a pt) (all_cross_links n R 0 a ps pt)
        (sealed_right S (source_links src 0 ps) (sink_links (suc src) a pt ++ all_cross_links n R 0 a ps pt) (finite_sealed S (links_of n R ps pt) A.finite)))

    sealed_source : (i : ℕ) (js : List Jump) → Shares js → Sealed S (source_links src i js)
    unfolding source_links
    sealed_source i [] h = tt
    sealed_source i (j ∷ js) (s, h) = (λ q. absurd (whole_finite j.rate s.0 q), sealed_source (suc i) js h)

    sealed_sink : (i : ℕ) (js : List Jump) → Shares js → Sealed S (sink_links (suc src) i js)
    unfolding sink_links
    sealed_sink i [] h = tt
    sealed_sink i (j ∷ js) (s, h) = (λ q. absurd (whole_finite j.rate s.0 q), sealed_sink (suc i) js h)

    pub allowed_of : Shares ps → Shares pt → S src ≡ true → S (suc src) ≡ false → Unparted S n R 0 a ps pt → Allowed N c₀ S
    unfolding head left links_of
    allowed_of hs ht i o h = record {
      source_in = i;
      sink_out = o;
      finite = sealed_finite S (links_of n R ps pt)
          (sealed_append S (source_links src 0 ps) (sink_links (suc src) a pt ++ all_cross_links n R 0 a ps pt) (sealed_source 0 ps hs)
          (sealed_append S (sink_links (suc src) a pt) (all_cross_links n R 0 a ps pt) (sealed_sink a pt ht) (all_sealed S n R 0 a ps pt h)));
    }

  module _ (hs : Shares ps) (ht : Shares pt) (few : length ps ≤ row_most) (few' : length pt ≤ row_most) where
    pub links_few : length (links_of n R ps pt) ≤ added_most
    unfolding links_of
    links_few =
        let s = all_cross_length n R 0 a ps pt few' in
        rw (
          length-append (source_links src 0 ps) (sink_links (suc src) a pt ++ all_cross_links n R 0 a ps pt),
          length-append (sink_links (suc src) a pt) (all_cross_links n R 0 a ps pt),
          source_length src 0 ps,
          sink_length (suc src) a pt,
        ) (omega arith)

    first : (e : ℕ) → e < links N → tail N e ≡ N.source → left c₀ e ≢ inf false
    first = (between_accepted n R ps pt (in_range ps hs) (in_range pt ht) (omega arith) (omega arith)).finite

    source : Allowed N c₀ (alone N)
    source = record {
      source_in = eq-eqb src src refl;
      sink_out = ne_eqb (suc src) src (omega arith);
      finite = λ e l h. first e l (eqb-true (tail N e) src (and_t (alone N (tail N e)) (not (alone N (head N e))) h).0);
    }

    most : out_of N (alone N) c₀ ≤ row_most * (2 ^ 49 * ulp)
    most =
        let o = out_is (alone N) in
        let u = row_under (λ (v : ℕ). alone N src && not (alone N v)) 0 ps hs in
        let m : length ps * (2 ^ 49 * ulp) ≤ row_most * (2 ^ 49 * ulp) = mul-le-mul_right (2 ^ 49 * ulp) few in
        let z : row_of (λ (v : ℕ). alone N v && not (alone N (suc src))) a pt ≡ 0 = row_of_same (λ (v : ℕ). alone N v && not (alone N (suc src))) (λ (v : ℕ). false) a a pt (λ k l. none k l) ∙ row_none a pt in
        omega arith
      where
        none : (k : ℕ) → k < length pt → (alone N (a + k) && not (alone N (suc src))) ≡ false
        none k l = ap (λ (b : Bool). b && not (alone N (suc src))) (ne_eqb (a + k) src (omega arith))

    pub begins : Begins N c₀
    unfolding left links_of
    begins = record {
      size = caps_length (links_of n R ps pt);
      each = rated_each (links_of n R ps pt)
          (rated_append (source_links src 0 ps) (sink_links (suc src) a pt ++ all_cross_links n R 0 a ps pt) (rated_source src 0 ps hs)
          (rated_append (sink_links (suc src) a pt) (all_cross_links n R 0 a ps pt) (rated_sink (suc src) a pt ht) (rated_all n R 0 a ps pt)));
      first = first;
      source = source;
      most = most;
    }
