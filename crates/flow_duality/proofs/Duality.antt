-- A flow that passes with `spare` to spare passes turned round: for rows of at most `row_most` jumps, rates of at most 1 and a symmetric relation.
-- The network from t to s is the one from s to t turned round, so each cut of the one, its nodes mirrored and the other side taken, is a cut of the other with the same capacity.
use mathlib.Core.Path.{◌≡◌, refl, sym, subst, subst⁻¹, ap, ◌∙◌}
use mathlib.Core.Logic.{◌⊎◌, inl, inr}
use mathlib.Core.Bool.{Bool, true, false, not, ◌&&◌, ◌||◌, cond, true≢false, false≢true}
use Prim.Native.Nat.{ℕ, suc, ◌≤◌, ◌<◌, ◌+◌, ◌*◌, ◌-◌, ◌^◌}
use mathlib.Core.List.{List}
use native.Mathlib.Omega.{arith}
use native.Mathlib.Nat.{mul-le-mul_right, mul-pos, le_of_mul-le-mul_right}
use borrow.Author.Tests.{lt-ltb, le-ltb, eq-eqb, ne_eqb}
use lib.Dec.{T, ltb, eqb, lit<}
use lib.IntN.{ℤ}
use lib.ListN.{length, get_or}
use lib.Pow.{pow_pos}
use lib.Ieee.{Float, nan, inf, fin, binary64, of_bits, of_fields, lt, le, eq, add, round, up, down, fits}
use lib.Ieee.Bits.{is_true}
use lib.Ieee.Order.{round_mono}
use lib.Ieee.Positive.{num, den, den_pos, above_of_le}
use Rattle.numbers.specs.Lists.{In}
use Rattle.numbers.proofs.Bools.{lt_or_ge}
use Rattle.numbers.proofs.Floats.{power, plain_signed, add_is}
use Rattle.numbers.proofs.Comparisons.{Above, above_t, le_not_lt, lt_over}
use Rattle.numbers.proofs.Members.{in_at}
use Rattle.flow_theory.specs.Network.{Net, nodes}
use Rattle.flow_theory.specs.Claim.{in_cut, FlowClaim}
use Rattle.flow_theory.proofs.Accepted.{Accepted}
use Rattle.flow_theory.proofs.Links.{WellFormed}
use Rattle.flow_theory.proofs.Theorem.{node_lists_length, accepted_good}
use Rattle.epsdelta_theory.specs.Jumps.{Jump}
use Rattle.epsdelta_theory.specs.Relation.{holds}
use Rattle.epsdelta_theory.specs.FlowTest.{links_of, heads, caps, network_between, run_between}
use Rattle.epsdelta_theory.proofs.FlowTests.{heads_length, between_accepted, between_claimed}
use Rattle.epsdelta_theory.proofs.RowReads.{no_jump}
use Rattle.flow_duality.specs.Spare.{row_most, spare}
use Rattle.flow_duality.proofs.Wholes.{ulp, ulp_pos, val, Whole, add_near, val_is, val_ge, val_le, le_val, plain_above, spare_whole, spare_val}
use Rattle.flow_duality.proofs.Cuts.{out_of}
use Rattle.flow_duality.proofs.Pushed.{nodes_most, Allowed, alone, Begins}
use Rattle.flow_duality.proofs.Starts.{row_of, row_of_same, Unparted}
use Rattle.flow_duality.proofs.Networks.{Shares, in_range, out_is, unparted_of, allowed_of, links_few, begins}
use Rattle.flow_duality.proofs.Trails.{slip, leftover, ran, below_cut, own_cut, at_own_cut}

-- ---- the network turned round

-- the node of the network turned round that node v is, for a targets on the left and b on the right
unfoldable mirror : ℕ → ℕ → ℕ → ℕ
mirror a b v = cond (ltb v a) (b + v) (cond (ltb v (a + b)) (v - a) (cond (eqb v (a + b)) (suc (b + a)) (b + a)))

module _ (a b : ℕ) where
  mirror_left : (v : ℕ) → v < a → mirror a b v ≡ b + v
  unfolding mirror
  mirror_left v h = rw (lt-ltb v a h)

  mirror_right : (k : ℕ) → k < b → mirror a b (a + k) ≡ k
  unfolding mirror
  mirror_right k h = rw (le-ltb (a + k) a (omega arith), lt-ltb (a + k) (a + b) (omega arith)) (omega arith)

  mirror_source : mirror a b (a + b) ≡ suc (b + a)
  unfolding mirror
  mirror_source = rw (le-ltb (a + b) a (omega arith), le-ltb (a + b) (a + b) (omega arith), eq-eqb (a + b) (a + b) refl)

  mirror_sink : mirror a b (suc (a + b)) ≡ b + a
  unfolding mirror
  mirror_sink = rw (le-ltb (suc (a + b)) a (omega arith), le-ltb (suc (a + b)) (a + b) (omega arith), ne_eqb (suc (a + b)) (a + b) (omega arith))

swap : (p q : Bool) → (p && not q) ≡ false → (not q && not (not p)) ≡ false
swap true true h = refl
swap true false h = absurd (true≢false h)
swap false true h = refl
swap false false h = refl

one_side : (p s q r : Bool) → p ≡ true → s ≡ not q → r ≡ false → (p && not s) ≡ (q && not r)
one_side p s true r a b c = rw (a, b, c)
one_side p s false r a b c = rw (a, b)

other_side : (p s q r : Bool) → p ≡ true → s ≡ not q → r ≡ false → (s && not r) ≡ (p && not q)
other_side p s true r a b c = rw (a, b)
other_side p s false r a b c = rw (a, b, c)

-- each holds the other, or neither does
abbrev pub Mutual : ℕ → List Bool → List Jump → List Jump → Type 0
Mutual n R ps pt = (j k : Jump) → In j ps → In k pt → holds n R j.target k.target ≡ holds n R k.target j.target

module _ (n : ℕ) (R : List Bool) (ps pt : List Jump) (hs : Shares ps) (ht : Shares pt) (few : length ps ≤ row_most) (few' : length pt ≤ row_most) (both : Mutual n R ps pt) where
  -- ---- a cut of the network back as one of the network forth

  module _ (S : ℕ → Bool) (A : Allowed (network_between n R pt ps) (caps (links_of n R pt ps)) S) where
    abbrev turned : ℕ → Bool
    turned v = not (S (mirror (length ps) (length pt) v))

    at_left : (x : ℕ) → x < length ps → turned x ≡ not (S (length pt + x))
    at_left x l = ap (λ (v : ℕ). not (S v)) (mirror_left (length ps) (length pt) x l)

    at_right : (y : ℕ) → y < length pt → turned (length ps + y) ≡ not (S y)
    at_right y l = ap (λ (v : ℕ). not (S v)) (mirror_right (length ps) (length pt) y l)

    at_source : turned (length ps + length pt) ≡ true
    at_source = ap (λ (v : ℕ). not (S v)) (mirror_source (length ps) (length pt)) ∙ ap not A.sink_out

    at_sink : turned (suc (length ps + length pt)) ≡ false
    at_sink = ap (λ (v : ℕ). not (S v)) (mirror_sink (length ps) (length pt)) ∙ ap not A.source_in

    unparted : Unparted turned n R 0 (length ps) ps pt
    unparted x y l m h =
        let j = get_or ps x no_jump in
        let k = get_or pt y no_jump in
        let g : holds n R k.target j.target ≡ true = sym (both j k (in_at ps x no_jump l) (in_at pt y no_jump m)) ∙ h in
        let u : (S (0 + y) && not (S (length pt + x))) ≡ false = unparted_of n R pt ps S A y x m l g in
        let v : (S y && not (S (length pt + x))) ≡ false = ap (λ (i : ℕ). S i && not (S (length pt + x))) (let z : y ≡ 0 + y = omega arith in z) ∙ u in
        ap (λ (i : ℕ). turned i && not (turned (length ps + y))) (let z : 0 + x ≡ x = omega arith in z)
        ∙ ap (λ (b : Bool). b && not (turned (length ps + y))) (at_left x l)
        ∙ ap (λ (b : Bool). not (S (length pt + x)) && not b) (at_right y m)
        ∙ swap (S y) (S (length pt + x)) v

    allowed : Allowed (network_between n R ps pt) (caps (links_of n R ps pt)) turned
    allowed = allowed_of n R ps pt turned hs ht at_source at_sink unparted

    same_out : out_of (network_between n R ps pt) turned (caps (links_of n R ps pt)) ≡ out_of (network_between n R pt ps) S (caps (links_of n R pt ps))
    same_out =
        let src = length ps + length pt in
        let src' = length pt + length ps in
        let p = out_is n R ps pt turned in
        let q = out_is n R pt ps S in
        let x : row_of (λ (v : ℕ). turned src && not (turned v)) 0 ps ≡ row_of (λ (v : ℕ). S v && not (S (suc src'))) (length pt) ps
        = row_of_same (λ (v : ℕ). turned src && not (turned v)) (λ (v : ℕ). S v && not (S (suc src'))) 0 (length pt) ps
        (λ m l. one_side (turned src) (turned (0 + m)) (S (length pt + m)) (S (suc src')) at_source (ap turned (let z : 0 + m ≡ m = omega arith in z) ∙ at_left m l) A.sink_out) in
        let y : row_of (λ (v : ℕ). turned v && not (turned (suc src))) (length ps) pt ≡ row_of (λ (v : ℕ). S src' && not (S v)) 0 pt
        = row_of_same (λ (v : ℕ). turned v && not (turned (suc src))) (λ (v : ℕ). S src' && not (S v)) (length ps) 0 pt
        (λ m l. other_side (S src') (turned (length ps + m)) (S (0 + m)) (turned (suc src)) A.source_in
        (at_right m l ∙ ap (λ (i : ℕ). not (S i)) (let z : m ≡ 0 + m = omega arith in z)) at_sink) in
        omega arith

-- ---- one test as a run of the theory

module _ (n : ℕ) (R : List Bool) (ps pt : List Jump) (hs : Shares ps) (ht : Shares pt) (few : length ps ≤ row_most) (few' : length pt ≤ row_most) where
  abbrev net : Net
  net = network_between n R ps pt

  accepted : Accepted net (caps (links_of n R ps pt)) (length (links_of n R ps pt))
  accepted = between_accepted n R ps pt (in_range ps hs) (in_range pt ht) (omega arith) (omega arith)

  good : WellFormed net
  good = accepted_good net (caps (links_of n R ps pt)) (length (links_of n R ps pt)) accepted

  claim : FlowClaim net (caps (links_of n R ps pt)) (length (links_of n R ps pt)) (run_between n R ps pt)
  claim = between_claimed n R ps pt (in_range ps hs) (in_range pt ht) (omega arith) (omega arith)

  nodes_few : nodes net ≤ nodes_most
  nodes_few = let h = node_lists_length (heads (links_of n R ps pt)) (length ps + length pt + 2) (length (heads (links_of n R ps pt))) in omega arith

  start : Begins net (caps (links_of n R ps pt))
  start = begins n R ps pt hs ht few few'

  total_whole : Whole (run_between n R ps pt).total
  total_whole = (ran net good nodes_few (caps (links_of n R ps pt)) start (length (links_of n R ps pt)) (links_few n R ps pt hs ht few few') (run_between n R ps pt) claim).total

  below : (S : ℕ → Bool) → Allowed net (caps (links_of n R ps pt)) S → val (run_between n R ps pt).total ≤ out_of net S (caps (links_of n R ps pt)) + slip * ulp
  below = below_cut net good nodes_few (caps (links_of n R ps pt)) start (length (links_of n R ps pt)) (links_few n R ps pt hs ht few few') (run_between n R ps pt) claim

  total_few : val (run_between n R ps pt).total < 2 ^ 53 * ulp
  total_few = let b = below (alone net) start.source in let m = start.most in let u = ulp_pos in omega arith

  own : Allowed net (caps (links_of n R ps pt)) (in_cut (run_between n R ps pt))
  own = own_cut net good nodes_few (caps (links_of n R ps pt)) start (length (links_of n R ps pt)) (links_few n R ps pt hs ht few few') (run_between n R ps pt) claim

  over : out_of net (in_cut (run_between n R ps pt)) (caps (links_of n R ps pt)) ≤ val (run_between n R ps pt).total + (slip + leftover) * ulp
  over =
      at_own_cut net good nodes_few (caps (links_of n R ps pt)) start (length (links_of n R ps pt)) (links_few n R ps pt hs ht few few') (run_between n R ps pt) claim
      (let h = heads_length (links_of n R ps pt) in let l = links_few n R ps pt hs ht few few' in omega arith)

-- ---- what is needed, and more

sixteen : round binary64 false 16 1 ≡ power 4
unfolding round
sixteen = refl

four_whole : Whole (power 4)
unfolding fits
four_whole = (tt, tt)

four_val : val (power 4) ≡ 2 ^ 53 * ulp
unfolding val ulp
four_val = refl

units : 2 ^ 53 * ulp ≡ 16 * 2 ^ 1074
unfolding ulp
units = refl

-- a number that is not below 16 is not at most one that is
far : (x y : Float) → Whole y → val y < 2 ^ 53 * ulp → T (le (power 4) x) → le x y ≡ true → ⊥
far x y w l h k =
    let a : Above x = above_t x (above_of_le (power 4) x tt h) in
    let b : Above y = plain_above y w.0 in
    true≢false (sym (lt_over y (power 4) x b tt a (under (lt y (power 4)) refl) (le_not_lt (power 4) x tt a (is_true (le (power 4) x) h))) ∙ le_not_lt x y a b k)
  where
    under : (c : Bool) → lt y (power 4) ≡ c → c ≡ true
    under true e = refl
    under false e = let g = val_ge y (power 4) w four_whole e in let v = four_val in absurd (omega arith)

large : (x : Float) → Whole x → 2 ^ 53 * ulp ≤ val x → T (le (power 4) (add binary64 x spare))
large x w h =
    subst⁻¹ (λ (z : Float). T (le (power 4) z)) (add_is x spare w.0 (plain_signed spare spare_whole.0))
    (subst (λ (z : Float). T (le z (round binary64 false (num x * den spare + num spare * den x) (den x * den spare)))) sixteen
    (round_mono binary64 16 1 (num x * den spare + num spare * den x) (den x * den spare) (lit< tt) (mul-pos (den_pos x) (den_pos spare)) (cross (num x) (den x) (num spare) (den spare) least)))
  where
    least : 16 * den x ≤ num x
    least =
        let e : val x * den x ≡ num x * 2 ^ 1074 = val_is x w in
        le_of_mul-le-mul_right (sixteenths (val x) (den x) (num x) (2 ^ 1074) (subst (λ (z : ℕ). z ≤ val x) units h) e) (pow_pos 1074)
      where
        sixteenths : (v d m P : ℕ) → 16 * P ≤ v → v * d ≡ m * P → 16 * d * P ≤ m * P
        sixteenths v d m P h e = let g : 16 * P * d ≤ v * d = mul-le-mul_right d h in omega arith

    cross : (m d q f : ℕ) → 16 * d ≤ m → 16 * (d * f) ≤ (m * f + q * d) * 1
    cross m d q f h = let g : 16 * d * f ≤ m * f = mul-le-mul_right f h in omega arith

-- no less than an infinity or a negative number
low_inf : (y : Float) → Whole y → le (inf true) y ≡ true
unfolding le lt eq
low_inf nan (p, f) = absurd p
low_inf (inf s) (p, f) = absurd p
low_inf (fin s m e) v = refl

negative : (m : ℕ) (e : ℤ) (y : Float) → Whole y → le (fin true m e) y ≡ true
unfolding le lt eq
negative m e nan (p, f) = absurd p
negative m e (inf s) (p, f) = absurd p
negative m e (fin true k d) (p, f) = absurd p
negative m e (fin false k d) v = any (m * up e * down d) (k * up d * down e)
  where
    any : (a b : ℕ) → (ltb 0 (a + b) || (eqb a b && (false || eqb a 0))) ≡ true
    any a b = pick (lt_or_ge 0 (a + b))
      where
        pick : (0 < a + b) ⊎ (a + b ≤ 0) → (ltb 0 (a + b) || (eqb a b && (false || eqb a 0))) ≡ true
        pick (inl h) = rw (lt-ltb 0 (a + b) h)
        pick (inr h) = let p : a ≡ b = omega arith in let q : a ≡ 0 = omega arith in rw (le-ltb 0 (a + b) h, eq-eqb a b p, eq-eqb a 0 q)

-- an infinity is not at most a finite number, nor is a NaN
high_inf : (x : Float) → Whole x → le (add binary64 (inf false) spare) x ≡ true → ⊥
unfolding le lt eq add of_bits of_fields
high_inf nan (p, f) h = p
high_inf (inf s) (p, f) h = p
high_inf (fin s m e) w h = false≢true h

no_nan : (x : Float) → le (add binary64 nan spare) x ≡ true → ⊥
unfolding le lt eq add
no_nan x h = false≢true h

-- how much less the flow back can be, in 2^-49
abbrev gap_most : ℕ
gap_most = slip + slip + leftover

-- from a flow that is spare above, to one that is at most so much less
spared : (need x y : Float) → T (fits binary64 need) → Whole x → Whole y → val x < 2 ^ 53 * ulp → val x ≤ val y + gap_most * ulp → le (add binary64 need spare) x ≡ true → le need y ≡ true
spared nan x y f w v l g h = absurd (no_nan x h)
spared (inf true) x y f w v l g h = low_inf y v
spared (inf false) x y f w v l g h = absurd (high_inf x w h)
spared (fin true m e) x y f w v l g h = negative m e y v
spared (fin false m e) x y f w v l g h = pick (lt_or_ge (val (fin false m e)) (2 ^ 53 * ulp))
  where
    pick : (val (fin false m e) < 2 ^ 53 * ulp) ⊎ (2 ^ 53 * ulp ≤ val (fin false m e)) → le (fin false m e) y ≡ true
    pick (inr k) = absurd (far (add binary64 (fin false m e) spare) x w l (large (fin false m e) (tt, f) k) h)
    pick (inl k) =
        let (s, t) = spare_val in
        let u = ulp_pos in
        let (z, p, q) = add_near (fin false m e) spare (tt, f) spare_whole (omega arith) in
        let r = le_val (add binary64 (fin false m e) spare) x z w h in
        val_le (fin false m e) y (tt, f) v (omega arith)

-- ---- the law

module _ (n : ℕ) (R : List Bool) (ps pt : List Jump) (hs : Shares ps) (ht : Shares pt) (few : length ps ≤ row_most) (few' : length pt ≤ row_most) (both : Mutual n R ps pt) where
  -- the flow forth is at most so much above the flow back
  gap : val (run_between n R ps pt).total ≤ val (run_between n R pt ps).total + gap_most * ulp
  gap =
      let A = own n R pt ps ht hs few' few in
      let S = in_cut (run_between n R pt ps) in
      let p = below n R ps pt hs ht few few' (turned n R ps pt hs ht few few' both S A) (allowed n R ps pt hs ht few few' both S A) in
      let q = same_out n R ps pt hs ht few few' both S A in
      let r = over n R pt ps ht hs few' few in
      omega arith

  -- what passes with that to spare passes, and passes back
  pub passes_both : (need : Float) → T (fits binary64 need) → le (add binary64 need spare) (run_between n R ps pt).total ≡ true
      → (le need (run_between n R ps pt).total ≡ true) × (le need (run_between n R pt ps).total ≡ true)
  passes_both need f h =
      let x = (run_between n R ps pt).total in
      let y = (run_between n R pt ps).total in
      let w = total_whole n R ps pt hs ht few few' in
      let l = total_few n R ps pt hs ht few few' in
      (spared need x x f w w l (omega arith) h, spared need x y f w (total_whole n R pt ps ht hs few' few) l gap h)
