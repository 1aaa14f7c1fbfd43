-- The network of a flow test in three lists: what is left from the source to each target of s, from each target of t to the sink, and, to take back, between targets i and k that are held together.
-- Labels l, r and s bound how far a node is from the sink: i is 2 l(i) away at least, k is 2 r(k) - 1, and the source 2 s + 1.
use mathlib.Core.Path.{◌≡◌, refl, sym, ap, subst⁻¹, ◌∙◌}
use Prim.Native.Nat.{ℕ, suc, ◌≤◌, ◌<◌, ◌+◌, ◌-◌, ◌*◌}
use mathlib.Core.Bool.{Bool, true, false, cond, true≢false}
use mathlib.Core.Logic.{◌≢◌, ◌⊎◌, inl, inr}
use mathlib.Core.List.{List}
use native.Mathlib.Omega.{arith}
use native.Mathlib.Nat.{mul-le-mul_right, suc-mul}
use borrow.Author.Tests.{lt-ltb, le-ltb, eq-eqb, ne_eqb}
use lib.Dec.{eqb, ltb}
use lib.ListN.{length, get_or, set, length-set}
use lib.Seq.{get_or-set_same, get_or-set_other}
use lib.Ieee.{Float, nan, inf, fin, binary64, of_bits, of_fields, lt, add, sub, neg}
use Rattle.numbers.specs.Real.{nought, eps}
use Rattle.numbers.proofs.Bools.{eq_or_ne}
use Rattle.numbers.proofs.Floats.{Plain}
use Rattle.flow_theory.specs.Network.{rev, Net, links, left}
use Rattle.flow_theory.specs.Augment.{push_link}
use Rattle.flow_theory.proofs.Links.{rev_ne}
use Rattle.flow_theory.proofs.Pushes.{push_link_length, push_link_same, push_link_other}
use Rattle.epsdelta_theory.specs.Jumps.{Jump}
use Rattle.epsdelta_theory.specs.FlowTest.{links_of, caps, network_between}
use Rattle.epsdelta_theory.proofs.Pairs.{same_entry, pair_cases}
use Rattle.epsdelta_theory.proofs.FlowTests.{caps_length}
use Rattle.flow_routes.proofs.Crossing.{rate_at, rank}
use Rattle.flow_routes.proofs.Numbered.{rev_even, rev_odd, held, source_link, sink_link, cross_link, source_cap, source_in, sink_cap, sink_in, cross_cap, cross_back_cap, cross_in, cross_same}

-- an entry of a rows of b is one of a * b
pub entry_low : (a b i k : ℕ) → i < a → k < b → i * b + k < a * b
entry_low a b i k h g = let p : suc i * b ≤ a * b = mul-le-mul_right b h in let e = suc-mul i b in omega arith

-- an infinite capacity stays
pub inf_less : (x : Float) → Plain x → sub binary64 (inf false) x ≡ inf false
unfolding sub add neg
inf_less nan p = absurd p
inf_less (inf s) p = absurd p
inf_less (fin true n e) p = absurd p
inf_less (fin false n e) p = refl

pub inf_more : (x : Float) → Plain x → add binary64 (inf false) x ≡ inf false
unfolding add
inf_more nan p = absurd p
inf_more (inf s) p = absurd p
inf_more (fin true n e) p = absurd p
inf_more (fin false n e) p = refl

pub none_above : lt eps nought ≡ false
unfolding lt of_bits of_fields
none_above = refl

-- ---- a push over one link, of number q + q or its reverse

module _ (x : Float) (c : List Float) (q : ℕ) where
  even_same : q + q < length c → left (push_link x (q + q) c) (q + q) ≡ sub binary64 (left c (q + q)) x
  even_same h = push_link_same x (q + q) c h

  odd_same : suc (q + q) < length c → left (push_link x (suc (q + q)) c) (suc (q + q)) ≡ sub binary64 (left c (suc (q + q))) x
  odd_same h = push_link_same x (suc (q + q)) c h

  reversed : (e f : ℕ) → rev e ≡ f → f < length c → left (push_link x e c) f ≡ add binary64 (left c f) x
  unfolding push_link left
  reversed e f z h =
      let d = set c e (sub binary64 (get_or c e nan) x) in
      let n = length-set c e (sub binary64 (get_or c e nan) x) in
      ap (λ (y : ℕ). get_or (set d y (add binary64 (get_or d y nan) x)) f nan) z
      ∙ get_or-set_same d f (add binary64 (get_or d f nan) x) nan (omega arith)
      ∙ ap (λ (y : Float). add binary64 y x) (get_or-set_other c e f (sub binary64 (get_or c e nan) x) nan (λ w. rev_ne e (z ∙ w)))

  even_back : suc (q + q) < length c → left (push_link x (q + q) c) (suc (q + q)) ≡ add binary64 (left c (suc (q + q))) x
  even_back h = reversed (q + q) (suc (q + q)) (rev_even q) h

  odd_back : suc (q + q) < length c → left (push_link x (suc (q + q)) c) (q + q) ≡ add binary64 (left c (q + q)) x
  odd_back h = reversed (suc (q + q)) (q + q) (rev_odd q) (omega arith)

  even_other : (y : ℕ) → y ≢ q + q → y ≢ suc (q + q) → left (push_link x (q + q) c) y ≡ left c y
  even_other y n k = push_link_other x (q + q) c y n (λ z. k (z ∙ rev_even q))

  odd_other : (y : ℕ) → y ≢ q + q → y ≢ suc (q + q) → left (push_link x (suc (q + q)) c) y ≡ left c y
  odd_other y n k = push_link_other x (suc (q + q)) c y k (λ z. n (z ∙ rev_odd q))

module _ (m : ℕ) (R : List Bool) (ps pt : List Jump) where
  abbrev a : ℕ
  a = length ps

  abbrev b : ℕ
  b = length pt

  abbrev net : Net
  net = network_between m R ps pt

  -- the capacities c of all links, in three lists
  pub record Mapped (c A B F : List Float) : Type 0 where
    pub size : length c ≡ links (network_between m R ps pt)
    pub room_a : length ps ≤ length A
    pub room_b : length pt ≤ length B
    pub room_f : length ps * length pt ≤ length F
    pub source : (i : ℕ) → i < length ps → left c (source_link m R ps pt i) ≡ get_or A i nan
    pub sink : (k : ℕ) → k < length pt → left c (sink_link m R ps pt k) ≡ get_or B k nan
    pub cross : (i k : ℕ) → i < length ps → k < length pt → held m R ps pt i k ≡ true → left c (cross_link m R ps pt i k) ≡ inf false
    pub back : (i k : ℕ) → i < length ps → k < length pt → held m R ps pt i k ≡ true → left c (suc (cross_link m R ps pt i k)) ≡ get_or F (i * length pt + k) nan
    pub idle : (i k : ℕ) → i < length ps → k < length pt → held m R ps pt i k ≡ false → lt eps (get_or F (i * length pt + k) nan) ≡ false

  -- at first: the rates, and nothing to take back
  pub mapped_first : (A B F : List Float) → a ≤ length A → b ≤ length B → a * b ≤ length F → ((i : ℕ) → i < a → get_or A i nan ≡ rate_at ps i) → ((k : ℕ) → k < b → get_or B k nan ≡ rate_at pt k)
      → ((j : ℕ) → j < a * b → get_or F j nan ≡ nought) → Mapped (caps (links_of m R ps pt)) A B F
  mapped_first A B F ra rb rf fa fb ff = record {
    size = caps_length (links_of m R ps pt);
    room_a = ra;
    room_b = rb;
    room_f = rf;
    source = λ i h. source_cap m R ps pt i h ∙ sym (fa i h);
    sink = λ k h. sink_cap m R ps pt k h ∙ sym (fb k h);
    cross = λ i k h g t. cross_cap m R ps pt i k h g t;
    back = λ i k h g t. cross_back_cap m R ps pt i k h g t ∙ sym (ff (i * b + k) (entry_low a b i k h g));
    idle = λ i k h g t. ap (lt eps) (ff (i * b + k) (entry_low a b i k h g)) ∙ none_above;
  }

  module _ {c A B F : List Float} (M : Mapped c A B F) (x : Float) (px : Plain x) where
    pub push_source : (i : ℕ) → i < a → Mapped (push_link x (source_link m R ps pt i) c) (set A i (sub binary64 (get_or A i nan) x)) B F
    push_source i h = record {
      size = push_link_length x (source_link m R ps pt i) c ∙ M.size;
      room_a = let r = M.room_a in let n = length-set A i (sub binary64 (get_or A i nan) x) in omega arith;
      room_b = M.room_b;
      room_f = M.room_f;
      source = λ j g. at j g (eq_or_ne j i);
      sink = λ k g. even_other x c i (sink_link m R ps pt k) (omega arith) (omega arith) ∙ M.sink k g;
      cross = λ j k g e t. even_other x c i (cross_link m R ps pt j k) (omega arith) (omega arith) ∙ M.cross j k g e t;
      back = λ j k g e t. even_other x c i (suc (cross_link m R ps pt j k)) (omega arith) (omega arith) ∙ M.back j k g e t;
      idle = M.idle;
    }
      where
        at : (j : ℕ) → j < a → (j ≡ i) ⊎ (j ≢ i) → left (push_link x (source_link m R ps pt i) c) (source_link m R ps pt j) ≡ get_or (set A i (sub binary64 (get_or A i nan) x)) j nan
        at j g (inl z) =
            let l = source_in m R ps pt i h in
            let r = M.room_a in
            let s = M.size in
            subst⁻¹ (λ (y : ℕ). left (push_link x (source_link m R ps pt i) c) (source_link m R ps pt y) ≡ get_or (set A i (sub binary64 (get_or A i nan) x)) y nan) z
            (even_same x c i (omega arith) ∙ ap (λ (y : Float). sub binary64 y x) (M.source i h) ∙ sym (get_or-set_same A i (sub binary64 (get_or A i nan) x) nan (omega arith)))
        at j g (inr d) = even_other x c i (source_link m R ps pt j) (omega arith) (omega arith) ∙ M.source j g ∙ sym (get_or-set_other A i j (sub binary64 (get_or A i nan) x) nan d)

    pub push_sink : (k : ℕ) → k < b → Mapped (push_link x (sink_link m R ps pt k) c) A (set B k (sub binary64 (get_or B k nan) x)) F
    push_sink k h = record {
      size = push_link_length x (sink_link m R ps pt k) c ∙ M.size;
      room_a = M.room_a;
      room_b = let r = M.room_b in let n = length-set B k (sub binary64 (get_or B k nan) x) in omega arith;
      room_f = M.room_f;
      source = λ i g. even_other x c (a + k) (source_link m R ps pt i) (omega arith) (omega arith) ∙ M.source i g;
      sink = λ j g. at j g (eq_or_ne j k);
      cross = λ i j g e t. even_other x c (a + k) (cross_link m R ps pt i j) (omega arith) (omega arith) ∙ M.cross i j g e t;
      back = λ i j g e t. even_other x c (a + k) (suc (cross_link m R ps pt i j)) (omega arith) (omega arith) ∙ M.back i j g e t;
      idle = M.idle;
    }
      where
        at : (j : ℕ) → j < b → (j ≡ k) ⊎ (j ≢ k) → left (push_link x (sink_link m R ps pt k) c) (sink_link m R ps pt j) ≡ get_or (set B k (sub binary64 (get_or B k nan) x)) j nan
        at j g (inl z) =
            let l = sink_in m R ps pt k h in
            let r = M.room_b in
            let s = M.size in
            subst⁻¹ (λ (y : ℕ). left (push_link x (sink_link m R ps pt k) c) (sink_link m R ps pt y) ≡ get_or (set B k (sub binary64 (get_or B k nan) x)) y nan) z
            (even_same x c (a + k) (omega arith) ∙ ap (λ (y : Float). sub binary64 y x) (M.sink k h) ∙ sym (get_or-set_same B k (sub binary64 (get_or B k nan) x) nan (omega arith)))
        at j g (inr d) = even_other x c (a + k) (sink_link m R ps pt j) (omega arith) (omega arith) ∙ M.sink j g ∙ sym (get_or-set_other B k j (sub binary64 (get_or B k nan) x) nan d)

    module _ (i k : ℕ) (hi : i < a) (hk : k < b) (t : held m R ps pt i k ≡ true) where
      abbrev place : ℕ
      place = a + (b + rank m R ps pt i k)

      apart : (j q : ℕ) → j < a → q < b → held m R ps pt j q ≡ true → ((j ≡ i) → (q ≡ k) → ⊥) → cross_link m R ps pt j q ≢ cross_link m R ps pt i k
      apart j q hj hq u d z = let (p, w) = cross_same m R ps pt j q i k hj hq u hi hk t (omega arith) in d p w

      room : i * b + k < length F
      room = let e = entry_low a b i k hi hk in let r = M.room_f in omega arith

      in_c : suc (cross_link m R ps pt i k) < length c
      in_c = let l = cross_in m R ps pt i k hi hk t in let s = M.size in omega arith

      elsewhere : (v : Float) (j q : ℕ) → q < b → ((j ≡ i) → (q ≡ k) → ⊥) → get_or (set F (i * b + k) v) (j * b + q) nan ≡ get_or F (j * b + q) nan
      elsewhere v j q hq d = get_or-set_other F (i * b + k) (j * b + q) v nan (λ z. let (p, w) = same_entry b j q i k hq hk z in d p w)

      -- a pair that is not held is another one
      other : (j q : ℕ) → held m R ps pt j q ≡ false → (j ≡ i) → (q ≡ k) → ⊥
      other j q u y z = true≢false (sym t ∙ ap (λ (w : ℕ). held m R ps pt w k) (sym y) ∙ ap (λ (w : ℕ). held m R ps pt j w) (sym z) ∙ u)

      pub push_cross : Mapped (push_link x (cross_link m R ps pt i k) c) A B (set F (i * b + k) (add binary64 (get_or F (i * b + k) nan) x))
      push_cross = record {
        size = push_link_length x (cross_link m R ps pt i k) c ∙ M.size;
        room_a = M.room_a;
        room_b = M.room_b;
        room_f = let r = M.room_f in let n = length-set F (i * b + k) (add binary64 (get_or F (i * b + k) nan) x) in omega arith;
        source = λ j g. even_other x c place (source_link m R ps pt j) (omega arith) (omega arith) ∙ M.source j g;
        sink = λ j g. even_other x c place (sink_link m R ps pt j) (omega arith) (omega arith) ∙ M.sink j g;
        cross = λ j q hj hq u. forth j q hj hq u (pair_cases j q i k);
        back = λ j q hj hq u. taken j q hj hq u (pair_cases j q i k);
        idle = λ j q hj hq u. ap (lt eps) (elsewhere _ j q hq (other j q u)) ∙ M.idle j q hj hq u;
      }
        where
          forth : (j q : ℕ) → j < a → q < b → held m R ps pt j q ≡ true → ((j ≡ i) × (q ≡ k)) ⊎ ((j ≡ i) → (q ≡ k) → ⊥) → left (push_link x (cross_link m R ps pt i k) c) (cross_link m R ps pt j q) ≡ inf false
          forth j q hj hq u (inl (y, z)) =
              ap (λ (w : ℕ). left (push_link x (cross_link m R ps pt i k) c) (cross_link m R ps pt w q)) y ∙ ap (λ (w : ℕ). left (push_link x (cross_link m R ps pt i k) c) (cross_link m R ps pt i w)) z
              ∙ (let n = in_c in even_same x c place (omega arith)) ∙ ap (λ (w : Float). sub binary64 w x) (M.cross i k hi hk t) ∙ inf_less x px
          forth j q hj hq u (inr d) = let n = apart j q hj hq u d in even_other x c place (cross_link m R ps pt j q) n (omega arith) ∙ M.cross j q hj hq u

          taken : (j q : ℕ) → j < a → q < b → held m R ps pt j q ≡ true → ((j ≡ i) × (q ≡ k)) ⊎ ((j ≡ i) → (q ≡ k) → ⊥)
              → left (push_link x (cross_link m R ps pt i k) c) (suc (cross_link m R ps pt j q)) ≡ get_or (set F (i * b + k) (add binary64 (get_or F (i * b + k) nan) x)) (j * b + q) nan
          taken j q hj hq u (inl (y, z)) =
              ap (λ (w : ℕ). left (push_link x (cross_link m R ps pt i k) c) (suc (cross_link m R ps pt w q))) y ∙ ap (λ (w : ℕ). left (push_link x (cross_link m R ps pt i k) c) (suc (cross_link m R ps pt i w))) z
              ∙ even_back x c place in_c ∙ ap (λ (w : Float). add binary64 w x) (M.back i k hi hk t)
              ∙ sym (get_or-set_same F (i * b + k) (add binary64 (get_or F (i * b + k) nan) x) nan room)
              ∙ sym (ap (λ (w : ℕ). get_or (set F (i * b + k) (add binary64 (get_or F (i * b + k) nan) x)) (w * b + q) nan) y ∙ ap (λ (w : ℕ). get_or (set F (i * b + k) (add binary64 (get_or F (i * b + k) nan) x)) (i * b + w) nan) z)
          taken j q hj hq u (inr d) =
              let n = apart j q hj hq u d in
              even_other x c place (suc (cross_link m R ps pt j q)) (omega arith) (omega arith) ∙ M.back j q hj hq u ∙ sym (elsewhere (add binary64 (get_or F (i * b + k) nan) x) j q hq d)

      pub push_back : Mapped (push_link x (suc (cross_link m R ps pt i k)) c) A B (set F (i * b + k) (sub binary64 (get_or F (i * b + k) nan) x))
      push_back = record {
        size = push_link_length x (suc (cross_link m R ps pt i k)) c ∙ M.size;
        room_a = M.room_a;
        room_b = M.room_b;
        room_f = let r = M.room_f in let n = length-set F (i * b + k) (sub binary64 (get_or F (i * b + k) nan) x) in omega arith;
        source = λ j g. odd_other x c place (source_link m R ps pt j) (omega arith) (omega arith) ∙ M.source j g;
        sink = λ j g. odd_other x c place (sink_link m R ps pt j) (omega arith) (omega arith) ∙ M.sink j g;
        cross = λ j q hj hq u. forth j q hj hq u (pair_cases j q i k);
        back = λ j q hj hq u. taken j q hj hq u (pair_cases j q i k);
        idle = λ j q hj hq u. ap (lt eps) (elsewhere _ j q hq (other j q u)) ∙ M.idle j q hj hq u;
      }
        where
          forth : (j q : ℕ) → j < a → q < b → held m R ps pt j q ≡ true → ((j ≡ i) × (q ≡ k)) ⊎ ((j ≡ i) → (q ≡ k) → ⊥) → left (push_link x (suc (cross_link m R ps pt i k)) c) (cross_link m R ps pt j q) ≡ inf false
          forth j q hj hq u (inl (y, z)) =
              ap (λ (w : ℕ). left (push_link x (suc (cross_link m R ps pt i k)) c) (cross_link m R ps pt w q)) y ∙ ap (λ (w : ℕ). left (push_link x (suc (cross_link m R ps pt i k)) c) (cross_link m R ps pt i w)) z
              ∙ odd_back x c place in_c ∙ ap (λ (w : Float). add binary64 w x) (M.cross i k hi hk t) ∙ inf_more x px
          forth j q hj hq u (inr d) = let n = apart j q hj hq u d in odd_other x c place (cross_link m R ps pt j q) n (omega arith) ∙ M.cross j q hj hq u

          taken : (j q : ℕ) → j < a → q < b → held m R ps pt j q ≡ true → ((j ≡ i) × (q ≡ k)) ⊎ ((j ≡ i) → (q ≡ k) → ⊥)
              → left (push_link x (suc (cross_link m R ps pt i k)) c) (suc (cross_link m R ps pt j q)) ≡ get_or (set F (i * b + k) (sub binary64 (get_or F (i * b + k) nan) x)) (j * b + q) nan
          taken j q hj hq u (inl (y, z)) =
              ap (λ (w : ℕ). left (push_link x (suc (cross_link m R ps pt i k)) c) (suc (cross_link m R ps pt w q))) y ∙ ap (λ (w : ℕ). left (push_link x (suc (cross_link m R ps pt i k)) c) (suc (cross_link m R ps pt i w))) z
              ∙ odd_same x c place in_c ∙ ap (λ (w : Float). sub binary64 w x) (M.back i k hi hk t)
              ∙ sym (get_or-set_same F (i * b + k) (sub binary64 (get_or F (i * b + k) nan) x) nan room)
              ∙ sym (ap (λ (w : ℕ). get_or (set F (i * b + k) (sub binary64 (get_or F (i * b + k) nan) x)) (w * b + q) nan) y ∙ ap (λ (w : ℕ). get_or (set F (i * b + k) (sub binary64 (get_or F (i * b + k) nan) x)) (i * b + w) nan) z)
          taken j q hj hq u (inr d) =
              let n = apart j q hj hq u d in
              odd_other x c place (suc (cross_link m R ps pt j q)) (omega arith) (omega arith) ∙ M.back j q hj hq u ∙ sym (elsewhere (sub binary64 (get_or F (i * b + k) nan) x) j q hq d)

  -- ---- labels

  -- the bound that labels say
  pub dist : (ℕ → ℕ) → (ℕ → ℕ) → ℕ → ℕ → ℕ
  dist l r s v = cond (ltb v a) (l v + l v) (cond (ltb v (a + b)) (r (v - a) + r (v - a) - 1) (cond (eqb v (a + b)) (suc (s + s)) 0))

  -- what labels have to keep so that they bound distances
  pub record Labels (A B F : List Float) (l r : ℕ → ℕ) (s : ℕ) : Type 0 where
    pub source : (i : ℕ) → i < length ps → lt eps (get_or A i nan) ≡ true → s ≤ l i
    pub sink : (k : ℕ) → k < length pt → lt eps (get_or B k nan) ≡ true → r k ≤ 1
    pub forth : (i k : ℕ) → i < length ps → k < length pt → held m R ps pt i k ≡ true → l i ≤ r k
    pub back : (i k : ℕ) → i < length ps → k < length pt → held m R ps pt i k ≡ true → lt eps (get_or F (i * length pt + k) nan) ≡ true → r k ≤ suc (l i)
    pub low : (i : ℕ) → i < length ps → l i ≤ suc s
    pub least : (i : ℕ) → i < length ps → 1 ≤ l i
    pub some : (k : ℕ) → k < length pt → 1 ≤ r k

  module _ (l r : ℕ → ℕ) (s : ℕ) where
    pub dist_left : (v i : ℕ) → v ≡ i → i < a → dist l r s v ≡ l i + l i
    unfolding dist
    dist_left v i z h = ap (dist l r s) z ∙ (rw (lt-ltb i a h))

    pub dist_right : (v k : ℕ) → v ≡ a + k → k < b → dist l r s v ≡ r k + r k - 1
    unfolding dist
    dist_right v k z h =
        let y : a + k - a ≡ k = omega arith in
        ap (dist l r s) z ∙ (rw (le-ltb (a + k) a (omega arith), lt-ltb (a + k) (a + b) (omega arith), y))

    pub dist_source : (v : ℕ) → v ≡ a + b → dist l r s v ≡ suc (s + s)
    unfolding dist
    dist_source v z = ap (dist l r s) z ∙ (rw (le-ltb (a + b) a (omega arith), le-ltb (a + b) (a + b) (omega arith), eq-eqb (a + b) (a + b) refl))

    pub dist_sink : (v : ℕ) → v ≡ suc (a + b) → dist l r s v ≡ 0
    unfolding dist
    dist_sink v z = ap (dist l r s) z ∙ (rw (le-ltb (suc (a + b)) a (omega arith), le-ltb (suc (a + b)) (a + b) (omega arith), ne_eqb (suc (a + b)) (a + b) (omega arith)))
