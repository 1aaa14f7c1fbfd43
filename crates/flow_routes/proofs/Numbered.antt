-- The network of a flow test by the numbers of its links: where each link leads, what it may carry, and which links leave a node.
use mathlib.Core.Path.{◌≡◌, sym, ap, subst, ◌∙◌}
use Prim.Native.Nat.{ℕ, suc, ◌≤◌, ◌<◌, ◌+◌, ◌-◌, ◌/◌, ◌%◌}
use mathlib.Core.Bool.{Bool, true, false}
use mathlib.Core.Logic.{◌≢◌, ◌⊎◌, inl, inr}
use mathlib.Core.List.{List, ◌++◌}
use native.Mathlib.Omega.{arith}
use lib.ListN.{length, get_or, length-append, get_or-append}
use lib.Seq.{get_or-append-add}
use lib.Ieee.{inf}
use Rattle.numbers.specs.Real.{nought}
use Rattle.numbers.proofs.Bools.{lt_or_ge, eq_or_ne}
use Rattle.flow_theory.specs.Network.{rev, Net, links, head, tail, left}
use Rattle.epsdelta_theory.specs.Jumps.{Jump}
use Rattle.epsdelta_theory.specs.Relation.{holds}
use Rattle.epsdelta_theory.specs.FlowTest.{Link, source_links, sink_links, all_cross_links, links_of, heads, caps, network_between}
use Rattle.epsdelta_theory.proofs.FlowTests.{heads_length}
use Rattle.flow_routes.proofs.Crossing.{no_link, target_at, rate_at, head_at, back_at, cap_at_lem, cap_back, source_at_lem, source_count, sink_at, sink_count, rank, all_at, all_inv, rank_right, rank_down}

pub rev_even : (q : ℕ) → rev (q + q) ≡ suc (q + q)
unfolding rev
rev_even q = omega arith

pub rev_odd : (q : ℕ) → rev (suc (q + q)) ≡ q + q
unfolding rev
rev_odd q = omega arith

module _ (m : ℕ) (R : List Bool) (ps pt : List Jump) where
  abbrev pub held : ℕ → ℕ → Bool
  held i k = holds m R (target_at ps i) (target_at pt k)

  -- where the link between i and k stands among the added ones
  abbrev cross_place : ℕ → ℕ → ℕ
  cross_place i k = length ps + (length pt + rank m R ps pt i k)

  -- the number of the link from the source to i, of the one from k to the sink, and of the one from i to k; each has its reverse after it
  abbrev pub source_link : ℕ → ℕ
  source_link i = i + i

  abbrev pub sink_link : ℕ → ℕ
  sink_link k = length ps + k + (length ps + k)

  abbrev pub cross_link : ℕ → ℕ → ℕ
  cross_link i k = cross_place i k + cross_place i k

  abbrev net : Net
  net = network_between m R ps pt

  abbrev ls : List Link
  ls = links_of m R ps pt

  -- ---- where they stand

  source_link_lem : (i : ℕ) → i < length ps → get_or ls i no_link ≡ record { from = length ps + length pt; to = i; cap = rate_at ps i }
  unfolding links_of
  source_link_lem i h =
      let src = length ps + length pt in
      let xs = source_links src 0 ps in
      let n = source_count src 0 ps in
      let z : 0 + i ≡ i = omega arith in
      get_or-append xs (sink_links (suc src) (length ps) pt ++ all_cross_links m R 0 (length ps) ps pt) no_link i (omega arith) ∙ source_at_lem src 0 ps i h
      ∙ ap (λ (x : ℕ). record { from = length ps + length pt; to = x; cap = rate_at ps i }) z

  after_source : (q : ℕ) → get_or ls (length ps + q) no_link ≡ get_or (sink_links (suc (length ps + length pt)) (length ps) pt ++ all_cross_links m R 0 (length ps) ps pt) q no_link
  unfolding links_of
  after_source q =
      let src = length ps + length pt in
      let xs = source_links src 0 ps in
      let ys = sink_links (suc src) (length ps) pt ++ all_cross_links m R 0 (length ps) ps pt in
      ap (λ (x : ℕ). get_or (xs ++ ys) (x + q) no_link) (sym (source_count src 0 ps)) ∙ get_or-append-add xs ys q no_link

  sink_link_lem : (k : ℕ) → k < length pt → get_or ls (length ps + k) no_link ≡ record { from = length ps + k; to = suc (length ps + length pt); cap = rate_at pt k }
  sink_link_lem k h =
      let src = length ps + length pt in
      let xs = sink_links (suc src) (length ps) pt in
      let n = sink_count (suc src) (length ps) pt in
      after_source k ∙ get_or-append xs (all_cross_links m R 0 (length ps) ps pt) no_link k (omega arith) ∙ sink_at (suc src) (length ps) pt k h

  after_sink : (q : ℕ) → get_or ls (length ps + (length pt + q)) no_link ≡ get_or (all_cross_links m R 0 (length ps) ps pt) q no_link
  after_sink q =
      let src = length ps + length pt in
      let xs = sink_links (suc src) (length ps) pt in
      let ys = all_cross_links m R 0 (length ps) ps pt in
      after_source (length pt + q) ∙ ap (λ (x : ℕ). get_or (xs ++ ys) (x + q) no_link) (sym (sink_count (suc src) (length ps) pt)) ∙ get_or-append-add xs ys q no_link

  cross_link_lem : (i k : ℕ) → i < length ps → k < length pt → held i k ≡ true → get_or ls (cross_place i k) no_link ≡ record { from = i; to = length ps + k; cap = inf false }
  cross_link_lem i k h g t =
      let z : 0 + i ≡ i = omega arith in
      after_sink (rank m R ps pt i k) ∙ (all_at m R pt 0 (length ps) ps i k h g t).1 ∙ ap (λ (x : ℕ). record { from = x; to = length ps + k; cap = inf false }) z

  -- ---- how many there are

  count : length ls ≡ length ps + (length pt + length (all_cross_links m R 0 (length ps) ps pt))
  unfolding links_of
  count =
      let src = length ps + length pt in
      let a = length-append (source_links src 0 ps) (sink_links (suc src) (length ps) pt ++ all_cross_links m R 0 (length ps) ps pt) in
      let b = length-append (sink_links (suc src) (length ps) pt) (all_cross_links m R 0 (length ps) ps pt) in
      let c = source_count src 0 ps in
      let d = sink_count (suc src) (length ps) pt in
      omega arith

  cross_low : (i k : ℕ) → i < length ps → k < length pt → held i k ≡ true → cross_place i k < length ls
  cross_low i k h g t = let l = (all_at m R pt 0 (length ps) ps i k h g t).0 in let c = count in omega arith

  -- ---- heads, tails and first capacities, of a link that stands at place q

  module _ (q : ℕ) (l : Link) (e : get_or ls q no_link ≡ l) where
    pub even_head : head net (q + q) ≡ l.to
    unfolding head
    even_head = head_at ls q ∙ ap (λ (x : Link). x.to) e

    pub even_tail : tail net (q + q) ≡ l.from
    unfolding head
    even_tail = ap (λ (x : ℕ). get_or (heads ls) x 0) (rev_even q) ∙ back_at ls q ∙ ap (λ (x : Link). x.from) e

    pub odd_head : head net (suc (q + q)) ≡ l.from
    unfolding head
    odd_head = back_at ls q ∙ ap (λ (x : Link). x.from) e

    pub odd_tail : tail net (suc (q + q)) ≡ l.to
    unfolding head
    odd_tail = ap (λ (x : ℕ). get_or (heads ls) x 0) (rev_odd q) ∙ head_at ls q ∙ ap (λ (x : Link). x.to) e

    even_cap : left (caps ls) (q + q) ≡ l.cap
    unfolding left
    even_cap = cap_at_lem ls q ∙ ap (λ (x : Link). x.cap) e

  odd_cap : (q : ℕ) → q < length ls → left (caps ls) (suc (q + q)) ≡ nought
  unfolding left
  odd_cap q h = cap_back ls q h

  module _ (i : ℕ) (h : i < length ps) where
    abbrev source_is : Link
    source_is = record { from = length ps + length pt; to = i; cap = rate_at ps i }

    pub source_head : head net (source_link i) ≡ i
    source_head = even_head i source_is (source_link_lem i h)

    pub source_tail : tail net (source_link i) ≡ length ps + length pt
    source_tail = even_tail i source_is (source_link_lem i h)

    pub source_back_head : head net (suc (source_link i)) ≡ length ps + length pt
    source_back_head = odd_head i source_is (source_link_lem i h)

    pub source_back_tail : tail net (suc (source_link i)) ≡ i
    source_back_tail = odd_tail i source_is (source_link_lem i h)

    pub source_cap : left (caps ls) (source_link i) ≡ rate_at ps i
    source_cap = even_cap i source_is (source_link_lem i h)

    pub source_in : source_link i < links net
    source_in = let l = heads_length ls in let c = count in omega arith

  module _ (k : ℕ) (h : k < length pt) where
    abbrev sink_is : Link
    sink_is = record { from = length ps + k; to = suc (length ps + length pt); cap = rate_at pt k }

    pub sink_head : head net (sink_link k) ≡ suc (length ps + length pt)
    sink_head = even_head (length ps + k) sink_is (sink_link_lem k h)

    pub sink_tail : tail net (sink_link k) ≡ length ps + k
    sink_tail = even_tail (length ps + k) sink_is (sink_link_lem k h)

    pub sink_back_tail : tail net (suc (sink_link k)) ≡ suc (length ps + length pt)
    sink_back_tail = odd_tail (length ps + k) sink_is (sink_link_lem k h)

    pub sink_cap : left (caps ls) (sink_link k) ≡ rate_at pt k
    sink_cap = even_cap (length ps + k) sink_is (sink_link_lem k h)

    pub sink_in : sink_link k < links net
    sink_in = let l = heads_length ls in let c = count in omega arith

  module _ (i k : ℕ) (h : i < length ps) (g : k < length pt) (t : held i k ≡ true) where
    abbrev cross_is : Link
    cross_is = record { from = i; to = length ps + k; cap = inf false }

    pub cross_head : head net (cross_link i k) ≡ length ps + k
    cross_head = even_head (cross_place i k) cross_is (cross_link_lem i k h g t)

    pub cross_tail : tail net (cross_link i k) ≡ i
    cross_tail = even_tail (cross_place i k) cross_is (cross_link_lem i k h g t)

    pub cross_back_head : head net (suc (cross_link i k)) ≡ i
    cross_back_head = odd_head (cross_place i k) cross_is (cross_link_lem i k h g t)

    pub cross_back_tail : tail net (suc (cross_link i k)) ≡ length ps + k
    cross_back_tail = odd_tail (cross_place i k) cross_is (cross_link_lem i k h g t)

    pub cross_cap : left (caps ls) (cross_link i k) ≡ inf false
    cross_cap = even_cap (cross_place i k) cross_is (cross_link_lem i k h g t)

    pub cross_back_cap : left (caps ls) (suc (cross_link i k)) ≡ nought
    cross_back_cap = odd_cap (cross_place i k) (cross_low i k h g t)

    pub cross_in : suc (cross_link i k) < links net
    cross_in = let l = heads_length ls in let c = cross_low i k h g t in omega arith

  -- ---- their order

  pub cross_right : (i k k' : ℕ) → i < length ps → k < k' → k < length pt → held i k ≡ true → cross_link i k < cross_link i k'
  cross_right i k k' h l g t = let r = rank_right m R pt ps i k k' h l g t in omega arith

  pub cross_down : (i i' k k' : ℕ) → i < i' → i' < length ps → k < length pt → held i k ≡ true → cross_link i k < cross_link i' k'
  cross_down i i' k k' l h g t = let r = rank_down m R pt ps i i' k k' l h g t in omega arith

  -- two pairs that are held have two links
  pub cross_same : (i k i' k' : ℕ) → i < length ps → k < length pt → held i k ≡ true → i' < length ps → k' < length pt → held i' k' ≡ true → cross_place i k ≡ cross_place i' k' → (i ≡ i') × (k ≡ k')
  cross_same i k i' k' h g t h' g' t' e = pick (eq_or_ne i i') (eq_or_ne k k')
    where
      pick : (i ≡ i') ⊎ (i ≢ i') → (k ≡ k') ⊎ (k ≢ k') → (i ≡ i') × (k ≡ k')
      pick (inl p) (inl q) = (p, q)
      pick (inl p) (inr d) = absurd (turn (lt_or_ge k k'))
        where
          same : rank m R ps pt i k' ≡ rank m R ps pt i' k'
          same = ap (λ (x : ℕ). rank m R ps pt x k') p

          turn : (k < k') ⊎ (k' ≤ k) → ⊥
          turn (inl l) = let r = rank_right m R pt ps i k k' h l g t in let s = same in omega arith
          turn (inr l) = let r = rank_right m R pt ps i' k' k h' (omega arith) g' t' in let s = ap (λ (x : ℕ). rank m R ps pt x k) p in omega arith
      pick (inr d) q = absurd (turn (lt_or_ge i i'))
        where
          turn : (i < i') ⊎ (i' ≤ i) → ⊥
          turn (inl l) = let r = rank_down m R pt ps i i' k k' l h' g t in omega arith
          turn (inr l) = let r = rank_down m R pt ps i' i k' k (omega arith) h g' t' in omega arith

  -- ---- every link is one of them, or the reverse of one

  -- a link or its reverse
  abbrev Either : ℕ → ℕ → Type 0
  Either e f = (e ≡ f) ⊎ (e ≡ suc f)

  abbrev pub Kind : ℕ → Type 0
  Kind e = ((i : ℕ) × (i < length ps) × Either e (source_link i))
      ⊎ (((k : ℕ) × (k < length pt) × Either e (sink_link k)) ⊎ ((i : ℕ) × (k : ℕ) × (i < length ps) × (k < length pt) × (held i k ≡ true) × Either e (cross_link i k)))

  half : (e : ℕ) → Either e (e / 2 + e / 2)
  half e = pick (eq_or_ne (e % 2) 0)
    where
      pick : (e % 2 ≡ 0) ⊎ (e % 2 ≢ 0) → Either e (e / 2 + e / 2)
      pick (inl z) = inl (omega arith)
      pick (inr d) = inr (omega arith)

  at_place : (e q : ℕ) → e / 2 ≡ q → Either e (q + q)
  at_place e q z = subst (λ (x : ℕ). Either e (x + x)) z (half e)

  pub kind : (e : ℕ) → e < links net → Kind e
  kind e h = pick (lt_or_ge (e / 2) (length ps)) (lt_or_ge (e / 2) (length ps + length pt))
    where
      pick : (e / 2 < length ps) ⊎ (length ps ≤ e / 2) → (e / 2 < length ps + length pt) ⊎ (length ps + length pt ≤ e / 2) → Kind e
      pick (inl l) z = inl (e / 2, l, half e)
      pick (inr l) (inl g) = inr (inl (e / 2 - length ps, omega arith, at_place e (length ps + (e / 2 - length ps)) (omega arith)))
      pick (inr l) (inr g) =
          let n = heads_length ls in
          let c = count in
          let (i, k, hi, hk, t, w) = all_inv m R pt 0 (length ps) ps (e / 2 - (length ps + length pt)) (omega arith) in
          inr (inr (i, k, hi, hk, t, at_place e (cross_place i k) (omega arith)))
