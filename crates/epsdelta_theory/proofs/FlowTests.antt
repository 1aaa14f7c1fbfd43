-- The network of a flow test is one that refusal 15 lets pass, so what is proved of every flow run holds of every flow test, and it leaves a cut.
-- Its links run between its nodes, those that leave the source have divided rates as capacities, and there are at most 31 + 31 + 31 * 31 of them.
use mathlib.Core.Path.{◌≡◌, refl, sym, subst, ap}
use Prim.Native.Nat.{ℕ, zero, suc, ◌≤◌, ◌<◌, ◌+◌, ◌*◌}
use mathlib.Core.Bool.{Bool, true, false}
use mathlib.Core.Logic.{◌≢◌, ◌⊎◌, inl, inr}
use mathlib.Core.List.{List, [], ◌∷◌, ◌++◌}
use native.Mathlib.Omega.{arith}
use native.Mathlib.Nat.{not-suc-le-zero}
use lib.Dec.{T}
use lib.ListN.{length, get_or, length-append}
use lib.Ieee.{Float, nan, inf, of_bits, le}
use Rattle.numbers.specs.Real.{nought}
use Rattle.numbers.proofs.Floats.{Low}
use Rattle.flow_theory.specs.Network.{rev, nodes, head, left, node_lists}
use Rattle.flow_theory.specs.Claim.{FlowClaim}
use Rattle.flow_theory.proofs.Accepted.{Accepted}
use Rattle.flow_theory.proofs.Theorem.{node_lists_length, flow_run}
use Rattle.epsdelta_theory.specs.Jumps.{Jump, Jumps, prob}
use Rattle.epsdelta_theory.specs.Relation.{holds}
use Rattle.epsdelta_theory.specs.FlowTest.{Link, source_links, sink_links, link_if, cross_links, all_cross_links, links_of, heads, caps, network_between, run_between, test_links, test_nodes, test_network, test_run}

-- from 0 to 2 ^ 40
abbrev pub InRange : Float → Type 0
InRange x = T (le nought x) × Low x

abbrev pub AllInRange : List Jump → Type 0
AllInRange [] = Unit {0}
AllInRange (j ∷ js) = InRange j.rate × AllInRange js

-- what refusal 15 lets a capacity be
abbrev Capacity : Float → Type 0
Capacity x = T (le nought x) × (Low x ⊎ (x ≡ inf false))

-- a link between two of n nodes, whose capacity is finite if it leaves the source
record LinkWithin (n src : ℕ) (l : Link) : Type 0 where
  from_in : l.from < n
  to_in : l.to < n
  finite : l.from ≡ src → Low l.cap
  capacity : Capacity l.cap

abbrev LinksWithin : ℕ → ℕ → List Link → Type 0
LinksWithin n src [] = Unit {0}
LinksWithin n src (l ∷ ls) = LinkWithin n src l × LinksWithin n src ls

inf_capacity : T (le nought (inf false))
unfolding le of_bits
inf_capacity = tt

module _ (n src : ℕ) where
  joined : (xs ys : List Link) → LinksWithin n src xs → LinksWithin n src ys → LinksWithin n src (xs ++ ys)
  joined [] ys a b = b
  joined (x ∷ xs) ys (x', a) b = (x', joined xs ys a b)

  source_within : (i : ℕ) (js : List Jump) → src < n → i + length js ≤ n → AllInRange js → LinksWithin n src (source_links src i js)
  unfolding source_links
  source_within i [] h l a = tt
  source_within i (j ∷ js) h l (p, a) = (record { from_in = h; to_in = omega arith; finite = λ _. p.1; capacity = (p.0, inl p.1) }, source_within (suc i) js h (omega arith) a)

  sink_within : (sink i : ℕ) (js : List Jump) → sink < n → src < n → i + length js ≤ src → AllInRange js → LinksWithin n src (sink_links sink i js)
  unfolding sink_links
  sink_within sink i [] h k l a = tt
  sink_within sink i (j ∷ js) h k l (p, a) = (record { from_in = omega arith; to_in = h; finite = λ e. absurd (omega arith); capacity = (p.0, inl p.1) }, sink_within sink (suc i) js h k (omega arith) a)

  if_within : (b : Bool) (i k : ℕ) (ls : List Link) → i < src → src < n → k < n → LinksWithin n src ls → LinksWithin n src (link_if b i k ls)
  unfolding link_if
  if_within true i k ls h g l a = (record { from_in = omega arith; to_in = l; finite = λ e. absurd (omega arith); capacity = (inf_capacity, inr refl) }, a)
  if_within false i k ls h g l a = a

  cross_within : (m : ℕ) (R : List Bool) (u i k : ℕ) (js : List Jump) → i < src → src < n → k + length js ≤ n → LinksWithin n src (cross_links m R u i k js)
  unfolding cross_links
  cross_within m R u i k [] h g l = tt
  cross_within m R u i k (j ∷ js) h g l =
      if_within (holds m R u j.target) i k (cross_links m R u i (suc k) js) h g (omega arith) (cross_within m R u i (suc k) js h g (omega arith))

  all_cross_within : (m : ℕ) (R : List Bool) (i k : ℕ) (js ts : List Jump) → i + length js ≤ src → src < n → k + length ts ≤ n → LinksWithin n src (all_cross_links m R i k js ts)
  unfolding all_cross_links
  all_cross_within m R i k [] ts h g l = tt
  all_cross_within m R i k (j ∷ js) ts h g l =
      joined (cross_links m R j.target i k ts) (all_cross_links m R (suc i) k js ts)
      (cross_within m R j.target i k ts (omega arith) g l) (all_cross_within m R (suc i) k js ts (omega arith) g l)

links_within : (m : ℕ) (R : List Bool) (ps pt : List Jump) → AllInRange ps → AllInRange pt → LinksWithin (length ps + length pt + 2) (length ps + length pt) (links_of m R ps pt)
unfolding links_of
links_within m R ps pt h h' =
    let a = length ps in
    let b = length pt in
    let n = a + b + 2 in
    let src = a + b in
    joined n src (source_links src 0 ps) (sink_links (suc src) a pt ++ all_cross_links m R 0 a ps pt)
    (source_within n src 0 ps (omega arith) (omega arith) h)
    (joined n src (sink_links (suc src) a pt) (all_cross_links m R 0 a ps pt)
    (sink_within n src (suc src) a pt (omega arith) (omega arith) (omega arith) h')
    (all_cross_within n src m R 0 a ps pt (omega arith) (omega arith) (omega arith)))

-- ---- links as heads and capacities

pub heads_length : (ls : List Link) → length (heads ls) ≡ length ls + length ls
unfolding heads
heads_length [] = refl
heads_length (l ∷ ls) = let h = heads_length ls in omega arith

pub caps_length : (ls : List Link) → length (caps ls) ≡ length (heads ls)
unfolding caps heads
caps_length [] = refl
caps_length (l ∷ ls) = ap (λ (x : ℕ). suc (suc x)) (caps_length ls)

heads_in : (n src : ℕ) (ls : List Link) → LinksWithin n src ls → (e : ℕ) → e < length (heads ls) → get_or (heads ls) e 0 < n
unfolding heads
heads_in n src [] a e h = absurd (not-suc-le-zero h)
heads_in n src (l ∷ ls) (s, a) zero h = s.to_in
heads_in n src (l ∷ ls) (s, a) (suc zero) h = s.from_in
heads_in n src (l ∷ ls) (s, a) (suc (suc e)) h = heads_in n src ls a e (omega arith)

rev_up : (e : ℕ) → rev (suc (suc e)) ≡ suc (suc (rev e))
unfolding rev
rev_up e = omega arith

nought_low : Low nought
unfolding le of_bits
nought_low = tt

caps_low : (n src : ℕ) (ls : List Link) → LinksWithin n src ls → (e : ℕ) → e < length (heads ls) → get_or (heads ls) (rev e) 0 ≡ src → Low (get_or (caps ls) e nan)
unfolding heads caps rev
caps_low n src [] a e h p = absurd (not-suc-le-zero h)
caps_low n src (l ∷ ls) (s, a) zero h p = s.finite p
caps_low n src (l ∷ ls) (s, a) (suc zero) h p = nought_low
caps_low n src (l ∷ ls) (s, a) (suc (suc e)) h p =
    caps_low n src ls a e (omega arith) (subst (λ (x : ℕ). get_or (l.to ∷ l.from ∷ heads ls) x 0 ≡ src) (rev_up e) p)

caps_capacity : (n src : ℕ) (ls : List Link) → LinksWithin n src ls → (e : ℕ) → e < length (heads ls) → Capacity (get_or (caps ls) e nan)
unfolding heads caps
caps_capacity n src [] a e h = absurd (not-suc-le-zero h)
caps_capacity n src (l ∷ ls) (s, a) zero h = s.capacity
caps_capacity n src (l ∷ ls) (s, a) (suc zero) h = (unfold le of_bits in tt, inl nought_low)
caps_capacity n src (l ∷ ls) (s, a) (suc (suc e)) h = caps_capacity n src ls a e (omega arith)

-- ---- how many links

source_length : (src i : ℕ) (js : List Jump) → length (source_links src i js) ≡ length js
unfolding source_links
source_length src i [] = refl
source_length src i (j ∷ js) = ap suc (source_length src (suc i) js)

sink_length : (sink i : ℕ) (js : List Jump) → length (sink_links sink i js) ≡ length js
unfolding sink_links
sink_length sink i [] = refl
sink_length sink i (j ∷ js) = ap suc (sink_length sink (suc i) js)

if_length : (b : Bool) (i k : ℕ) (ls : List Link) → length (link_if b i k ls) ≤ suc (length ls)
unfolding link_if
if_length true i k ls = omega arith
if_length false i k ls = omega arith

cross_length : (m : ℕ) (R : List Bool) (u i k : ℕ) (js : List Jump) → length (cross_links m R u i k js) ≤ length js
unfolding cross_links
cross_length m R u i k [] = omega arith
cross_length m R u i k (j ∷ js) =
    let r = cross_length m R u i (suc k) js in
    let a = if_length (holds m R u j.target) i k (cross_links m R u i (suc k) js) in omega arith

all_cross_length : (m : ℕ) (R : List Bool) (i k : ℕ) (js ts : List Jump) → length ts ≤ 31 → length (all_cross_links m R i k js ts) ≤ 31 * length js
unfolding all_cross_links
all_cross_length m R i k [] ts h = omega arith
all_cross_length m R i k (j ∷ js) ts h =
    let r = all_cross_length m R (suc i) k js ts h in
    let a = cross_length m R j.target i k ts in
    rw (length-append (cross_links m R j.target i k ts) (all_cross_links m R (suc i) k js ts)) (omega arith)

links_length : (m : ℕ) (R : List Bool) (ps pt : List Jump) → length ps ≤ 31 → length pt ≤ 31 → length (links_of m R ps pt) ≤ 1088
unfolding links_of
links_length m R ps pt h k =
    let a = length ps in
    let b = length pt in
    let s = all_cross_length m R 0 a ps pt k in
    rw (
      length-append (source_links (a + b) 0 ps) (sink_links (suc (a + b)) a pt ++ all_cross_links m R 0 a ps pt),
      length-append (sink_links (suc (a + b)) a pt) (all_cross_links m R 0 a ps pt),
      source_length (a + b) 0 ps,
      sink_length (suc (a + b)) a pt,
    ) (omega arith)

-- ---- the network

pub test_nodes_lem : (J : Jumps) (R : List Bool) (s t : ℕ) → nodes (test_network J R s t) ≡ test_nodes J s t
unfolding test_network test_links test_nodes
test_nodes_lem J R s t = let hs = heads (test_links J R s t) in node_lists_length hs (test_nodes J s t) (length hs)

not_inf : (x : Float) → Low x → x ≢ inf false
unfolding le
not_inf x l e = subst Low e l

-- refusal 15 never meets the network of two rows of at most 31 jumps
module _ (m : ℕ) (R : List Bool) (ps pt : List Jump) (in-range : AllInRange ps) (in-range' : AllInRange pt) (few : length ps ≤ 31) (few' : length pt ≤ 31) where
  abbrev ls : List Link
  ls = links_of m R ps pt

  abbrev src : ℕ
  src = length ps + length pt

  within_test : LinksWithin (src + 2) src ls
  within_test = links_within m R ps pt in-range in-range'

  nodes_are : nodes (network_between m R ps pt) ≡ src + 2
  nodes_are = node_lists_length (heads ls) (src + 2) (length (heads ls))

  pub between_accepted : Accepted (network_between m R ps pt) (caps (links_of m R ps pt)) (length (links_of m R ps pt))
  unfolding head left of_bits
  between_accepted =
      let v = nodes_are in
      let hs = heads ls in
      record {
        few = omega arith;
        small = links_length m R ps pt few few';
        pairs = heads_length ls;
        size = caps_length ls;
        heads_in = λ e h. rw nodes_are (heads_in (src + 2) src ls within_test e h);
        source_in = omega arith;
        sink_in = omega arith;
        ends = omega arith;
        range = λ e h. caps_capacity (src + 2) src ls within_test e h;
        finite = λ e h p. not_inf (get_or (caps ls) e nan) (caps_low (src + 2) src ls within_test e h p);
        lists = ap (λ (x : ℕ). node_lists hs x (length hs)) (sym nodes_are);
      }

  pub between_claimed : FlowClaim (network_between m R ps pt) (caps (links_of m R ps pt)) (length (links_of m R ps pt)) (run_between m R ps pt)
  between_claimed = flow_run (network_between m R ps pt) (caps (links_of m R ps pt)) (length (links_of m R ps pt)) between_accepted

module _ (J : Jumps) (R : List Bool) (s t : ℕ) (in-range : AllInRange (prob J s)) (in-range' : AllInRange (prob J t)) (few : length (prob J s) ≤ 31) (few' : length (prob J t) ≤ 31) where
  pub test_accepted : Accepted (test_network J R s t) (caps (test_links J R s t)) (length (test_links J R s t))
  unfolding test_network test_links
  test_accepted = between_accepted (length J) R (prob J s) (prob J t) in-range in-range' few few'

  pub test_claimed : FlowClaim (test_network J R s t) (caps (test_links J R s t)) (length (test_links J R s t)) (test_run J R s t)
  unfolding test_run test_network test_links
  test_claimed = between_claimed (length J) R (prob J s) (prob J t) in-range in-range' few few'
