-- One more link and its reverse: what stands at each place of the rows of heads, capacities and costs, and that the links, the new ones too, can be listed.
use mathlib.Core.Path.{◌≡◌, sym, ap, ◌∙◌}
use mathlib.Core.Logic.{◌≢◌, ◌⊎◌, inl, inr}
use mathlib.Core.Bool.{Bool, true}
use Prim.Native.Nat.{ℕ, ◌+◌, ◌≤◌, ◌<◌}
use mathlib.Core.List.{List, ◌++◌, map}
use native.Mathlib.Omega.{arith}
use borrow.Author.Tests.{ltb-true}
use lib.Dec.{ltb}
use lib.ListN.{length, get_or, set, take, drop, replicate, length-map, length-set}
use lib.Seq.{get_or-take, get_or-set_same, get_or-set_other, length-take-le, take_at}
use lib.Ieee.{Float, neg}
use Rattle.numbers.specs.Real.{nought}
use Rattle.numbers.proofs.Bools.{and_t, eq_or_ne, lt_or_ge}
use Rattle.numbers.proofs.Parts.{take_replicate_length}
use Rattle.flow_theory.proofs.ListRows.{Indexable}
use Rattle.flow_theory.proofs.Lists.{at_map}
use Rattle.flow_check.specs.Refusal.{cap_fits, cost_fits, edge_fits, network_fits}
use Rattle.flow_check.proofs.Accepting.{Parts, fitting}
use Rattle.flow_check.proofs.Relists.{Relisted, laid_over}
use Rattle.flow.specs.declared.network.Link.{Link}
use Rattle.flow.specs.declared.network.FlowNetwork.{FlowNetwork}
use Rattle.numbers.specs.Lists.{over}
use Rattle.flow.proofs.Packing.{past_end, front_of, front_rows}
use Rattle.flow.specs.Network.{heads_of, caps_of, costs_of, with_link, fits_on, grown}

-- the part of a fresh array that holds the first k links
pub room_length : {A : Type 0} (k : ℕ) (x : A) → k ≤ 2176 → length (take k (replicate 2176 x)) ≡ k
room_length k x h = take_replicate_length k 2176 x h

-- the rows with a network's links in front, as the check reads them
pub fits_rows : (N : FlowNetwork) → N.count ≤ length N.links → (H h : List ℕ) (c d p q : List Float)
    → (H ≡ over (heads_of N.count N.links) h) × (c ≡ over (caps_of N.count N.links) d) × (p ≡ over (costs_of N.count N.links) q)
    → network_fits (take N.count H) (take N.count c) (take N.count p) N.starts N.list N.nodes ≡ fits_on N
fits_rows N few H h c d p q U =
    let n = N.count in
    let ls = N.links in
    ap (λ (x : List ℕ). network_fits x (take n c) (take n p) N.starts N.list N.nodes) (ap (take n) U.0 ∙ front_of (λ (l : Link). l.head) ls h n few)
    ∙ ap (λ (x : List Float). network_fits (heads_of n ls) x (take n p) N.starts N.list N.nodes) (ap (take n) U.1 ∙ front_of (λ (l : Link). l.cap) ls d n few)
    ∙ ap (λ (x : List Float). network_fits (heads_of n ls) (caps_of n ls) x N.starts N.list N.nodes) (ap (take n) U.2 ∙ front_of (λ (l : Link). l.cost) ls q n few)

-- a fresh row of heads
abbrev blank : List ℕ
blank = replicate 2176 0

-- the row of heads that was made in the front of a fresh array, as it is read there
module _ (ls : List Link) (k : ℕ) (there : k ≤ length ls) (h : List ℕ) (made : h ≡ heads_of (length (take k ls)) (take k ls)) where
  made_is : h ≡ heads_of k ls
  made_is = made ∙ front_rows (λ (l : Link). l.head) ls k there

  made_length : length h ≡ k
  made_length = ap length made_is ∙ length-take-le k (map (λ (x : Link). x.head) ls) (let q = length-map ls (λ (x : Link). x.head) in omega arith)

  pub front_is : take k (h ++ drop k blank) ≡ heads_of k ls
  front_is = take_at h (drop k blank) k made_length ∙ made_is

-- the node lists of that row are made over those of the network
pub grows : (N : FlowNetwork) (ls : List Link) → N.nodes ≤ 66 → Indexable (heads_of (N.count + 2) ls) N.nodes → N.nodes < length N.starts → length (heads_of (N.count + 2) ls) ≤ length N.list
    → (H : List ℕ) → H ≡ heads_of (N.count + 2) ls → (b : Bool) (s l : List ℕ) → Relisted H N.nodes N.starts N.list b s l
    → record { links = ls; count = N.count + 2; nodes = N.nodes; starts = s; list = l } ≡ grown N ls
grows N ls few K places room H q b s l R =
    let (x, y) = laid_over K few N.starts N.list places room b s l (rw q at R) in rw (x, y)

-- what is asked of a link that is added
pub record EdgeFit (n from to : ℕ) (cap cost : Float) : Type 0 where
  pub from_in : from < n
  pub to_in : to < n
  pub cap_fits : cap_fits cap ≡ true
  pub cost_fits : cost_fits cost ≡ true

pub edge_fit : (n from to : ℕ) (cap cost : Float) → edge_fits n from to cap cost ≡ true → EdgeFit n from to cap cost
edge_fit n from to cap cost f =
    let (a, r) = and_t (ltb from n) _ f in
    let (b, q) = and_t (ltb to n) _ r in
    let (x, y) = and_t (cap_fits cap) _ q in
    record { from_in = ltb-true _ _ a; to_in = ltb-true _ _ b; cap_fits = x; cost_fits = y }

pub net_fit : (N : FlowNetwork) → fits_on N ≡ true → Parts (heads_of N.count N.links) (caps_of N.count N.links) (costs_of N.count N.links) N.starts N.list N.nodes
net_fit N f = fitting _ _ _ _ _ _ f

-- an entry of a row of the first k links
pub row_at : {A : Type 0} (f : Link → A) (k : ℕ) (ls : List Link) (e : ℕ) → e < k → get_or (take k (map f ls)) e (f past_end) ≡ f (get_or ls e past_end)
row_at f k ls e h = get_or-take k (map f ls) e (f past_end) h ∙ at_map f past_end ls e

module _ (ls : List Link) (n from to : ℕ) (cap cost : Float) (room : n + 2 ≤ length ls) where
  abbrev more : List Link
  more = with_link ls n from to cap cost

  -- the new link and its reverse
  abbrev forth : Link
  forth = record { head = to; cap = cap; cost = cost }

  abbrev back : Link
  back = record { head = from; cap = nought; cost = neg cost }

  forth_at : get_or more n past_end ≡ forth
  forth_at = get_or-set_other (set ls n forth) (n + 1) n back past_end (λ q. omega arith) ∙ get_or-set_same ls n forth past_end (omega arith)

  back_at : get_or more (n + 1) past_end ≡ back
  back_at = get_or-set_same (set ls n forth) (n + 1) back past_end (let l = length-set ls n forth in omega arith)

  before_at : (e : ℕ) → e < n → get_or more e past_end ≡ get_or ls e past_end
  before_at e h = get_or-set_other (set ls n forth) (n + 1) e back past_end (λ q. omega arith) ∙ get_or-set_other ls n e forth past_end (λ q. omega arith)

  module _ {A : Type 0} (f : Link → A) where
    -- the row with the new pair: as before, then both
    pub row_before : (e : ℕ) → e < n → get_or (take (n + 2) (map f more)) e (f past_end) ≡ get_or (take n (map f ls)) e (f past_end)
    row_before e h = row_at f (n + 2) more e (omega arith) ∙ ap f (before_at e h) ∙ sym (row_at f n ls e h)

    pub row_forth : get_or (take (n + 2) (map f more)) n (f past_end) ≡ f forth
    row_forth = row_at f (n + 2) more n (omega arith) ∙ ap f forth_at

    pub row_back : get_or (take (n + 2) (map f more)) (n + 1) (f past_end) ≡ f back
    row_back = row_at f (n + 2) more (n + 1) (omega arith) ∙ ap f back_at

    pub row_size : length (take (n + 2) (map f more)) ≡ n + 2
    row_size = length-take-le (n + 2) (map f more) (let a = length-map more f in let b = length-set (set ls n forth) (n + 1) back in let d = length-set ls n forth in omega arith)

  -- the links can be listed
  pub listed : (m : ℕ) → n ≤ 2174 → Indexable (heads_of n ls) m → from < m → to < m → Indexable (heads_of (n + 2) more) m
  listed m few K a b =
      let l = row_size (λ (x : Link). x.head) in
      let k = front in
      let p = K.pairs in
      record { added = K.added + 1; pairs = omega arith; small = omega arith; heads_in = λ e h. pick e (lt_or_ge e n) (eq_or_ne e n) (omega arith) }
    where
      front : length (heads_of n ls) ≡ n
      front = length-take-le n (map (λ (x : Link). x.head) ls) (let q = length-map ls (λ (x : Link). x.head) in omega arith)

      pick : (e : ℕ) → (e < n) ⊎ (n ≤ e) → (e ≡ n) ⊎ (e ≢ n) → e < n + 2 → get_or (heads_of (n + 2) more) e 0 < m
      pick e (inl u) d h = rw (row_before (λ (x : Link). x.head) e u) (K.heads_in e (let k = front in omega arith))
      pick e (inr v) (inl q) h = rw (q, row_forth (λ (x : Link). x.head)) b
      pick e (inr v) (inr d) h = let q : e ≡ n + 1 = omega arith in rw (q, row_back (λ (x : Link). x.head)) a
