-- The run over rows that were filled from a network's links is the network's run.
use mathlib.Core.Path.{◌≡◌, sym, ap, ◌∙◌}
use Prim.Native.Nat.{ℕ, ◌+◌, ◌≤◌, ◌<◌, min}
use native.Mathlib.Numerals.{add-one}
use mathlib.Core.List.{List, ◌++◌, map}
use mathlib.Core.Logic.{◌⊎◌, inl, inr}
use Rattle.numbers.proofs.Bools.{lt_or_ge}
use native.Mathlib.Omega.{arith}
use borrow.Author.Tests.{le-leb}
use lib.ListN.{length, get_or, set, take, drop, take-append-drop, length-append, length-map}
use lib.Seq.{length-take-le, take-length, take_at, drop_at}
use lib.Ieee.{Float}
use Rattle.std.specs.Prelude.{Result}
use Rattle.flow_core.specs.declared.Flow.{Flow}
use Rattle.flow_core.specs.Outcome as rows
use Rattle.flow.specs.declared.network.Link.{Link}
use Rattle.flow.specs.declared.network.FlowNetwork.{FlowNetwork}
use Rattle.numbers.specs.Lists.{over}
use Rattle.flow.specs.Network.{heads_of, caps_of, costs_of, with_caps, with_links, Outcome, ends, flow_through, flown, flow_in}
use Rattle.flow.proofs.Packing.{past_end, fill, fill_next, fill_taken, fill_dropped, fill_over, front_rows, cap_at, caps_suc, caps_cut, caps_none, caps_with}

abbrev pub heads_in : List Link → List ℕ → ℕ → List ℕ
heads_in ls r i = fill (λ (l : Link). l.head) ls r i

abbrev pub caps_in : List Link → List Float → ℕ → List Float
caps_in ls r i = fill (λ (l : Link). l.cap) ls r i

abbrev pub costs_in : List Link → List Float → ℕ → List Float
costs_in ls r i = fill (λ (l : Link). l.cost) ls r i

-- the rows while the links are entered: their first i places are taken from the links
pub record Entered (ls : List Link) (n : ℕ) (hs : List ℕ) (cs ps : List Float) (heads : List ℕ) (caps costs : List Float) (i : ℕ) : Type 0 where
  pub upto : i ≤ n
  pub heads_is : heads ≡ heads_in ls hs i
  pub caps_is : caps ≡ caps_in ls cs i
  pub costs_is : costs ≡ costs_in ls ps i

module _ (ls : List Link) (n : ℕ) (hs : List ℕ) (cs ps : List Float) (there : n ≤ length ls) (wide : n ≤ length hs) (wide_caps : n ≤ length cs) (wide_costs : n ≤ length ps)
    {heads : List ℕ} {caps costs : List Float} {i : ℕ} (I : Entered ls n hs cs ps heads caps costs i) where
  pub entered_on : i < n → Entered ls n hs cs ps (set heads i (get_or ls i past_end).head) (set caps i (get_or ls i past_end).cap) (set costs i (get_or ls i past_end).cost) (i + 1)
  entered_on h = record {
    upto = omega arith;
    heads_is = ap (λ (r : List ℕ). set r i (get_or ls i past_end).head) I.heads_is ∙ fill_next (λ (l : Link). l.head) ls hs i (omega arith) (omega arith) ∙ ap (λ (m : ℕ). heads_in ls hs m) (sym (add-one i));
    caps_is = ap (λ (r : List Float). set r i (get_or ls i past_end).cap) I.caps_is ∙ fill_next (λ (l : Link). l.cap) ls cs i (omega arith) (omega arith) ∙ ap (λ (m : ℕ). caps_in ls cs m) (sym (add-one i));
    costs_is = ap (λ (r : List Float). set r i (get_or ls i past_end).cost) I.costs_is ∙ fill_next (λ (l : Link). l.cost) ls ps i (omega arith) (omega arith) ∙ ap (λ (m : ℕ). costs_in ls ps m) (sym (add-one i));
  }

  -- all of them are
  pub entered_all : n ≤ i → (heads ≡ over (heads_of n ls) hs) × (caps ≡ over (caps_of n ls) cs) × (costs ≡ over (costs_of n ls) ps)
  entered_all h =
      let u = I.upto in
      let e : i ≡ n = omega arith in (
        I.heads_is ∙ ap (heads_in ls hs) e ∙ fill_over (λ (l : Link). l.head) ls hs n there,
        I.caps_is ∙ ap (caps_in ls cs) e ∙ fill_over (λ (l : Link). l.cap) ls cs n there,
        I.costs_is ∙ ap (costs_in ls ps) e ∙ fill_over (λ (l : Link). l.cost) ls ps n there,
      )

-- of the first n links of a network
pub entered_front : (ls : List Link) (n : ℕ) → n ≤ length ls → (hs : List ℕ) (cs ps : List Float) {heads : List ℕ} {caps costs : List Float}
    → (heads ≡ over (heads_of (length (take n ls)) (take n ls)) hs) × (caps ≡ over (caps_of (length (take n ls)) (take n ls)) cs) × (costs ≡ over (costs_of (length (take n ls)) (take n ls)) ps)
    → (heads ≡ over (heads_of n ls) hs) × (caps ≡ over (caps_of n ls) cs) × (costs ≡ over (costs_of n ls) ps)
entered_front ls n h hs cs ps E = (
  E.0 ∙ ap (λ (r : List ℕ). over r hs) (front_rows (λ (l : Link). l.head) ls n h),
  E.1 ∙ ap (λ (r : List Float). over r cs) (front_rows (λ (l : Link). l.cap) ls n h),
  E.2 ∙ ap (λ (r : List Float). over r ps) (front_rows (λ (l : Link). l.cost) ls n h),
)

-- the row of capacities has their places
pub entered_wide : (ls : List Link) (n : ℕ) → n ≤ length ls → (cs : List Float) {caps : List Float} → caps ≡ over (caps_of n ls) cs → n ≤ length caps
entered_wide ls n h cs {caps} e =
    let m = length-map ls (λ (l : Link). l.cap) in
    let k = length-take-le n (map (λ (l : Link). l.cap) ls) (omega arith) in
    let a = ap length e ∙ length-append (caps_of n ls) (drop (length (caps_of n ls)) cs) in
    omega arith

-- the network while capacities are kept: the first j are those of the row
abbrev pub Keeping : FlowNetwork → List Float → FlowNetwork → ℕ → Type 0
Keeping N z N' j = (j ≤ length z) × (N' ≡ with_links N (with_caps N.links (take j z)))

pub keep_none : (N : FlowNetwork) (z : List Float) → Keeping N z N 0
keep_none N z = (omega arith, ap (with_links N) (sym (caps_none N.links)))

module _ (N : FlowNetwork) (z : List Float) {N' : FlowNetwork} {j : ℕ} (I : Keeping N z N' j) where
  pub keep_on : length z ≤ length N.links → j < length z → Keeping N z (with_links N' (set N'.links j (cap_at N'.links z j))) (j + 1)
  keep_on few h = (
    omega arith,
    ap (λ (M : FlowNetwork). with_links M (set M.links j (cap_at M.links z j))) I.1
        ∙ ap (with_links N) (caps_suc N.links z j (omega arith) (omega arith))
        ∙ ap (λ (m : ℕ). with_links N (with_caps N.links (take m z))) (sym (add-one j)),
  )

-- all are, where z is as much of a list as there are links
pub keep_all : (N : FlowNetwork) (cs : List Float) (k : ℕ) → k ≡ min (length cs) (length N.links) → {N' : FlowNetwork} {j : ℕ} → Keeping N (take k cs) N' j → length (take k cs) ≤ j → N' ≡ with_links N (with_caps N.links cs)
keep_all N cs k e {j = j} I h =
    let u = I.0 in
    I.1 ∙ ap (λ (p : List Float). with_links N (with_caps N.links p)) (ap (λ (m : ℕ). take m (take k cs)) (let q : j ≡ length (take k cs) = omega arith in q) ∙ take-length (take k cs))
    ∙ ap (with_links N) (caps_cut N.links cs k (least (lt_or_ge (length N.links) (length cs))))
  where
    least : (length N.links < length cs) ⊎ (length cs ≤ length N.links) → (length N.links ≤ k) ⊎ (length cs ≤ k)
    least (inl l) = inl (omega arith)
    least (inr g) = inr (omega arith)

module _ (N : FlowNetwork) (s t : ℕ) (hs : List ℕ) (cs ps : List Float) where
  abbrev n : ℕ
  n = N.count

  -- what is said of the rows
  abbrev pub Said : Result Flow ℕ → List Float → Type 0
  Said r z = (rows.ends r (take n z) ≡ rows.flow_on (take n (heads_in N.links hs n)) (take n (caps_in N.links cs n)) (take n (costs_in N.links ps n)) N.starts N.list N.nodes s t)
      × (drop n z ≡ drop n (caps_in N.links cs n))

  module _ (few : n ≤ 2176) (whole : length N.links ≡ 2176) where
    run_is : (r : Result Flow ℕ) (z : List Float) → Said r z → ends r (with_links N (with_caps N.links (take n z))) ≡ flow_through N s t
    run_is r z (e, _) = rw (le-leb n 2176 few)
        (ap (λ (o : rows.Outcome). ends o.answer (with_links N (with_caps N.links o.caps)))
        (e ∙ ap (λ (x : List ℕ). rows.flow_on x (take n (caps_in N.links cs n)) (take n (costs_in N.links ps n)) N.starts N.list N.nodes s t) (fill_taken (λ (l : Link). l.head) N.links hs n (omega arith))
        ∙ ap (λ (x : List Float). rows.flow_on (heads_of n N.links) x (take n (costs_in N.links ps n)) N.starts N.list N.nodes s t) (fill_taken (λ (l : Link). l.cap) N.links cs n (omega arith))
        ∙ ap (λ (x : List Float). rows.flow_on (heads_of n N.links) (caps_of n N.links) x N.starts N.list N.nodes s t) (fill_taken (λ (l : Link). l.cost) N.links ps n (omega arith))))

    -- the capacities that are left are those of the links, and then what stood there
    caps_left : (r : Result Flow ℕ) (z : List Float) → Said r z → n ≤ length z → z ≡ over (caps_of n (with_caps N.links (take n z))) cs
    caps_left r z (_, d) h =
        let l = length-take-le n z h in
        let there : n ≤ length N.links = omega arith in
        sym (take-append-drop n z)
        ∙ ap (λ (y : List Float). take n z ++ y) (d ∙ fill_dropped (λ (l : Link). l.cap) N.links cs n there)
        ∙ ap (λ (m : ℕ). take n z ++ drop m cs) (sym l)
        ∙ ap (λ (y : List Float). over y cs) (sym (caps_with N.links (take n z) n l there))

    pub flow_is : (r : Result Flow ℕ) (z : List Float) → Said r z → n ≤ length z
        → flown r (with_links N (with_caps N.links (take n z))) (heads_in N.links hs n) z (costs_in N.links ps n) ≡ flow_in N hs cs ps s t
    flow_is r z said h =
        let there : n ≤ length N.links = omega arith in
        let N' = with_links N (with_caps N.links (take n z)) in
        ap (λ (x : List ℕ). flown r N' x z (costs_in N.links ps n)) (fill_over (λ (l : Link). l.head) N.links hs n there)
        ∙ ap (λ (x : List Float). flown r N' (over (heads_of n N.links) hs) z x) (fill_over (λ (l : Link). l.cost) N.links ps n there)
        ∙ ap (λ (x : List Float). flown r N' (over (heads_of n N.links) hs) x (over (costs_of n N.links) ps)) (caps_left r z said h)
        ∙ ap (λ (o : Outcome). flown o.answer o.network (over (heads_of n N.links) hs) (over (caps_of n o.network.links) cs) (over (costs_of n N.links) ps)) (run_is r z said)

    -- the run, with the rows and the network as the loops leave them
    pub run_done : (r : Result Flow ℕ) (z : List Float) {heads : List ℕ} {caps costs : List Float} {N' : FlowNetwork} → (heads ≡ over (heads_of n N.links) hs) × (caps ≡ over (caps_of n N.links) cs) × (costs ≡ over (costs_of n N.links) ps) → N' ≡ with_links N (with_caps N.links (take n z))
        → (rows.ends r (take n z) ≡ rows.flow_on (take n heads) (take n caps) (take n costs) N.starts N.list N.nodes s t) × (drop n z ≡ drop n caps) → n ≤ length z
        → flown r N' heads z costs ≡ flow_in N hs cs ps s t
    run_done r z {heads = heads} {caps = caps} {costs = costs} {N' = N'} E en said h =
        let there : n ≤ length N.links = omega arith in
        let eh : heads ≡ heads_in N.links hs n = E.0 ∙ sym (fill_over (λ (l : Link). l.head) N.links hs n there) in
        let ec : caps ≡ caps_in N.links cs n = E.1 ∙ sym (fill_over (λ (l : Link). l.cap) N.links cs n there) in
        let ep : costs ≡ costs_in N.links ps n = E.2 ∙ sym (fill_over (λ (l : Link). l.cost) N.links ps n there) in
        rw (eh, ep, en) (flow_is r z (rw (← eh, ← ec, ← ep) said) h)

-- the first n capacities after a run that was lent them, and those past them
module _ (n : ℕ) (caps new : List Float) (wide : n ≤ length caps) (kept : length new ≡ length (take n caps)) where
  size : length new ≡ n
  size = kept ∙ length-take-le n caps wide

  pub lent_front : take n (new ++ drop n caps) ≡ new
  lent_front = take_at new (drop n caps) n size

  pub lent_rest : drop n (new ++ drop n caps) ≡ drop n caps
  lent_rest = drop_at new (drop n caps) n size

  pub lent_wide : n ≤ length (new ++ drop n caps)
  lent_wide = let l = length-append new (drop n caps) in let s = size in omega arith
