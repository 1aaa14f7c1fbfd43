-- The whole of `transport` over rows: its links can be sailed, and its plan is the definition's.
use mathlib.Core.Path.{◌≡◌, sym, ap, subst, ◌∙◌}
use Prim.Native.Nat.{ℕ, ◌+◌, ◌*◌, ◌≤◌}
use mathlib.Core.Bool.{Bool, true}
use mathlib.Core.List.{List}
use native.Mathlib.Omega.{arith}
use native.Mathlib.Numerals.{add-one}
use lib.ListN.{length, take, drop, replicate, length-replicate, length-append}
use lib.Seq.{take_at, length-take-le}
use lib.Ieee.{Float}
use borrow.Author.Tests.{le-leb, eq-eqb}
use Rattle.numbers.specs.Lists.{over}
use Rattle.numbers.specs.Real.{sum}
use Rattle.flow_theory.specs.Rows.{starts_of, list_of}
use Rattle.flow_theory.proofs.ListRows.{Indexable}
use Rattle.flow.specs.declared.network.FlowNetwork.{FlowNetwork}
use Rattle.flow.specs.Network.{with_caps}
use Rattle.transport.specs.Network.{entries, stored, network_on}
use Rattle.transport.proofs.Storing.{kept}
use Rattle.flow_check.proofs.Relists.{listed}
use Rattle.transport_theory.specs.Links.{links, heads, caps, prices}
use Rattle.transport_theory.specs.Transport.{Shipment, shipped, plan, bills, transport}
use Rattle.transport_theory.proofs.Networks.{links_length, heads_length, caps_length, prices_length, heads_inside, links_inside, cells_few, moved_in}
use Rattle.transport_theory.proofs.PlanRows.{Planned}
use Rattle.std.specs.Prelude.{Option, Some}
use Rattle.std.specs.Option.{unwrap_or}
use Rattle.transport_theory.proofs.TransportRows.{Roomy, Carried, Loadable, Readied, Spelled, Transported}
use Rattle.transport_theory.proofs.Writing.{Written, has_room, wrote, write}
use Rattle.transport_theory.proofs.Sending.{listable, sendable, rows_shipped, Sent, sent, send_if, send}

-- ---- the rounds and the plan on the links of masses a and b

module _ {a b costs : List Float} {H : List ℕ} {c p : List Float} {list rows columns : List ℕ} {masses : List Float} (C : Carried a b costs H c p list rows columns masses) where
  abbrev m : ℕ
  m = length a

  abbrev n : ℕ
  n = length b

  count : length (links a b costs) ≡ m + (n + m * n)
  count = links_length a b costs C.base.enough

  heads_size : length H ≡ length (links a b costs) + length (links a b costs)
  heads_size = ap length C.heads_is ∙ heads_length (links a b costs)

  caps_size : length c ≡ length (links a b costs) + length (links a b costs)
  caps_size = ap length C.caps_is ∙ caps_length (links a b costs)

  prices_size : length p ≡ length (links a b costs) + length (links a b costs)
  prices_size = ap length C.prices_is ∙ prices_length (links a b costs)

  few : length (links a b costs) ≤ 1088
  few = let f = C.base.few_a in let g = C.base.few_b in let l = cells_few m n f g in let k = count in omega arith

  index : Indexable H (m + n + 2)
  index =
      let f = few in
      record {
        added = length (links a b costs);
        pairs = heads_size;
        small = let h = heads_size in omega arith;
        heads_in = λ e i. rw C.heads_is (heads_inside (m + n + 2) (links a b costs) (links_inside a b costs) e (rw (← C.heads_is) i));
      }

  can : sendable a b H c p (length list) ≡ true
  can =
      let h = heads_size in let x = caps_size in let y = prices_size in let f = C.base.few_a in let g = C.base.few_b in
      let i : length c ≡ length H = omega arith in
      let j : length p ≡ length H = omega arith in
      let starts : List ℕ = replicate 67 0 in
      let z = length-replicate {A = ℕ} 67 0 in
      let l : listable H (m + n + 2) (length starts) (length list) ≡ true = listed index (omega arith) starts list (omega arith) C.room in
      rw (le-leb m 32 f, le-leb n 32 g, eq-eqb (length c) (length H) i, eq-eqb (length p) (length H) j)
      (ap (λ (k : ℕ). listable H (m + n + 2) k (length list)) (sym z) ∙ l)

  run_is : rows_shipped a b H c p ≡ shipped a b costs
  unfolding shipped
  run_is = rw (C.heads_is, C.caps_is, C.prices_is, add-one (m + n))

  -- they are as many as a network has room for, with a capacity and a cost each
  pub storable : (length H ≤ 2176) × (length c ≡ length H) × (length p ≡ length H)
  storable = let h = heads_size in let x = caps_size in let y = prices_size in let f = few in (omega arith, omega arith, omega arith)

  module _ {x : Option Float} {c' : List Float} (st : List ℕ) {s' l' : List ℕ} (S : sent x c' s' l' ≡ send a b H c p st list) where
    gone : sent x c' s' l' ≡ send_if true a b H c p st list
    gone = S ∙ ap (λ (t : Bool). send_if t a b H c p st list) can

    cap_is : c' ≡ (shipped a b costs).cap
    cap_is = ap (λ (r : Sent). r.caps) gone ∙ ap (λ (r : Shipment). r.cap) run_is

    pub plannable : length c' ≡ length c → Readied a b costs c' rows columns masses
    plannable z =
        let l = caps_size in
        let f = C.base.few_a in let g = C.base.few_b in
        record {
          few_m = C.base.few_a;
          few_n = C.base.few_b;
          first_few = omega arith;
          caps_in = λ k h. let i = moved_in a b costs k C.base.enough h in omega arith;
          costs_in = C.base.enough;
          rows_room = C.base.rows_room;
          columns_room = C.base.columns_room;
          masses_room = C.base.masses_room;
        }

    pub planned : {y : Float} {t : ℕ} {rows' columns' : List ℕ} {masses' : List Float}
        → Spelled a b costs c' rows columns masses y t rows' columns' masses'
        → Transported a b costs rows columns masses y t rows' columns' masses'
    unfolding transport
    planned {y} {t} {rows'} {columns'} {masses'} P =
        subst (λ (d : List Float). Planned (plan n (2 * (m + n)) d (m * n) 0) (sum (bills (2 * (m + n)) d (take (m * n) costs) 0)) rows columns masses y t rows' columns' masses') cap_is P

    -- the network that the links were stored in, with their node lists and the capacities that are kept
    pub network_left : (N : FlowNetwork) → N.starts ≡ st → N.list ≡ list → {M L : FlowNetwork} → M ≡ stored N H c p (m + n + 2)
        → L ≡ record { links = with_caps M.links c'; count = M.count; nodes = M.nodes; starts = s'; list = l' } → length c' ≡ length c → L ≡ network_on a b costs N
    network_left N es el E K z =
        let k = storable in
        let q : length c' ≡ length H = omega arith in
        let es' = sym es in
        let el' = sym el in
        K ∙ ap (λ (M : FlowNetwork). record { links = with_caps M.links c'; count = M.count; nodes = M.nodes; starts = s'; list = l' }) E
        ∙ (λ i. record {
          links = (kept H c p c' N.links k.1 k.2 q ∙ (λ j. over (entries (C.heads_is j) (cap_is j) (C.prices_is j)) N.links)) i;
          count = length (C.heads_is i);
          nodes = m + n + 2;
          starts = (ap (λ (r : Sent). r.starts) gone ∙ (λ j. over (starts_of (C.heads_is j) (m + n + 2)) (es' j))) i;
          list = (ap (λ (r : Sent). r.list) gone ∙ (λ j. over (list_of (C.heads_is j) (m + n + 2)) (el' j))) i;
        })

-- ---- the links are written

-- rows of 2,176 places have room for them
pub loadable : {a b costs : List Float} {h : List ℕ} {c p : List Float} {list rows columns : List ℕ} {masses : List Float} → Roomy a b costs rows columns masses
    → length h ≡ 2176 → length c ≡ 2176 → length p ≡ 2176 → length list ≡ 2176 → Loadable a b costs h c p list rows columns masses
loadable {a} {b} B eh ec ep el =
    let f = cells_few (length a) (length b) B.few_a B.few_b in
    let x = B.few_a in
    let y = B.few_b in
    record { base = B; heads_room = omega arith; caps_room = omega arith; prices_room = omega arith; list_room = omega arith }

module _ {a b costs : List Float} {h : List ℕ} {c p : List Float} {list rows columns : List ℕ} {masses : List Float} (L : Loadable a b costs h c p list rows columns masses) where
  abbrev places : ℕ
  places = 2 * (length a + length b + length a * length b)

  roomy : has_room (length a) (length b) (length costs) (length h) (length c) (length p) ≡ true
  roomy = rw (le-leb (length a) 32 L.base.few_a, le-leb (length b) 32 L.base.few_b, le-leb (length a * length b) (length costs) L.base.enough, le-leb places (length h) L.heads_room, le-leb places (length c) L.caps_room, le-leb places (length p) L.prices_room)

  total : length (links a b costs) + length (links a b costs) ≡ places
  total = let k = links_length a b costs L.base.enough in omega arith

  module _ (r : Option ℕ) (h' : List ℕ) (c' p' : List Float) (W : wrote r h' c' p' ≡ write a b costs h c p) where
    laid : wrote r h' c' p' ≡ wrote (Some (length (heads (links a b costs)))) (over (heads (links a b costs)) h) (over (caps (links a b costs)) c) (over (prices (links a b costs)) p)
    laid = W ∙ rw roomy

    pub laid_places : r ≡ Some places
    laid_places = ap (λ (w : Written). w.places) laid ∙ ap (λ (k : ℕ). Some k) (heads_length (links a b costs) ∙ total)

    -- so many capacities and prices are there, and the lists that are cut to them have them
    pub laid_room : {k : ℕ} → k ≡ unwrap_or r 0 → ((k ≤ length c') × (k ≡ length (take k c'))) × ((k ≤ length p') × (k ≡ length (take k p')))
    laid_room {k} e =
        let q = e ∙ ap (λ (o : Option ℕ). unwrap_or o 0) laid_places in
        let x = ap (λ (w : Written). length w.caps) laid ∙ length-append (caps (links a b costs)) (drop (length (caps (links a b costs))) c) in
        let y = ap (λ (w : Written). length w.prices) laid ∙ length-append (prices (links a b costs)) (drop (length (prices (links a b costs))) p) in
        let u = caps_length (links a b costs) ∙ total in
        let v = prices_length (links a b costs) ∙ total in
        let s : k ≤ length c' = omega arith in
        let t : k ≤ length p' = omega arith in
        ((s, sym (length-take-le k c' s)), (t, sym (length-take-le k p' t)))

    pub carried : Carried a b costs (take places h') (take places c') (take places p') list rows columns masses
    carried = record {
      base = L.base;
      heads_is = heads_are;
      caps_is = ap (λ (w : Written). take places w.caps) laid ∙ take_at (caps (links a b costs)) _ places (caps_length (links a b costs) ∙ total);
      prices_is = ap (λ (w : Written). take places w.prices) laid ∙ take_at (prices (links a b costs)) _ places (prices_length (links a b costs) ∙ total);
      room = let k = ap length heads_are ∙ heads_length (links a b costs) ∙ total in let l = L.list_room in omega arith;
    }
      where
        heads_are : take places h' ≡ heads (links a b costs)
        heads_are = ap (λ (w : Written). take places w.heads) laid ∙ take_at (heads (links a b costs)) _ places (heads_length (links a b costs) ∙ total)
