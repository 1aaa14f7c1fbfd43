-- What `new` makes, and what `add_edge` makes of a network where it adds the link, is a network that the check accepts, for any two nodes as source and sink where no infinite capacity leaves the source.
use mathlib.Core.Path.{◌≡◌, refl, sym, ap, ◌∙◌}
use mathlib.Core.Logic.{◌≢◌, ◌⊎◌, inl, inr}
use mathlib.Core.Bool.{Bool, true, false, cond, ◌&&◌, not, false≢true}
use Prim.Native.Nat.{ℕ, zero, suc, ◌+◌, ◌*◌, ◌/◌, ◌%◌, ◌≤◌, ◌<◌}
use mathlib.Core.List.{List, [], map}
use native.Mathlib.Omega.{arith}
use Rattle.std.specs.Prelude.{Result, Ok, Err}
use Rattle.std.specs.Result.{is_ok}
use lib.Dec.{eqb, leb, leb→le}
use lib.ListN.{length, get_or, drop, replicate, length-append, length-map, get_or-replicate, get_or-append}
use lib.Seq.{length-take-le}
use lib.Ieee.{Float, fin, inf, nan, lt, le, eq, neg, of_bits, up, down}
use borrow.Author.Tests.{le-leb, lt-ltb, eq-eqb, ne_eqb, eqb-true}
use Rattle.numbers.specs.Real.{nought}
use Rattle.numbers.specs.Lists.{over}
use Rattle.numbers.proofs.Bools.{t_of, and_t, lt_or_ge}
use Rattle.numbers.proofs.Alls.{every_at, every_of, every_none}
use Rattle.flow_theory.specs.Network.{rev, node_lists}
use Rattle.flow_theory.specs.Rows.{sums, starts_of, list_of}
use Rattle.flow_theory.proofs.ListRows.{Indexable}
use Rattle.flow_theory.proofs.Enlisted.{degrees_none, starts_length}
use Rattle.flow_check.specs.Refusal.{cap_fits, cost_fits, edge_fits, pair_fits, links_fit, sizes_fit, same_rows, lists_fit, leaves_finite, finite_from, ends_fit, accepts}
use Rattle.flow_check.proofs.Accepting.{is_infinite, indexable}
use Rattle.flow_check.proofs.Laying.{list_length}
use Rattle.flow.specs.declared.network.Link.{Link}
use Rattle.flow.specs.declared.network.FlowNetwork.{FlowNetwork}
use Rattle.flow.specs.Network.{heads_of, caps_of, costs_of, bare, made, with_link, fits_on, addable, grown, leaves, added}
use Rattle.flow.proofs.Grows.{EdgeFit, edge_fit, net_fit, row_before, row_forth, row_back, row_size, listed}

-- does the check accept the network
abbrev pub accepts_on : FlowNetwork → ℕ → ℕ → Bool
accepts_on N s t = accepts (heads_of N.count N.links) (caps_of N.count N.links) (costs_of N.count N.links) N.starts N.list N.nodes s t

-- no link in use that leaves node s has an infinite capacity
abbrev pub FiniteFrom : ℕ → FlowNetwork → Type 0
FiniteFrom s N = (e : ℕ) → e < N.count → get_or (heads_of N.count N.links) (rev e) 0 ≡ s → get_or (caps_of N.count N.links) e nan ≢ inf false

pub ends_fit_lem : (H : List ℕ) (c : List Float) (n s t : ℕ) → s < n → t < n → s ≢ t → finite_from H c s ≡ true → ends_fit H c n s t ≡ true
ends_fit_lem H c n s t a b d f = rw (lt-ltb s n a, lt-ltb t n b, ne_eqb s t d) f

-- ---- a network without links

sums_none : (n i : ℕ) → get_or (sums 0 (replicate n 0)) i 0 ≡ 0
unfolding sums
sums_none zero zero = refl
sums_none zero (suc i) = refl
sums_none (suc n) zero = refl
sums_none (suc n) (suc i) = sums_none n i

starts_none : (n i : ℕ) → get_or (starts_of [] n) i 0 ≡ 0
unfolding node_lists
starts_none n i = ap (λ (ds : List ℕ). get_or (sums 0 ds) i 0) (degrees_none n) ∙ sums_none n i

pub bare_accepted : (n s t : ℕ) → n ≤ 66 → s < n → t < n → s ≢ t → accepts_on (bare n) s t ≡ true
bare_accepted n s t few a b d =
    rw (every_none (pair_fits [] [] [] n), lists, every_none (λ i. eqb (get_or (replicate 2176 0) i 0) (get_or (list_of [] n) i 0)), le-leb n 66 few)
    (ends_fit_lem [] [] n s t a b d (every_none (λ e. leaves_finite s (get_or [] (rev e) 0) (get_or [] e nan))))
  where
    lists : same_rows (suc n) (replicate 67 0) (starts_of [] n) ≡ true
    lists = every_of (λ i. eqb (get_or (replicate 67 0) i 0) (get_or (starts_of [] n) i 0)) (suc n) (λ i h. eq-eqb (get_or (replicate 67 0) i 0) (get_or (starts_of [] n) i 0) (get_or-replicate {A = ℕ} 67 i 0 0 (omega arith) ∙ sym (starts_none n i)))

pub made_accepted : (n s t : ℕ) (N : FlowNetwork) → made n ≡ Ok N → s < n → t < n → s ≢ t → accepts_on N s t ≡ true
made_accepted n s t N e a b d = pick (leb n 66) refl e
  where
    net_or : Result FlowNetwork ℕ → FlowNetwork
    net_or (Ok M) = M
    net_or (Err k) = bare 0

    pick : (y : Bool) → leb n 66 ≡ y → cond {A = Result FlowNetwork ℕ} y (Ok (bare n)) (Err 15) ≡ Ok N → accepts_on N s t ≡ true
    pick true q r = ap (λ (M : FlowNetwork). accepts_on M s t) (sym (ap net_or r)) ∙ bare_accepted n s t (leb→le n 66 (t_of q)) a b d
    pick false q r = absurd (false≢true (ap is_ok r))

-- ---- a network with one more link

pub spares : (tail s : ℕ) (x : Float) → (tail ≡ s → x ≢ inf false) → not (eqb tail s && eq x (inf false)) ≡ true
spares tail s x h = pick (eqb tail s) (eq x (inf false)) refl refl
  where
    pick : (y z : Bool) → eqb tail s ≡ y → eq x (inf false) ≡ z → not (y && z) ≡ true
    pick true true p q = absurd (h (eqb-true tail s p) (is_infinite x q))
    pick true false p q = refl
    pick false z p q = refl

nought_fits : cap_fits nought ≡ true
unfolding le lt eq of_bits
nought_fits = refl

negation_fits : (x : Float) → cost_fits x ≡ true → eq (neg x) (neg x) ≡ true
unfolding eq neg le lt of_bits
negation_fits nan f = absurd (false≢true f)
negation_fits (inf true) f = refl
negation_fits (inf false) f = refl
negation_fits (fin true m e) f = rw (eq-eqb (m * up e * down e) (m * up e * down e) refl)
negation_fits (fin false m e) f = rw (eq-eqb (m * up e * down e) (m * up e * down e) refl)

pub same_over : (m : ℕ) (xs l : List ℕ) → length xs ≡ m → same_rows m (over xs l) xs ≡ true
same_over m xs l q = every_of (λ i. eqb (get_or (over xs l) i 0) (get_or xs i 0)) m (λ i h. eq-eqb (get_or (over xs l) i 0) (get_or xs i 0) (get_or-append xs (drop (length xs) l) 0 i (omega arith)))

-- what is asked of a network that gets a link, and of the link
module _ (N : FlowNetwork) (whole : length N.links ≡ 2176) (from to : ℕ) (cap cost : Float) where
  abbrev n : ℕ
  n = N.nodes

  abbrev ls : List Link
  ls = with_link N.links N.count from to cap cost

  abbrev H : List ℕ
  H = heads_of (N.count + 2) ls

  abbrev c : List Float
  c = caps_of (N.count + 2) ls

  abbrev p : List Float
  p = costs_of (N.count + 2) ls

  module _ (few : N.count ≤ 2174) (E : EdgeFit n from to cap cost) (F : fits_on N ≡ true) where
    room : N.count + 2 ≤ length N.links
    room = omega arith

    front : length (heads_of N.count N.links) ≡ N.count
    front = length-take-le N.count (map (λ (x : Link). x.head) N.links) (let q = length-map N.links (λ (x : Link). x.head) in omega arith)

    ready : Indexable H n
    ready =
        let P = net_fit N F in
        listed N.links N.count from to cap cost room n few (indexable (heads_of N.count N.links) (caps_of N.count N.links) (costs_of N.count N.links) n P.sizes P.links) E.from_in E.to_in

    sizes : (length H ≡ N.count + 2) × (length c ≡ N.count + 2) × (length p ≡ N.count + 2)
    sizes = (
      row_size N.links N.count from to cap cost room (λ (x : Link). x.head),
      row_size N.links N.count from to cap cost room (λ (x : Link). x.cap),
      row_size N.links N.count from to cap cost room (λ (x : Link). x.cost),
    )

    sizes_fit_lem : sizes_fit n (length H) (length c) (length p) (length (over (list_of H n) N.list)) ≡ true
    sizes_fit_lem =
        let (h, k, l) = sizes in
        let m = ready.pairs in
        let x = list_length ready in
        let y = length-append (list_of H n) (drop (length (list_of H n)) N.list) in
        rw (
          le-leb n 66 (net_fit N F).sizes.few,
          le-leb (length H) 2176 ready.small,
          eq-eqb (length H % 2) 0 (omega arith),
          eq-eqb (length c) (length H) (k ∙ sym h),
          eq-eqb (length p) (length H) (l ∙ sym h),
        ) (le-leb (length H) (length (over (list_of H n) N.list)) (omega (arith, x, y)))

    lists_fit_lem : lists_fit H n (over (starts_of H n) N.starts) (over (list_of H n) N.list) ≡ true
    lists_fit_lem = rw (same_over (suc n) (starts_of H n) N.starts (starts_length ready), same_over (length H) (list_of H n) N.list (list_length ready)) refl

    old_pair : (k : ℕ) → k + k + 1 < N.count → pair_fits H c p n k ≡ true
    old_pair k h =
        let q = front in
        rw (
          row_before N.links N.count from to cap cost room (λ (x : Link). x.head) (k + k) (omega arith),
          row_before N.links N.count from to cap cost room (λ (x : Link). x.head) (k + k + 1) h,
          row_before N.links N.count from to cap cost room (λ (x : Link). x.cap) (k + k) (omega arith),
          row_before N.links N.count from to cap cost room (λ (x : Link). x.cap) (k + k + 1) h,
          row_before N.links N.count from to cap cost room (λ (x : Link). x.cost) (k + k) (omega arith),
          row_before N.links N.count from to cap cost room (λ (x : Link). x.cost) (k + k + 1) h,
        )
        (every_at (pair_fits (heads_of N.count N.links) (caps_of N.count N.links) (costs_of N.count N.links) n) (length (heads_of N.count N.links) / 2) (net_fit N F).links k (omega arith))

    new_pair : (k : ℕ) → k + k ≡ N.count → pair_fits H c p n k ≡ true
    new_pair k q =
        rw (
          q,
          row_forth N.links N.count from to cap cost room (λ (x : Link). x.head),
          row_back N.links N.count from to cap cost room (λ (x : Link). x.head),
          row_forth N.links N.count from to cap cost room (λ (x : Link). x.cap),
          row_back N.links N.count from to cap cost room (λ (x : Link). x.cap),
          row_forth N.links N.count from to cap cost room (λ (x : Link). x.cost),
          row_back N.links N.count from to cap cost room (λ (x : Link). x.cost),
          lt-ltb from n E.from_in,
          lt-ltb to n E.to_in,
          E.cap_fits,
          E.cost_fits,
          nought_fits,
        ) (negation_fits cost E.cost_fits)

    links_fit_lem : links_fit H c p n ≡ true
    links_fit_lem = every_of (pair_fits H c p n) (length H / 2) (λ k h. pick k h (lt_or_ge (k + k + 1) N.count))
      where
        pick : (k : ℕ) → k < length H / 2 → (k + k + 1 < N.count) ⊎ (N.count ≤ k + k + 1) → pair_fits H c p n k ≡ true
        pick k h (inl l) = old_pair k l
        pick k h (inr g) = let z = sizes.0 in let e = (net_fit N F).sizes.even in let q = front in new_pair k (omega arith)

    accepted_then : (s t : ℕ) → s < n → t < n → s ≢ t → FiniteFrom s (grown N ls) → accepts_on (grown N ls) s t ≡ true
    accepted_then s t a b d finite =
        rw (sizes_fit_lem, links_fit_lem, lists_fit_lem)
        (ends_fit_lem H c n s t a b d (every_of (λ e. leaves_finite s (get_or H (rev e) 0) (get_or c e nan)) (length H) (λ e h. spares (get_or H (rev e) 0) s (get_or c e nan) (finite e (let z = sizes.0 in omega arith)))))

  pub added_accepted : (s t : ℕ) → (added N from to cap cost).refused ≡ 0 → s < n → t < n → s ≢ t → FiniteFrom s (added N from to cap cost).net → accepts_on (added N from to cap cost).net s t ≡ true
  added_accepted s t z a b d = pick (addable N from to cap cost) refl z
    where
      pick : (y : Bool) → addable N from to cap cost ≡ y → (cond y (leaves 0 (grown N ls)) (leaves 15 N)).refused ≡ 0 → FiniteFrom s (cond y (leaves 0 (grown N ls)) (leaves 15 N)).net → accepts_on (cond y (leaves 0 (grown N ls)) (leaves 15 N)).net s t ≡ true
      pick true q r finite =
          let (few, o) = and_t (leb N.count 2174) _ q in
          let (E, F) = and_t (edge_fits n from to cap cost) _ o in
          accepted_then (leb→le N.count 2174 (t_of few)) (edge_fit n from to cap cost E) F s t a b d finite
      pick false q r finite = absurd (omega arith)
