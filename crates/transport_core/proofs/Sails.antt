-- Links that fit are a network that can be sailed, and the rounds on it are the definition's.
use mathlib.Core.Path.{◌≡◌, sym, ap, subst, ◌∙◌}
use Prim.Native.Nat.{ℕ, ◌+◌, ◌*◌, ◌≤◌, ◌<◌}
use mathlib.Core.Bool.{Bool, true}
use mathlib.Core.List.{List}
use native.Mathlib.Omega.{arith}
use lib.Dec.{eqb, ltb, leb, lit<}
use lib.ListN.{length}
use lib.Ieee.{Float, binary64, mul}
use borrow.Author.Tests.{eqb-true, leb-true}
use Rattle.numbers.specs.Real.{one, eps, sum}
use Rattle.numbers.specs.Choice.{smaller, larger}
use Rattle.numbers.proofs.Bools.{and_t}
use Rattle.flow_theory.specs.Network.{head, node_lists}
use Rattle.flow_theory.specs.Levels.{unset}
use Rattle.flow_theory.specs.Rows.{network}
use Rattle.flow_theory.proofs.Links.{WellFormed}
use Rattle.flow_theory.proofs.Outs.{network_nodes}
use Rattle.flow_theory.proofs.Theorem.{made}
use Rattle.flow_check.specs.Refusal
use Rattle.flow_check.proofs.Relists.{Relisted, listable_indexable, enlisted}
use Rattle.transport_theory.specs.Lent as masses
use Rattle.transport_theory.specs.Transport.{Shipment, rounds, crumbs, round_cap}
use Rattle.transport_theory.proofs.Places.{few_both}
use Rattle.transport_theory.proofs.RoundRows.{row_roads, shipment, Sailable, Shipped}
use Rattle.transport_theory.proofs.TransportRows.{Linked, shipped_rows}
use Rattle.transport_theory.proofs.Sending.{sizes_fit, listable}

unset_large : 10000 < unset
unfolding unset
unset_large = lit< tt

-- ---- a network that can be sailed

module _ {a b : List Float} {H : List ℕ} {c p : List Float} {list : List ℕ} (L : Linked a b H c p list) where
  abbrev s : ℕ
  s = length a + length b

  good : WellFormed (network H (s + 2) s (s + 1))
  unfolding head
  good =
      let k = network_nodes H (s + 2) in let u = unset_large in let f = L.few_a in let g = L.few_b in
      made (network H (s + 2) s (s + 1)) L.index.added L.index.pairs (omega arith)
      (λ e h. let i = L.index.heads_in e h in omega arith)
      (omega arith) (omega arith) (ap (λ (x : ℕ). node_lists H x (length H)) (sym k))

  sailable : (st : List ℕ) → length st ≡ 67 → (r : Bool) (st' l' : List ℕ) → Relisted H (s + 2) st list r st' l' → Sailable (row_roads H p (s + 2) s (s + 1)) st' l' c
  sailable st z r st' l' e =
      let f = L.few_a in let g = L.few_b in let k = network_nodes H (s + 2) in
      record {
        good = good;
        laid = enlisted L.index (omega arith) st list (omega arith) L.room r st' l' s (s + 1) e;
        sink_in = omega arith;
        caps_size = L.caps_size;
        costs_size = L.prices_size;
        small = L.index.small;
      }

-- ---- what the checks decide

module _ (a b : List Float) (H : List ℕ) (c p : List Float) (l : List ℕ) where
  abbrev n : ℕ
  n = length a + length b + 2

  module _ (z : sizes_fit (length a) (length b) (length H) (length c) (length p) ≡ true) where
    pub few : (length a ≤ 32) × (length b ≤ 32)
    few = few_both (length a) (length b) (and_t (masses.few (length a) (length b)) _ z).0

    module _ (st : List ℕ) (w : length st ≡ 67) (r : Bool) (st' l' : List ℕ) (E : Relisted H n st l r st' l') where
      answer : r ≡ listable H n 67 (length l)
      answer = E.0 ∙ ap (λ (k : ℕ). listable H n k (length l)) w

      module _ (q : r ≡ true) where
        can : listable H n 67 (length l) ≡ true
        can = sym answer ∙ q

        linked : Linked a b H c p l
        linked =
            let (u, v) = and_t (eqb (length c) (length H)) _ (and_t (masses.few (length a) (length b)) _ z).1 in
            let (f, g) = and_t (Refusal.few n (length H)) _ can in
            let (k, q) = and_t (leb (length H) (length l)) _ g in
            let (i, j) = and_t (ltb n 67) _ q in
            record {
              few_a = few.0;
              few_b = few.1;
              index = listable_indexable H n f j;
              caps_size = eqb-true (length c) (length H) u;
              prices_size = eqb-true (length p) (length H) v;
              room = leb-true _ _ k;
            }

        pub sails : Sailable (row_roads H p n (length a + length b) (length a + length b + 1)) st' l' c
        sails = sailable linked st w r st' l' E

-- the rounds with their bounds worked out
pub told_links : (a b : List Float) (H : List ℕ) (c p : List Float) {ta tb big low x : Float} {c' : List Float} → ta ≡ sum a → tb ≡ sum b → big ≡ larger ta one → low ≡ smaller ta tb
    → Shipped (rounds (row_roads H p (length a + length b + 2) (length a + length b) (length a + length b + 1)) (mul binary64 eps big) (4 * (length a * length b + length a + length b) + 16) (shipment c low 0)) x c'
    → Shipped (shipped_rows a b H c p) x c'
unfolding crumbs round_cap
told_links a b H c p {ta} {tb} {big} {low} {x} {c'} A B G L S = subst (λ (r : Shipment). Shipped r x c') run S
  where
    run : rounds (row_roads H p (length a + length b + 2) (length a + length b) (length a + length b + 1)) (mul binary64 eps big) (4 * (length a * length b + length a + length b) + 16) (shipment c low 0) ≡ shipped_rows a b H c p
    run = rw (G, L, A, B)
