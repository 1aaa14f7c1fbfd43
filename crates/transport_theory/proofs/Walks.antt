-- The loops along the path of a round: the walk back, and the least of what remains and the capacities.
use mathlib.Core.Path.{◌≡◌, refl, sym, ap, subst⁻¹, ◌∙◌}
use mathlib.Core.Logic.{◌≢◌}
use Prim.Native.Nat.{ℕ, suc, ◌+◌, ◌-◌, ◌≤◌, ◌<◌}
use mathlib.Core.List.{List, [], ◌∷◌, ◌++◌, append-nil}
use native.Mathlib.Omega.{arith}
use native.Mathlib.Numerals.{add-one}
use lib.ListN.{length, get_or, set, take, length-set}
use lib.Seq.{take-suc-set}
use borrow.Author.Tests.{eq-eqb, ne_eqb}
use Rattle.flow_theory.specs.Network.{Net, nodes, head, tail, rev}
use Rattle.flow_theory.specs.Rows.{network}
use Rattle.flow_theory.proofs.Outs.{network_nodes}
use Rattle.std.specs.Prelude.{Some, None}
use Rattle.transport_theory.specs.Shortest.{route, ends}
use Rattle.transport_theory.proofs.Paths.{route_step, route_home, ends_step, ends_home}
use Rattle.transport_theory.proofs.WalkRows.{ReachedBy, Back, Walkable, Walked}

-- ---- the walk back

-- n links are walked, and the walk from v on gives the rest
pub record Walking (N : Net) (w p₀ p : List ℕ) (v n : ℕ) : Type 0 where
  pub upto : n ≤ suc (nodes N)
  pub here : v < nodes N
  pub reached : ReachedBy N w v
  pub size : length p ≡ length p₀
  pub route_is : take n p ++ route N w (suc (nodes N) - n) v ≡ route N w (suc (nodes N)) N.sink
  pub ends_is : ends N w (suc (nodes N) - n) v ≡ ends N w (suc (nodes N)) N.sink

module _ (H : List ℕ) (k s t : ℕ) {w p₀ : List ℕ} (W : Walkable (network H k s t) w p₀) where
  abbrev N : Net
  N = network H k s t

  pub walk_starts : Walking N w p₀ p₀ t 0
  walk_starts = record { upto = omega arith; here = W.sink_in; reached = W.reached; size = refl; route_is = ap (λ (j : ℕ). route N w j t) all; ends_is = ap (λ (j : ℕ). ends N w j t) all }
    where
      all : suc (nodes N) - 0 ≡ suc (nodes N)
      all = omega arith

  module _ {p : List ℕ} {v n : ℕ} (I : Walking N w p₀ p v n) where
    pub v_in : v < length w
    v_in = rw W.size I.here

    pub n_few : n ≤ 67
    n_few = let a = I.upto in let b = W.few in omega arith

    module _ (away : v ≢ s) where
      abbrev e : ℕ
      e = get_or w v 0

      pub step : Back N w v
      step = W.back v I.here I.reached away

      pub e_in : e < length H
      e_in = step.link_in

      pub back_in : rev e < length H
      back_in = step.rev_in

      module _ (more : n ≤ k) where
        pub path_room : n < length p
        path_room = let z = network_nodes H k in let a = I.size in let b = W.room in omega arith

        pub walk_on : Walking N w p₀ (set p n e) (get_or H (rev e) 0) (n + 1)
        unfolding head
        walk_on =
            let z = network_nodes H k in
            let q : suc (nodes N) - n ≡ suc (suc (nodes N) - (n + 1)) = omega arith in
            record {
              upto = omega arith;
              here = step.node_in;
              reached = step.reached;
              size = length-set p n e ∙ I.size;
              route_is =
                  ap (λ (l : List ℕ). l ++ route N w (suc (nodes N) - (n + 1)) (tail N e)) (ap (λ (j : ℕ). take j (set p n e)) (add-one n) ∙ take-suc-set p n e path_room)
                  ∙ assoc (take n p) e (route N w (suc (nodes N) - (n + 1)) (tail N e))
                  ∙ ap (λ (l : List ℕ). take n p ++ l) (sym (ap (λ (j : ℕ). route N w j v) q ∙ route_step N w (suc (nodes N) - (n + 1)) v away))
                  ∙ I.route_is;
              ends_is = sym (ap (λ (j : ℕ). ends N w j v) q ∙ ends_step N w (suc (nodes N) - (n + 1)) v away) ∙ I.ends_is;
            }
          where
            assoc : (xs : List ℕ) (x : ℕ) (ys : List ℕ) → (xs ++ (x ∷ [])) ++ ys ≡ xs ++ (x ∷ ys)
            assoc [] x ys = refl
            assoc (y ∷ xs) x ys = ap (λ (l : List ℕ). y ∷ l) (assoc xs x ys)

      -- over as many links as there are nodes, and not at the source
      pub walk_lost : k < n → Walked N w p None
      unfolding ends
      walk_lost more =
          let z = network_nodes H k in
          let a = I.upto in
          let q : suc (nodes N) - n ≡ 0 = omega arith in
          ne_eqb (ends N w (suc (nodes N)) t) s (λ x. away (ap (λ (j : ℕ). ends N w j v) (sym q) ∙ I.ends_is ∙ x))

    pub walk_home : v ≡ s → Walked N w p (Some n)
    walk_home x = record {
      within = let a = I.upto in let b = I.size in let d = W.room in omega arith;
      path_is = sym (append-nil (take n p)) ∙ ap (λ (l : List ℕ). take n p ++ l) (sym (route_home N w (suc (nodes N) - n) v x)) ∙ I.route_is;
      home_is = eq-eqb (ends N w (suc (nodes N)) t) s (sym I.ends_is ∙ ends_home N w (suc (nodes N) - n) v x ∙ x);
    }

    -- all of a path that is as long as it need be
    pub walk_full : length p ≤ n → v ≡ s → length p₀ ≡ k + 1 → Walked N w p (Some (length p))
    walk_full h x r =
        let q : length p ≡ n = let z = network_nodes H k in let a = I.upto in let b = I.size in omega arith in
        subst⁻¹ (λ (j : ℕ). Walked N w p (Some j)) q (walk_home x)
