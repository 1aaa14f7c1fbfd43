-- A round over rows is a `turn` of the definition, and the loop of rounds is `rounds`.
use mathlib.Core.Path.{◌≡◌, refl, sym, ap, subst, subst⁻¹, ◌∙◌}
use mathlib.Core.Bool.{Bool, true, false, not}
use Prim.Native.Nat.{ℕ, suc, ◌+◌, ◌-◌, ◌≤◌, ◌<◌}
use mathlib.Core.List.{List}
use native.Mathlib.Omega.{arith}
use native.Mathlib.Numerals.{add-one}
use lib.Dec.{eqb, lit<}
use lib.ListN.{length, get_or, set, take, replicate, length-set, length-replicate}
use lib.Ieee.{Float, nan, inf, binary64, lt, le, sub}
use Rattle.numbers.specs.Real.{nought, eps}
use Rattle.numbers.proofs.Parts.{take_replicate, take_replicate_length}
use Rattle.flow_theory.specs.Network.{Net, nodes, links, rev}
use Rattle.flow_theory.specs.Levels.{unset}
use Rattle.flow_theory.specs.Augment.{least, push_path}
use Rattle.flow_theory.specs.Rows.{network}
use Rattle.flow_theory.proofs.Links.{rev_in}
use Rattle.flow_theory.proofs.Outs.{network_nodes}
use Rattle.transport_theory.specs.Links.{Roads}
use Rattle.transport_theory.specs.Shortest.{infinite, Tree, far, sprout, shortest, search, ends}
use Rattle.transport_theory.specs.Transport.{Shipment, Turn, more, done, give_up, ship, move, turn, rounds}
use Rattle.transport_theory.proofs.Paths.{Grown, Reached, shortest_grown, walk_step}
use Rattle.transport_theory.proofs.SearchRows.{tree, InRoads, Passable, Found, Searched}
use Rattle.std.specs.Prelude.{Option, Some, None}
use Rattle.transport_theory.proofs.WalkRows.{Walkable, Walked}
use Rattle.transport_theory.proofs.RoundRows.{row_roads, shipment, Sailable, RoundReady, Movable, Moved, Turned, Shipped}

unset_large : 2176 ≤ unset
unfolding unset
unset_large = let l : 2176 < 18446744073709551615 = lit< tt in omega arith

-- ---- the push

module _ {N : Net} {w : List ℕ} {c : List Float} (M : Movable N w c) where
  -- the path does not come from the source
  pub move_cycle : eqb (ends N w (suc (nodes N)) N.sink) N.source ≡ false → (x : Float) → Moved N w c x None c
  unfolding move ship give_up
  move_cycle z x k = rw z

  module _ {q : List ℕ} {n : ℕ} (W : Walked N w q (Some n)) where
    move_ships : (x : Float) (k : ℕ) → move N false w (shipment c x k) ≡ ship (not (le (least c x (take n q)) eps)) (least c x (take n q)) (take n q) (shipment c x k)
    unfolding move
    move_ships x k = rw (W.path_is, W.home_is)

    -- there is no more than 1e-12 to push
    pub move_small : (x y : Float) → y ≡ least c x (take n q) → le y eps ≡ true → Moved N w c x None c
    unfolding ship give_up
    move_small x y e l k = move_ships x k ∙ rw (← e, l)

    pub move_pushes : (x y : Float) → y ≡ least c x (take n q) → le y eps ≡ false → {d : List Float} → d ≡ push_path y (take n q) c
        → Moved N w c x (Some (sub binary64 x y)) d
    unfolding ship
    move_pushes x y e l {d} f k = move_ships x k ∙ rw (← e, l, f)

-- the path that is made afresh, and the part of it that is lent
module _ (H : List ℕ) (n s t : ℕ) {w : List ℕ} {c : List Float} (M : Movable (network H n s t) w c) where
  pub path_few : n ≤ 66
  path_few = rw (← network_nodes H n) M.few

  pub path_size : length {A = ℕ} (take (n + 1) (replicate 67 0)) ≡ n + 1
  path_size = let f = path_few in take_replicate_length {A = ℕ} (n + 1) 67 0 (omega arith)

  pub path_walkable : Walkable (network H n s t) w (take (n + 1) (replicate 67 0))
  path_walkable = M.walkable (take (n + 1) (replicate 67 0)) (let z = network_nodes H n in let l = path_size in omega arith)

-- ---- a round

module _ {R : Roads} {starts list : List ℕ} {c d : List Float} {w : List ℕ} (P : RoundReady R starts list c d w) where
  abbrev N : Net
  N = R.net

  abbrev L : InRoads R N.heads list starts R.cost
  L = record { good = P.base.good; laid = P.base.laid; cost = refl }

  -- the tree that the search begins with
  abbrev d₁ : List Float
  d₁ = set d N.source nought

  d₁_size : length d₁ ≡ nodes N
  d₁_size = length-set d N.source nought ∙ ap length P.dist_is ∙ length-replicate (nodes N) (inf false)

  pub source_in : N.source < length d
  source_in = rw (P.dist_is, length-replicate (nodes N) (inf false)) P.base.good.source_in

  pub round_passable : Passable N.heads list starts c R.cost d₁ w
  round_passable = record {
    roads = R;
    laid = L;
    caps_size = P.base.caps_size;
    costs_size = P.base.costs_size;
    dist_size = d₁_size;
    via_size = ap length P.via_is ∙ length-replicate (nodes N) unset ∙ sym d₁_size;
  }

  module _ {d' : List Float} {w' : List ℕ} (F : Searched N.heads list starts c R.cost d₁ w d' w') where
    begins : tree d₁ w false ≡ sprout N
    begins = rw (P.dist_is, P.via_is)

    found : Found (shortest R c) d' w'
    unfolding shortest
    found = subst (λ (t : Tree). Found (search R c (nodes N) t) d' w') begins (F R L d₁_size)

    small : links N ≤ unset
    small = let s = P.base.small in let u = unset_large in omega arith

    grown : Grown N (shortest R c)
    grown = shortest_grown R P.base.good small c

    pub sink_dist : N.sink < length d'
    sink_dist = let s = grown.dist_size in let q = ap length found.dist_is in let t = P.base.sink_in in omega arith

    sink_far : (b : Bool) → infinite (get_or d' N.sink nan) ≡ b → infinite (far (shortest R c) N.sink) ≡ b
    sink_far b h = ap (λ (l : List Float). infinite (get_or l N.sink nan)) (sym found.dist_is) ∙ h

    turn_is : (b : Bool) → infinite (get_or d' N.sink nan) ≡ b → (x : Float) (k : ℕ) → turn R (shipment c x k) ≡ move N b w' (shipment c x k)
    unfolding turn
    turn_is b h x k =
        ap (λ (s : Bool). move N s (shortest R c).via (shipment c x k)) (sink_far b h) ∙ ap (λ (l : List ℕ). move N b l (shipment c x k)) (sym found.via_is)

    -- the sink is not reached
    pub round_lost : infinite (get_or d' N.sink nan) ≡ true → (x : Float) → Turned R c x None c
    unfolding move give_up
    round_lost h x k = turn_is true h x k

    module _ (h : infinite (get_or d' N.sink nan) ≡ false) where
      reached : Reached N (shortest R c) N.sink
      reached = grown.rooted N.sink P.base.sink_in (sink_far false h)

      rev_links : (e : ℕ) → e < links N → rev e < links N
      rev_links e l = let a = P.base.good.pairs in let i = rev_in e P.base.good.added (omega arith) in omega arith

      walkable : (p : List ℕ) → suc (nodes N) ≤ length p → Walkable N (shortest R c).via p
      walkable p room = record {
        back = λ v i r n.
            let s = walk_step R P.base.good small c (shortest R c) v grown i r n in
            record { link_in = s.0; rev_in = rev_links _ s.0; node_in = s.1; reached = s.2 };
        sink_in = P.base.sink_in;
        reached = reached;
        size = grown.via_size;
        room = room;
        few = P.base.laid.places;
      }

      pub round_movable : Movable N w' c
      round_movable = subst⁻¹ (λ (l : List ℕ). Movable N l c) found.via_is (record {
        walkable = walkable;
        few = P.base.laid.places;
      })

      pub round_moved : (x : Float) (r : Option Float) (e : List Float) → Moved N w' c x r e → Turned R c x r e
      round_moved x (Some y) e M = λ k. turn_is false h x k ∙ M k
      round_moved x None e M = λ k. turn_is false h x k ∙ M k

-- ---- the arrays of a round, made afresh, and the part of them that is lent

module _ (H : List ℕ) (prices : List Float) (n s t : ℕ) {starts list : List ℕ} {c : List Float} (B : Sailable (row_roads H prices n s t) starts list c) where
  pub few : n ≤ 66
  few = rw (← network_nodes H n) B.laid.places

  pub fresh_size : {A : Type 0} (x : A) → length (take n (replicate 66 x)) ≡ n
  fresh_size {A} x = take_replicate_length {A = A} n 66 x few

  made : {A : Type 0} (x : A) → take n (replicate 66 x) ≡ replicate (nodes (network H n s t)) x
  made {A} x = take_replicate {A = A} n 66 x few ∙ ap (λ (m : ℕ). replicate m x) (sym (network_nodes H n))

  pub round_ready : (far : Float) → far ≡ inf false → RoundReady (row_roads H prices n s t) starts list c (take n (replicate 66 far)) (take n (replicate 66 18446744073709551615))
  unfolding unset
  round_ready far z = record {
    base = B;
    dist_is = ap (λ (x : Float). take n (replicate 66 x)) z ∙ made (inf false);
    via_is = made 18446744073709551615;
  }

-- ---- the rounds

-- the rounds that are still to come lead from this state to the last one
pub record Shipping (R : Roads) (much : Float) (most : ℕ) (c₀ : List Float) (x₀ : Float) (c : List Float) (x : Float) (k : ℕ) : Type 0 where
  pub upto : k ≤ most
  pub size : length c ≡ length c₀
  pub same : rounds R much (most - k) (shipment c x k) ≡ rounds R much most (shipment c₀ x₀ 0)

rounds_step : (R : Roads) (much : Float) (most k : ℕ) (s : Shipment) (b : Bool) → k < most → lt much s.remaining ≡ b
    → rounds R much (most - k) s ≡ elim b as (λ z. Shipment) [ false ↦ s | true ↦ elim (turn R s) as (λ z. Shipment) [ more r ↦ rounds R much (most - (k + 1)) r | done r ↦ r ] ]
unfolding rounds
rounds_step R much most k s b h e =
    let q : most - k ≡ suc (most - (k + 1)) = omega arith in
    ap (λ (j : ℕ). rounds R much j s) q
    ∙ ap (λ (z : Bool). elim z as (λ z. Shipment) [ false ↦ s | true ↦ elim (turn R s) as (λ z. Shipment) [ more r ↦ rounds R much (most - (k + 1)) r | done r ↦ r ] ]) e

module _ {R : Roads} {much : Float} {most : ℕ} {c₀ : List Float} {x₀ : Float} where
  module _ {starts list : List ℕ} (B : Sailable R starts list c₀) where
    pub ship_ready : {c : List Float} {x : Float} {k : ℕ} → Shipping R much most c₀ x₀ c x k → Sailable R starts list c
    ship_ready I = record { good = B.good; laid = B.laid; sink_in = B.sink_in; caps_size = I.size ∙ B.caps_size; costs_size = B.costs_size; small = B.small }

  module _ {c : List Float} {x : Float} {k : ℕ} (I : Shipping R much most c₀ x₀ c x k) where
    told : (s : Shipment) → s ≡ rounds R much most (shipment c₀ x₀ 0) → Shipped (rounds R much most (shipment c₀ x₀ 0)) s.remaining s.cap
    told s q = record { remaining_is = ap (λ (r : Shipment). r.remaining) q; cap_is = ap (λ (r : Shipment). r.cap) q }

    -- all rounds are made
    pub ship_most : most ≤ k → Shipped (rounds R much most (shipment c₀ x₀ 0)) x c
    unfolding rounds
    ship_most h = told (shipment c x k) (ap (λ (j : ℕ). rounds R much j (shipment c x k)) (let q : 0 ≡ most - k = omega arith in q) ∙ I.same)

    module _ (more' : k < most) where
      -- too little remains
      pub ship_over : lt much x ≡ false → Shipped (rounds R much most (shipment c₀ x₀ 0)) x c
      ship_over h = told (shipment c x k) (sym (rounds_step R much most k (shipment c x k) false more' h) ∙ I.same)

      module _ (h : lt much x ≡ true) where
        after : (z : Turn) → turn R (shipment c x k) ≡ z
            → elim z as (λ z. Shipment) [ more r ↦ rounds R much (most - (k + 1)) r | done r ↦ r ] ≡ rounds R much most (shipment c₀ x₀ 0)
        after z e = ap (λ (y : Turn). elim y as (λ z. Shipment) [ more r ↦ rounds R much (most - (k + 1)) r | done r ↦ r ]) (sym e) ∙ sym (rounds_step R much most k (shipment c x k) true more' h) ∙ I.same

        -- the round broke off
        pub ship_broken : {d : List Float} → Turned R c x None d → Shipped (rounds R much most (shipment c₀ x₀ 0)) x d
        ship_broken {d} T = told (shipment d x (suc k)) (after (done (shipment d x (suc k))) (T k))

        pub ship_on : {y : Float} {d : List Float} → length d ≡ length c → Turned R c x (Some y) d → Shipping R much most c₀ x₀ d y (k + 1)
        ship_on {y} {d} l T = record {
          upto = omega arith;
          size = l ∙ I.size;
          same = rw (add-one k) (subst (λ (j : ℕ). rounds R much (most - j) (shipment d y (suc k)) ≡ rounds R much most (shipment c₀ x₀ 0)) (add-one k) (after (more (shipment d y (suc k))) (T k)));
        }
