-- The path that `augment` finds: links one after the other from the source to the sink, each with more than 1e-12 left and to the next level.
use mathlib.Core.Path.{◌≡◌, refl, sym, subst, ap, ◌∙◌}
use mathlib.Core.Logic.{◌≢◌, inl, inr}
use mathlib.Core.Bool.{Bool, true, false}
use Prim.Native.Nat.{ℕ, zero, suc, ◌≤◌, ◌<◌, ◌+◌}
use mathlib.Core.List.{List, [], ◌∷◌, ◌++◌, reverse, reverse-cons}
use native.Mathlib.Omega.{arith}
use lib.Dec.{eqb, ltb}
use lib.ListN.{length, get_or}
use lib.Ieee.{Float}
use borrow.Author.Tests.{eqb-true, ltb-true}
use Rattle.numbers.specs.Lists.{In}
use Rattle.numbers.proofs.Members.{Apart, in_at}
use Rattle.flow_theory.specs.Network.{rev, Net, links, head, tail, out, residual}
use Rattle.flow_theory.specs.Levels.{level_of}
use Rattle.flow_theory.specs.Augment.{mark, admissible, Walk, Walked, reached, blocked, Move, go, stop, retreat, advance, look, arrive, step, walk}
use Rattle.flow_theory.proofs.Links.{WellFormed}
use Rattle.flow_theory.proofs.Paths.{admissible_t}
use Rattle.flow_theory.proofs.Pushes.{Up, up_rev}
use Rattle.flow_duality.proofs.Cuts.{Chain}

-- the link of a path that leads to u
pub record Leg (N : Net) (c : List Float) (L : List ℕ) (u e : ℕ) : Type 0 where
  pub to : head N e ≡ u
  pub known : e < links N
  pub on : residual c e ≡ true
  pub higher : level_of L u ≡ suc (level_of L (tail N e))

-- a path from the source to u, the last link first
abbrev pub Route : Net → List Float → List ℕ → List ℕ → ℕ → Type 0
Route N c L [] u = u ≡ N.source
Route N c L (e ∷ p) u = Leg N c L u e × Route N c L p (tail N e)

abbrev pub Came : Net → List Float → List ℕ → Walked → Type 0
Came N c L (reached p nx) = Route N c L p N.sink
Came N c L (blocked nx) = Unit {0}

abbrev Gone : Net → List Float → List ℕ → Move → Type 0
Gone N c L (go w) = Route N c L w.path w.at
Gone N c L (stop r) = Came N c L r

module _ (N : Net) (G : WellFormed N) (c : List Float) (L : List ℕ) where
  tried : (w : Walk) (e : ℕ) → In e (out N w.at) → Route N c L w.path w.at → (b : Bool) → admissible N c L w.at e ≡ b → Gone N c L (advance N b e w)
  unfolding advance
  tried w e i P true t =
      let (l, from) = G.listed w.at e i in
      let (on, up) = admissible_t N c L w.at e t in
      (record { to = refl; known = l; on = on; higher = up ∙ ap (λ (u : ℕ). suc (level_of L u)) (sym from) }, subst (Route N c L w.path) (sym from) P)
  tried w e i P false t = P

  back : (p nx : List ℕ) (u : ℕ) → Route N c L p u → Gone N c L (retreat N p nx)
  unfolding retreat
  back [] nx u P = tt
  back (e ∷ p) nx u P = P.1

  looked : (w : Walk) → Route N c L w.path w.at → (b : Bool) → ltb (mark w.next w.at) (length (out N w.at)) ≡ b → Gone N c L (look N c L b w)
  unfolding look
  looked w P true t =
      let e = get_or (out N w.at) (mark w.next w.at) 0 in
      tried w e (in_at (out N w.at) (mark w.next w.at) 0 (ltb-true _ _ t)) P (admissible N c L w.at e) refl
  looked w P false t = back w.path w.next w.at P

  arrived : (w : Walk) → Route N c L w.path w.at → (b : Bool) → eqb w.at N.sink ≡ b → Gone N c L (arrive N c L b w)
  unfolding arrive
  arrived w P true t = subst (Route N c L w.path) (eqb-true _ _ t) P
  arrived w P false t = looked w P (ltb (mark w.next w.at) (length (out N w.at))) refl

  stepped : (w : Walk) → Route N c L w.path w.at → Gone N c L (step N c L w)
  unfolding step
  stepped w P = arrived w P (eqb w.at N.sink) refl

  pub walked : (k : ℕ) (w : Walk) → Route N c L w.path w.at → Came N c L (walk N c L k w)
  unfolding walk
  walked zero w P = tt
  walked (suc k) w P = pick (λ v Q. walked k v Q) (step N c L w) (stepped w P)
    where
      pick : ((v : Walk) → Route N c L v.path v.at → Came N c L (walk N c L k v)) → (m : Move) → Gone N c L m
          → Came N c L (elim m as (λ x. Walked) [ go v ↦ walk N c L k v | stop r ↦ r ])
      pick r (go v) Q = r v Q
      pick r (stop s) Q = Q

  -- ---- its links

  pub route_links : (p : List ℕ) (u : ℕ) → Route N c L p u → (e : ℕ) → In e p → (e < links N) × (residual c e ≡ true) × Up N L e
  route_links (a ∷ p) u P e (inl q) = rw q (P.0.known, P.0.on, ap (level_of L) P.0.to ∙ P.0.higher)
  route_links (a ∷ p) u P e (inr i) = route_links p (tail N a) P.1 e i
  route_links [] u P e x'' = elim x'' [ ]

  route_below : (p : List ℕ) (u : ℕ) → Route N c L p u → (e : ℕ) → In e p → level_of L (head N e) ≤ level_of L u
  route_below (a ∷ p) u P e (inl q) = let t : level_of L (head N e) ≡ level_of L u = ap (λ (x : ℕ). level_of L (head N x)) q ∙ ap (level_of L) P.0.to in omega arith
  route_below (a ∷ p) u P e (inr i) = let r = route_below p (tail N a) P.1 e i in let h = P.0.higher in omega arith
  route_below [] u P e x'' = elim x'' [ ]

  pub route_apart : (p : List ℕ) (u : ℕ) → Route N c L p u → Apart p
  route_apart [] u P = tt
  route_apart (a ∷ p) u P =
      (λ i. below a i refl, route_apart p (tail N a) P.1)
    where
      below : (y : ℕ) → In y p → y ≡ a → ⊥
      below y i q =
          let r = route_below p (tail N a) P.1 y i in
          let t : level_of L (head N y) ≡ level_of L u = ap (λ (x : ℕ). level_of L (head N x)) q ∙ ap (level_of L) P.0.to in
          let h = P.0.higher in
          omega arith

  -- no link of it is another's reverse
  pub route_one_way : (p : List ℕ) (u : ℕ) → Route N c L p u → (y : ℕ) → In y p → (e : ℕ) → In e p → y ≢ rev e
  route_one_way p u P y i e j q =
      let a = (route_links p u P y i).2 in
      let b = up_rev N L e (subst (Up N L) q a) in
      let h = (route_links p u P e j).2 in
      omega arith

  -- as many links as levels
  pub route_length : (p : List ℕ) (u : ℕ) → Route N c L p u → level_of L u ≡ length p + level_of L N.source
  route_length [] u P = let h = ap (level_of L) P in omega arith
  route_length (e ∷ p) u P = let r = route_length p (tail N e) P.1 in let h = P.0.higher in omega arith

  -- ---- from the source on

  chain_on : (ps : List ℕ) (u v e : ℕ) → Chain N u ps v → tail N e ≡ v → Chain N u (ps ++ (e ∷ [])) (head N e)
  chain_on [] u v e C t = (t ∙ sym C, refl)
  chain_on (a ∷ ps) u v e (s, C) t = (s, chain_on ps (head N a) v e C t)

  pub route_chain : (p : List ℕ) (u : ℕ) → Route N c L p u → Chain N N.source (reverse p) u
  route_chain [] u P = sym P
  route_chain (e ∷ p) u P =
      subst (λ (l : List ℕ). Chain N N.source l u) (sym (reverse-cons e p))
      (subst (Chain N N.source (reverse p ++ (e ∷ []))) P.0.to (chain_on (reverse p) N.source (tail N e) e (route_chain p (tail N e) P.1) refl))
