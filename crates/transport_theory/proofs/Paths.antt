-- The path that `transport` walks back: every node with a distance has a link that leads to it, and each step back leads to such a node.
use mathlib.Core.Path.{◌≡◌, refl, sym, subst, subst⁻¹, ap, ◌∙◌}
use Prim.Native.Nat.{ℕ, zero, suc, ◌≤◌, ◌<◌, ◌+◌}
use mathlib.Core.Bool.{Bool, true, false, ◌&&◌, true≢false}
use mathlib.Core.Logic.{◌≢◌, ◌⊎◌, inl, inr}
use mathlib.Core.List.{List, [], ◌∷◌}
use native.Mathlib.Omega.{arith}
use lib.ListN.{length, get_or, set, replicate, length-set, length-replicate, get_or-replicate}
use lib.Seq.{get_or-set_same, get_or-set_other}
use lib.Ieee.{Float, nan, inf, binary64, sub, lt, eq}
use borrow.Author.Tests.{ne_eqb, eq-eqb}
use Rattle.numbers.specs.Real.{nought, margin}
use Rattle.numbers.specs.Lists.{In}
use Rattle.numbers.proofs.Bools.{eq_or_ne}
use Rattle.flow_theory.specs.Network.{rev, Net, nodes, links, head, tail, out, residual}
use Rattle.flow_theory.specs.Levels.{unset}
use Rattle.flow_theory.proofs.Links.{rev_in, WellFormed}
use Rattle.transport_theory.specs.Links.{Roads}
use Rattle.transport_theory.specs.Shortest.{infinite, Tree, far, shorten, along, relax, relax_all, leave, pass, whole_pass, search, sprout, shortest, route, ends}

-- the link that leads to v
abbrev pub by : Tree → ℕ → ℕ
by t v = get_or t.via v 0

-- v is the source, or a link leads to it
abbrev pub Reached : Net → Tree → ℕ → Type 0
Reached N t v = (v ≡ N.source) ⊎ (by t v < links N)

pub record Grown (N : Net) (t : Tree) : Type 0 where
  pub dist_size : length t.dist ≡ nodes N
  pub via_size : length t.via ≡ nodes N
  pub rooted : (v : ℕ) → v < nodes N → infinite (far t v) ≡ false → Reached N t v
  pub backed : (v : ℕ) → v < nodes N → by t v < links N → (head N (by t v) ≡ v) × Reached N t (tail N (by t v))

module _ (R : Roads) (G : WellFormed R.net) (few : links R.net ≤ unset) (c : List Float) where
  abbrev N : Net
  N = R.net

  -- a tree after link e, which leads to v from a node that is reached
  abbrev grown_by : ℕ → Float → Tree → Tree
  grown_by e d t = record { dist = set t.dist (head N e) d; via = set t.via (head N e) e; changed = true }

  by_same : (e : ℕ) (d : Float) (t : Tree) → e < links N → Grown N t → by (grown_by e d t) (head N e) ≡ e
  by_same e d t h g = get_or-set_same t.via (head N e) e 0 (let s = g.via_size in let i = G.heads_in e h in omega arith)

  by_other : (e : ℕ) (d : Float) (t : Tree) (w : ℕ) → w ≢ head N e → by (grown_by e d t) w ≡ by t w
  by_other e d t w n = get_or-set_other t.via (head N e) w e 0 n

  -- what is reached stays reached
  reach_on : (e : ℕ) (d : Float) (t : Tree) → e < links N → Grown N t → (w : ℕ) → Reached N t w → Reached N (grown_by e d t) w
  reach_on e d t h g w (inl p) = inl p
  reach_on e d t h g w (inr l) = pick (eq_or_ne w (head N e))
    where
      pick : (w ≡ head N e) ⊎ (w ≢ head N e) → Reached N (grown_by e d t) w
      pick (inl p) = inr (let q : by (grown_by e d t) w ≡ e = ap (by (grown_by e d t)) p ∙ by_same e d t h g in omega arith)
      pick (inr n) = inr (let q = by_other e d t w n in omega arith)

  grown_on : (u e : ℕ) (d : Float) (t : Tree) → e < links N → tail N e ≡ u → Reached N t u → Grown N t → Grown N (grown_by e d t)
  grown_on u e d t h q r g = record {
    dist_size = length-set t.dist (head N e) d ∙ g.dist_size;
    via_size = length-set t.via (head N e) e ∙ g.via_size;
    rooted = λ v l i. root v l i (eq_or_ne v (head N e));
    backed = λ v l i. back v l i (eq_or_ne v (head N e));
  }
    where
      root : (v : ℕ) → v < nodes N → infinite (far (grown_by e d t) v) ≡ false → (v ≡ head N e) ⊎ (v ≢ head N e) → Reached N (grown_by e d t) v
      root v l i (inl p) = inr (let k : by (grown_by e d t) v ≡ e = ap (by (grown_by e d t)) p ∙ by_same e d t h g in omega arith)
      root v l i (inr n) = reach_on e d t h g v
          (g.rooted v l (subst (λ (x : Float). infinite x ≡ false) (get_or-set_other t.dist (head N e) v d nan n) i))

      back : (v : ℕ) → v < nodes N → by (grown_by e d t) v < links N → (v ≡ head N e) ⊎ (v ≢ head N e)
          → (head N (by (grown_by e d t) v) ≡ v) × Reached N (grown_by e d t) (tail N (by (grown_by e d t) v))
      back v l i (inl p) =
          let k : by (grown_by e d t) v ≡ e = ap (by (grown_by e d t)) p ∙ by_same e d t h g in
          (ap (head N) k ∙ sym p, subst⁻¹ (λ (x : ℕ). Reached N (grown_by e d t) (tail N x)) k (subst⁻¹ (Reached N (grown_by e d t)) q (reach_on e d t h g u r)))
      back v l i (inr n) =
          let k = by_other e d t v n in
          let b = g.backed v l (subst (λ (x : ℕ). x < links N) k i) in
          (ap (head N) k ∙ b.0, subst⁻¹ (λ (x : ℕ). Reached N (grown_by e d t) (tail N x)) k (reach_on e d t h g (tail N (by t v)) b.1))

  -- a tree that grows while u stays reached
  abbrev Growing : ℕ → Tree → Type 0
  Growing u t = Grown N t × Reached N t u

  relaxed : (u e : ℕ) (t : Tree) → e < links N → tail N e ≡ u → Growing u t → Growing u (relax R c u e t)
  unfolding relax shorten
  relaxed u e t h q g = pick (residual c e && lt (along R u e t) (sub binary64 (far t (head N e)) margin)) refl
    where
      pick : (b : Bool) → (residual c e && lt (along R u e t) (sub binary64 (far t (head N e)) margin)) ≡ b → Growing u (shorten b (head N e) e (along R u e t) t)
      pick true o = (grown_on u e (along R u e t) t h q g.1 g.0, reach_on e (along R u e t) t h g.0 u g.1)
      pick false o = g

  pub relaxed_all : (u : ℕ) (es : List ℕ) (t : Tree) → ((e : ℕ) → In e es → (e < links N) × (tail N e ≡ u)) → Growing u t → Growing u (relax_all R c u es t)
  unfolding relax_all
  relaxed_all u [] t l g = g
  relaxed_all u (e ∷ es) t l g = relaxed_all u es (relax R c u e t) (λ x i. l x (inr i)) (relaxed u e t (l e (inl refl)).0 (l e (inl refl)).1 g)

  pub left_node : (u : ℕ) (t : Tree) → u < nodes N → Grown N t → Grown N (leave R c (infinite (far t u)) u t)
  unfolding leave
  left_node u t h g = pick (infinite (far t u)) refl
    where
      pick : (b : Bool) → infinite (far t u) ≡ b → Grown N (leave R c b u t)
      pick true e = g
      pick false e = (relaxed_all u (out N u) t (G.listed u) (g, g.rooted u h e)).0

  pub passed : (k u : ℕ) (t : Tree) → u + k ≤ nodes N → Grown N t → Grown N (pass R c k u t)
  unfolding pass
  passed zero u t h g = g
  passed (suc k) u t h g = passed k (suc u) (leave R c (infinite (far t u)) u t) (omega arith) (left_node u t (omega arith) g)

  pub searched : (k : ℕ) (t : Tree) → Grown N t → Grown N (search R c k t)
  unfolding search whole_pass
  searched zero t g = g
  searched (suc k) t g = pick (λ s h. searched k s h) (whole_pass R c t).changed
    where
      r : Grown N (whole_pass R c t)
      r = passed (nodes N) 0 (record { dist = t.dist; via = t.via; changed = false }) (omega arith)
          (record { dist_size = g.dist_size; via_size = g.via_size; rooted = g.rooted; backed = g.backed })

      pick : ((s : Tree) → Grown N s → Grown N (search R c k s)) → (b : Bool)
          → Grown N (elim b as (λ z. Tree) [ true ↦ search R c k (whole_pass R c t) | false ↦ whole_pass R c t ])
      pick f true = f (whole_pass R c t) r
      pick f false = r

  far_away : (v : ℕ) → v < nodes N → v ≢ N.source → infinite (far (sprout N) v) ≡ true
  unfolding eq
  far_away v h n = subst⁻¹ (λ (x : Float). infinite x ≡ true)
      (get_or-set_other (replicate (nodes N) (inf false)) N.source v nought nan n ∙ get_or-replicate (nodes N) v (inf false) nan h) refl

  pub sprouted : Grown N (sprout N)
  sprouted = record {
    dist_size = length-set (replicate (nodes N) (inf false)) N.source nought ∙ length-replicate (nodes N) (inf false);
    via_size = length-replicate (nodes N) unset;
    rooted = λ v l i. pick v l i (eq_or_ne v N.source);
    backed = λ v l i. absurd (let k = get_or-replicate (nodes N) v unset 0 l in omega arith);
  }
    where
      pick : (v : ℕ) → v < nodes N → infinite (far (sprout N) v) ≡ false → (v ≡ N.source) ⊎ (v ≢ N.source) → Reached N (sprout N) v
      pick v l i (inl p) = inl p
      pick v l i (inr n) = absurd (true≢false (sym (far_away v l n) ∙ i))

  -- the tree of a round, with which the walk begins
  pub shortest_grown : Grown N (shortest R c)
  unfolding shortest
  shortest_grown = searched (nodes N) (sprout N) sprouted

  -- one step of the walk: the link is there, and its tail is reached
  pub walk_step : (t : Tree) (v : ℕ) → Grown N t → v < nodes N → Reached N t v → v ≢ N.source → (by t v < links N) × (tail N (by t v) < nodes N) × Reached N t (tail N (by t v))
  walk_step t v g h (inl p) n = absurd (n p)
  walk_step t v g h (inr l) n =
      (l, G.heads_in (rev (by t v)) (let p = G.pairs in let i = rev_in (by t v) G.added (omega arith) in omega arith), (g.backed v h l).1)

-- ---- the walk back

module _ (N : Net) (via : List ℕ) where
  -- the node before v
  abbrev pub prior : ℕ → ℕ
  prior v = tail N (get_or via v 0)

  pub route_step : (k v : ℕ) → v ≢ N.source → route N via (suc k) v ≡ get_or via v 0 ∷ route N via k (prior v)
  unfolding route
  route_step k v n = ap (λ (b : Bool). elim b as (λ z. List ℕ) [ true ↦ [] | false ↦ get_or via v 0 ∷ route N via k (prior v) ]) (ne_eqb v N.source n)

  pub route_home : (k v : ℕ) → v ≡ N.source → route N via k v ≡ []
  unfolding route
  route_home zero v e = refl
  route_home (suc k) v e = ap (λ (b : Bool). elim b as (λ z. List ℕ) [ true ↦ [] | false ↦ get_or via v 0 ∷ route N via k (prior v) ]) (eq-eqb v N.source e)

  pub ends_step : (k v : ℕ) → v ≢ N.source → ends N via (suc k) v ≡ ends N via k (prior v)
  unfolding ends
  ends_step k v n = ap (λ (b : Bool). elim b as (λ z. ℕ) [ true ↦ v | false ↦ ends N via k (prior v) ]) (ne_eqb v N.source n)

  pub ends_home : (k v : ℕ) → v ≡ N.source → ends N via k v ≡ v
  unfolding ends
  ends_home zero v e = refl
  ends_home (suc k) v e = ap (λ (b : Bool). elim b as (λ z. ℕ) [ true ↦ v | false ↦ ends N via k (prior v) ]) (eq-eqb v N.source e)
