-- The levels of a phase: a search from the source over links with more than 1e-12 left, by a queue.
use Rattle.std.specs.Prelude.{ℕ, zero, suc, Bool, true, false, ◌&&◌, List, [], ◌∷◌, ◌++◌, get_or, set, replicate, eqb, Float}
use Rattle.flow_theory.specs.Network.{Net, nodes, head, out, residual}

-- no level
unfoldable pub unset : ℕ
unset = 18446744073709551615

unfoldable pub level_of : List ℕ → ℕ → ℕ
unfolding unset
level_of L v = get_or L v unset

-- the levels set so far, and the nodes whose links are still to be looked at, first in first out
pub record Search : Type 0 where
  pub level : List ℕ
  pub queue : List ℕ

unfoldable pub set_level : Bool → ℕ → ℕ → Search → Search
set_level true v l s = record { level = set s.level v l; queue = s.queue ++ (v ∷ []) }
set_level false v l s = s

-- a link of u with capacity left whose head has no level gives it the next one
unfoldable pub visit : Net → List Float → ℕ → ℕ → Search → Search
unfolding set_level head residual level_of unset
visit N c u e s = set_level (residual c e && eqb (level_of s.level (head N e)) unset) (head N e) (suc (level_of s.level u)) s

-- the links of u, in order
unfoldable pub scan : Net → List Float → ℕ → List ℕ → Search → Search
unfolding visit
scan N c u [] s = s
scan N c u (e ∷ es) s = scan N c u es (visit N c u e s)

-- node after node, until the queue is empty: at most k nodes
unfoldable pub bfs : Net → List Float → ℕ → List ℕ → List ℕ → List ℕ
unfolding scan out
bfs N c zero L q = L
bfs N c (suc k) L [] = L
bfs N c (suc k) L (u ∷ q) = let s = scan N c u (out N u) (record { level = L; queue = q }) in bfs N c k s.level s.queue

-- every level is unset but the source's, which is 0; no node is queued twice
unfoldable pub levels : Net → List Float → List ℕ
unfolding bfs unset
levels N c = bfs N c (nodes N) (set (replicate (nodes N) unset) N.source 0) (N.source ∷ [])
