-- Bellman-Ford of `transport`: a shortest path from the source over links with more than 1e-12 left.
use Rattle.std.specs.Prelude.{ℕ, zero, suc, Bool, true, false, ◌&&◌, ◌||◌, List, [], ◌∷◌, get_or, set, replicate, eqb, Float}
use Rattle.std.specs.Float.{nan, inf, binary64}
use Rattle.std.specs.Float.Ieee.{add, sub, lt, eq}
use Rattle.numbers.specs.Real.{nought, margin}
use Rattle.flow_theory.specs.Network.{Net, nodes, head, tail, out, residual, rev}
use Rattle.flow_theory.specs.Levels.{unset}
use Rattle.transport_theory.specs.Links.{Roads}

abbrev pub infinite : Float → Bool
infinite x = eq x (inf false) || eq x (inf true)

-- the distance of each node, the link that leads to it, and whether this pass has changed anything
pub record Tree : Type 0 where
  pub dist : List Float
  pub via : List ℕ
  pub changed : Bool

abbrev pub far : Tree → ℕ → Float
far t v = get_or t.dist v nan

unfoldable pub shorten : Bool → ℕ → ℕ → Float → Tree → Tree
shorten true v e d t = record { dist = set t.dist v d; via = set t.via v e; changed = true }
shorten false v e d t = t

-- how far it is over u along e
unfoldable pub along : Roads → ℕ → ℕ → Tree → Float
unfolding add
along R u e t = add binary64 (far t u) (get_or R.cost e nan)

-- a link of u with capacity left leads to its head if that is shorter by more than 1e-15
unfoldable pub relax : Roads → List Float → ℕ → ℕ → Tree → Tree
unfolding shorten along residual head lt sub
relax R c u e t = let v = head R.net e in shorten (residual c e && lt (along R u e t) (sub binary64 (far t v) margin)) v e (along R u e t) t

-- the links of u, in order
unfoldable pub relax_all : Roads → List Float → ℕ → List ℕ → Tree → Tree
unfolding relax
relax_all R c u [] t = t
relax_all R c u (e ∷ es) t = relax_all R c u es (relax R c u e t)

-- a node that is not reached yet is passed over
unfoldable pub leave : Roads → List Float → Bool → ℕ → Tree → Tree
unfolding relax_all out
leave R c true u t = t
leave R c false u t = relax_all R c u (out R.net u) t

-- k nodes, u and on, in node order
unfoldable pub pass : Roads → List Float → ℕ → ℕ → Tree → Tree
unfolding leave eq
pass R c zero u t = t
pass R c (suc k) u t = pass R c k (suc u) (leave R c (infinite (far t u)) u t)

-- all nodes
unfoldable pub whole_pass : Roads → List Float → Tree → Tree
unfolding pass
whole_pass R c t = pass R c (nodes R.net) 0 (record { dist = t.dist; via = t.via; changed = false })

-- at most k passes, up to one that changes nothing
unfoldable pub search : Roads → List Float → ℕ → Tree → Tree
unfolding whole_pass
search R c zero t = t
search R c (suc k) t = let r = whole_pass R c t in elim r.changed [ true ↦ search R c k r | false ↦ r ]

-- every distance is infinite but the source's, which is 0, and no link leads anywhere
abbrev pub sprout : Net → Tree
sprout N = record { dist = set (replicate (nodes N) (inf false)) N.source nought; via = replicate (nodes N) unset; changed = false }

unfoldable pub shortest : Roads → List Float → Tree
unfolding search unset
shortest R c = search R c (nodes R.net) (sprout R.net)

-- ---- the path, from v back to the source: at most k links

unfoldable pub route : Net → List ℕ → ℕ → ℕ → List ℕ
unfolding head rev
route N via zero v = []
route N via (suc k) v = elim (eqb v N.source) [ true ↦ [] | false ↦ get_or via v 0 ∷ route N via k (tail N (get_or via v 0)) ]

-- where it ends: not at the source if rounding made a cycle
unfoldable pub ends : Net → List ℕ → ℕ → ℕ → ℕ
unfolding head rev
ends N via zero v = v
ends N via (suc k) v = elim (eqb v N.source) [ true ↦ v | false ↦ ends N via k (tail N (get_or via v 0)) ]
