-- The search over a network that is lent, and the tree that it fills. Words of private contracts.
use Rattle.std.specs.Prelude.{◌≡◌, ℕ, Bool, List, length, Float}
use Rattle.flow_check.specs.declared.Network.{Network}
use Rattle.transport_theory.proofs.SearchRows.{Relaxable, Relaxed, Passable, Passed, Searched}
use Rattle.transport_core.specs.declared.search.Tree.{Tree}

-- these links may be tried from u, and what that leaves
abbrev pub LinksRelaxable : Network → List ℕ → List Float → ℕ → Tree → Type 0
LinksRelaxable N out c u T = Relaxable N.heads.now out c N.costs.now u T.dist.now T.via.now

abbrev pub LinksRelaxed : Network → List ℕ → List Float → ℕ → Tree → Bool → Tree → Bool → Type 0
LinksRelaxed N out c u T b T' b' = Relaxed N.heads.now out c N.costs.now u T.dist.now T.via.now b T'.dist.now T'.via.now b'

-- a search may begin, and what a pass, and the search, leave
abbrev pub TreePassable : Network → List Float → Tree → Type 0
TreePassable N c T = Passable N.heads.now N.list.now N.starts.now c N.costs.now T.dist.now T.via.now

abbrev pub TreePassed : Network → List Float → Tree → Tree → Bool → Type 0
TreePassed N c T T' b = Passed N.heads.now N.list.now N.starts.now c N.costs.now T.dist.now T.via.now T'.dist.now T'.via.now b

abbrev pub TreeSearched : Network → List Float → Tree → Tree → Type 0
TreeSearched N c T T' = Searched N.heads.now N.list.now N.starts.now c N.costs.now T.dist.now T.via.now T'.dist.now T'.via.now

-- two trees are of one size
abbrev pub same_size : Tree → Tree → Type 0
same_size T T' = (length T'.dist.now ≡ length T.dist.now) × (length T'.via.now ≡ length T.via.now)
