-- A network of links as a flow run sees it (document 01, flow.rs): what a run does not change, and the capacities left, which it does.
use Rattle.std.specs.Prelude.{ℕ, zero, suc, ◌-◌, ◌*◌, ◌%◌, Bool, List, [], ◌∷◌, ◌++◌, length, get_or, set, replicate, Float}
use Rattle.std.specs.Float.{nan}
use Rattle.std.specs.Float.Ieee.{lt}
use Rattle.numbers.specs.Real.{eps}

-- links 2k and 2k + 1 are a link and its reverse: the other of the two
unfoldable pub rev : ℕ → ℕ
rev e = suc e - 2 * (e % 2)

-- the head node of each link, the links that leave each node in order, source and sink
pub record Net : Type 0 where
  pub heads : List ℕ
  pub lists : List (List ℕ)
  pub source : ℕ
  pub sink : ℕ

abbrev pub nodes : Net → ℕ
nodes N = length N.lists

-- added links and their reverses
abbrev pub links : Net → ℕ
links N = length N.heads

-- the node where a link ends, and the one where it starts
unfoldable pub head : Net → ℕ → ℕ
head N e = get_or N.heads e 0

abbrev pub tail : Net → ℕ → ℕ
tail N e = head N (rev e)

-- the links that leave a node, reverses included
unfoldable pub out : Net → ℕ → List ℕ
out N u = get_or N.lists u []

-- the capacity left of a link; one that is not there has none
unfoldable pub left : List Float → ℕ → Float
left c e = get_or c e nan

-- has a link more than 1e-12 left
unfoldable pub residual : List Float → ℕ → Bool
unfolding left lt
residual c e = lt eps (left c e)

-- a link goes to the end of the list of the node that it leaves
unfoldable pub enter : List (List ℕ) → ℕ → ℕ → List (List ℕ)
enter ls u e = set ls u (get_or ls u [] ++ (e ∷ []))

-- the node lists that adding the first k links in order gives
unfoldable pub node_lists : List ℕ → ℕ → ℕ → List (List ℕ)
unfolding enter rev
node_lists H n zero = replicate n []
node_lists H n (suc e) = enter (node_lists H n e) (get_or H (rev e) 0) e
