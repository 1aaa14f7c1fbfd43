-- `augment`: one path of links that lead to the next level, found with a next-link mark per node, and the push along it.
use Rattle.std.specs.Prelude.{ℕ, zero, suc, ◌+◌, ◌*◌, Bool, true, false, ◌&&◌, List, [], ◌∷◌, reverse, length, get_or, set, eqb, ltb, Float}
use Rattle.std.specs.Float.{inf, binary64}
use Rattle.std.specs.Float.Ieee.{add, sub}
use Rattle.numbers.specs.Real.{nought}
use Rattle.numbers.specs.Choice
use Rattle.flow_theory.specs.Network.{rev, Net, nodes, head, tail, out, left, residual}
use Rattle.flow_theory.specs.Levels.{level_of}

-- the place of the link in u's list that is tried next
unfoldable pub mark : List ℕ → ℕ → ℕ
mark nx u = get_or nx u 0

-- u's mark goes to the next link
unfoldable pub pass_link : List ℕ → ℕ → List ℕ
unfolding mark
pass_link nx u = set nx u (suc (mark nx u))

-- does a link of u have capacity left and lead to the next level
unfoldable pub admissible : Net → List Float → List ℕ → ℕ → ℕ → Bool
unfolding residual level_of head
admissible N c L u e = residual c e && eqb (level_of L (head N e)) (suc (level_of L u))

-- ---- the path: the node where it ends so far, its links, the last first, and the marks

pub record Walk : Type 0 where
  pub at : ℕ
  pub path : List ℕ
  pub next : List ℕ

-- how the search for a path ends: with the path and the marks, or with the marks only
pub data Walked : Type 0 where
  reached : List ℕ → List ℕ → Walked
  blocked : List ℕ → Walked

pub data Move : Type 0 where
  go : Walk → Move
  stop : Walked → Move

-- a dead end: back over the last link, which its node's mark passes; at the source there is no path
unfoldable pub retreat : Net → List ℕ → List ℕ → Move
unfolding pass_link head rev
retreat N [] nx = stop (blocked nx)
retreat N (e ∷ p) nx = go (record { at = tail N e; path = p; next = pass_link nx (tail N e) })

-- along the link if it is admissible; else the mark passes it
unfoldable pub advance : Net → Bool → ℕ → Walk → Move
unfolding pass_link head
advance N true e w = go (record { at = head N e; path = e ∷ w.path; next = w.next })
advance N false e w = go (record { at = w.at; path = w.path; next = pass_link w.next w.at })

-- is there a link at the mark
unfoldable pub look : Net → List Float → List ℕ → Bool → Walk → Move
unfolding advance admissible retreat out mark
look N c L true w = let e = get_or (out N w.at) (mark w.next w.at) 0 in advance N (admissible N c L w.at e) e w
look N c L false w = retreat N w.path w.next

-- is it the sink
unfoldable pub arrive : Net → List Float → List ℕ → Bool → Walk → Move
unfolding look out mark
arrive N c L true w = stop (reached w.path w.next)
arrive N c L false w = look N c L (ltb (mark w.next w.at) (length (out N w.at))) w

unfoldable pub step : Net → List Float → List ℕ → Walk → Move
unfolding arrive
step N c L w = arrive N c L (eqb w.at N.sink) w

-- at most k steps
unfoldable pub walk : Net → List Float → List ℕ → ℕ → Walk → Walked
unfolding step
walk N c L zero w = blocked w.next
walk N c L (suc k) w = elim (step N c L w) [ go v ↦ walk N c L k v | stop r ↦ r ]

-- how many links the node lists have
unfoldable pub sizes : List (List ℕ) → ℕ
sizes [] = 0
sizes (l ∷ ls) = length l + sizes ls

-- steps enough: a mark passes a link once, and the path is left as often as it was gone along
unfoldable pub walk_fuel : Net → ℕ
unfolding sizes
walk_fuel N = suc (2 * sizes N.lists + nodes N)

-- ---- the push

-- the least of x and the capacities on the path
unfoldable pub least : List Float → Float → List ℕ → Float
unfolding Choice.smaller left
least c x [] = x
least c x (e ∷ es) = least c (Choice.smaller x (left c e)) es

-- x is taken from a link and given to its reverse
unfoldable pub push_link : Float → ℕ → List Float → List Float
unfolding left rev add sub
push_link x e c = let d = set c e (sub binary64 (left c e) x) in set d (rev e) (add binary64 (left d (rev e)) x)

unfoldable pub push_path : Float → List ℕ → List Float → List Float
unfolding push_link
push_path x [] c = c
push_path x (e ∷ es) c = push_path x es (push_link x e c)

-- what was pushed, 0 where there is no path; the capacities left, and the marks
pub record Pushed : Type 0 where
  pub amount : Float
  pub cap : List Float
  pub next : List ℕ

-- the least capacity on the path, along it from the source on
unfoldable pub push : List Float → Walked → Pushed
unfolding least push_path
push c (reached p nx) = let x = least c (inf false) (reverse p) in record { amount = x; cap = push_path x (reverse p) c; next = nx }
push c (blocked nx) = record { amount = nought; cap = c; next = nx }

unfoldable pub augment : Net → List Float → List ℕ → List ℕ → Pushed
unfolding push walk walk_fuel
augment N c L nx = push c (walk N c L (walk_fuel N) (record { at = N.source; path = []; next = nx }))
