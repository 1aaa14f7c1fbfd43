-- Chains of kantorovich.rs: the common rate of two models, a model made a chain at a rate, and observations scaled to 0 to 1.
use Rattle.std.specs.Prelude.{ℕ, suc, Bool, true, false, List, [], ◌∷◌, ◌++◌, map, length, take, eqb, Float}
use Rattle.std.specs.Float.{inf, binary64}
use Rattle.std.specs.Float.Ieee.{sub, div, lt}
use Rattle.numbers.specs.Real.{nought, one, margin, sum}
use Rattle.numbers.specs.Choice.{choose, smaller, larger}
use Rattle.bisim_core.specs.Data.{Edge}
use Rattle.epsdelta_theory.specs.Jumps.{Jump, add_rate, add_edges}

-- the entries of each state by rising target, the rate of each its probability; an observation of each state; and a state
pub record Chain : Type 0 where
  pub rows : List (List Jump)
  pub observations : List Float
  pub initial : ℕ

-- ---- the exit rate of a state: the weights of its edges but self-loops, added in their order

abbrev pub counted : Bool → Float → List Float → List Float
counted true w ws = ws
counted false w ws = w ∷ ws

unfoldable pub leaving : List Edge → List Float
leaving [] = []
leaving (e ∷ es) = counted (eqb e.target e.source) e.weight (leaving es)

unfoldable pub exit_rate : List Edge → Float
unfolding leaving sum
exit_rate es = sum (leaving es)

-- the greatest number of a list, x if none is greater
unfoldable pub greatest_from : Float → List Float → Float
unfolding larger
greatest_from x [] = x
greatest_from x (y ∷ ys) = greatest_from (larger x y) ys

-- the greatest exit rate of a model, 0 where nothing moves
unfoldable pub greatest_exit : List (List Edge) → Float
unfolding exit_rate greatest_from
greatest_exit M = greatest_from nought (map exit_rate M)

-- the greatest exit rate of both models, or 1 if nothing moves
abbrev pub or_one : Float → Float
or_one q = choose (lt nought q) q one

unfoldable pub common_rate : List (List Edge) → List (List Edge) → Float
unfolding greatest_exit larger lt
common_rate L R = or_one (larger (greatest_exit L) (greatest_exit R))

-- ---- the chain of a model at rate q

-- an edge with its weight divided by q
abbrev pub divided_edge : Float → Edge → Edge
divided_edge q e = record { source = e.source; label = e.label; target = e.target; weight = div binary64 e.weight q }

-- what is left to stay: 1 less the exit rate divided by q
abbrev pub stay : Float → Float → Float
stay q exit = sub binary64 one (div binary64 exit q)

abbrev pub staying : Bool → ℕ → Float → List Jump → List Jump
staying true s x row = add_rate s x row
staying false s x row = row

-- each weight divided, equal targets joined by rising target, and what is left to stay, if it is above 1e-15
unfoldable pub chain_row : Float → ℕ → List Edge → List Jump
unfolding exit_rate add_edges add_rate sub div lt
chain_row q s es = let x = stay q (exit_rate es) in staying (lt margin x) s x (add_edges 0 (map (divided_edge q) es) [])

-- the rows of the states from s on
unfoldable pub chain_rows : Float → ℕ → List (List Edge) → List (List Jump)
unfolding chain_row
chain_rows q s [] = []
chain_rows q s (es ∷ M) = chain_row q s es ∷ chain_rows q (suc s) M

-- a model at rate q, with an observation of each state and an initial state
unfoldable pub uniformise : List (List Edge) → Float → List Float → ℕ → Chain
unfolding chain_rows
uniformise M q seen s = record { rows = chain_rows q 0 M; observations = take (length M) seen; initial = s }

-- ---- observations: one least and one greatest over both chains

-- the least number of a list, x if none is less
unfoldable pub least_from : Float → List Float → Float
unfolding smaller
least_from x [] = x
least_from x (y ∷ ys) = least_from (smaller x y) ys

-- how far above the least, divided by the difference; 0 where that is not above 0
abbrev pub scaled : Float → Float → Float → Float
scaled lo scale x = choose (lt nought scale) (div binary64 (sub binary64 x lo) scale) nought

-- the difference, and the observations of both chains scaled by it
pub record Scaled : Type 0 where
  pub scale : Float
  pub left : List Float
  pub right : List Float

unfoldable pub normalise : List Float → List Float → Scaled
unfolding least_from greatest_from sub div lt
normalise a b =
    let lo = least_from (inf false) (a ++ b) in
    let scale = sub binary64 (greatest_from (inf true) (a ++ b)) lo in
    record { scale = scale; left = map (scaled lo scale) a; right = map (scaled lo scale) b }
