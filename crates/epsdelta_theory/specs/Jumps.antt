-- Two models side by side: the exit rate and the jumps of every state, as `Jumps::union` of epsdelta.rs has them.
use Rattle.std.specs.Prelude.{ℕ, ◌+◌, Bool, true, false, List, [], ◌∷◌, ◌++◌, map, length, get_or, eqb, ltb, Float}
use Rattle.std.specs.Float.{binary64}
use Rattle.std.specs.Float.Ieee.{add, div}
use Rattle.numbers.specs.Real.{nought, sum}
use Rattle.bisim_core.specs.Data.{Edge}

-- a jump target, and the rate at which it is jumped to, or that rate divided by the exit rate
pub record Jump : Type 0 where
  pub target : ℕ
  pub rate : Float

-- jumps from a list of targets and a list of rates
unfoldable pub jumps_of : List ℕ → List Float → List Jump
jumps_of [] ws = []
jumps_of (t ∷ ts) [] = []
jumps_of (t ∷ ts) (w ∷ ws) = record { target = t; rate = w } ∷ jumps_of ts ws

-- ---- the rates of a state: edges in order, equal targets joined by adding, by rising target

-- a rate to t: added where the next jump has the same target, else put before it
unfoldable pub add_here : Bool → ℕ → Float → Jump → List Jump → List Jump
unfolding add
add_here true t w j js = record { target = j.target; rate = add binary64 j.rate w } ∷ js
add_here false t w j js = record { target = t; rate = w } ∷ j ∷ js

-- a rate to t among jumps that rise by target
unfoldable pub add_rate : ℕ → Float → List Jump → List Jump
unfolding add_here
add_rate t w [] = record { target = t; rate = w } ∷ []
add_rate t w (j ∷ js) = elim (ltb j.target t) [ true ↦ j ∷ add_rate t w js | false ↦ add_here (eqb j.target t) t w j js ]

-- an edge; a self-loop is ignored; off is the number of its model's state 0 in the union
unfoldable pub add_edge : Bool → ℕ → Edge → List Jump → List Jump
unfolding add_rate
add_edge true off e js = js
add_edge false off e js = add_rate (off + e.target) e.weight js

-- edge after edge
unfoldable pub add_edges : ℕ → List Edge → List Jump → List Jump
unfolding add_edge
add_edges off [] js = js
add_edges off (e ∷ es) js = add_edges off es (add_edge (eqb e.target e.source) off e js)

-- ---- the exit rate, and each rate divided by it

-- the targets alone
abbrev pub targets : List Jump → List ℕ
targets js = map (λ (j : Jump). j.target) js

-- the rates alone
abbrev pub rates : List Jump → List Float
rates js = map (λ (j : Jump). j.rate) js

-- a jump with its rate divided by the exit rate x
abbrev pub divided : Float → Jump → Jump
divided x j = record { target = j.target; rate = div binary64 j.rate x }

-- a state: its exit rate, the sum of its rates, and its jumps with their divided rates
pub record Row : Type 0 where
  pub exit : Float
  pub prob : List Jump

-- the row of a state with edges es
unfoldable pub row : ℕ → List Edge → Row
unfolding add_edges sum div
row off es = let js = add_edges off es [] in let x = sum (rates js) in record { exit = x; prob = map (divided x) js }

-- a row for each state
abbrev pub Jumps : Type 0
Jumps = List Row

-- the states of the right model are numbered after the left's
unfoldable pub union : List (List Edge) → List (List Edge) → Jumps
unfolding row
union L R = map (row 0) L ++ map (row (length L)) R

-- what is read past the last state
abbrev pub no_row : Row
no_row = record { exit = nought; prob = [] }

-- the exit rate of state s
unfoldable pub exit : Jumps → ℕ → Float
exit J s = (get_or J s no_row).exit

-- its jumps
unfoldable pub prob : Jumps → ℕ → List Jump
prob J s = (get_or J s no_row).prob
