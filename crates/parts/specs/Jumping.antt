-- Jumps over the front of two lists that are lent.
use Rattle.std.specs.Prelude.{◌≡◌, ◌⊎◌, ℕ, ◌+◌, ◌-◌, ◌<◌, ◌≤◌, ◌||◌, ◌&&◌, List, [], ◌∷◌, cond, eqb, leb, min, length, take, Option, Some, None, Float}
use Rattle.std.specs.Float.{binary64}
use Rattle.std.specs.Float.Ieee.{div}
use Rattle.bisim_core.specs.Data.{Edge, Columns, columns_of}
use Rattle.bisim_core.specs.declared.wlts.Wlts.{Wlts}
use Rattle.bisim_core.specs.Model.{begins, row}
use Rattle.epsdelta_theory.specs.Jumps.{Jump, jumps_of, add_rate}
use Rattle.epsdelta_theory.proofs.RowsIn.{Readable, LaidJumps}
use Rattle.parts.specs.declared.rates.Jumps.{Jumps}

-- the jumps
abbrev pub jumps_in : Jumps → List Jump
jumps_in W = jumps_of (take W.len W.targets.now) (take W.len W.rates.now)

-- the lists that are lent are the same, and as long
abbrev pub SameLists : Jumps → Jumps → Type 0
SameLists V W = (W.targets.ghost_name ≡ V.targets.ghost_name) × (W.rates.ghost_name ≡ V.rates.ghost_name) × (length W.targets.now ≡ length V.targets.now) × (length W.rates.now ≡ length V.rates.now)

-- these jumps, over what the lists held
abbrev pub LaidOver : List Jump → Jumps → Jumps → Type 0
LaidOver js V W = LaidJumps js W.len V.targets.now V.rates.now W.targets.now W.rates.now

-- all is as it was
abbrev pub Unmoved : Jumps → Jumps → Type 0
Unmoved V W = (W.len ≡ V.len) × (W.targets.now ≡ V.targets.now) × (W.rates.now ≡ V.rates.now)

-- there is no room for a jump more
abbrev pub Full : Jumps → Type 0
Full V = (length V.targets.now ≤ V.len) ⊎ (length V.rates.now ≤ V.len)

-- the lists hold all the jumps
abbrev pub Held : Jumps → Type 0
Held V = (V.len ≤ length V.targets.now) × (V.len ≤ length V.rates.now)

-- how many jumps they have room for
abbrev pub most : Jumps → ℕ
most V = min (length V.targets.now) (length V.rates.now)

-- edge after edge, but those back to the state, while there is room for a jump more: a rate to the edge's target, off further on; the last target is 2^32 - 1
unfoldable pub add_within : ℕ → ℕ → List Edge → List Jump → List Jump
unfolding add_rate
add_within room off [] js = js
add_within room off (e ∷ es) js = add_within room off es (cond (eqb e.target e.source || leb room (length js)) js (add_rate (min (off + e.target) 4294967295) e.weight js))

-- the edges of state s, where the columns of the model have them all; else none
abbrev pub edges_here : Wlts → ℕ → List Edge
edges_here M s = cond (leb (begins (columns_of M) (s + 1)) (length M.edge_targets.now) && leb (begins (columns_of M) (s + 1)) (length M.edge_weights.now)) (row (columns_of M) s) []

-- the rows of a model can be made
abbrev pub HasRows : Wlts → Type 0
HasRows M = Readable M.shape.states M.offsets.now M.edge_targets.now M.edge_weights.now

-- so can that of one of its states, with targets that are so much further on
abbrev pub HasRow : Wlts → ℕ → ℕ → Type 0
HasRow M s off = HasRows M × (s < M.shape.states) × (off ≤ 2000)

-- how many edges a state has
abbrev pub degree : Columns → ℕ → ℕ
degree M s = begins M (s + 1) - begins M s

-- there is room for the jumps of a state's edges behind those that are there
abbrev pub HasRoom : Columns → ℕ → Jumps → Type 0
HasRoom M s V = (V.len + degree M s ≤ length V.targets.now) × (V.len + degree M s ≤ length V.rates.now)

-- a weight, divided by the number that is given
abbrev pub per : Float → Option Float → Float
per w None = w
per w (Some q) = div binary64 w q

-- an edge with its weight divided so
abbrev pub weighed : Option Float → Edge → Edge
weighed q e = record { source = e.source; label = e.label; target = e.target; weight = per e.weight q }
