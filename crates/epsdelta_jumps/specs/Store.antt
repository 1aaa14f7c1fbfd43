-- Rows in lists that are lent.
use Rattle.std.specs.Prelude.{◌≡◌, ℕ, Bool, ◌||◌, length, ltb, leb}
use Rattle.epsdelta_theory.specs.Jumps.{Jumps}
use Rattle.epsdelta_theory.proofs.RowsIn.{LaidTo, Laid}
use Rattle.epsdelta_jumps.specs.declared.store.RowStore.{RowStore}

-- the lists that are lent are the same, and as long
abbrev pub SameStore : RowStore → RowStore → Type 0
SameStore V W =
    (W.exits.ghost_name ≡ V.exits.ghost_name) × (W.starts.ghost_name ≡ V.starts.ghost_name) × (W.targets.ghost_name ≡ V.targets.ghost_name) × (W.probs.ghost_name ≡ V.probs.ghost_name)
    × (length W.exits.now ≡ length V.exits.now) × (length W.starts.now ≡ length V.starts.now) × (length W.targets.now ≡ length V.targets.now) × (length W.probs.now ≡ length V.probs.now)

-- a list is too short: a place for each of so many states, one more for the starts, and one for each of so many edges
abbrev pub cramped : ℕ → ℕ → RowStore → Bool
cramped states edges W = ltb (length W.exits.now) states || (leb (length W.starts.now) states || (ltb (length W.targets.now) edges || ltb (length W.probs.now) edges))

-- the rows of all states over what the lists held, and those of the first n
abbrev pub LaidIn : Jumps → RowStore → RowStore → Type 0
LaidIn J V W = Laid J V.exits.now V.starts.now V.targets.now V.probs.now W.exits.now W.starts.now W.targets.now W.probs.now

abbrev pub LaidInTo : Jumps → ℕ → RowStore → RowStore → Type 0
LaidInTo J n V W = LaidTo J n V.exits.now V.starts.now V.targets.now V.probs.now W.exits.now W.starts.now W.targets.now W.probs.now
