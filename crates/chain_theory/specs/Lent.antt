-- A chain that is lent, and what is lent for one.
use Rattle.std.specs.Prelude.{◌≡◌, ℕ, true, false, length, Option, Some, None}
use Rattle.chain_theory.specs.Columns.{ChainColumns, chain_columns, reads_row, row_targets, row_rates}
use Rattle.chain_theory.specs.declared.Chain.{Chain}
use Rattle.chain_theory.specs.declared.ChainMut.{ChainMut}
use Rattle.chain_theory.specs.declared.ChainStore.{ChainStore}
use Rattle.chain_theory.specs.declared.Row.{Row}

-- its columns
abbrev pub of_chain : Chain → ChainColumns
of_chain C = chain_columns C.offsets.now C.targets.now C.probs.now C.observations.now

abbrev pub of_chain_mut : ChainMut → ChainColumns
of_chain_mut C = chain_columns C.offsets.now C.targets.now C.probs.now C.observations.now

abbrev pub of_store : ChainStore → ChainColumns
of_store C = chain_columns C.offsets.now C.targets.now C.probs.now C.observations.now

-- the lists are those that were lent, and as long as they were
abbrev pub SameLists : ChainStore → ChainStore → Type 0
SameLists C D =
    (D.offsets.ghost_name ≡ C.offsets.ghost_name)
    × (D.targets.ghost_name ≡ C.targets.ghost_name)
    × (D.probs.ghost_name ≡ C.probs.ghost_name)
    × (D.observations.ghost_name ≡ C.observations.ghost_name)
    × (length D.offsets.now ≡ length C.offsets.now)
    × (length D.targets.now ≡ length C.targets.now)
    × (length D.probs.now ≡ length C.probs.now)
    × (length D.observations.now ≡ length C.observations.now)

-- the entries of a state, or none where they can't be read
abbrev pub RowRead : Option Row → ChainColumns → ℕ → Type 0
RowRead (Some R) C s = (reads_row C s ≡ true) × (R.targets.now ≡ row_targets C s) × (R.probs.now ≡ row_rates C s)
RowRead None C s = reads_row C s ≡ false
