-- Rows that stand in lists: an exit rate for each state, where its jumps start, and the targets and divided rates of all jumps. The words of the contracts of the code that relates them.
use Prim.Native.Nat.{ℕ, ◌+◌}
use mathlib.Core.Bool.{Bool, true, false, ◌&&◌}
use mathlib.Core.List.{List, map}
use lib.Dec.{leb, ltb}
use lib.Ieee.{Float, nan}
use lib.ListN.{length, get_or, take}
use lib.Seq.{slice}
use Rattle.numbers.specs.Lists.{span, every, over}
use Rattle.numbers.specs.Bits.{packed}
use Rattle.epsdelta_theory.specs.Relation.{relation_bytes}
use Rattle.epsdelta_theory.specs.Jumps.{Jumps, Row, jumps_of}
use Rattle.epsdelta_theory.specs.Epsdelta.{given_rows, epsdelta}
use Rattle.epsdelta_theory.proofs.TasksIn.{RowsFit}
use Rattle.flow_links.specs.declared.rows.Rows.{Rows}
use Rattle.flow_links.specs.Fits.{row_fits}

-- the entries of state s, from starts[s] up to starts[s + 1]
abbrev pub entries {ℓ} : {A : Type ℓ} → List ℕ → List A → ℕ → List A
entries starts l s = slice (get_or starts s 0) (get_or starts (s + 1) 0) l

-- its row
abbrev pub row_at : List Float → List ℕ → List ℕ → List Float → ℕ → Row
row_at exits starts targets probs s = record { exit = get_or exits s nan; prob = jumps_of (entries starts targets s) (entries starts probs s) }

-- how many states rows are of
abbrev pub states_of : Rows → ℕ
states_of R = length R.exits.now

-- rows that a flow test takes, lent
abbrev pub Fitting : Rows → Type 0
Fitting R = RowsFit (states_of R) R.starts.now R.targets.now R.probs.now

-- the rows of n states
unfoldable pub rows_in : ℕ → List Float → List ℕ → List ℕ → List Float → Jumps
unfolding span
rows_in n exits starts targets probs = map (row_at exits starts targets probs) (span 0 n)

-- its entries are there, and a flow test takes its row
abbrev pub row_stands : List ℕ → List ℕ → List Float → ℕ → Bool
row_stands starts targets probs s =
    leb (get_or starts s 0) (get_or starts (s + 1) 0)
    && (leb (get_or starts (s + 1) 0) (length targets) && (leb (get_or starts (s + 1) 0) (length probs) && row_fits (entries starts targets s) (entries starts probs s)))

-- at most 2,000 states, each with an exit rate, with a class and such a row each, and bytes for their relation
abbrev pub readable : List ℕ → List Float → List ℕ → List ℕ → List Float → ℕ → Bool
readable classes exits starts targets probs bytes =
    let n = length exits in
    leb n 2000 && (leb n (length classes) && (ltb n (length starts) && (leb (relation_bytes n) bytes && every (row_stands starts targets probs) n)))

-- the relation of `epsdelta`, as entries for each ordered pair
abbrev pub relation_in : ℕ → List ℕ → List Float → List ℕ → List ℕ → List Float → Float → Float → List Bool
relation_in n classes exits starts targets probs ε ρ = (epsdelta (given_rows (rows_in n exits starts targets probs) (take n classes) ε ρ)).relation

-- it over the first bytes if the lists are readable; else the bytes as they were
abbrev pub written : Bool → List Bool → List ℕ → List ℕ
written true R store = over (packed R) store
written false R store = store
