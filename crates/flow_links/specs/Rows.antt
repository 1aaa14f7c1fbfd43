-- Rows that links are written into, and the links of a flow test as they are written.
use Rattle.std.specs.Prelude.{◌≡◌, ℕ, ◌+◌, ◌*◌, ◌≤◌, List, length, get_or}
use Rattle.epsdelta_theory.specs.FlowTest.{Link}
use Rattle.epsdelta_theory.proofs.LinkRows.{Added, Free, cross_row, cross_rows, row_links}
use Rattle.flow_links.specs.declared.links.LinkRows.{LinkRows}
use Rattle.flow_links.specs.declared.rows.Test.{Test}

-- the same lent slices
abbrev pub Same : LinkRows → LinkRows → Type 0
Same old new = (new.heads.ghost_name ≡ old.heads.ghost_name) × (new.caps.ghost_name ≡ old.caps.ghost_name)

-- room for these links from the next place on
abbrev pub Room : LinkRows → List Link → Type 0
Room R ls = Free R.heads.now R.caps.now R.next (length ls)

-- these links were written there
abbrev pub Wrote : List Link → LinkRows → LinkRows → Type 0
Wrote ls R S = Added ls R.heads.now R.caps.now R.next S.heads.now S.caps.now S.next

-- the nodes of a test are few, and its states
abbrev pub Bounded : Test → Type 0
Bounded T = (length T.left.targets.now + length T.right.targets.now ≤ 65) × (T.states ≤ 2000)

-- the links from the left target at a place to the right ones that are related with it
abbrev pub crosses_at : Test → ℕ → List Link
crosses_at T i = cross_row T.relation.now (get_or T.left.targets.now i 0 * T.states) i (length T.left.targets.now) T.right.targets.now

-- those from all left targets
abbrev pub crosses : Test → List Link
crosses T = cross_rows T.relation.now T.states 0 (length T.left.targets.now) T.left.targets.now T.right.targets.now

-- all links
abbrev pub links : Test → List Link
links T = row_links T.relation.now T.states T.left.targets.now T.left.rates.now T.right.targets.now T.right.rates.now
