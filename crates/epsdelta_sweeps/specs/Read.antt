-- What is read of rows that are lent: flow_links' words of their lists.
use Rattle.std.specs.Prelude.{ℕ, Bool, List}
use Rattle.epsdelta_theory.specs.declared.tolerances.Tolerances.{Tolerances}
use Rattle.flow_links.proofs.RowsRead as read
use Rattle.flow_links.specs.declared.rows.Rows.{Rows}

-- the jumps of state s are there, and a flow test takes its row
abbrev pub stands_in : Rows → ℕ → Bool
stands_in R s = read.row_stands R.starts.now R.targets.now R.probs.now s

-- the lists hold rows of at most 2,000 states, with a class each, and so many bytes are enough for their relation
abbrev pub readable : Rows → List ℕ → ℕ → Bool
readable R classes bytes = read.readable classes R.exits.now R.starts.now R.targets.now R.probs.now bytes

-- the relation of the states with these rows and classes
abbrev pub relation_in : Rows → List ℕ → Tolerances → List Bool
relation_in R classes T = read.relation_in (read.states_of R) classes R.exits.now R.starts.now R.targets.now R.probs.now T.epsilon T.rho
