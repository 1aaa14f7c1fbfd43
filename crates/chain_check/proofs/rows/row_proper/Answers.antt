-- The row can be read, so that what is looked at is the entries of the state.
use Rattle.std.proofs.Common.{rules, ◌≡◌, ℕ, Bool, true, false, sym, ap₂, ◌∙◌}
use borrow.Author.Tests.{tests}
use mathlib.Core.Bool.{true≢false}
use Rattle.std.specs.Prelude.{Option, Some, None, MatchOption}
use Rattle.epsdelta_theory.specs.Jumps.{jumps_of}
use Rattle.chain_theory.specs.Columns.{ChainColumns, reads_row, entries}
use Rattle.chain_theory.specs.Lent.{RowRead, of_chain}
use Rattle.chain_theory.specs.declared.Row.{Row}
use Rattle.chain_theory.specs.Check.{proper}
use Rattle.chain_check.proofs.Checks.{reads}
use Rattle.chain_check.proofs.rows.row_proper.Goals as goal

by : {F : Row → Type 0} (C : ChainColumns) (s : ℕ) (row : Option Row) {r : Bool} → reads_row C s ≡ true → RowRead row C s → MatchOption row (r ≡ false) F
    → ((R : Row) → F R → r ≡ proper (jumps_of R.targets.now R.probs.now)) → r ≡ proper (entries C s)
by C s (Some R) y (e, t, p) m f = f R m ∙ ap₂ (λ ts ps. proper (jumps_of ts ps)) t p
by C s None y e m f = absurd (true≢false (sym y ∙ e))

pub returns : goal.returns
returns c = by (of_chain c.args.chain.now) c.args.s c.row.result (reads c.requires.1 c.args.chain.now.observations.now c.args.s c.requires.0) c.row.ensures c.is_some_and.ensures (λ R m. search (rules, tests))
