-- Each test is made where those before it let the model pass: of these the branches that join say it.
use mathlib.Core.Path.{◌≡◌, sym, ◌∙◌}
use mathlib.Core.Bool.{true, false}
use Prim.Native.Nat.{ℕ, ◌+◌, ◌≤◌, ◌<◌}
use native.Mathlib.Omega.{arith}
use borrow.Author.Tests.{tests}
use lib.ListN.{length}
use Rattle.numbers.specs.Lists.{every, all}
use Rattle.bisim_core.specs.Data.{Columns, columns_of}
use Rattle.bisim_core.specs.declared.wlts.Shape.{Shape}
use Rattle.bisim_core.specs.Model.{begins, thin, steady, edge_at, rows, sound}
use Rattle.bisim_core.proofs.Fits.{roomy, steady_is, sound_rows}
use Rattle.bisim_core.proofs.check.unfit.Goals as goal
use Rattle.bisim_core.proofs.check.unfit.Goals.{then-starts_outside, else-starts_outside, then-thin, else-thin}

-- offsets and edges can be read where the first tests pass
rows_read : (S : Shape) (M : Columns) → thin S M ≡ false → steady S M ≡ true
    → (S.states < length M.offsets) × ((s : ℕ) → s < S.states → begins M s ≤ begins M (s + 1)) × (begins M S.states ≤ length M.edge_labels) × (begins M S.states ≤ length M.edge_targets)
rows_read S M t e = let r = roomy S M t in let s = steady_is S M e in let l = s.last in (r.offsets_in, s.up, omega arith, omega arith)

sound_is : (S : Shape) (M : Columns) → steady S M ≡ true → every (λ i. sound S (edge_at M 0 i)) S.edges ≡ all (sound S) (rows M 0 S.states)
sound_is S M e = sound_rows (steady_is S M e)

pub rows_rise-requires : goal.rows_rise-requires
rows_rise-requires c = elim c.if-thin.branch [
  | then-thin w ↦ absurd cc
  | else-thin w ↦ elim c.if-starts_outside.branch [
    | then-starts_outside v ↦ absurd cc
    | else-starts_outside v ↦ rows_read c.args.model.now.shape (columns_of c.args.model.now) (sym v.thin.ensures ∙ sym v.value-is ∙ w.if-thin.false) (grind (arith, tests))
  ]
]

pub returns-then-not-sound_edges : goal.returns-then-not-sound_edges
returns-then-not-sound_edges c = let e = sound_is c.args.model.now.shape (columns_of c.args.model.now) in grind (arith, tests, e)

pub returns-else-not-sound_edges : goal.returns-else-not-sound_edges
returns-else-not-sound_edges c = let e = sound_is c.args.model.now.shape (columns_of c.args.model.now) in grind (arith, tests, e)
