-- The entries that count are cut off the column, as many as there are.
use mathlib.Core.Path.{ap, ◌∙◌}
use mathlib.Core.List.{List}
use Prim.Native.Nat.{ℕ}
use lib.Dec.{ltb}
use lib.ListN.{take}
use Rattle.std.proofs.lemmas.List.{take_min}
use Rattle.numbers.specs.Lists.{all}
use Rattle.build_theory.proofs.all_below.Goals as goal

pub returns : goal.returns
returns c =
    let column = c.args.column.now in
    let low : List ℕ → _ = all (λ x. ltb x c.args.draft.now.states) in
    c.all_below.ensures ∙ ap (λ (k : ℕ). low (take k column)) c.min.ensures ∙ ap low (take_min c.args.draft.now.given column)
