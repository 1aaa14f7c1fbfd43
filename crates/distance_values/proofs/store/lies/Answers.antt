-- Where the coupling ends in both lists, the last test is the definition's.
use mathlib.Core.Path.{◌≡◌, sym, ap, ◌∙◌}
use mathlib.Core.Bool.{Bool, true≢false}
use mathlib.Core.List.{List}
use Prim.Native.Nat.{ℕ, ◌+◌, ◌-◌}
use native.Mathlib.Omega.{arith}
use lib.ListN.{length, get_or, take, drop}
use borrow.Author.Tests.{le-leb, lt-leb}
use Rattle.numbers.specs.Lists.{all}
use Rattle.distance_theory.proofs.Held.{part_is}
use Rattle.distance_words.proofs.Readable.{below}
use Rattle.distance_values.proofs.store.lies.Goals as goal
use Rattle.distance_values.proofs.store.lies.Goals.{then-to-store, else-to-store}

pub returns-then-to-store-2 : goal.returns-then-to-store-2
returns-then-to-store-2 c =
    let S = c.args.store.now in
    let f : ℕ = get_or S.starts.now c.args.k 0 in
    let t : ℕ = f + get_or S.lengths.now c.args.k 0 in
    let low : List ℕ → Bool = all (below c.args.n) in
    let h : c.all_below.result ≡ low (take (t - f) (drop f S.places.now)) = c.all_below.ensures in
    elim c.if-to-store.branch [
      | then-to-store w ↦
          rw (le-leb t (length S.places.now) w.if-to-store.true, sym w.value-is ∙ c.if-to-store-2.true)
          (h ∙ ap low (part_is f t S.places.now (omega arith)))
      | else-to-store w ↦ absurd (true≢false (sym c.if-to-store-2.true ∙ w.value-is ∙ lt-leb t (length S.places.now) w.if-to-store.false))
    ]
