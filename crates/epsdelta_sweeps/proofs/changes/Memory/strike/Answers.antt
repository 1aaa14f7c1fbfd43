use mathlib.Core.Path.{refl, ap, ◌∙◌}
use mathlib.Core.List.{List}
use Prim.Native.Nat.{ℕ, ◌+◌, ◌*◌}
use Rattle.numbers.specs.Bits.{cleared}
use Rattle.epsdelta_sweeps.specs.Place.{count}
use Rattle.epsdelta_sweeps.proofs.Words.{noted_words}
use Rattle.epsdelta_sweeps.proofs.changes.Memory.strike.Goals as goal

pub returns : goal.returns
returns c =
    let m = c.args.self.now in (
      c.clear_bit-2.ensures ∙ ap (λ (l : List ℕ). cleared l (c.args.t * count m + c.args.s)) c.clear_bit.ensures,
      noted_words (count m) m.strikes.now m.again c.args.s c.args.t c.requires.1 c.requires.2 refl,
      refl,
    )
