-- The strikes of all states are those of the sweep before (Noting).
use Rattle.std.proofs.Common.{refl, true}
use Rattle.epsdelta_sweeps.specs.Place.{count}
use Rattle.epsdelta_sweeps.proofs.Noting.{fades_words, fades_length}
use Rattle.epsdelta_sweeps.proofs.changes.fade.Goals as goal

pub returns : goal.returns
returns c =
    let m = c.args.memory.now in
    let A = c.age.ensures in
    (fades_words (count m) m.strikes.now _ m.again true refl A, fades_length (count m) m.strikes.now _ m.again true refl A, refl, refl)
