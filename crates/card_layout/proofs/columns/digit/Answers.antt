use Rattle.std.proofs.Common.{arith}
use Rattle.std.proofs.lemmas.Grind.{common_steps}
use Rattle.std.proofs.lemmas.Option.{gets}
use Rattle.card_layout.specs.Layout.{digit}
use Rattle.card_layout.proofs.columns.digit.Goals as goal

pub returns : goal.returns
unfolding digit
returns c = grind (arith, common_steps, gets)
