-- `sweeps::passed_forth` meets its contract: the test back is known, or asked for (Resuming).
use mathlib.Core.Path.{refl, ◌∙◌}
use native.Mathlib.Omega.{arith}
use Rattle.epsdelta_sweeps.proofs.Resuming.{forth_passes, back_passes, back_fails, moves_then}
use Rattle.epsdelta_sweeps.proofs.sweeps.passed_forth.Goals as goal

pub returns-in-None : goal.returns-in-None
returns-in-None c = (λ H f. rw c.ask.ensures (forth_passes c.requires.0.0 c.args.at.struck H f), refl)

pub returns-in-Some-true : goal.returns-in-Some-true
returns-in-Some-true c = (λ H f. let M = forth_passes c.requires.0.0 c.args.at.struck H f in moves_then M (omega arith) (back_passes c.requires.0.0 c.args.at.struck M.held (λ R e. c.in-Some-true.ensures R e ∙ c.in-Some-true.field-0-test)), refl)

pub returns-in-Some-false : goal.returns-in-Some-false
returns-in-Some-false c =
    let S = rw c.requires.1.1 at c.strike.ensures in (
      λ H f.
          let M = forth_passes c.requires.0.0 c.args.at.struck H f in
          moves_then M (omega arith) (back_fails c.requires.0.0 c.args.at.struck M.held (λ R e. c.in-Some-false.ensures R e ∙ c.in-Some-false.field-0-test) S.0 S.1),
      S.2,
    )
