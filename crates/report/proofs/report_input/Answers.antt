-- The first 10,500 bytes of an input decide what is printed.
use Rattle.report.proofs.Inputs.{of_input}
use Rattle.report.proofs.report_input.Goals as goal

pub returns : goal.returns
returns c = λ input e. of_input input _ _ _ _ e c.requires c.report.ensures
