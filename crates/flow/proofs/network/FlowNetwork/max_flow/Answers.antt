-- `network::FlowNetwork::max_flow` meets its contract: the run through rows that are large enough; what is claimed of it holds of every run (Theorem).
use native.Mathlib.Omega.{arith}
use borrow.Author.Tests.{lt-leb}
use Rattle.flow_core.proofs.Theorem.{every_run}
use Rattle.flow.proofs.network.FlowNetwork.max_flow.Goals as goal

pub max_flow_with-requires : goal.max_flow_with-requires
max_flow_with-requires c = (c.if-count-le128.true, omega arith)

pub returns-then-count-le128 : goal.returns-then-count-le128
returns-then-count-le128 c = (c.max_flow_with.ensures, every_run _ _ _ _ _ _ _ _)

pub returns-then-count-gt2176 : goal.returns-then-count-gt2176
returns-then-count-gt2176 c = (rw (lt-leb _ _ c.if-count-gt2176.true), every_run _ _ _ _ _ _ _ _)

pub returns-then-count-le512 : goal.returns-then-count-le512
returns-then-count-le512 c = (c.max_flow_with-then-count-le512.ensures, every_run _ _ _ _ _ _ _ _)

pub returns : goal.returns
returns c = (c.max_flow_with-2.ensures, every_run _ _ _ _ _ _ _ _)
