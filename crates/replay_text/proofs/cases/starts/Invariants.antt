-- What is found and what is found from here on are all; a turn takes a case off the text.
use Rattle.std.specs.Prelude.{◌≡◌, ◌≤◌, ◌-◌, ◌++◌, length}
use Rattle.replay_text.specs.Cases.{starts, starts_from}
use Rattle.replay_text.proofs.cases.starts.Given as goal

abbrev pub invariant-loop-at : goal.invariant-loop-at
invariant-loop-at l = (length l.starts.items ≤ l.at) × (l.starts.items ++ starts_from (length l.text - length l.starts.items) l.at l.text ≡ starts l.text)

abbrev pub decreases-loop-at : goal.decreases-loop-at
decreases-loop-at l = length l.text - l.at
