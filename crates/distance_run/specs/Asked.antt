-- What a run of two chains that are lent answers, and what it leaves in the lists that it takes as scratch.
use Rattle.std.specs.Prelude.{◌≡◌, ℕ, Bool, Result, length, take}
use Rattle.chain_theory.specs.Columns.{ChainColumns, chain_columns}
use Rattle.chain_theory.specs.Lent.{of_chain}
use Rattle.chain_theory.specs.declared.Chain.{Chain}
use Rattle.chain_theory.specs.declared.ChainShape.{ChainShape}
use Rattle.distance_theory.specs.declared.Goal.{Goal}
use Rattle.distance_theory.specs.declared.lent.Pairs.{Pairs}
use Rattle.distance_theory.specs.declared.lent.Scratch.{Scratch}
use Rattle.distance_values.specs.declared.visits.Policy.{Policy}
use Rattle.distance_words.specs.declared.told.Accounted.{Accounted}
use Rattle.distance_words.proofs.Found.{account_of}
use Rattle.distance_words.specs.Told.{Told, Ran, ran_as}
use Rattle.distance_words.proofs.Run.{runnable, ran_of}
use Rattle.distance_run.specs.declared.question.Question.{Question}

-- what is told, and the lists
abbrev pub ran_in : Told → Scratch → Ran
ran_in t s = ran_as t s.lefts.now s.rights.now s.codes.now s.places.now s.masses.now

-- by the definition
abbrev pub ran_with : ChainShape → ChainColumns → ChainShape → ChainColumns → Goal → Scratch → Ran
ran_with HL CL HR CR g s = ran_of HL CL HR CR g.gamma g.options s.lefts.now s.rights.now s.codes.now s.places.now s.masses.now

abbrev pub ran_on : Question → Scratch → Ran
ran_on q s = ran_with q.left.shape (of_chain q.left) q.right.shape (of_chain q.right) q.goal s

-- whether it can be run
abbrev pub runnable_in : Question → ℕ → ℕ → ℕ → Bool
runnable_in q l r c = runnable q.left.shape (of_chain q.left) q.right.shape (of_chain q.right) q.goal.options.top l r c

-- the same chain, with as many observations as it has states
abbrev pub Seen : Chain → Chain → Type 0
Seen a b = (b.shape ≡ a.shape) × (of_chain b ≡ chain_columns a.offsets.now a.targets.now a.probs.now (take a.shape.states a.observations.now))

-- how the distance of these pairs arises, from their couplings
abbrev pub account_in : Pairs → Question → Policy → Result Accounted ℕ
account_in P q y = account_of (length P.lefts.now) P.lefts.now P.rights.now q.left.observations.now q.right.observations.now y.store.starts.now y.store.lengths.now y.store.places.now y.store.masses.now y.gamma q.goal.options
