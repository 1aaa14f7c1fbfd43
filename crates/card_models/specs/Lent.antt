-- The transitions of a card that are lent.
use Rattle.bisim_core.specs.Data.{Transitions, transitions}
use Rattle.card_models.specs.declared.sides.CardTransitions.{CardTransitions}

-- their columns
abbrev pub transitions_in : CardTransitions → Transitions
transitions_in T = transitions T.sources.now T.labels.now T.targets.now T.weights.now
