-- What is printed for a card: the line of what refuses it, or the report of the relation of its two models.
use Rattle.std.specs.Prelude.{Bool, true, false, ◌&&◌, ◌||◌, not, List, [], ◌∷◌, ◌++◌, map, ℕ, eqb, ltb, length}
use Rattle.numbers.specs.Refuse.{check}
use Rattle.numbers.specs.Lists.{span, all}
use Rattle.bisim_core.specs.Data.{Edge, Transitions, transitions}
use Rattle.build_theory.specs.Edges.{edges}
use Rattle.epsdelta_theory.specs.Jumps.{union}
use Rattle.epsdelta_theory.specs.Epsdelta.{Given, rates_close, given_rows, epsdelta}
use Rattle.epsdelta_theory.specs.Refusal.{tolerances_outside}
use Rattle.epsdelta_theory.specs.Claim.{final}
use Rattle.card_layout.specs.Card.{Transition, Side, Card}
use Rattle.card_layout.specs.Lists.{weight_of}
use Rattle.card_report.specs.Report.{report}
use Rattle.card_relation.specs.Relating.{parts, text_of}

-- ---- a model: the edges of each state

-- the transitions given
abbrev pub given_of : Side → Transitions
given_of s = transitions (map (λ (m : Transition). m.source) s.transitions) (map (λ (m : Transition). m.label) s.transitions) (map (λ (m : Transition). m.target) s.transitions) (map weight_of s.transitions)

-- what `build` makes of them
abbrev pub edges_of : Side → List Edge
edges_of s = edges (given_of s) (length s.transitions)

abbrev pub chosen : Bool → Edge → List Edge → List Edge
chosen true a rest = a ∷ rest
chosen false a rest = rest

-- those that leave state s
unfoldable pub leaving : ℕ → List Edge → List Edge
leaving s [] = []
leaving s (a ∷ rest) = chosen (eqb a.source s) a (leaving s rest)

-- the model
unfoldable pub model_of : Side → List (List Edge)
unfolding leaving edges span
model_of s = map (λ x. leaving x (edges_of s)) (span 0 (length s.classes))

-- ---- what is refused once the card is read

-- source and target are below the state count n
abbrev pub inside : ℕ → Transition → Bool
inside n m = ltb m.source n && ltb m.target n

-- 4: a state number that is not below the model's state count
abbrev pub stray : Side → Bool
stray s = not (ltb s.initial (length s.classes)) || not (all (inside (length s.classes)) s.transitions)

-- the first of checks 4 and 9 that fails, each over the whole card; 0 if neither does
unfoldable pub card_refusal : Card → ℕ
unfolding all
card_refusal c = check 4 (stray c.left || stray c.right) (check 9 (tolerances_outside (parts c.epsilon) (parts c.rho)) 0)

-- ---- what is printed

-- what `epsdelta` is given: both models, their classes, ε and ρ
unfoldable pub card_given : Card → Given
unfolding union model_of rates_close
card_given c = given_rows (union (model_of c.left) (model_of c.right)) (c.left.classes ++ c.right.classes) (parts c.epsilon) (parts c.rho)

-- the line of what refuses the card, or the report of the final relation
unfoldable pub card_text : Card → List ℕ
unfolding card_refusal card_given epsdelta report
card_text c = text_of (card_refusal c) (report (final (card_given c)) (length c.left.classes) (length c.right.classes))
