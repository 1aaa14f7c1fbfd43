-- What `plan` is lent: the lists that it fills. Words of contracts.
use Rattle.std.specs.Prelude.{◌≡◌, ℕ, Bool, List, map, Result}
use Rattle.numbers.specs.declared.refusal.Refusal.{Refusal}
use Rattle.numbers.specs.Refuse.{numbered}
use Rattle.build_theory.specs.declared.keys.Triple.{Triple}
use Rattle.build_theory.specs.declared.lent.Draft.{Draft}
use Rattle.build_theory.specs.declared.lent.PlanLists.{PlanLists}
use Rattle.build_theory.specs.Lent.{transitions_of}
use Rattle.build_theory.proofs.Plan.{Lists, lists, ending, planned}
use Rattle.build_theory.proofs.Steps.{rank}

-- triples as numbers
abbrev pub numbers : List Triple → List ℕ
numbers T = map (λ (t : Triple). t.0) T

abbrev pub lists_in : PlanLists → Lists
lists_in S = lists S.label_values.now (numbers S.triples.now) S.edge_weights.now

-- how the plan of a draft ends, from what the lists held
abbrev pub Planned : Draft → Bool → Result (ℕ × ℕ) Refusal → PlanLists → PlanLists → Type 0
Planned D short r S S' = ending (numbered r) (lists_in S') ≡ planned rank D.states D.initial (transitions_of D) D.given short (lists_in S)

-- the same lists are lent as before
abbrev pub same_lent : PlanLists → PlanLists → Type 0
same_lent S T = (T.label_values.ghost_name ≡ S.label_values.ghost_name) × (T.triples.ghost_name ≡ S.triples.ghost_name) × (T.edge_weights.ghost_name ≡ S.edge_weights.ghost_name)
