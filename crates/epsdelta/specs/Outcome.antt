-- What `epsdelta` answers, and what it leaves in the bytes of the relation.
use Rattle.std.specs.Prelude.{◌≡◌, ℕ, zero, suc, ◌+◌, ◌<◌, ◌≤◌, Bool, Result, Ok, Err, List, length, Float}
use Rattle.numbers.specs.Bits.{packed}
use Rattle.numbers.specs.Lists.{over}
use Rattle.numbers.specs.Refuse.{numbered}
use Rattle.numbers.specs.declared.refusal.Refusal.{Refusal}
use Rattle.bisim_core.specs.Data.{Columns}
use Rattle.bisim_core.specs.declared.wlts.Shape.{Shape}
use Rattle.epsdelta_theory.specs.Refusal.{tolerances_outside, later_refusal, relation_refusal, epsdelta_refusal}
use Rattle.epsdelta_theory.specs.Epsdelta.{given, epsdelta}
use Rattle.epsdelta.specs.declared.asked.Settings.{Settings}
use Rattle.epsdelta.specs.Sides.{of_sides}

-- the answer of an entry, and the bytes
pub record Outcome (A : Type 0) : Type 0 where
  pub answer : A
  pub relation : List ℕ

abbrev pub ends : {A : Type 0} → A → List ℕ → Outcome A
ends a store = record { answer = a; relation = store }

-- the final relation over the first bytes, or the number of the check that failed and the bytes as they were
abbrev pub settled : ℕ → List ℕ → List Bool → Outcome (Result (Unit {0}) ℕ)
settled zero store R = ends (Ok tt) (over (packed R) store)
settled (suc r) store R = ends (Err (suc r)) store

-- lists of such lengths are long enough for two models that pass their checks
abbrev pub Roomy : Shape → Shape → ℕ → ℕ → ℕ → ℕ → ℕ → Type 0
Roomy SL SR exits starts targets probs classes =
    SL.states + SR.states ≤ 2000 → SL.edges ≤ 4096 → SR.edges ≤ 4096
    → (SL.states + SR.states ≤ exits) × (SL.states + SR.states < starts) × (SL.edges + SR.edges ≤ targets) × (SL.edges + SR.edges ≤ probs) × (SL.states + SR.states ≤ classes)

-- whether 8 fails, two models handed in, classes, ε, ρ and the bytes lent for the relation
abbrev pub outcome_unless : Bool → Shape → Columns → Shape → Columns → List ℕ → List ℕ → Float → Float → List ℕ → Outcome (Result (Unit {0}) ℕ)
outcome_unless fails8 SL ML SR MR cl cr ε ρ store = settled (relation_refusal fails8 (tolerances_outside ε ρ) SL ML SR MR cl cr (length store)) store (epsdelta (given SL ML SR MR cl cr ε ρ)).relation

-- the same of what is asked
abbrev pub outcome_of : Settings → List ℕ → Outcome (Result (Unit {0}) ℕ)
outcome_of S store = of_sides (outcome_unless S.absent) S.sides.now S.tolerances.epsilon S.tolerances.rho store

-- an answer, and what it leaves of the bytes, are so
abbrev pub AnswersTo : Settings → List ℕ → Result (Unit {0}) Refusal → List ℕ → Type 0
AnswersTo S old answer new = ends (numbered answer) new ≡ outcome_of S old

-- checks 7 to 10
abbrev pub later_of : Settings → ℕ → ℕ
later_of S bytes =
    let B = S.sides.now in
    later_refusal S.absent (tolerances_outside S.tolerances.epsilon S.tolerances.rho) B.left.model.shape.states B.right.model.shape.states (length B.left.classes.now) (length B.right.classes.now) bytes

-- `epsdelta` asks for no initial state
abbrev pub outcome : Shape → Columns → Shape → Columns → List ℕ → List ℕ → Float → Float → List ℕ → Outcome (Result (Unit {0}) ℕ)
outcome SL ML SR MR cl cr ε ρ store = settled (epsdelta_refusal SL ML SR MR cl cr ε ρ (length store)) store (epsdelta (given SL ML SR MR cl cr ε ρ)).relation
