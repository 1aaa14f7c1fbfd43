-- What an exported function returns, and what the references lent to it then hold, for each case of an answer: 0 and the answer's numbers,
-- or the refusal's number and what the references held before. An answer 'absent' is told by 0 in the first of them, its second kept.
use Rattle.std.specs.Prelude.{ℕ, Bool, true, false, eqb, Option, Some, None, Result, Ok, Err, List, [], ◌∷◌}
use Rattle.bisim_core.specs.declared.ids.StateId.{StateId}
use Rattle.bisim_core.specs.declared.ids.LabelId.{LabelId}
use Rattle.bisim_core.specs.declared.wlts.Shape.{Shape}

-- no state, or s
abbrev pub absent_if : Bool → ℕ → Option StateId
absent_if true s = None
absent_if false s = Some (record { 0 = s })

-- an initial state by two numbers: none where the first is 0
abbrev pub initial : ℕ → ℕ → Option StateId
initial present s = absent_if (eqb present 0) s

-- a model's counts and initial state
abbrev pub shape : ℕ → ℕ → ℕ → Option StateId → Shape
shape s e l i = record { states = s; edges = e; labels = l; initial = i }

-- 0, or the refusal's number
abbrev pub number_of : {A : Type 0} → Result A ℕ → ℕ
number_of (Ok v) = 0
number_of (Err k) = k

-- what a reference then holds: the value, or after a refusal what it held before
abbrev pub held : {A : Type 0} → Result A ℕ → A → A
held (Ok v) x = v
held (Err k) x = x

-- whether there is a value: 1 or 0, or after a refusal what was held before
abbrev pub present_of : {A : Type 0} → Result (Option A) ℕ → ℕ → ℕ
present_of (Ok (Some v)) x = 1
present_of (Ok None) x = 0
present_of (Err k) x = x

-- the value if there is one, else what was held before
abbrev pub value_of : {A : Type 0} → Result (Option A) ℕ → A → A
value_of (Ok (Some v)) x = v
value_of (Ok None) x = x
value_of (Err k) x = x

-- id, and the number of labels then in use
abbrev pub of_interned : Result (LabelId × ℕ) ℕ → ℕ → ℕ → List ℕ
of_interned (Ok a) x y = 0 ∷ a.0.0 ∷ a.1 ∷ []
of_interned (Err k) x y = k ∷ x ∷ y ∷ []

-- present, id
abbrev pub of_found : Result (Option LabelId) ℕ → ℕ → ℕ → List ℕ
of_found (Ok (Some l)) x y = 0 ∷ 1 ∷ l.0 ∷ []
of_found (Ok None) x y = 0 ∷ 0 ∷ y ∷ []
of_found (Err k) x y = k ∷ x ∷ y ∷ []

-- label value
abbrev pub of_resolved : Result ℕ ℕ → ℕ → List ℕ
of_resolved a x = number_of a ∷ held a x ∷ []

-- count
abbrev pub of_counted : Result ℕ ℕ → ℕ → List ℕ
of_counted a x = number_of a ∷ held a x ∷ []

-- present, state
abbrev pub of_start : Result (Option StateId) ℕ → ℕ → ℕ → List ℕ
of_start (Ok (Some s)) x y = 0 ∷ 1 ∷ s.0 ∷ []
of_start (Ok None) x y = 0 ∷ 0 ∷ y ∷ []
of_start (Err k) x y = k ∷ x ∷ y ∷ []

-- from, to
abbrev pub of_successors : Result (ℕ × ℕ) ℕ → ℕ → ℕ → List ℕ
of_successors (Ok (f, t)) x y = 0 ∷ f ∷ t ∷ []
of_successors (Err k) x y = k ∷ x ∷ y ∷ []

-- edges, labels
abbrev pub of_built : Result Shape ℕ → ℕ → ℕ → List ℕ
of_built (Ok S) x y = 0 ∷ S.edges ∷ S.labels ∷ []
of_built (Err k) x y = k ∷ x ∷ y ∷ []
