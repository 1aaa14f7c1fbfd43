-- What the exported functions on relations return, and what the bytes and references lent to them then hold.
use Rattle.std.specs.Prelude.{ℕ, Bool, true, false, Option, Result, Ok, Err, List, [], ◌∷◌, Float}
use Rattle.epsdelta.specs.Outcome as epsdelta
use Rattle.replies.specs.Answers.{number_of, present_of, value_of}

-- 0, or the refusal's number
abbrev pub of_ended : Result (Unit {0}) ℕ → ℕ
of_ended a = number_of a

-- the number returned, and what the reference then holds: 1 for related, 0 for not; a refusal keeps it
abbrev pub of_verdict : Result Bool ℕ → ℕ → List ℕ
of_verdict (Ok true) x = 0 ∷ 1 ∷ []
of_verdict (Ok false) x = 0 ∷ 0 ∷ []
of_verdict (Err k) x = k ∷ x ∷ []

-- the number returned, and what the references then hold: whether there is a least ε, and that
pub record Sought : Type 0 where
  pub number : ℕ
  pub present : ℕ
  pub epsilon : Float

-- those three
abbrev pub sought : ℕ → ℕ → Float → Sought
sought k p ε = record { number = k; present = p; epsilon = ε }

-- where there is none, ε is kept; a refusal keeps both
abbrev pub of_least : Result (Option Float) ℕ → ℕ → Float → Sought
of_least a x y = sought (number_of a) (present_of a x) (value_of a y)

-- what is told, and the bytes of the relation
pub record Left (A : Type 0) : Type 0 where
  pub told : A
  pub relation : List ℕ

-- those two
abbrev pub leaves : {A : Type 0} → A → List ℕ → Left A
leaves x store = record { told = x; relation = store }

-- the answer of `epsdelta`, and the bytes as it leaves them
abbrev pub answered : epsdelta.Outcome (Result (Unit {0}) ℕ) → Left ℕ
answered o = leaves (of_ended o.answer) o.relation

-- the answer of `epsdelta_bisimilar`, and the bytes as it leaves them
abbrev pub judged : epsdelta.Outcome (Result Bool ℕ) → ℕ → Left (List ℕ)
judged o x = leaves (of_verdict o.answer x) o.relation

-- the answer of `min_epsilon`, and the bytes as it leaves them
abbrev pub searched : epsdelta.Outcome (Result (Option Float) ℕ) → ℕ → Float → Left Sought
searched o x y = leaves (of_least o.answer x y) o.relation
