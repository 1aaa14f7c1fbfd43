-- What a function that writes a text returns, and what the reference lent to it then holds.
use Rattle.std.specs.Prelude.{ℕ, List, [], ◌∷◌, Result}
use Rattle.replies.specs.Answers.{number_of, held}

-- 0 and the bytes written; or the refusal's number and what the reference held before
abbrev pub of_text : Result ℕ ℕ → ℕ → List ℕ
of_text a x = number_of a ∷ held a x ∷ []
