-- The cases of a text, cut out beforehand or one behind the other.
use Rattle.std.specs.Prelude.{ℕ, zero, suc, ◌+◌, ◌-◌, Bool, ◌&&◌, ◌||◌, not, cond, eqb, ltb, List, [], ◌∷◌, length, get_or, take, drop}
use Rattle.std.specs.List.{position_or_len, range_with_len}

-- ---- cut out beforehand

-- an empty line begins at i: a line feed, behind another or at the start
abbrev pub empty_at : List ℕ → ℕ → Bool
empty_at t i = eqb (get_or t i 0) 10 && (eqb i 0 || eqb (get_or t (i - 1) 0) 10)

-- how many bytes the first case has: those before the first empty line, or all
unfoldable pub first_case : List ℕ → ℕ
first_case t = position_or_len (empty_at t) (range_with_len 0 (length t))

-- the case that begins at a place; no bytes behind the text
abbrev pub case_at : List ℕ → ℕ → List ℕ
case_at t at = take (first_case (drop at t)) (drop at t)

-- where cases begin, from the one that begins at a place on: at most n of them
unfoldable pub starts_from : ℕ → ℕ → List ℕ → List ℕ
starts_from zero at t = []
starts_from (suc n) at t = cond (ltb at (length t)) (at ∷ starts_from n (at + first_case (drop at t) + 1) t) []

-- where all cases of a text begin: each has a byte, or its empty line
abbrev pub starts : List ℕ → List ℕ
starts t = starts_from (length t) 0 t

-- ---- one behind the other

-- the letters of a word that tell a kind: the first eight, the NUL bytes before them left out
unfoldable pub letters : List ℕ → List ℕ
letters w = take 8 (drop (position_or_len (λ b. not (eqb b 0)) w) w)

-- whether a text goes on in its line: its first byte, if there is one, is no line feed
abbrev pub in_line : List ℕ → Bool
in_line t = not (eqb (get_or t 0 10) 10)

-- how many bytes the first line has; at most 1,000,000
unfoldable pub line_size : List ℕ → ℕ
line_size t = position_or_len (λ b. eqb b 10) (take 1000000 t)

-- what stands behind the first line, so far, and one byte more: its line feed, where it is no longer
unfoldable pub past_line : List ℕ → List ℕ
past_line t = drop 1 (drop (line_size t) t)

-- what stands behind its first lines, up to an empty one: at most n of them
unfoldable pub past_lines : ℕ → List ℕ → List ℕ
past_lines zero t = t
past_lines (suc n) t = cond (in_line t) (past_lines n (past_line t)) t

-- what stands behind the rest of a case: its lines, and the empty one that ends it
unfoldable pub past_case : List ℕ → List ℕ
past_case t = drop 1 (past_lines 1000000 t)
