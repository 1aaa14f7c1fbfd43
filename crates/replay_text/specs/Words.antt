-- What the text of a case says: words between single blanks and line feeds, numbers by their digits.
use Rattle.std.specs.Prelude.{ℕ, zero, suc, ◌+◌, ◌*◌, ◌-◌, ◌^◌, ◌%◌, Bool, ◌&&◌, ◌||◌, not, cond, eqb, ltb, leb, min, List, [], ◌∷◌, length, get_or, take, drop, Option, Some, None, Float}
use Rattle.std.specs.List.{position_or_len}
use Rattle.std.specs.Option.{unwrap_or, is_some}
use lib.Ieee.{binary64, of_bits, nan}

-- a byte of a word: neither a line feed nor a blank
abbrev pub in_word : ℕ → Bool
in_word b = not (eqb b 10) && not (eqb b 32)

-- how many bytes the first word has; at most 32
unfoldable pub word_size : List ℕ → ℕ
word_size t = position_or_len (λ b. not (in_word b)) (take 32 t)

abbrev pub first_word : List ℕ → List ℕ
first_word t = take (word_size t) t

-- what stands behind the n bytes of a word: the byte that ends it is passed, if it is one that does
unfoldable pub past : ℕ → List ℕ → List ℕ
past n t = cond (eqb n 0 || in_word (get_or t 0 10)) t (drop 1 t)

abbrev pub past_word : List ℕ → List ℕ
past_word t = past (word_size t) (drop (word_size t) t)

-- the digit that a byte is, to that base: 0 to 9, a to f
unfoldable pub digit_of : ℕ → ℕ → Option ℕ
digit_of base b = below (cond (ltb 47 b && ltb b 58) (b - 48) (cond (ltb 96 b && ltb b 103) (b - 97 + 10) base))
  where
    below : ℕ → Option ℕ
    below x = cond (ltb x base) (Some x) None

-- a number with a digit more, below 2 ^ 64
abbrev pub grown : ℕ → Option ℕ → Option ℕ → Option ℕ
grown base None d = None
grown base (Some x) None = None
grown base (Some x) (Some d) = cond (ltb (x * base + d) (2 ^ 64)) (Some (x * base + d)) None

-- the number that has these bits; every NaN is one
unfoldable pub float_of : ℕ → Float
float_of n = cond (ltb 0x7ff0000000000000 (n % 2 ^ 63)) nan (of_bits binary64 n)

-- the n values that stand in a text one behind the other, and what stands behind them: `value` says one, `next` what stands behind it
unfoldable pub values : {A : Type 0} → (List ℕ → A) → (List ℕ → List ℕ) → ℕ → List ℕ → List A
values value next zero t = []
values value next (suc n) t = value t ∷ values value next n (next t)

unfoldable pub behind : (List ℕ → List ℕ) → ℕ → List ℕ → List ℕ
behind next zero t = t
behind next (suc n) t = behind next n (next t)

-- what a field of one word says
abbrev pub field_word : List ℕ → List ℕ
field_word t = first_word (past_word t)

-- the digit of 16 that a text begins with, 0 where there is none, and what stands behind it
unfoldable pub hex : List ℕ → ℕ
hex t = unwrap_or (digit_of 16 (get_or t 0 0)) 0

unfoldable pub past_hex : List ℕ → List ℕ
past_hex t = cond (is_some (digit_of 16 (get_or t 0 0))) (drop 1 t) t

-- a byte of two digits
abbrev pub pair : List ℕ → ℕ
pair t = hex t * 16 + hex (past_hex t)

abbrev pub past_pair : List ℕ → List ℕ
past_pair t = past_hex (past_hex t)

-- what stands behind n bytes of two digits: the word that they make has ended, where there are any
unfoldable pub closed : ℕ → List ℕ → List ℕ
closed n t = cond (ltb 0 n) (past 1 t) t

-- ---- a value is a whole word

-- the number that digits make after those of x; none where one is no digit, or it has over 64 bits
unfoldable pub digits_from : ℕ → Option ℕ → List ℕ → Option ℕ
digits_from base x [] = x
digits_from base x (b ∷ bs) = digits_from base (grown base x (digit_of base b)) bs

abbrev pub digits : ℕ → List ℕ → Option ℕ
digits base bs = digits_from base (Some 0) bs

-- the whole number that a word is, or none for `-`; 0 for what is neither
unfoldable pub whole_or_none : List ℕ → Option ℕ
whole_or_none w = cond (eqb (length w) 1 && eqb (get_or w 0 0) 45) None (Some (unwrap_or (digits 10 w) 0))

-- the whole number that a word is; 0 where it is none
unfoldable pub whole : List ℕ → ℕ
whole w = unwrap_or (whole_or_none w) 0

-- one of 32 bits; 0 where it has more
unfoldable pub short : List ℕ → ℕ
short w = cond (ltb (whole w) (2 ^ 32)) (whole w) 0

-- the number whose 16 digits a word is; 0 where it has not so many, or one is none
unfoldable pub real : List ℕ → Float
real w = float_of (unwrap_or (cond (eqb (length w) 16) (digits 16 w) None) 0)

-- one of 8 bits; 0 where it has more
unfoldable pub byte : List ℕ → ℕ
byte w = cond (ltb (short w) 256) (short w) 0

-- how many values a field says that it has, behind its name; 0 where there is no room for them
unfoldable pub field_size : ℕ → List ℕ → ℕ
field_size room t = cond (leb (whole (first_word (past_word t))) room) (whole (first_word (past_word t))) 0

-- the values of a field of words, and what stands behind it
abbrev pub listed : {A : Type 0} → (List ℕ → A) → ℕ → List ℕ → List A
listed said room t = values (λ u. said (first_word u)) past_word (field_size room t) (past_word (past_word t))

abbrev pub past_list : ℕ → List ℕ → List ℕ
past_list room t = behind past_word (field_size room t) (past_word (past_word t))

-- what stands behind a field of one word
abbrev pub past_field : List ℕ → List ℕ
past_field t = past_word (past_word t)

-- the bytes of a field, and what stands behind it
abbrev pub bytes : ℕ → List ℕ → List ℕ
bytes room t = values pair past_pair (field_size room t) (past_field t)

abbrev pub past_bytes : ℕ → List ℕ → List ℕ
past_bytes room t = closed (field_size room t) (behind past_pair (field_size room t) (past_field t))

-- where list k of a built model stands: behind four fields of one word, which are its shape, and k lists
abbrev pub list_at : ℕ → List ℕ → List ℕ
list_at k t = behind (past_list 2112) k (past_field (past_field (past_field (past_field t))))

-- ---- a value is what a text goes on with, as far as it can be read

-- the number that digits make after those of x; where one is no digit, or it has over 64 bits then, it begins anew behind that, with 0
unfoldable pub next_digits_from : ℕ → ℕ → List ℕ → ℕ
next_digits_from base x [] = x
next_digits_from base x (b ∷ bs) = next_digits_from base (unwrap_or (grown base (Some x) (digit_of base b)) 0) bs

abbrev pub next_digits : ℕ → List ℕ → ℕ
next_digits base bs = next_digits_from base 0 bs

-- what stands for an absent number
abbrev pub absent : ℕ
absent = 2 ^ 64 - 1

-- whether a text begins with `-`
abbrev pub begins_absent : List ℕ → Bool
begins_absent t = eqb (get_or t 0 0) 45

-- the whole number that a text begins with, and what stands behind it: `-` is an absent one, and is passed alone
unfoldable pub next_whole : List ℕ → ℕ
next_whole t = cond (begins_absent t) absent (next_digits 10 (first_word t))

unfoldable pub past_whole : List ℕ → List ℕ
past_whole t = cond (begins_absent t) (past 1 (drop 1 t)) (past_word t)

-- one of 32 bits; 0 where it has more
unfoldable pub next_short : List ℕ → ℕ
next_short t = cond (ltb (next_whole t) (2 ^ 32)) (next_whole t) 0

-- one of 8 bits; 0 where it has more
unfoldable pub next_byte : List ℕ → ℕ
next_byte t = cond (ltb (next_short t) 256) (next_short t) 0

-- the number whose bits the first word's digits are, and what stands behind it: what ends a word is passed behind 16 digits alone
unfoldable pub next_real : List ℕ → Float
next_real t = float_of (next_digits 16 (first_word t))

unfoldable pub past_bits : ℕ → List ℕ → List ℕ
past_bits n t = cond (eqb n 16) (past 16 t) t

abbrev pub past_real : List ℕ → List ℕ
past_real t = past_bits (word_size t) (drop (word_size t) t)

-- what stands behind a field of one whole number
abbrev pub past_next_field : List ℕ → List ℕ
past_next_field t = past_whole (past_word t)

-- how many values a field says that it has, behind its name; 0 where there is no room for them
unfoldable pub next_field_size : ℕ → List ℕ → ℕ
next_field_size room t = cond (leb (next_whole (past_word t)) room) (next_whole (past_word t)) 0

-- the values of a field, and what stands behind it
abbrev pub next_listed : {A : Type 0} → (List ℕ → A) → (List ℕ → List ℕ) → ℕ → List ℕ → List A
next_listed value next room t = values value next (next_field_size room t) (past_next_field t)

abbrev pub past_next_list : (List ℕ → List ℕ) → ℕ → List ℕ → List ℕ
past_next_list next room t = behind next (next_field_size room t) (past_next_field t)

-- the bytes of a field, and what stands behind it
abbrev pub next_bytes : ℕ → List ℕ → List ℕ
next_bytes room t = values pair past_pair (next_field_size room t) (past_next_field t)

abbrev pub past_next_bytes : ℕ → List ℕ → List ℕ
past_next_bytes room t = closed (next_field_size room t) (behind past_pair (next_field_size room t) (past_next_field t))

-- where list k of a built model stands: behind the four fields that are its shape, and k lists of whole numbers
abbrev pub next_list_at : ℕ → List ℕ → List ℕ
next_list_at k t = behind (past_next_list past_whole 2112) k (past_next_field (past_next_field (past_next_field (past_next_field t))))

-- the room that is left behind k lists of whole numbers, which have room for so many together, and where the next stands
unfoldable pub room_left : ℕ → ℕ → List ℕ → ℕ
room_left zero room t = room
room_left (suc k) room t = room_left k (room - next_field_size (min room 2112) t) (past_next_list past_whole (min room 2112) t)

unfoldable pub within_at : ℕ → ℕ → List ℕ → List ℕ
within_at zero room t = t
within_at (suc k) room t = within_at k (room - next_field_size (min room 2112) t) (past_next_list past_whole (min room 2112) t)

-- list k of them
abbrev pub list_within : ℕ → ℕ → List ℕ → List ℕ
list_within k room t = next_listed next_short past_whole (min (room_left k room t) 2112) (within_at k room t)
