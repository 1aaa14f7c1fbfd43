-- Lists: numbers in a row, tests of every entry, and a result written over the front of a list.
use Rattle.std.specs.Prelude.{◌≡◌, ◌⊎◌, ℕ, zero, suc, Bool, true, ◌&&◌, List, [], ◌∷◌, ◌++◌, length, drop}

-- i, i + 1, .. : n numbers
unfoldable pub span : ℕ → ℕ → List ℕ
span i zero = []
span i (suc n) = i ∷ span (suc i) n

-- does a test hold of every number below n
unfoldable pub every : (ℕ → Bool) → ℕ → Bool
every t zero = true
every t (suc n) = t n && every t n

-- does a test hold of every entry
unfoldable pub all {ℓ} : {A : Type ℓ} → (A → Bool) → List A → Bool
all t [] = true
all t (a ∷ l) = t a && all t l

-- x is an entry of the list
abbrev pub In : {A : Type 0} → A → List A → Type 0
In x [] = ⊥
In x (y ∷ ys) = (x ≡ y) ⊎ In x ys

-- a result over the front of what was there: entries past its end keep their contents
abbrev pub over {ℓ} : {A : Type ℓ} → List A → List A → List A
over new old = new ++ drop (length new) old
