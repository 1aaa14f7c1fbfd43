-- Where sweeps stand, and what they write.
use Rattle.std.specs.Prelude.{ℕ, zero, suc, ◌<◌, ◌≤◌, ◌+◌, ◌*◌, get_or, Bool, true, false, cond, List, [], ◌∷◌, length, ◌&&◌, ◌≡◌, ⊤, Option}
use Rattle.std.specs.Option.{MatchOption}
use Rattle.numbers.specs.Bits.{bit_at}
use Rattle.epsdelta_theory.proofs.Unchanged.{Missed}
use Rattle.flow_direct.specs.declared.reach.Ways.{Ways}
use Rattle.flow_direct.specs.declared.reach.Ways.TheVariants as ways
use Rattle.epsdelta_sweeps.specs.declared.changes.Memory.{Memory}
use Rattle.epsdelta_sweeps.specs.declared.changes.Strikes.{Strikes}

-- how many states the strikes are of
abbrev pub count : Memory → ℕ
count memory = length memory.strikes.now

-- the strikes of n states as words: two of each state, and behind them one that is 0 in the first sweep alone
unfoldable pub words : ℕ → List Strikes → Bool → List ℕ
words zero [] again = cond again 1 0 ∷ []
words zero (x ∷ l) again = []
words (suc n) [] again = []
words (suc n) (x ∷ l) again = x.recent ∷ x.before ∷ words n l again

abbrev pub words_of : ℕ → Memory → List ℕ
words_of n memory = words n memory.strikes.now memory.again

-- s and t are a pair that stands
abbrev pub Stands : Memory → ℕ → ℕ → Type 0
Stands memory s t = bit_at memory.relation.now (s * count memory + t) ≡ true

-- s stands with no state from t up to u
abbrev pub Alone : Memory → ℕ → ℕ → ℕ → Type 0
Alone memory s t u = (v : ℕ) → t ≤ v → v < u → bit_at memory.relation.now (s * count memory + v) ≡ false

-- the first state from t on that s stands with, if any does
abbrev pub Next : Memory → ℕ → ℕ → Option ℕ → Type 0
Next memory s t next = MatchOption next (Alone memory s t (count memory)) (λ u. (t ≤ u) × (u < count memory) × Stands memory s u × Alone memory s t u)

-- no strikes
abbrev pub none : Strikes
none = record { recent = 0; before = 0 }

-- none of these targets is among strikes, of s and states so many
abbrev pub Untouched : List ℕ → ℕ → Strikes → ℕ → Type 0
Untouched row states m s = (k : ℕ) → k < length row → Missed states s (get_or row k 0) m.recent m.before

-- a sweep is over: its strikes are those of the sweep before
abbrev pub Aged : List Strikes → List Strikes → Type 0
Aged old new = (length new ≡ length old) × ((u : ℕ) → u < length old → (get_or new u none).before ≡ (get_or old u none).recent)

-- the same lent bytes of a relation
abbrev pub Same : Memory → Memory → Type 0
Same old new = new.relation.ghost_name ≡ old.relation.ghost_name

-- what is known of the tests of a pair, the one forth and the one back: whether both pass, that both do where the flow is plenty, or that the first does
abbrev pub Judged : Bool → Bool → Ways → Type 0
Judged forth there (ways.Both passes) = (forth && there) ≡ passes
Judged forth there ways.Plenty = (forth ≡ true) × (there ≡ true)
Judged forth there ways.Forth = forth ≡ true
Judged forth there ways.Unknown = ⊤
