-- Sweeps that can be left at a place and resumed there: the words of the contracts of their code.
-- A place is the pair (s, t) whose turn it is. Where the code asks, it waits there for how a flow test of that pair ended: the one from s to t, or the one back.
use mathlib.Core.Path.{◌≡◌}
use Prim.Native.Nat.{ℕ, ◌+◌, ◌-◌, ◌*◌, ◌≤◌, ◌<◌}
use mathlib.Core.Bool.{Bool, true, false, not}
use mathlib.Core.List.{List}
use lib.Ieee.{Float}
use lib.ListN.{length}
use Rattle.std.specs.Prelude.{Option, IfSome}
use Rattle.numbers.specs.Bits.{packed, unpack, bit_at}
use Rattle.numbers.proofs.Bools.{one_if}
use Rattle.epsdelta_theory.specs.Sweeps.{Task, Run, after_back, after_forth, sweep_row, sweep_rows, sweeps}
use Rattle.epsdelta_theory.proofs.Pairs.{count}
use Rattle.epsdelta_theory.proofs.TasksIn.{SweepsIn, Stored, test_in}
use Rattle.epsdelta_theory.proofs.Unchanged.{Noted}
use Rattle.flow_duality.proofs.Plenty.{Plenty, Even}

-- ---- what the definition still does

-- the turns of s with t and on
abbrev pub row_from : ℕ → ℕ → Task → ℕ → Run → Run
row_from n s Q t y = sweep_row Q (n - t) s t y

-- the lower states s and on
abbrev pub rows_from : ℕ → Task → ℕ → Run → Run
rows_from n Q s y = sweep_rows Q (n - s) s y

-- after a sweep: at most k more if it struck
abbrev pub ending : Bool → Task → ℕ → Run → Run
ending true Q k y = sweeps Q k y
ending false Q k y = y

-- from the turn of (s, t) to the end of the run
abbrev pub from_turn : ℕ → Task → ℕ → ℕ → ℕ → Run → Run
from_turn n Q k s t y = let w = rows_from n Q (s + 1) (row_from n s Q t y) in ending w.struck Q k w

-- from the run y at a place the definition comes to z: from the turn of its pair, or from how the test ended that is asked for
abbrev pub Resumes : ℕ → Task → Run → ℕ → ℕ → ℕ → Bool → Bool → Run → Type 0
Resumes n Q z k s t false back y = from_turn n Q k s t y ≡ z
Resumes n Q z k s t true false y = from_turn n Q k s (t + 1) (after_forth Q (Q.test y.relation s t) s t y) ≡ z
Resumes n Q z k s t true true y = from_turn n Q k s (t + 1) (after_back Q (Q.test y.relation t s) s t y) ≡ z

-- some run is stored from which the definition comes to z, and its sweeps do not run out
pub record At (n : ℕ) (Q : Task) (z : Run) (store : List ℕ) (s t : ℕ) (back struck asks : Bool) : Type 0 where
  pub run : Run
  pub more : ℕ
  pub stored : Stored run store struck
  pub last : count run.relation + one_if struck ≤ more
  pub rest : Resumes n Q z more s t asks back run

-- ---- what holds of the memory at a place

-- the bytes of a relation over n states, and how many pairs stand in them
abbrev pub Bytes : ℕ → List ℕ → Type 0
Bytes n store = (R : List Bool) × (store ≡ packed R) × (length R ≡ n * n)

unfoldable pub standing : ℕ → List ℕ → ℕ
standing n store = count (unpack store (n * n) 0)

-- a pair whose test is asked for stands, and where that is the test back, the other passed
pub record Asked (n : ℕ) (S T : List ℕ) (P : List Float) (need : Float) (store : List ℕ) (s t : ℕ) (back : Bool) : Type 0 where
  pub apart : s < t
  pub inside : t < n
  pub stands : bit_at store (s * n + t) ≡ true
  pub forth : back ≡ true → (R : List Bool) → store ≡ packed R → test_in n S T P need R s t ≡ true

-- the bytes are those of a symmetric relation, the words note the strikes before the turn of (s, t), and so much flow is plenty, if any is
pub record Held (n : ℕ) (E : List Float) (S T : List ℕ) (P : List Float) (need : Float) (plenty : Option Float) (store C : List ℕ) (s t : ℕ) (back asks : Bool) : Type 0 where
  pub bytes : Bytes n store
  pub noted : Noted n E S T P need store C s t
  pub even : Even n store
  pub enough : IfSome plenty (Plenty n S T P need)
  pub asked : asks ≡ true → Asked n S T P need store s t back

-- more than the entry of any place
abbrev pub room : ℕ → ℕ
room n = n * n + 2 * n + 2

-- what falls: the pairs that stand, with one for a sweep that struck, then the entries that are left of the sweep, then the tests of the pair
unfoldable pub weight : ℕ → List ℕ → ℕ → ℕ → Bool → Bool → ℕ
weight n store s t back struck = (standing n store + one_if struck) * (2 * room n + 2) + (2 * (room n - (s * n + t)) + one_if (not back))

-- ---- from place to place

-- of whatever task the lists hold, the definition comes from the second place to where it comes from the first, and less than w is left
pub record Moves (n : ℕ) (E : List Float) (S T : List ℕ) (P : List Float) (need : Float) (plenty : Option Float) (store : List ℕ) (s t : ℕ) (back struck asks : Bool) (w : ℕ) (store' C' : List ℕ) (s' t' : ℕ) (back' struck' asks' : Bool) : Type 0 where
  pub leads : (Q : Task) → SweepsIn Q n E S T P need → (z : Run) → At n Q z store s t back struck asks → At n Q z store' s' t' back' struck' asks'
  pub held : Held n E S T P need plenty store' C' s' t' back' asks'
  pub falls : weight n store' s' t' back' struck' < w
