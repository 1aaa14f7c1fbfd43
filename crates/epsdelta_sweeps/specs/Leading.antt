-- The words of the contracts of sweeps: what holds at a place, and what leads from one to another, of the terms and the memory of a run.
use mathlib.Core.Path.{◌≡◌}
use Prim.Native.Nat.{ℕ, ◌+◌, ◌≤◌, ◌<◌}
use mathlib.Core.Bool.{Bool, true, false}
use mathlib.Core.List.{List}
use lib.Ieee.{Float}
use lib.ListN.{length}
use Rattle.std.specs.Prelude.{⊤, Option, Some, IfSome, Result, Ok, Err}
use Rattle.numbers.specs.Bits.{packed}
use Rattle.epsdelta_theory.proofs.TasksIn.{test_in, RunsTo}
use Rattle.flow_duality.specs.Spare.{row_most}
use Rattle.flow_duality.proofs.Plenty.{Plenty, Even, LightRow}
use Rattle.flow_duality.proofs.Places.{Held, Moves, weight}
use Rattle.flow_links.proofs.RowsRead.{Fitting, entries, states_of}
use Rattle.flow_links.specs.declared.rows.Rows.{Rows}
use Rattle.flow_links.specs.declared.rows.Test.{Test}
use Rattle.flow_core.specs.declared.Flow.{Flow}
use Rattle.flow_direct.specs.Reaches.{at_least}
use Rattle.epsdelta_sweeps.specs.Place.{Same, count, words_of}
use Rattle.epsdelta_sweeps.specs.declared.place.Place.{Place}
use Rattle.epsdelta_sweeps.specs.declared.place.Asked.{Asked}
use Rattle.epsdelta_sweeps.specs.declared.place.Terms.{Terms}
use Rattle.epsdelta_sweeps.specs.declared.changes.Memory.{Memory}

-- ---- rows

-- rows that can be read, and two of their states
abbrev pub Paired : Rows → ℕ → ℕ → Type 0
Paired rows s t = Fitting rows × (s < states_of rows) × (t < states_of rows)

-- whether the flow test from s to t passes against a relation
abbrev pub passes_in : Rows → Float → List Bool → ℕ → ℕ → Bool
passes_in rows need R s t = test_in (states_of rows) rows.starts.now rows.targets.now rows.probs.now need R s t

-- the jumps of s are to states, with rates that are shares
abbrev pub LightIn : Rows → ℕ → Type 0
LightIn rows s = LightRow (states_of rows) rows.starts.now rows.targets.now rows.probs.now s

-- s has at most `row_most` jumps
abbrev pub Short : Rows → ℕ → Type 0
Short rows s = length (entries rows.starts.now rows.targets.now s) ≤ row_most

-- so much flow is plenty, if any is
abbrev pub Enough : Rows → Float → Option Float → Type 0
Enough rows need plenty = IfSome plenty (Plenty (states_of rows) rows.starts.now rows.targets.now rows.probs.now need)

-- ---- the memory

-- strikes of so many states
abbrev pub Worded : ℕ → Memory → Type 0
Worded states memory = (states ≤ 2000) × (count memory ≡ states)

-- the flow test from s to t, against the bytes of the relation
abbrev pub TestOf : Rows → Memory → ℕ → ℕ → Test → Type 0
TestOf rows memory s t test =
    (test.left.targets.now ≡ entries rows.starts.now rows.targets.now s) × (test.left.rates.now ≡ entries rows.starts.now rows.probs.now s)
    × (test.right.targets.now ≡ entries rows.starts.now rows.targets.now t) × (test.right.rates.now ≡ entries rows.starts.now rows.probs.now t)
    × (test.states ≡ states_of rows) × (test.relation.now ≡ memory.relation.now)

-- how the flow test from s to t ended, against whatever relation the bytes are
abbrev pub Tested : Terms → Memory → ℕ → ℕ → Bool → Type 0
Tested terms memory s t b = (R : List Bool) → memory.relation.now ≡ packed R → passes_in terms.rows terms.need R s t ≡ b

-- the place whose pair is tested
abbrev pub place_of : Asked → Place
place_of a = record { s = a.s; t = a.t; struck = a.struck }

-- the flow test of a place's pair, or the one back
abbrev pub asked_at : Place → Bool → Asked
asked_at p back = record { s = p.s; t = p.t; struck = p.struck; back = back }

-- an answer says whether the flow of the test that is asked for is enough
abbrev pub Answers : Rows → Memory → Asked → Result Flow ℕ → Type 0
Answers rows memory a answer = (need : Float) (R : List Bool) → memory.relation.now ≡ packed R
    → (a.back ≡ false → passes_in rows need R a.s a.t ≡ at_least need answer) × (a.back ≡ true → passes_in rows need R a.t a.s ≡ at_least need answer)

-- an answer is plenty, between rows of at most `row_most` jumps
abbrev pub Ample : Terms → Asked → Result Flow ℕ → Type 0
Ample terms a answer = (x : Float) × (terms.plenty ≡ Some x) × (at_least x answer ≡ true) × Short terms.rows a.s × Short terms.rows a.t

-- what holds at a place, where it is the turn of its pair, or a flow test of it is asked for
abbrev pub Holding : Terms → Memory → Place → Bool → Bool → Type 0
Holding terms memory p back asks = Held (states_of terms.rows) terms.rows.exits.now terms.rows.starts.now terms.rows.targets.now terms.rows.probs.now terms.need terms.plenty memory.relation.now (words_of (states_of terms.rows) memory) p.s p.t back asks

abbrev pub AtTurn : Terms → Memory → Place → Type 0
AtTurn terms memory p = Holding terms memory p false false

abbrev pub AtTest : Terms → Memory → Asked → Type 0
AtTest terms memory a = Holding terms memory (place_of a) a.back true

-- the rows can be read, and a flow test is asked for
abbrev pub Asking : Terms → Memory → Asked → Type 0
Asking terms memory a = Fitting terms.rows × AtTest terms memory a

-- the rows can be read, and the pair at the place is that of a state and a higher one, or of none where the sweep is over
abbrev pub Sweepable : Terms → Memory → Place → Type 0
Sweepable terms memory p = Fitting terms.rows × (p.s < p.t) × (p.s ≤ states_of terms.rows) × (p.s < states_of terms.rows → p.t ≤ states_of terms.rows) × AtTurn terms memory p

-- ---- from place to place

-- what is left from a place
abbrev pub left : Terms → Memory → Place → Bool → ℕ
left terms memory p back = weight (states_of terms.rows) memory.relation.now p.s p.t back p.struck

-- from a place to the pair (s, t), with less than w left
abbrev pub Moving : Terms → Memory → Place → Bool → Bool → ℕ → Memory → ℕ → ℕ → Bool → Bool → Bool → Type 0
Moving terms old p b asks w new s t c struck d = Moves (states_of terms.rows) terms.rows.exits.now terms.rows.starts.now terms.rows.targets.now terms.rows.probs.now terms.need terms.plenty old.relation.now p.s p.t b p.struck asks w new.relation.now (words_of (states_of terms.rows) new) s t c struck d

-- from the turn of its pair
abbrev pub FromTurn : Terms → Memory → Place → Memory → ℕ → ℕ → Bool → Bool → Bool → Type 0
FromTurn terms old p new s t c struck d = Moving terms old p false false (left terms old p false + 1) new s t c struck d

-- from how a flow test of it ended
abbrev pub FromTest : Terms → Memory → Place → Bool → Memory → ℕ → ℕ → Bool → Bool → Bool → Type 0
FromTest terms old p b new s t c struck d = Moving terms old p b true (left terms old p b) new s t c struck d

-- from where it is asked for
abbrev pub FromAsked : Terms → Memory → Asked → Memory → ℕ → ℕ → Bool → Bool → Bool → Type 0
FromAsked terms old a new s t c struck d = Moving terms old (place_of a) a.back true (left terms old (place_of a) a.back + 1) new s t c struck d

-- to the turn of (s, t), or to a flow test that is asked for
abbrev pub ToTurn : (ℕ → ℕ → Bool → Bool → Bool → Type 0) → ℕ → ℕ → Result Bool Asked → Type 0
ToTurn F s t (Ok struck) = F s t false struck false
ToTurn F s t (Err a) = F a.s a.t a.back a.struck true

-- past the last pair of n states
abbrev pub Past : (ℕ → ℕ → Bool → Bool → Bool → Type 0) → ℕ → Bool → Type 0
Past F n struck = (s : ℕ) × (t : ℕ) × (n ≤ s) × (n ≤ t) × F s t false struck false

-- to the end of a sweep over n states
abbrev pub ToSweepEnd : (ℕ → ℕ → Bool → Bool → Bool → Type 0) → ℕ → Result Bool Asked → Type 0
ToSweepEnd F n (Ok struck) = Past F n struck
ToSweepEnd F n (Err a) = F a.s a.t a.back a.struck true

-- to the end of one without a strike
abbrev pub ToEnd : (ℕ → ℕ → Bool → Bool → Bool → Type 0) → ℕ → Result ⊤ Asked → Type 0
ToEnd F n (Ok _) = Past F n false
ToEnd F n (Err a) = F a.s a.t a.back a.struck true

-- from a flow test that is asked for until a sweep without a strike
abbrev pub RunsOut : Terms → Memory → Asked → Memory → Type 0
RunsOut terms old a new = Past (FromAsked terms old a new) (states_of terms.rows) false × Same old new

-- ---- a run

-- the bytes are those of a symmetric relation, and so much flow is plenty
abbrev pub Runnable : Terms → List ℕ → Type 0
Runnable terms store = Fitting terms.rows × Enough terms.rows terms.need terms.plenty × Even (states_of terms.rows) store

-- they are those that the definition's sweeps come to
abbrev pub RunsIn : Terms → List ℕ → List ℕ → Type 0
RunsIn terms old new = RunsTo (states_of terms.rows) terms.rows.exits.now terms.rows.starts.now terms.rows.targets.now terms.rows.probs.now terms.need old new
