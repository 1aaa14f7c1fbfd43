-- The words of `plan`: the edges of transitions as it hands them on, in three lists, and how it ends. An edge's source, label id and target stand in one number, whichever way they are numbered.
use Rattle.std.specs.Prelude.{◌≡◌, Option, Result, Ok, Err}
use Rattle.std.specs.Result.{IsErrAnd}
use Rattle.std.proofs.Common.{ap}
use Rattle.numbers.specs.declared.refusal.Refusal.{Refusal}
use Rattle.numbers.specs.Refuse.{number, numbered}
use Rattle.bisim_core.specs.declared.ids.StateId.{StateId}
use Prim.Native.Nat.{ℕ, zero, suc, min}
use mathlib.Core.Bool.{Bool, ◌||◌}
use mathlib.Core.List.{List, map}
use lib.Dec.{ltb}
use lib.Ieee.{Float}
use lib.ListN.{length}
use Rattle.numbers.specs.Lists.{span, all, over}
use Rattle.bisim_core.specs.Data.{Edge, Transitions}
use Rattle.bisim_core.specs.Edges.{crowded_in}
use Rattle.build_theory.specs.Edges.{nonzero, edges}
use Rattle.build_theory.specs.Checks.{labels_of, refusal}

-- label values by their ids, and a number and a weight for each edge
pub record Lists : Type 0 where
  pub labels : List ℕ
  pub numbers : List ℕ
  pub weights : List Float

abbrev pub lists : List ℕ → List ℕ → List Float → Lists
lists l t w = record { labels = l; numbers = t; weights = w }

abbrev pub weight_of : Edge → Float
weight_of a = a.weight

-- the label values, and the edges by their numbers, over the front of the lists
abbrev pub laid : (Edge → ℕ) → List ℕ → List Edge → Lists → Lists
laid number D E M = lists (over D M.labels) (over (map number E) M.numbers) (over (map weight_of E) M.weights)

-- the answer, the counts of edges and labels, and what is then in the lists
pub record Ending : Type 0 where
  pub answer : Result (ℕ × ℕ) ℕ
  pub memory : Lists

abbrev pub ending : Result (ℕ × ℕ) ℕ → Lists → Ending
ending r M = record { answer = r; memory = M }

-- a refusal leaves the lists as they were
abbrev pub outcome : ℕ → ℕ × ℕ → Lists → Lists → Ending
outcome zero done old new = ending (Ok done) new
outcome (suc r) done old new = ending (Err (suc r)) old

-- what is answered where another call is turned back
pub err_is : {A : Type 0} (a : Result A Refusal) (r : Refusal) → IsErrAnd a (λ e. e ≡ r) → numbered a ≡ Err (number r)
err_is (Ok x) r h = absurd h
err_is (Err s) r h = ap (λ e. Err (number e)) h

-- how many entries each list has at least
abbrev pub shortest : Lists → ℕ
shortest M = min (length M.labels) (min (length M.numbers) (length M.weights))

-- the plan of the transitions given: a refusal by its number, or the counts of edges and labels
unfoldable pub planned : (Edge → ℕ) → ℕ → Option StateId → Transitions → ℕ → Bool → Lists → Ending
unfolding all nonzero crowded_in edges span
planned number states initial C given short M =
    outcome (refusal states initial C given (short || ltb (shortest M) given)) (length (edges C given), length (labels_of C given)) M (laid number (labels_of C given) (edges C given) M)
