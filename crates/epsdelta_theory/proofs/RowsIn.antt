-- Jumps in lists of numbers: the words of the contracts of the code that makes and reads them.
use mathlib.Core.Path.{◌≡◌}
use Prim.Native.Nat.{ℕ, zero, suc, ◌+◌, ◌≤◌, ◌<◌}
use mathlib.Core.Bool.{true, false}
use mathlib.Core.List.{List, [], ◌∷◌, ◌++◌, map}
use lib.Dec.{ltb}
use lib.Ieee.{Float, nan}
use lib.ListN.{length, get_or, take, drop, set}
use lib.Seq.{slice}
use Rattle.numbers.specs.Lists.{over}
use Rattle.epsdelta_theory.specs.Jumps.{Jump, Jumps, Row, jumps_of, no_row, targets, rates}

-- how many targets stand before the first that is not below t
unfoldable pub rank : ℕ → List ℕ → ℕ
rank t [] = 0
rank t (x ∷ l) = elim (ltb x t) [ true ↦ suc (rank t l) | false ↦ 0 ]

-- c before the first k entries of a list, over the one behind them
unfoldable pub pushed {ℓ} : {A : Type ℓ} → ℕ → List A → A → List A
pushed k [] c = []
pushed zero (y ∷ l) c = c ∷ l
pushed (suc k) (y ∷ l) c = c ∷ pushed k l y

-- the same behind the first n entries
unfoldable pub put {ℓ} : {A : Type ℓ} → ℕ → ℕ → List A → A → List A
unfolding pushed
put zero k l c = pushed k l c
put (suc n) k [] c = []
put (suc n) k (y ∷ l) c = y ∷ put n k l c

-- what the edge columns of a model of n states have to be for its rows to be made
pub record Readable (n : ℕ) (offsets edge_targets : List ℕ) (edge_weights : List Float) : Type 0 where
  pub few : n ≤ 2000
  pub offsets_long : n < length offsets
  pub rise : (s : ℕ) → s < n → get_or offsets s 0 ≤ get_or offsets (s + 1) 0
  pub targets_long : get_or offsets n 0 ≤ length edge_targets
  pub weights_long : get_or offsets n 0 ≤ length edge_weights
  pub edges_few : get_or offsets n 0 ≤ 4096
  pub target_low : (i : ℕ) → i < get_or offsets n 0 → get_or edge_targets i 0 < n

-- the lists hold the rows of states 0 to n - 1: an exit rate each, and the jumps of state s from place starts[s] up to starts[s + 1]
pub record HoldsTo (J : Jumps) (n : ℕ) (exits : List Float) (starts targets : List ℕ) (probs : List Float) : Type 0 where
  pub exits_long : n ≤ length exits
  pub starts_long : n < length starts
  pub first : get_or starts 0 0 ≡ 0
  pub rise : (s : ℕ) → s < n → get_or starts s 0 ≤ get_or starts (s + 1) 0
  pub targets_long : get_or starts n 0 ≤ length targets
  pub probs_long : get_or starts n 0 ≤ length probs
  pub exit : (s : ℕ) → s < n → get_or exits s nan ≡ (get_or J s no_row).exit
  pub prob : (s : ℕ) → s < n → jumps_of (slice (get_or starts s 0) (get_or starts (s + 1) 0) targets) (slice (get_or starts s 0) (get_or starts (s + 1) 0) probs) ≡ (get_or J s no_row).prob

-- the lists hold all rows
abbrev pub Holds : Jumps → List Float → List ℕ → List ℕ → List Float → Type 0
Holds J exits starts targets probs = HoldsTo J (length J) exits starts targets probs

-- the exit rates
abbrev pub exits : Jumps → List Float
exits J = map (λ (r : Row). r.exit) J

-- all jumps
unfoldable pub all_jumps : Jumps → List Jump
all_jumps [] = []
all_jumps (r ∷ J) = r.prob ++ all_jumps J

-- how many jumps stand before those of each state, and before the end, if there are a before the first
unfoldable pub starts_from : ℕ → Jumps → List ℕ
starts_from a [] = a ∷ []
starts_from a (r ∷ J) = a ∷ starts_from (a + length r.prob) J

-- four lists with the rows over what they held before: exit rates, starts, targets and divided rates
pub record Laid (J : Jumps) (exits₀ : List Float) (starts₀ targets₀ : List ℕ) (probs₀ exits' : List Float) (starts' targets' : List ℕ) (probs' : List Float) : Type 0 where
  pub exits_are : exits' ≡ over (exits J) exits₀
  pub starts_are : starts' ≡ over (starts_from 0 J) starts₀
  pub targets_are : targets' ≡ over (targets (all_jumps J)) targets₀
  pub probs_are : probs' ≡ over (rates (all_jumps J)) probs₀

-- the first n rows over what the lists held
abbrev pub LaidTo : Jumps → ℕ → List Float → List ℕ → List ℕ → List Float → List Float → List ℕ → List ℕ → List Float → Type 0
LaidTo J n exits₀ starts₀ targets₀ probs₀ exits starts targets probs = Laid (take n J) exits₀ starts₀ targets₀ probs₀ exits starts targets probs

-- a row made in the lists: its jumps from place at up to r, its exit rate as entry k; what stands before and behind is kept
pub record Filled (R : Row) (k at r : ℕ) (exits : List Float) (targets : List ℕ) (probs exits' : List Float) (targets' : List ℕ) (probs' : List Float) : Type 0 where
  pub from : at ≤ r
  pub exit : exits' ≡ set exits k R.exit
  pub targets_kept : take at targets' ≡ take at targets
  pub probs_kept : take at probs' ≡ take at probs
  pub prob : jumps_of (slice at r targets') (slice at r probs') ≡ R.prob
  pub targets_past : drop r targets' ≡ drop r targets
  pub probs_past : drop r probs' ≡ drop r probs

-- m jumps over the front of two lists, their targets in one and their rates in the other
pub record LaidJumps (js : List Jump) (m : ℕ) (targets₀ : List ℕ) (rates₀ : List Float) (targets' : List ℕ) (rates' : List Float) : Type 0 where
  pub count : m ≡ length js
  pub in_targets : targets' ≡ over (targets js) targets₀
  pub in_rates : rates' ≡ over (rates js) rates₀
