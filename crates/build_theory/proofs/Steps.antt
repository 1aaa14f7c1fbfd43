-- What the parts of `build` ask for and leave behind: the words of their contracts.
use Rattle.std.specs.Prelude.{Option}
use Rattle.bisim_core.specs.declared.ids.StateId.{StateId}
use mathlib.Core.Path.{◌≡◌}
use Prim.Native.Nat.{ℕ, zero, suc, ◌+◌, ◌*◌, ◌/◌, ◌%◌, ◌≤◌, ◌<◌}
use mathlib.Core.List.{List, [], ◌∷◌, ◌++◌, map}
use mathlib.Core.Bool.{Bool, true, false}
use lib.Dec.{ltb}
use lib.Ieee.{Float, nan}
use lib.ListN.{length, get_or, take, set}
use Rattle.numbers.specs.Lists.{span, over}
use Rattle.numbers.specs.Real.{is_zero}
use Rattle.numbers.specs.Refuse.{check}
use Rattle.numbers.specs.Search.{seek}
use Rattle.bisim_core.specs.Data.{Edge, Transitions}
use Rattle.bisim_core.specs.Ids.{intern, distinct}
use Rattle.bisim_core.specs.Edges.{crowded_in}
use Rattle.build_theory.specs.Edges.{join, nonzero, sort_edges}
use Rattle.build_theory.specs.Checks.{outside, unweighed, crowded, reach}
use Rattle.build_theory.proofs.Plan.{weight_of}

-- ---- values, interned: r distinct ones at the front of a store, and the id of each value in a list

pub record Interned (values store store' I I' : List ℕ) (r : ℕ) : Type 0 where
  pub room : r ≤ length store
  pub front : take r store' ≡ distinct values
  pub ids : (j : ℕ) → j < length values → get_or I' j 0 ≡ seek (get_or values j 0) (distinct values)
  pub rest : (j : ℕ) → length values ≤ j → get_or I' j 0 ≡ get_or I j 0

-- ---- keys: source (11 bits), label id (8), target (11), position (12)

abbrev pub packed : ℕ → ℕ → ℕ → ℕ → ℕ
packed s l t i = ((s * 256 + l) * 2048 + t) * 4096 + i

-- a list of label ids becomes one of keys
pub record Keyable (S T I : List ℕ) : Type 0 where
  pub few : length I ≤ 4096
  pub s_in : length I ≤ length S
  pub t_in : length I ≤ length T
  pub low : (j : ℕ) → j < length I → get_or I j 0 < 256

pub record Keyed (S T I K : List ℕ) : Type 0 where
  pub at : (j : ℕ) → j < length I → get_or K j 0 ≡ packed (get_or S j 0) (get_or I j 0) (get_or T j 0) j

-- the triple q, with a weight, as an edge
abbrev pub edge_in : ℕ → Float → Edge
edge_in q w = record { source = q / 524288; label = (q / 2048) % 256; target = q % 2048; weight = w }

-- and back
abbrev pub rank : Edge → ℕ
rank a = a.source * 524288 + a.label * 2048 + a.target

-- the transition of a key
abbrev pub edge_of : List Float → ℕ → Edge
edge_of W k = edge_in (k / 4096) (get_or W (k % 4096) nan)

-- the first m edges of two columns
unfoldable pub first_edges : List ℕ → List Float → ℕ → List Edge
first_edges T W zero = []
first_edges T W (suc m) = first_edges T W m ++ (edge_in (get_or T m 0) (get_or W m nan) ∷ [])

-- the edges of a column of triples
abbrev pub edges_in : List ℕ → List Float → List Edge
edges_in T W = first_edges T W (length T)

-- numbers that rise
abbrev pub Rising : List ℕ → Type 0
Rising l = (i j : ℕ) → i < j → j < length l → get_or l i 0 < get_or l j 0

-- ---- sorted keys

pub record Sortable (S T I : List ℕ) : Type 0 where
  pub keyable : Keyable S T I
  pub t_low : (j : ℕ) → j < length I → get_or T j 0 < 2048

pub record Keys (K : List ℕ) : Type 0 where
  pub few : length K ≤ 4096
  pub placed : (j : ℕ) → j < length K → get_or K j 0 % 4096 < length K
  pub rising : (i j : ℕ) → i < j → j < length K → get_or K i 0 ≤ get_or K j 0

-- the keys of the transitions that f lists, in their stable order
pub record Sorted (S T I K : List ℕ) : Type 0 where
  pub keys : Keys K
  pub under : (b : ℕ) → ((j : ℕ) → j < length I → get_or S j 0 < b) → (j : ℕ) → j < length K → get_or K j 0 / 4096 / 524288 < b
  pub edges : (W : List Float) (f : ℕ → Edge) → ((j : ℕ) → j < length I → f j ≡ record { source = get_or S j 0; label = get_or I j 0; target = get_or T j 0; weight = get_or W j nan })
      → map (edge_of W) K ≡ sort_edges (map f (span 0 (length I)))

-- ---- check 6

-- one target more
pub record Noted (seen : List ℕ) (count t : ℕ) (seen' : List ℕ) (r : ℕ) : Type 0 where
  pub room : r ≤ length seen
  pub known : take r seen' ≡ intern (take count seen) (t ∷ [])

-- more targets than there is room for
abbrev pub Overfull : List ℕ → ℕ → ℕ → Type 0
Overfull seen count t = length seen < length (intern (take count seen) (t ∷ []))

-- the answer is right for any count of states that has all sources
pub record Crowded (K : List ℕ) (W : List Float) (r : Bool) : Type 0 where
  pub same : (states : ℕ) → ((j : ℕ) → j < length K → get_or K j 0 / 4096 / 524288 < states) → r ≡ crowded_in (nonzero (map (edge_of W) K)) (span 0 states)

-- ---- equal triples joined

abbrev pub stored {ℓ} : {A : Type ℓ} → Bool → List A → ℕ → A → List A
stored true l m x = l
stored false l m x = set l m x

abbrev pub grown : Bool → ℕ → ℕ
grown true m = m
grown false m = m + 1

pub record Pushed (T : List ℕ) (W : List Float) (m q : ℕ) (w : Float) (T' : List ℕ) (W' : List Float) (r : ℕ) : Type 0 where
  pub triples : T' ≡ stored (is_zero w) T m q
  pub sums : W' ≡ stored (is_zero w) W m w
  pub count : r ≡ grown (is_zero w) m

-- the edges of sorted keys
abbrev pub joined : List ℕ → List Float → List Edge
joined K W = nonzero (join (map (edge_of W) K))

pub record Joined (K : List ℕ) (W : List Float) (T : List ℕ) (U : List Float) (T' : List ℕ) (U' : List Float) (r : ℕ) : Type 0 where
  pub triples : T' ≡ over (map rank (joined K W)) T
  pub sums : U' ≡ over (map weight_of (joined K W)) U
  pub count : r ≡ length (joined K W)

-- ---- the checks on the way to it, the labels being interned: the label ids become sorted keys
pub record Arrangeable (given : ℕ) (I : List ℕ) : Type 0 where
  pub few : given ≤ 4096
  pub room : given ≤ length I
  pub low : (j : ℕ) → j < given → get_or I j 0 < 256

pub record Arranged (states : ℕ) (initial : Option StateId) (C : Transitions) (given : ℕ) (full : Bool) (I K : List ℕ) (r : ℕ) : Type 0 where
  pub number : r ≡ check 3 (ltb 2000 states) (check 4 (outside states initial C given) (check 5 (unweighed C given) (check 6 (crowded states C given) (check 7 full 0))))
  pub sorted : r ≡ 0 → Sorted C.sources C.targets (take (reach C given) I) (take (reach C given) K)

-- ---- the columns

pub record FirstFrom (T : List ℕ) (p bound r : ℕ) : Type 0 where
  pub from : p ≤ r
  pub within : r ≤ length T
  pub low : (j : ℕ) → p ≤ j → j < r → get_or T j 0 < bound
  pub high : r < length T → bound ≤ get_or T r 0

pub record Writable (T L G : List ℕ) : Type 0 where
  pub l_room : length T ≤ length L
  pub g_room : length T ≤ length G

pub record Written (T L G L' G' : List ℕ) : Type 0 where
  pub labels : (U : List Float) → L' ≡ over (map (λ (a : Edge). a.label) (edges_in T U)) L
  pub targets : (U : List Float) → G' ≡ over (map (λ (a : Edge). a.target) (edges_in T U)) G
