-- Marks and sweeps over lists of numbers: the words of the contracts of their code.
use mathlib.Core.Path.{◌≡◌}
use Prim.Native.Nat.{ℕ, ◌+◌, ◌-◌, ◌≤◌, ◌<◌}
use mathlib.Core.Bool.{Bool, true, ◌&&◌}
use mathlib.Core.List.{List}
use lib.Dec.{eqb}
use lib.Ieee.{Float, nan, le}
use lib.ListN.{length, get_or}
use lib.Seq.{slice}
use Rattle.numbers.specs.Real.{nought, greatest_weight, is_zero}
use Rattle.numbers.specs.Lists.{all}
use Rattle.numbers.specs.Bits.{packed}
use Rattle.epsdelta_theory.specs.Jumps.{Jump, jumps_of}
use Rattle.epsdelta_theory.specs.FlowTest.{run_between}
use Rattle.epsdelta_theory.specs.Sweeps.{Task, Run, marked, sweeps}
use Rattle.epsdelta_theory.specs.Epsdelta.{rates_close}
use Rattle.epsdelta_theory.proofs.Pairs.{count}

-- ---- marks

-- whether classes and exit rates mark s and t
abbrev pub marked_in : List ℕ → List Float → Float → ℕ → ℕ → Bool
marked_in C E ρ s t = eqb (get_or C s 0) (get_or C t 0) && rates_close (get_or E s nan) (get_or E t nan) ρ

-- the lists hold the classes and exit rates of the n states of Q
pub record MarksIn (Q : Task) (n : ℕ) (C : List ℕ) (E : List Float) (ρ : Float) : Type 0 where
  pub states : Q.states ≡ n
  pub mark : (s t : ℕ) → s < n → t < n → marked_in C E ρ s t ≡ marked Q s t

-- ---- sweeps

-- the jumps of state s, from place S[s] up to S[s + 1]
abbrev pub row_in : List ℕ → List ℕ → List Float → ℕ → List Jump
row_in S T P s = jumps_of (slice (get_or S s 0) (get_or S (s + 1) 0) T) (slice (get_or S s 0) (get_or S (s + 1) 0) P)

-- the lists hold n rows that a flow test takes: at most 31 jumps each, with divided rates from 0 to 2^40
pub record RowsFit (n : ℕ) (S T : List ℕ) (P : List Float) : Type 0 where
  pub few : n ≤ 2000
  pub starts_long : n < length S
  pub rise : (s : ℕ) → s < n → get_or S s 0 ≤ get_or S (s + 1) 0
  pub targets_long : (s : ℕ) → s < n → get_or S (s + 1) 0 ≤ length T
  pub probs_long : (s : ℕ) → s < n → get_or S (s + 1) 0 ≤ length P
  pub short : (s : ℕ) → s < n → get_or S (s + 1) 0 - get_or S s 0 ≤ 31
  pub range : (s : ℕ) → s < n → all (λ w. le nought w && le w greatest_weight) (slice (get_or S s 0) (get_or S (s + 1) 0) P) ≡ true

-- a flow test over the rows of s and t
abbrev pub test_in : ℕ → List ℕ → List ℕ → List Float → Float → List Bool → ℕ → ℕ → Bool
test_in n S T P need R s t = le need (run_between n R (row_in S T P s) (row_in S T P t)).total

-- the lists hold what the sweeps of Q read
pub record SweepsIn (Q : Task) (n : ℕ) (E : List Float) (S T : List ℕ) (P : List Float) (need : Float) : Type 0 where
  pub states : Q.states ≡ n
  pub no_exit : (s : ℕ) → s < n → is_zero (get_or E s nan) ≡ Q.no_exit s
  pub test : (R : List Bool) (s t : ℕ) → s < n → t < n → test_in n S T P need R s t ≡ Q.test R s t

-- a run as code holds it: the bytes of its relation, and whether its sweep has struck
abbrev pub Stored : Run → List ℕ → Bool → Type 0
Stored x store struck = (store ≡ packed x.relation) × (struck ≡ x.struck)

-- from whatever relation the bytes are at first, sweeps until one without a strike end in these bytes
abbrev pub RunsTo : ℕ → List Float → List ℕ → List ℕ → List Float → Float → List ℕ → List ℕ → Type 0
RunsTo n E S T P need store₀ store =
    (Q : Task) → SweepsIn Q n E S T P need → (x : Run) → store₀ ≡ packed x.relation → (k : ℕ) → count x.relation < k → store ≡ packed (sweeps Q k x).relation
