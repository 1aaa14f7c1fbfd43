-- What is claimed of the whole run of `epsdelta` (document 01, demand 3), from the marks to the sweep without a strike, in words of its definition.
use Rattle.std.specs.Prelude.{◌≡◌, ℕ, zero, suc, ◌<◌, Bool, true, false, cond, ◌⊎◌, List, [], ◌∷◌, ◌++◌, length}
use Rattle.numbers.specs.Lists.{In}
use Rattle.flow_theory.specs.Network.{nodes}
use Rattle.flow_theory.specs.Claim.{Traced, Cut, Bounded}
use Rattle.epsdelta_theory.specs.Relation.{holds, clear}
use Rattle.epsdelta_theory.specs.Sweeps.{Task, marks, Strike, Run, sweep, start}
use Rattle.epsdelta_theory.specs.FlowTest.{caps, test_links, test_nodes, test_network, test_run}
use Rattle.epsdelta_theory.specs.Epsdelta.{Given, class, task, epsdelta}

-- ---- of a run of sweeps, whatever its tests

-- both orders of a pair stand, or neither does
abbrev pub Symmetric : ℕ → List Bool → Type 0
Symmetric n R = (s t : ℕ) → s < n → t < n → holds n R s t ≡ holds n R t s

-- each state stands with itself
abbrev pub Reflexive : ℕ → List Bool → Type 0
Reflexive n R = (s : ℕ) → s < n → holds n R s s ≡ true

-- equal classes, passed rates and, if the lower-numbered exit rate is not zero, both tests passed against R
pub record Stands (Q : Task) (R : List Bool) (s t : ℕ) : Type 0 where
  pub classes : Q.class s ≡ Q.class t
  pub rates : Q.rates_pass s t ≡ true
  pub forth : Q.no_exit s ≡ false → Q.test R s t ≡ true
  pub back : Q.no_exit s ≡ false → Q.test R t s ≡ true

-- S holds all that R holds
abbrev pub Within : ℕ → List Bool → List Bool → Type 0
Within n R S = (s t : ℕ) → holds n R s t ≡ true → holds n S s t ≡ true

-- the states from which and to which the test went that failed
abbrev pub failed_from : Strike → ℕ
failed_from k = cond k.back k.high k.low

abbrev pub failed_to : Strike → ℕ
failed_to k = cond k.back k.low k.high

-- strike k of the run x struck s and t, on a test that failed against the relation as it then stood, which holds all of the final one
pub record Struck (Q : Task) (x : Run) (s t : ℕ) (k : Strike) : Type 0 where
  pub listed : In k x.strikes
  pub low : k.low ≡ s
  pub high : k.high ≡ t
  pub stood : holds Q.states k.before s t ≡ true
  pub exits : Q.no_exit s ≡ false
  -- the test back is made only where the one forth has passed
  pub forth : k.back ≡ true → Q.test k.before s t ≡ true
  pub failed : Q.test k.before (failed_from k) (failed_to k) ≡ false
  pub within : Within Q.states x.relation k.before

-- the strikes, the last first, lead from the marks to R: the relation of each is the marks less the strikes before it, and R the marks less all
abbrev pub Trail : Task → List Strike → List Bool → Type 0
Trail Q [] R = R ≡ marks Q
Trail Q (k ∷ ks) R = (R ≡ clear Q.states k.before k.low k.high) × Trail Q ks k.before

-- the turn of (s, t) comes after that of the pair that k struck
abbrev pub After : ℕ → ℕ → Strike → Type 0
After s t k = (k.low < s) ⊎ ((k.low ≡ s) × (k.high < t))

-- the last first, each at a turn after that of the one before it
abbrev pub InOrder : List Strike → Type 0
InOrder [] = Unit {0}
InOrder (k ∷ []) = Unit {0}
InOrder (k ∷ j ∷ ks) = After k.low k.high j × InOrder (j ∷ ks)

-- a sweep: its strikes, in the order of their pairs, go before those that there were
pub record Sweep (Q : Task) (y x : Run) : Type 0 where
  pub swept : x ≡ sweep Q y
  pub own : List Strike
  pub strikes : x.strikes ≡ own ++ y.strikes
  pub order : InOrder own

-- x comes of the marks by n sweeps, each of which struck a pair
abbrev pub Swept : Task → ℕ → Run → Type 0
Swept Q zero x = x ≡ start Q
Swept Q (suc n) x = (y : Run) × Swept Q n y × Sweep Q y x × (x.struck ≡ true)

-- x is what a sweep without a strike left, and each sweep before it struck a pair
pub record Ended (Q : Task) (x : Run) : Type 0 where
  pub before : Run
  pub earlier : ℕ
  pub came : Swept Q earlier before
  pub last : x ≡ sweep Q before
  pub none : x.struck ≡ false

-- ---- the claim

-- the states of both models
abbrev pub states : Given → ℕ
states G = (task G).states

-- the final relation
abbrev pub final : Given → List Bool
final G = (epsdelta G).relation

-- the one claim of the whole run
pub record Sound (G : Given) : Type 0 where
  -- the final relation is symmetric and holds each state with itself
  pub symmetric : Symmetric (states G) (final G)
  pub reflexive : Reflexive (states G) (final G)
  -- distinct states stand only for a reason, and on flow tests that passed against the final relation
  pub standing : (s t : ℕ) → s < t → t < states G → holds (states G) (final G) s t ≡ true → Stands (task G) (final G) s t
  -- a missing pair with equal classes and passed rates was struck on a flow test that failed
  pub missing : (s t : ℕ) → s < t → t < states G → class G s ≡ class G t → (task G).rates_pass s t ≡ true
      → holds (states G) (final G) s t ≡ false → (k : Strike) × Struck (task G) (epsdelta G) s t k
  -- every strike listed is of a pair s < t that stood, on a test that failed
  pub strikes_failed : (k : Strike) → In k (epsdelta G).strikes → (k.low < k.high) × (k.high < states G) × Struck (task G) (epsdelta G) k.low k.high k
  -- the failed test of every strike left a cut
  pub cut : (k : Strike) → In k (epsdelta G).strikes
      → Cut (test_network G.jumps k.before (failed_from k) (failed_to k)) (test_run G.jumps k.before (failed_from k) (failed_to k))
  -- every flow test, passed or failed, has V nodes and E added links: at most V - 1 phases, at most E pushes in each, the sink's level higher in each than in the one before; and a cut at its end
  pub nodes_counted : (R : List Bool) (s t : ℕ) → nodes (test_network G.jumps R s t) ≡ test_nodes G.jumps s t
  pub bounded : (R : List Bool) (s t : ℕ) → s < states G → t < states G
      → Bounded (test_network G.jumps R s t) (length (test_links G.jumps R s t)) (test_run G.jumps R s t)
  -- its phases and pushes are the steps of its run, from its links' capacities on
  pub traced : (R : List Bool) (s t : ℕ) → s < states G → t < states G → Traced (test_network G.jumps R s t) (caps (test_links G.jumps R s t)) (test_run G.jumps R s t)
  -- the strikes are the run's own trace, and the run ends with a sweep without a strike
  pub trail : Trail (task G) (epsdelta G).strikes (final G)
  pub ended : Ended (task G) (epsdelta G)
