-- Marks, and sweeps until one without a strike, as `epsdelta` of epsdelta.rs has them, over any rate test and any test of a pair against a relation.
use Rattle.std.specs.Prelude.{ℕ, zero, suc, ◌-◌, ◌*◌, ◌/◌, ◌%◌, min, max, Bool, true, false, ◌&&◌, not, List, [], ◌∷◌, eqb}
use Rattle.epsdelta_theory.specs.Relation.{holds, clear}

-- what marks and sweeps read of the states: their number, the class of each, the rate test of two, whether the exit rate of one is zero, and the test of one against another in a relation
pub record Task : Type 0 where
  pub states : ℕ
  pub class : ℕ → ℕ
  pub rates_pass : ℕ → ℕ → Bool
  pub no_exit : ℕ → Bool
  pub test : List Bool → ℕ → ℕ → Bool

-- ---- marks

-- equal classes and passed rates
unfoldable pub marked : Task → ℕ → ℕ → Bool
marked Q s t = eqb (Q.class s) (Q.class t) && Q.rates_pass s t

-- k entries from entry i on, each marked by the pair's lower state and its higher one
unfoldable pub marks_from : Task → ℕ → ℕ → List Bool
unfolding marked
marks_from Q zero i = []
marks_from Q (suc k) i = let s = i / Q.states in let t = i % Q.states in marked Q (min s t) (max s t) ∷ marks_from Q k (suc i)

-- one entry for each ordered pair
unfoldable pub marks : Task → List Bool
unfolding marks_from
marks Q = marks_from Q (Q.states * Q.states) 0

-- ---- a pair's turn

-- a struck pair, the relation before the strike, and the direction that failed: `back` is the test from the higher state to the lower
pub record Strike : Type 0 where
  pub low : ℕ
  pub high : ℕ
  pub before : List Bool
  pub back : Bool

-- the relation as it stands, the strikes so far, the last first, and whether this sweep has struck
pub record Run : Type 0 where
  pub relation : List Bool
  pub strikes : List Strike
  pub struck : Bool

-- both orders at once, and the strike goes before the earlier ones
unfoldable pub strike : Task → Bool → ℕ → ℕ → Run → Run
unfolding clear
strike Q b s t x = record {
  relation = clear Q.states x.relation s t;
  strikes = record { low = s; high = t; before = x.relation; back = b } ∷ x.strikes;
  struck = true;
}

-- how the test from t to s ended
unfoldable pub after_back : Task → Bool → ℕ → ℕ → Run → Run
unfolding strike
after_back Q true s t x = x
after_back Q false s t x = strike Q true s t x

-- how the test from s to t ended; where it failed, the one back is not made
unfoldable pub after_forth : Task → Bool → ℕ → ℕ → Run → Run
unfolding strike after_back
after_forth Q true s t x = after_back Q (Q.test x.relation t s) s t x
after_forth Q false s t x = strike Q false s t x

-- is the pair tested
unfoldable pub test_pair : Task → Bool → ℕ → ℕ → Run → Run
unfolding after_forth
test_pair Q true s t x = after_forth Q (Q.test x.relation s t) s t x
test_pair Q false s t x = x

-- the turn of (s, t): it is tested if it stands and the lower-numbered exit rate is not zero
unfoldable pub turn : Task → ℕ → ℕ → Run → Run
unfolding test_pair holds
turn Q s t x = test_pair Q (holds Q.states x.relation s t && not (Q.no_exit s)) s t x

-- ---- sweeps

-- k turns: (s, t), (s, t + 1) and on
unfoldable pub sweep_row : Task → ℕ → ℕ → ℕ → Run → Run
unfolding turn
sweep_row Q zero s t x = x
sweep_row Q (suc k) s t x = sweep_row Q k s (suc t) (turn Q s t x)

-- k lower states: s, s + 1 and on, each with all higher ones
unfoldable pub sweep_rows : Task → ℕ → ℕ → Run → Run
unfolding sweep_row
sweep_rows Q zero s x = x
sweep_rows Q (suc k) s x = sweep_rows Q k (suc s) (sweep_row Q (Q.states - suc s) s (suc s) x)

-- the pairs s < t in rising order
unfoldable pub sweep : Task → Run → Run
unfolding sweep_rows
sweep Q x = sweep_rows Q Q.states 0 (record { relation = x.relation; strikes = x.strikes; struck = false })

-- until a sweep without a strike: at most k sweeps
unfoldable pub sweeps : Task → ℕ → Run → Run
unfolding sweep
sweeps Q zero x = x
sweeps Q (suc k) x = let y = sweep Q x in elim y.struck [ true ↦ sweeps Q k y | false ↦ y ]

-- the marks, and no strike yet
abbrev pub start : Task → Run
start Q = record { relation = marks Q; strikes = []; struck = false }

-- from the marks to the end: a sweep that strikes leaves fewer pairs, so there is always one without a strike
unfoldable pub run : Task → Run
unfolding sweeps marks
run Q = sweeps Q (suc (Q.states * Q.states)) (start Q)
