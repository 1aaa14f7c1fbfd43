-- Links in pairs, loads after stores, and what a run needs of a network and its capacities (`WellFormed`, `Caps`).
use mathlib.Core.Path.{◌≡◌, refl, subst}
use Prim.Native.Nat.{ℕ, ◌<◌, ◌+◌, ◌*◌, ◌%◌}
use mathlib.Core.Bool.{Bool, true, false, false≢true}
use mathlib.Core.Logic.{◌≢◌}
use mathlib.Core.List.{List}
use native.Mathlib.Omega.{arith}
use lib.Dec.{ltb}
use lib.ListN.{length, set, get_or-eq_default}
use lib.Bits.{bit_xor, bit_and, xor_add_and, and_mask}
use lib.Seq.{get_or-set_same, get_or-set_other}
use Rattle.numbers.specs.Lists.{In}
use lib.Ieee.{Float, nan, lt, of_bits, of_fields}
use Rattle.flow_theory.specs.Network.{rev, Net, nodes, links, head, tail, out, left, residual}
use Rattle.flow_theory.specs.Levels.{unset, level_of}
use Rattle.numbers.specs.Real.{eps}
use borrow.Author.Tests.{ltb-false, ltb-true}
use Rattle.numbers.proofs.Floats.{Low}

-- ---- the other link of a pair

pub rev_rev : (e : ℕ) → rev (rev e) ≡ e
unfolding rev
rev_rev e = omega arith

pub rev_ne : (e : ℕ) → rev e ≢ e
unfolding rev
rev_ne e = omega arith

pub rev_in : (e a : ℕ) → e < a + a → rev e < a + a
unfolding rev
rev_in e a h = omega arith

-- the code's `e ^ 1`
pub rev_xor : (e : ℕ) → bit_xor e 1 ≡ rev e
unfolding rev
rev_xor e = let x : bit_xor e 1 + bit_and e 1 * 2 ≡ e + 1 = xor_add_and e 1 in let a : bit_and e 1 ≡ e % 2 = and_mask e 1 in omega arith

-- ---- a load after a store

abbrev pub HasLevel : List ℕ → ℕ → Type 0
HasLevel L v = level_of L v ≢ unset

pub level_same : (L : List ℕ) (v x : ℕ) → v < length L → level_of (set L v x) v ≡ x
unfolding level_of
level_same L v x h = get_or-set_same L v x unset h

pub level_other : (L : List ℕ) (v x w : ℕ) → w ≢ v → level_of (set L v x) w ≡ level_of L w
unfolding level_of
level_other L v x w h = get_or-set_other L v w x unset h

pub level_in : (L : List ℕ) (v : ℕ) → HasLevel L v → v < length L
unfolding level_of
level_in L v h = go (ltb v (length L)) refl
  where
    go : (b : Bool) → ltb v (length L) ≡ b → v < length L
    go true e = (ltb-true _ _) e
    go false e = absurd (h (get_or-eq_default L unset ((ltb-false _ _) e)))

pub residual_in : (c : List Float) (e : ℕ) → residual c e ≡ true → e < length c
unfolding residual lt of_bits of_fields
residual_in c e h = go (ltb e (length c)) refl
  where
    go : (b : Bool) → ltb e (length c) ≡ b → e < length c
    go true p = (ltb-true _ _) p
    go false p = absurd (false≢true (subst (λ (x : Float). lt eps x ≡ true) (get_or-eq_default c nan ((ltb-false _ _) p)) h))

-- ---- an accepted network, and capacities on it

pub record WellFormed (N : Net) : Type 0 where
  pub added : ℕ
  pub pairs : links N ≡ added + added
  pub few : nodes N < unset
  pub heads_in : (e : ℕ) → e < links N → head N e < nodes N
  pub source_in : N.source < nodes N
  pub ends : N.source ≢ N.sink
  pub listed : (u e : ℕ) → In e (out N u) → (e < links N) × (tail N e ≡ u)
  pub lists_all : (e : ℕ) → e < links N → In e (out N (tail N e))

pub record Caps (N : Net) (c : List Float) : Type 0 where
  pub size : length c ≡ links N
  pub low : (e : ℕ) → e < links N → tail N e ≡ N.source → Low (left c e)
