-- The coupling store: couplings laid one after the other, each over the front of what is left of two lists, with where it starts and how long it is.
use Prim.Native.Nat.{ℕ, zero, suc, ◌+◌}
use mathlib.Core.Bool.{Bool, true, false, ◌&&◌}
use mathlib.Core.List.{List, ◌++◌}
use lib.Dec.{leb}
use lib.ListN.{length, get_or, set, take, drop}
use lib.Ieee.{Float}
use Rattle.chain_theory.specs.Columns.{ChainColumns}
use Rattle.chain_theory.specs.Lent.{of_chain}
use Rattle.distance_theory.specs.declared.lent.StoreMut.{StoreMut}
use Rattle.distance_theory.specs.declared.lent.Task.{Task}
use Rattle.distance_theory.specs.Pairs.{most}
use Rattle.distance_theory.proofs.Index.{look_up}
use Rattle.distance_theory.proofs.Bests.{Laid}
use Rattle.distance_theory.proofs.PairRows.{lay_pair}

-- were all laid, and the lists then
pub record Filled : Type 0 where
  pub done : Bool
  pub starts : List ℕ
  pub lengths : List ℕ
  pub places : List ℕ
  pub masses : List Float

abbrev pub filled : Bool → List ℕ → List ℕ → List ℕ → List Float → Filled
filled b s l p m = record { done = b; starts = s; lengths = l; places = p; masses = m }

-- pair k, as it is laid over two lists
abbrev pub Laying : Type 0
Laying = ℕ → List ℕ → List Float → Laid

-- the pairs from k on, j of them, the first at place `at`; one that can't be laid ends it
unfoldable pub fill_from : Laying → ℕ → ℕ → ℕ → List ℕ → List ℕ → List ℕ → List Float → Filled
fill_from part zero k at s l p m = filled true s l p m
fill_from part (suc j) k at s l p m =
    let r = part k (drop at p) (drop at m) in
    elim r.done [ true ↦ fill_from part j (suc k) (at + r.cells) (set s k at) (set l k r.cells) (take at p ++ r.places) (take at m ++ r.masses) | false ↦ filled false s l p m ]

-- the pairs in lists of their left and right states, by their codes
abbrev pub laying_of : List ℕ → List ℕ → List ℕ → ChainColumns → ChainColumns → Laying
laying_of lefts rights codes C D k p m = lay_pair (look_up codes) C D (length codes) (get_or lefts k 0) (get_or rights k 0) p m

abbrev pub laying_in : Task → Laying
laying_in T = laying_of T.pairs.lefts.now T.pairs.rights.now T.pairs.codes.now (of_chain T.left) (of_chain T.right)

-- at most 4,096 pairs, and an entry for each
abbrev pub counted : ℕ → ℕ → ℕ → ℕ → ℕ → Bool
counted n lefts rights starts lengths = leb n most && (leb n lefts && (leb n rights && (leb n starts && leb n lengths)))

abbrev pub fill_if : Bool → Filled → List ℕ → List ℕ → List ℕ → List Float → Filled
fill_if true r s l p m = r
fill_if false r s l p m = filled false s l p m

-- the independent couplings of the first n pairs
abbrev pub fill : ℕ → List ℕ → List ℕ → List ℕ → ChainColumns → ChainColumns → List ℕ → List ℕ → List ℕ → List Float → Filled
fill n lefts rights codes C D s l p m =
    fill_if (counted n (length lefts) (length rights) (length s) (length l)) (fill_from (laying_of lefts rights codes C D) n 0 0 s l p m) s l p m

-- the same of a task's pairs, in the lists that are lent
abbrev pub filled_as : Bool → List ℕ → StoreMut → Filled
filled_as b s S = filled b s S.lengths.now S.places.now S.masses.now

abbrev pub fill_in : Task → List ℕ → StoreMut → Filled
fill_in T s S = fill (length T.pairs.lefts.now) T.pairs.lefts.now T.pairs.rights.now T.pairs.codes.now (of_chain T.left) (of_chain T.right) s S.lengths.now S.places.now S.masses.now
