-- What is lent, to be read or written.
use Rattle.std.specs.Prelude.{List, ◌≡◌, ◌+◌, ◌<◌, ◌&&◌, false, ℕ, Option, Some, None, length, get_or, take}
use Rattle.chain_theory.specs.Columns.{reads_row}
use Rattle.chain_theory.specs.Lent.{of_chain, RowRead}
use Rattle.distance_theory.specs.declared.lent.Rows.{Rows}
use Rattle.distance_theory.specs.declared.lent.Task.{Task}
use Rattle.std.proofs.Math.Seq.{slice}
use Rattle.distance_theory.specs.declared.lent.Shares.{Shares}
use Rattle.distance_theory.specs.declared.lent.SharesMut.{SharesMut}
use Rattle.distance_theory.specs.declared.lent.Pairs.{Pairs}
use Rattle.distance_theory.specs.declared.lent.PairsMut.{PairsMut}
use Rattle.distance_theory.specs.declared.lent.Scratch.{Scratch}
use Rattle.distance_theory.specs.declared.lent.Store.{Store}
use Rattle.distance_theory.specs.declared.lent.StoreMut.{StoreMut}

-- the lists that are lent are the same, whatever they hold
abbrev pub SamePairs : PairsMut → PairsMut → Type 0
SamePairs a b = (b.lefts.ghost_name ≡ a.lefts.ghost_name) × (b.rights.ghost_name ≡ a.rights.ghost_name) × (b.codes.ghost_name ≡ a.codes.ghost_name)

abbrev pub SameStore : StoreMut → StoreMut → Type 0
SameStore a b = (b.lengths.ghost_name ≡ a.lengths.ghost_name) × (b.places.ghost_name ≡ a.places.ghost_name) × (b.masses.ghost_name ≡ a.masses.ghost_name)

abbrev pub SameScratch : Scratch → Scratch → Type 0
SameScratch a b = (b.lefts.ghost_name ≡ a.lefts.ghost_name) × (b.rights.ghost_name ≡ a.rights.ghost_name) × (b.codes.ghost_name ≡ a.codes.ghost_name) × (b.places.ghost_name ≡ a.places.ghost_name) × (b.masses.ghost_name ≡ a.masses.ghost_name)

-- as long as they were, too
abbrev pub SameShares : SharesMut → SharesMut → Type 0
SameShares a b = (b.places.ghost_name ≡ a.places.ghost_name) × (b.masses.ghost_name ≡ a.masses.ghost_name) × (length b.places.now ≡ length a.places.now) × (length b.masses.now ≡ length a.masses.now)

-- the pairs that are noted
abbrev pub PairsNoted : PairsMut → Pairs → Type 0
PairsNoted a b = (b.lefts.now ≡ take a.count a.lefts.now) × (b.rights.now ≡ take a.count a.rights.now) × (b.codes.now ≡ take a.count a.codes.now)

-- the first n shares
abbrev pub FirstShares : SharesMut → ℕ → Shares → Type 0
FirstShares S n R = (R.places.now ≡ take n S.places.now) × (R.masses.now ≡ take n S.masses.now)

-- the same couplings, to be read
abbrev pub Reads : List ℕ → StoreMut → Store → Type 0
Reads s a b = (b.starts.now ≡ s) × (b.lengths.now ≡ a.lengths.now) × (b.places.now ≡ a.places.now) × (b.masses.now ≡ a.masses.now)

-- where the coupling of pair k starts, and how long it is, are listed
abbrev pub HasCoupling : Store → ℕ → Type 0
HasCoupling S k = (k < length S.starts.now) × (k < length S.lengths.now)

-- the coupling of pair k: it starts at starts[k] and is lengths[k] long
abbrev pub Couples : Store → ℕ → Shares → Type 0
Couples S k R =
    let a = get_or S.starts.now k 0 in
    let b = a + get_or S.lengths.now k 0 in
    (R.places.now ≡ slice a b S.places.now) × (R.masses.now ≡ slice a b S.masses.now)

-- there is a pair k
abbrev pub HasPair : Task → ℕ → Type 0
HasPair T k = (k < length T.pairs.lefts.now) × (k < length T.pairs.rights.now)

-- the rows of pair k, or none where one can't be read
abbrev pub RowsRead : Option Rows → Task → ℕ → Type 0
RowsRead (Some R) T k =
    HasPair T k × RowRead (Some R.xs) (of_chain T.left) (get_or T.pairs.lefts.now k 0) × RowRead (Some R.ys) (of_chain T.right) (get_or T.pairs.rights.now k 0) × (R.codes.now ≡ T.pairs.codes.now)
RowsRead None T k = HasPair T k → (reads_row (of_chain T.left) (get_or T.pairs.lefts.now k 0) && reads_row (of_chain T.right) (get_or T.pairs.rights.now k 0)) ≡ false
