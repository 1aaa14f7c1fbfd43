-- The loops of the listing: the contribution of each pair, and the records of the chosen ones; and what the answer is then.
use Rattle.std.specs.Prelude.{Result, Ok, Err}
use mathlib.Core.Path.{◌≡◌, refl, sym, subst, subst⁻¹, ap, ap₂, ◌∙◌}
use Prim.Native.Nat.{ℕ, zero, suc, ◌+◌, ◌≤◌, ◌<◌}
use mathlib.Core.Bool.{Bool, true, false, ◌&&◌}
use mathlib.Core.List.{List, [], ◌∷◌, ◌++◌, map, append-nil}
use native.Mathlib.Omega.{arith}
use native.Mathlib.Nat.{le_of_suc-le-suc, not-suc-le-zero}
use lib.Dec.{leb, ltb}
use lib.ListN.{length, get_or, set, take, drop, replicate, length-map, length-append, length-replicate, drop_of_length-le, get_or-append, get_or-map}
use lib.Seq.{take-append-le, take_at, length-take-le, take-append_seam, get_or-take, ext_get_or}
use lib.Ieee.{Float, nan, binary64, mul}
use borrow.Author.Tests.{lt-ltb, le-ltb, le-leb, leb-true, ltb-true}
use Rattle.numbers.specs.Real.{nought}
use Rattle.numbers.specs.Lists.{span, all}
use Rattle.numbers.proofs.Bools.{and_t}
use Rattle.numbers.proofs.Alls.{all_front, all_of}
use Rattle.numbers.proofs.Refuses.{check_hit, check_skip}
use Rattle.numbers.proofs.Spans.{span_length}
use Rattle.numbers.proofs.Over.{over, over_length, over_next, over_done}
use Rattle.epsdelta_theory.proofs.Rows.{at_map_span}
use Rattle.distance_theory.specs.Pairs.{Pair, pair, pair_at, most}
use Rattle.distance_theory.specs.Couplings.{Metric}
use Rattle.distance_theory.specs.Contributions.{contribution, contributions, rank_into, listed}
use Rattle.distance_theory.specs.declared.MetricOptions.{MetricOptions}
use Rattle.distance_theory.specs.declared.PairContribution.{PairContribution}
use Rattle.distance_theory.proofs.Rank.{key}
use Rattle.distance_theory.proofs.Choosing.{record_at, Weighed, Read, Ranks, listed_same}
use Rattle.distance_words.specs.Told.{nothing, row}
use Rattle.distance_words.proofs.Listing.{observing, pair_in, pairs_in, record_of, share_of, below, known, listable, listing, listed_of}
use Rattle.distance_theory.specs.declared.lent.Visited.{Visited}
use Rattle.distance_contributions.specs.Visited.{ReadAt, listable_in}
use Rattle.distance_contributions.specs.Row.{row_refusal, stored, stored_if, written}
use Rattle.distance_words.specs.declared.told.Listed.{Listed}

-- the record of states x and y
abbrev pub with_gap : ℕ → ℕ → Float → Float → PairContribution
with_gap x y o g = record { left = record { 0 = x }; right = record { 0 = y }; gap = g; occupancy = o; contribution = mul binary64 o g }

zero_more : (k : ℕ) → 0 + k ≡ k
zero_more k = omega arith

abbrev done_with : ℕ → List PairContribution → Result Listed ℕ
done_with j rs = Ok (record { count = j; records = rs })

both : {a b : Bool} → a ≡ true → b ≡ true → (a && b) ≡ true
both {a} {b} e f = rw (e, f)

-- ---- what can be read

known_at : (n : ℕ) (states : List ℕ) (count : ℕ) → known n states count ≡ true → (k : ℕ) → k < n → (k < length states) × (get_or states k 0 < count)
known_at n states count e k h =
    let (a, b) = and_t (leb n (length states)) (all (below count) (take n states)) e in
    let w = leb-true n (length states) a in
    (omega arith, ltb-true (get_or states k 0) count (all_front (below count) states 0 n w b k h))

module _ (n : ℕ) (lefts rights : List ℕ) (seenL seenR spent : List Float) (top : ℕ) (e : listable n lefts rights seenL seenR spent top ≡ true) where
  few_pairs : n ≤ most
  few_pairs = leb-true n most (and_t (leb n most) _ e).0

  few_asked : top ≤ 64
  few_asked = leb-true top 64 (and_t (leb top 64) _ (and_t (leb n most) _ e).1).0

  all_read : (k : ℕ) → k < n → Read lefts rights seenL seenR spent k
  all_read k h =
      let (a, b) = and_t (leb n (length spent)) _ (and_t (leb top 64) _ (and_t (leb n most) _ e).1).1 in
      let (c, d) = and_t (known n lefts (length seenL)) _ b in
      let w = leb-true n (length spent) a in
      let p = known_at n lefts (length seenL) c k h in
      let q = known_at n rights (length seenR) d k h in
      record { left_in = p.0; right_in = q.0; spent_in = omega arith; left_low = p.1; right_low = q.1 }

-- pairs that can be listed: so few, so few asked for, each of them read
pub listable_reads : (V : Visited) (top : ℕ) → listable_in V top ≡ true → (length V.pairs.lefts.now ≤ most) × (top ≤ 64) × ((k : ℕ) → k < length V.pairs.lefts.now → ReadAt V k)
listable_reads V top e =
    let P = V.pairs in
    let n = length P.lefts.now in
    (few_pairs n P.lefts.now P.rights.now V.left.now V.right.now V.spent.now top e, few_asked n P.lefts.now P.rights.now V.left.now V.right.now V.spent.now top e, all_read n P.lefts.now P.rights.now V.left.now V.right.now V.spent.now top e)

-- ---- the contribution of each pair

module _ (lefts rights : List ℕ) (seenL seenR spent : List Float) where
  abbrev pub shares : ℕ → List Float
  shares n = map (share_of lefts rights seenL seenR spent) (span 0 n)

  pub shares_size : (n : ℕ) → length (shares n) ≡ n
  shares_size n = length-map (span 0 n) (share_of lefts rights seenL seenR spent) ∙ span_length 0 n

  pub share_at_lem : (n k : ℕ) → k < n → get_or (shares n) k nan ≡ share_of lefts rights seenL seenR spent k
  share_at_lem n k h = at_map_span (share_of lefts rights seenL seenR spent) 0 n k nan h ∙ ap (share_of lefts rights seenL seenR spent) (zero_more k)

  -- those of the pairs below k are there
  pub record Weighing (l₀ l : List Float) (k : ℕ) : Type 0 where
    pub inside : k ≤ length l₀
    pub are : l ≡ over (shares (length l₀)) k l₀

  pub weighing_size : {l₀ l : List Float} {k : ℕ} → Weighing l₀ l k → length l ≡ length l₀
  weighing_size {l₀} {l} {k} W = ap length W.are ∙ over_length (shares (length l₀)) l₀ k (let a = shares_size (length l₀) in let b = W.inside in omega arith) W.inside

  pub weighing_on : {l₀ l : List Float} {k : ℕ} → Weighing l₀ l k → k < length l → {c : PairContribution} → c ≡ record_of lefts rights seenL seenR spent k → Weighing l₀ (set l k c.contribution) (k + 1)
  weighing_on {l₀} {l} {k} W h {c} e =
      let s = weighing_size W in
      let a = shares_size (length l₀) in
      record { inside = omega arith; are = over_next (shares (length l₀)) l₀ l k nan c.contribution W.are (ap key e ∙ sym (share_at_lem (length l₀) k (omega arith))) (omega arith) (omega arith) }

  pub weighing_ends : {l₀ l : List Float} {k : ℕ} → Weighing l₀ l k → length l ≤ k → l ≡ shares (length l₀)
  weighing_ends {l₀} {l} {k} W h =
      let s = weighing_size W in
      let a = shares_size (length l₀) in
      let i = W.inside in
      over_done (shares (length l₀)) l₀ l k W.are (omega arith) ∙ ap (λ (r : List Float). shares (length l₀) ++ r) (drop_of_length-le l₀ {i = length (shares (length l₀))} (omega arith)) ∙ append-nil (shares (length l₀))

  -- ---- the records of the chosen pairs

  -- those of the first i are there
  pub record Recording (chosen : List ℕ) (l : List PairContribution) (i : ℕ) : Type 0 where
    pub inside : i ≤ length chosen
    pub are : l ≡ over (map (record_of lefts rights seenL seenR spent) chosen) i (replicate 64 nothing)

  records_size : (chosen : List ℕ) → length (map (record_of lefts rights seenL seenR spent) chosen) ≡ length chosen
  records_size chosen = length-map chosen (record_of lefts rights seenL seenR spent)

  module _ {chosen : List ℕ} {l : List PairContribution} {i : ℕ} (C : Recording chosen l i) (few : length chosen ≤ 64) where
    pub recording_on : i < length chosen → {c : PairContribution} → c ≡ record_of lefts rights seenL seenR spent (get_or chosen i 0) → Recording chosen (set l i c) (i + 1)
    recording_on h {c} e =
        let a = records_size chosen in
        let z = length-replicate 64 nothing in
        record { inside = omega arith; are = over_next (map (record_of lefts rights seenL seenR spent) chosen) (replicate 64 nothing) l i (record_of lefts rights seenL seenR spent 0) c C.are (e ∙ sym (record_at_lem chosen i h)) (omega arith) (omega arith) }
      where
        record_at_lem : (ks : List ℕ) (j : ℕ) → j < length ks → get_or (map (record_of lefts rights seenL seenR spent) ks) j (record_of lefts rights seenL seenR spent 0) ≡ record_of lefts rights seenL seenR spent (get_or ks j 0)
        record_at_lem (k ∷ ks) zero q = refl
        record_at_lem (k ∷ ks) (suc j) q = record_at_lem ks j (le_of_suc-le-suc q)
        record_at_lem [] j q = absurd (not-suc-le-zero q)

  -- ---- the whole

  module _ (n : ℕ) where
    abbrev G : Metric
    G = observing seenL seenR (pairs_in lefts rights n)

    found_size : length G.found ≡ n
    found_size = length-map (span 0 n) (pair_in lefts rights) ∙ span_length 0 n

    record_is : (k : ℕ) → k < n → record_at G spent k ≡ record_of lefts rights seenL seenR spent k
    record_is k h = ap (λ (p : Pair). contribution G p (get_or spent k nan)) (at_map_span (pair_in lefts rights) 0 n k (pair 0 0) h ∙ ap (pair_in lefts rights) (zero_more k))

    weighed : Weighed G spent (shares n)
    weighed = record {
      size = shares_size n ∙ sym found_size;
      is = λ k h. let s = shares_size n in share_at_lem n k (omega arith) ∙ ap key (sym (record_is k (omega arith)));
    }

    same_records : (ks : List ℕ) → ((i : ℕ) → i < length ks → get_or ks i 0 < n) → map (record_at G spent) ks ≡ map (record_of lefts rights seenL seenR spent) ks
    same_records [] g = refl
    same_records (k ∷ ks) g = ap₂ (λ (c : PairContribution) (cs : List PairContribution). c ∷ cs) (record_is k (g 0 (omega arith))) (same_records ks (λ i h. g (suc i) (omega arith)))

    -- m pairs are chosen where there is room for as many as the options ask for
    module _ (o : MetricOptions) (l : List ℕ) (room : length l ≡ o.top) (m : ℕ) (l' : List ℕ) (R : Ranks (shares n) l m l') where
      pub chosen_size : length (take m l') ≡ m
      chosen_size = length-take-le m l' R.kept.few

      pub chosen_low : (i : ℕ) → i < length (take m l') → get_or (take m l') i 0 < n
      chosen_low i h = let s = chosen_size in let z = shares_size n in subst⁻¹ (λ (x : ℕ). x < n) (get_or-take m l' i 0 (omega arith)) (let q = R.kept.low i (omega arith) in omega arith)

      chosen_are : map (record_of lefts rights seenL seenR spent) (take m l') ≡ listed G o spent
      unfolding listed
      chosen_are = sym (same_records (take m l') chosen_low) ∙ R.are G spent weighed ∙ ap (λ (j : ℕ). take j (rank_into [] (contributions G spent 0 G.found))) room

      pub listing_is : {rs : List PairContribution} → rs ≡ row (map (record_of lefts rights seenL seenR spent) (take m l')) → done_with m rs ≡ listing true (listed G o spent)
      listing_is {rs} e =
          let c : m ≡ length (listed G o spent) = sym chosen_size ∙ sym (length-map (take m l') (record_of lefts rights seenL seenR spent)) ∙ ap length chosen_are in
          ap₂ done_with c (e ∙ ap row chosen_are)

-- ---- the work space of the listing: the front of an array, lent and given back

module _ {A : Type 0} where
  pub front_size : (n m : ℕ) (x : A) → n ≤ m → length (take n (replicate m x)) ≡ n
  front_size n m x h = length-take-le n (replicate m x) (let z = length-replicate m x in omega arith)

module _ (lefts rights : List ℕ) (seenL seenR spent : List Float) (n : ℕ) (few : n ≤ most) where
  -- the contributions, and what stands behind them
  module _ {s : List Float} (e : s ≡ shares lefts rights seenL seenR spent (length (take n (replicate 4096 nought)))) where
    shares_are : s ≡ shares lefts rights seenL seenR spent n
    shares_are = e ∙ ap (shares lefts rights seenL seenR spent) (front_size n 4096 nought few)

    module _ (o : MetricOptions) (asked : o.top ≤ 64) (rest : List Float) {m : ℕ} {l : List ℕ} (R : Ranks (take n (s ++ rest)) (take o.top (replicate 64 0)) m l) where
      ranks : Ranks (shares lefts rights seenL seenR spent n) (take o.top (replicate 64 0)) m l
      ranks = subst (λ (x : List Float). Ranks x (take o.top (replicate 64 0)) m l) (take_at s rest n (let z = ap length shares_are in let w = shares_size lefts rights seenL seenR spent n in omega arith) ∙ shares_are) R

      count_few : m ≤ 64
      count_few = let a = R.kept.few in let b = R.size in let d = front_size {A = ℕ} o.top 64 0 asked in omega arith

      pub records_read : ((k : ℕ) → k < n → Read lefts rights seenL seenR spent k) → (tail : List ℕ)
          → (length (take m (l ++ tail)) ≤ 64) × ((i : ℕ) → i < length (take m (l ++ tail)) → Read lefts rights seenL seenR spent (get_or (take m (l ++ tail)) i 0))
      records_read f tail = subst⁻¹ (λ (ks : List ℕ). (length ks ≤ 64) × ((i : ℕ) → i < length ks → Read lefts rights seenL seenR spent (get_or ks i 0))) (take-append-le m l tail R.kept.few)
          ((let a = length-take-le m l R.kept.few in let b = count_few in omega arith), λ i h. f (get_or (take m l) i 0) (chosen_low lefts rights seenL seenR spent n o (take o.top (replicate 64 0)) (front_size o.top 64 0 asked) m l ranks i h))

      pub list_is : (tail : List ℕ) {rs : List PairContribution} → rs ≡ row (map (record_of lefts rights seenL seenR spent) (take m (l ++ tail))) → done_with m rs ≡ listing true (listed (observing seenL seenR (pairs_in lefts rights n)) o spent)
      list_is tail e = listing_is lefts rights seenL seenR spent n o (take o.top (replicate 64 0)) (front_size o.top 64 0 asked) m l ranks (e ∙ ap (λ (ks : List ℕ). row (map (record_of lefts rights seenL seenR spent) ks)) (take-append-le m l tail R.kept.few))

-- what is answered where the contributions can be listed, and where not
pub told : (cs : List PairContribution) {b r : Bool} → r ≡ b → r ≡ true → {x : Result Listed ℕ} → x ≡ listing true cs → x ≡ listing b cs
told cs e t p = p ∙ ap (λ (y : Bool). listing y cs) (sym t ∙ e)

pub untold : (cs : List PairContribution) {b r : Bool} → r ≡ b → r ≡ false → Err 4 ≡ listing b cs
untold cs e t = ap (λ (y : Bool). listing y cs) (sym t ∙ e)

-- lists that hold the left and right states of some pairs, as `explore` leaves them, are lists of these pairs
pub pairs_listed : (ps : List Pair) (l r : List ℕ) → pairs_in (map (λ (p : Pair). p.left) ps ++ l) (map (λ (p : Pair). p.right) ps ++ r) (length ps) ≡ ps
pairs_listed ps l r = ext_get_or (pair 0 0) (pairs_in ls rs (length ps)) ps size (λ i h. each i (let z = size in omega arith))
  where
    ls : List ℕ
    ls = map (λ (p : Pair). p.left) ps ++ l

    rs : List ℕ
    rs = map (λ (p : Pair). p.right) ps ++ r

    size : length (pairs_in ls rs (length ps)) ≡ length ps
    size = length-map (span 0 (length ps)) (pair_in ls rs) ∙ span_length 0 (length ps)

    state : (f : Pair → ℕ) (more : List ℕ) → f (pair 0 0) ≡ 0 → (i : ℕ) → i < length ps → get_or (map f ps ++ more) i 0 ≡ f (get_or ps i (pair 0 0))
    state f more z i h = get_or-append (map f ps) more 0 i (let w = length-map ps f in omega arith) ∙ ap (get_or (map f ps) i) (sym z) ∙ get_or-map f ps i (pair 0 0)

    each : (i : ℕ) → i < length ps → get_or (pairs_in ls rs (length ps)) i (pair 0 0) ≡ get_or ps i (pair 0 0)
    each i h = at_map_span (pair_in ls rs) 0 (length ps) i (pair 0 0) h ∙ ap (pair_in ls rs) (zero_more i) ∙ ap₂ pair (state (λ (p : Pair). p.left) l refl i h) (state (λ (p : Pair). p.right) r refl i h)

-- ---- the contributions of a metric

known_of : (f : Pair → ℕ) → f (pair 0 0) ≡ 0 → (ps : List Pair) (more : List ℕ) (count : ℕ) → ((k : ℕ) → k < length ps → f (get_or ps k (pair 0 0)) < count) → known (length ps) (map f ps ++ more) count ≡ true
known_of f z ps more count g = both (le-leb (length ps) (length (map f ps ++ more)) (let a = length-append (map f ps) more in let b = length-map ps f in omega arith))
    (ap (all (below count)) (take_at (map f ps) more (length ps) (length-map ps f)) ∙ all_of (below count) (map f ps) 0 (λ j h. lt-ltb (get_or (map f ps) j 0) count (each j (let b = length-map ps f in omega arith))))
  where
    each : (j : ℕ) → j < length ps → get_or (map f ps) j 0 < count
    each j h = subst⁻¹ (λ (x : ℕ). x < count) (ap (get_or (map f ps) j) (sym z) ∙ get_or-map f ps j (pair 0 0)) (g j h)

-- handed the lists that `explore` leaves, the observations and the occupancies, `contributions` lists what the definition does
pub listed_of_lem : (G : Metric) (o : MetricOptions) (spent : List Float) (l r : List ℕ) → length G.found ≤ most → o.top ≤ 64 → length G.found ≤ length spent
    → ((k : ℕ) → k < length G.found → (pair_at G.found k).left < length G.left.observations) → ((k : ℕ) → k < length G.found → (pair_at G.found k).right < length G.right.observations)
    → listed_of (length G.found) (map (λ (p : Pair). p.left) G.found ++ l) (map (λ (p : Pair). p.right) G.found ++ r) G.left.observations G.right.observations spent o ≡ listing true (listed G o spent)
listed_of_lem G o spent l r few asked long left right =
    let ls = map (λ (p : Pair). p.left) G.found ++ l in
    let rs = map (λ (p : Pair). p.right) G.found ++ r in
    ap₂ listing
    (both (le-leb (length G.found) most few) (both (le-leb o.top 64 asked) (both (le-leb (length G.found) (length spent) long)
    (both (known_of (λ (p : Pair). p.left) refl G.found l (length G.left.observations) left) (known_of (λ (p : Pair). p.right) refl G.found r (length G.right.observations) right)))))
    (listed_same (observing G.left.observations G.right.observations (pairs_in ls rs (length G.found))) G refl refl (pairs_listed G.found l r) o spent)

-- ---- the lent row

pub row_accepted : (room count : ℕ) → 64 ≤ room → count ≤ 64 → row_refusal room count ≡ 0
row_accepted room count h k = check_skip 7 (ltb room 64) _ 0 (le-ltb room 64 h) (check_skip 14 (ltb 64 count) 0 0 (le-ltb 64 count k) refl)

module _ (rs cs : List PairContribution) (n : ℕ) where
  pub row_short : length rs < 64 → stored 7 rs ≡ written cs n rs
  row_short e = ap (λ (r : ℕ). stored_if r (take n cs) rs) (sym (check_hit 7 (ltb (length rs) 64) _ (lt-ltb (length rs) 64 e)))

  pub row_crowded : 64 ≤ length rs → 64 < n → stored 14 rs ≡ written cs n rs
  row_crowded h e = ap (λ (r : ℕ). stored_if r (take n cs) rs) (sym (check_skip 7 (ltb (length rs) 64) _ 14 (le-ltb (length rs) 64 h) (check_hit 14 (ltb 64 n) 0 (lt-ltb 64 n e))))

  pub row_whole : 64 ≤ length rs → n ≤ 64 → length cs ≡ 64 → stored 0 (over cs n rs) ≡ written cs n rs
  row_whole h k len =
      ap (stored 0) (ap (λ (j : ℕ). take n cs ++ drop j rs) (sym (length-take-le n cs (omega arith))))
      ∙ ap (λ (r : ℕ). stored_if r (take n cs) rs) (sym (row_accepted (length rs) n h k))

-- what `contributions` lists goes over the front of a row
pub listed_written : (cs rs : List PairContribution) → 64 ≤ length rs → length cs ≤ 64 → written (row cs) (length cs) rs ≡ stored 0 (cs ++ drop (length cs) rs)
listed_written cs rs h k =
    ap (λ (r : ℕ). stored_if r (take (length cs) (row cs)) rs) (row_accepted (length rs) (length cs) h k)
    ∙ ap (λ (l : List PairContribution). stored 0 (l ++ drop (length l) rs)) (take-append_seam cs (drop (length cs) (replicate 64 nothing)))
