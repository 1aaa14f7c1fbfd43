-- A run whose pairs and chains stand in lists: the store that is filled holds its first couplings, unless it is too short (refusal 18).
use mathlib.Core.Path.{◌≡◌, refl, sym, subst, ap, ap₂, ◌∙◌}
use mathlib.Core.Logic.{◌⊎◌, inl, inr, ◌≢◌}
use Prim.Native.Nat.{ℕ, zero, suc, ◌+◌, ◌*◌, ◌≤◌, ◌<◌}
use mathlib.Core.Bool.{Bool, true, false, ◌&&◌}
use mathlib.Core.List.{List, [], ◌++◌, map}
use native.Mathlib.Omega.{arith}
use lib.Dec.{ltb, leb}
use lib.ListN.{length, get_or, set, take, drop, length-set, length-map, length-append, length-drop}
use lib.Seq.{slice, length-slice, length-take-le, take-append-le, take-take, drop_at, take_at, take-append-add, take_all, get_or-set_same, get_or-set_other}
use lib.Ieee.{Float}
use borrow.Author.Tests.{leb-true, le-leb, lt-leb, eq-eqb}
use Rattle.numbers.specs.Lists.{over}
use Rattle.numbers.proofs.Bools.{and_t, and_first, and_second, eq_or_ne, lt_or_ge}
use Rattle.epsdelta_theory.specs.Jumps.{jumps_of}
use Rattle.epsdelta_theory.proofs.RowReads.{jumps_length}
use Rattle.chain_theory.specs.Columns.{ChainColumns, begins, reads_row, row_targets, row_rates}
use Rattle.distance_theory.specs.Pairs.{Pair, pair, pair_at, place}
use Rattle.distance_theory.specs.Couplings.{Share, independent, Metric, row_l, row_r, room, shares_of}
use Rattle.distance_theory.specs.Rounds.{first_coupling}
use Rattle.distance_theory.proofs.Index.{look_up}
use Rattle.distance_theory.proofs.Turns.{coupling_at}
use Rattle.distance_theory.proofs.Crossings.{map_at}
use Rattle.distance_theory.proofs.Held.{shares_in}
use Rattle.distance_theory.proofs.Store.{space, independent_length, room_take, room_within}
use Rattle.distance_theory.proofs.Stored.{shares_of_lem}
use Rattle.distance_theory.proofs.Bests.{Look, ats, parts, independent_by, independent_by_lem, rows_fit, fitting, Laid, lay_if}
use Rattle.distance_theory.proofs.PairRows.{laid_when, lay_read, lay_pair}
use Rattle.distance_words.proofs.Store.{Filled, fill_from, laying_of}
use Rattle.distance_store.proofs.Filling.{fill_more, fill_none, fill_zero}

-- ---- lists and columns that hold the pairs and rows of a run

pub record Ready (G : Metric) (lefts rights codes : List ℕ) (C D : ChainColumns) : Type 0 where
  pub left_at : (k : ℕ) → k < length G.found → get_or lefts k 0 ≡ (pair_at G.found k).left
  pub right_at : (k : ℕ) → k < length G.found → get_or rights k 0 ≡ (pair_at G.found k).right
  pub look : (p : Pair) → look_up codes p ≡ place p G.found
  pub codes_few : length codes ≤ 4096
  pub left_reads : (k : ℕ) → k < length G.found → reads_row C (pair_at G.found k).left ≡ true
  pub right_reads : (k : ℕ) → k < length G.found → reads_row D (pair_at G.found k).right ≡ true
  pub left_row : (k : ℕ) → k < length G.found → jumps_of (row_targets C (pair_at G.found k).left) (row_rates C (pair_at G.found k).left) ≡ row_l G (pair_at G.found k)
  pub right_row : (k : ℕ) → k < length G.found → jumps_of (row_targets D (pair_at G.found k).right) (row_rates D (pair_at G.found k).right) ≡ row_r G (pair_at G.found k)
  pub left_few : (k : ℕ) → k < length G.found → length (row_l G (pair_at G.found k)) ≤ 32
  pub right_few : (k : ℕ) → k < length G.found → length (row_r G (pair_at G.found k)) ≤ 32

-- a row that can be read has a probability for each target
pub beside_rows : (C : ChainColumns) (x : ℕ) → reads_row C x ≡ true → length (row_rates C x) ≡ length (row_targets C x)
beside_rows C x e =
    let (a₁, r₁) = and_t (ltb (x + 1) (length C.offsets)) _ e in
    let (a₂, r₂) = and_t (leb (begins C x) (begins C (x + 1))) _ r₁ in
    let (a₃, a₄) = and_t (leb (begins C (x + 1)) (length C.targets)) _ r₂ in
    length-slice (begins C x) (begins C (x + 1)) C.probabilities (leb-true _ _ a₄) ∙ sym (length-slice (begins C x) (begins C (x + 1)) C.targets (leb-true _ _ a₃))

module _ {G : Metric} {lefts rights codes : List ℕ} {C D : ChainColumns} (Y : Ready G lefts rights codes C D) where
  abbrev at_pair : ℕ → Pair
  at_pair k = pair_at G.found k

  abbrev first : ℕ → List Share
  first k = first_coupling G (at_pair k)

  pub look_is : ◌≡◌ {A = Look} (look_up codes) (λ p. place p G.found)
  look_is = λ i p. Y.look p i

  first_length : (k : ℕ) → length (first k) ≡ space G k
  first_length k = independent_length G.found (row_l G (at_pair k)) (row_r G (at_pair k))

  module _ (k : ℕ) (h : k < length G.found) where
    abbrev xs : List ℕ
    xs = row_targets C (at_pair k).left

    abbrev ps : List Float
    ps = row_rates C (at_pair k).left

    abbrev ys : List ℕ
    ys = row_targets D (at_pair k).right

    abbrev qs : List Float
    qs = row_rates D (at_pair k).right

    pub left_length : length xs ≡ length (row_l G (at_pair k))
    left_length = sym (jumps_length xs ps (sym (beside_rows C (at_pair k).left (Y.left_reads k h)))) ∙ ap length (Y.left_row k h)

    pub right_length : length ys ≡ length (row_r G (at_pair k))
    right_length = sym (jumps_length ys qs (sym (beside_rows D (at_pair k).right (Y.right_reads k h)))) ∙ ap length (Y.right_row k h)

    -- rows that fit, so that only the room decides
    pub rows_fit_lem : rows_fit (length xs) (length ps) (length ys) (length qs) (length codes) ≡ true
    rows_fit_lem =
        let a = left_length in let b = right_length in let f = Y.left_few k h in let g = Y.right_few k h in
        rw (
          eq-eqb (length ps) (length xs) (beside_rows C (at_pair k).left (Y.left_reads k h)),
          eq-eqb (length qs) (length ys) (beside_rows D (at_pair k).right (Y.right_reads k h)),
          le-leb (length xs) 32 (omega arith),
          le-leb (length ys) 32 (omega arith),
          le-leb (length codes) 4096 Y.codes_few,
        )

    cells_are : length xs * length ys ≡ space G k
    cells_are = ap₂ ◌*◌ left_length right_length

    first_is : independent_by (look_up codes) (jumps_of xs ps) (jumps_of ys qs) ≡ first k
    first_is =
        ap (λ (f : Look). independent_by f (jumps_of xs ps) (jumps_of ys qs)) look_is ∙ independent_by_lem G.found (jumps_of xs ps) (jumps_of ys qs)
        ∙ ap₂ (independent G.found) (Y.left_row k h) (Y.right_row k h)

    module _ (p : List ℕ) (m : List Float) where
      abbrev enough : Bool
      enough = leb (space G k) (length p) && leb (space G k) (length m)

      cells_fit_lem : fitting (length xs) (length ps) (length ys) (length qs) (length codes) (length p) (length m) ≡ enough
      cells_fit_lem = sym (and_second _ _ _ rows_fit_lem (ap (λ (n : ℕ). leb n (length p) && leb n (length m)) (sym cells_are)))

      pub laying_is : laying_of lefts rights codes C D k p m ≡ lay_if enough (first k) p m
      laying_is =
          ap₂ (λ (x y : ℕ). lay_pair (look_up codes) C D (length codes) x y p m) (Y.left_at k h) (Y.right_at k h)
          ∙ ap (λ (b : Bool). laid_when b (lay_read (look_up codes) C D (length codes) (at_pair k).left (at_pair k).right p m) p m) (sym (and_second _ _ _ (Y.left_reads k h) (sym (Y.right_reads k h))))
          ∙ ap₂ (λ (b : Bool) (cs : List Share). lay_if b cs p m) cells_fit_lem first_is

-- ---- parts of lists

-- a part before place n of a list that is changed from n on
pub slice_before : {A : Type 0} (a b n : ℕ) (l w : List A) → b ≤ n → n ≤ length l → slice a b (take n l ++ w) ≡ slice a b l
slice_before a b n l w h k =
    ap (drop a) (take-append-le b (take n l) w (let e = length-take-le n l k in omega arith) ∙ take-take b n l h)

-- what was put at place n
pub slice_put : {A : Type 0} (n j : ℕ) (l u w : List A) → n ≤ length l → j ≡ length u → slice n (n + j) (take n l ++ (u ++ w)) ≡ u
slice_put n j l u w k e =
    let z = length-take-le n l k in
    ap (drop n) (ap (λ (i : ℕ). take i (take n l ++ (u ++ w))) (let q : n + j ≡ length (take n l) + length u = omega arith in q)
    ∙ take-append-add (take n l) (u ++ w) (length u) ∙ ap (λ r. take n l ++ r) (take_at u w (length u) refl))
    ∙ drop_at (take n l) u n z

-- ---- a store that holds couplings

-- the couplings of the first n pairs of a run
pub record Keeps (G : Metric) (policy : List (List Share)) (n : ℕ) (S L P : List ℕ) (M : List Float) : Type 0 where
  pub in_starts : length G.found ≤ length S
  pub in_lengths : length G.found ≤ length L
  pub start_at : (i : ℕ) → i < n → get_or S i 0 ≡ room G (take i G.found)
  pub length_at : (i : ℕ) → i < n → get_or L i 0 ≡ length (coupling_at policy i)
  pub fits : (i : ℕ) → i < n → length (coupling_at policy i) ≤ space G i
  pub shares_are : (i : ℕ) → i < n → shares_in P M (get_or S i 0) (get_or S i 0 + get_or L i 0) ≡ coupling_at policy i

nowhere : (G : Metric) → room G (take 0 G.found) ≡ 0
unfolding room
nowhere G = refl

-- rooms grow
pub room_grows : (G : Metric) (ps : List Pair) (i k : ℕ) → i ≤ k → room G (take i ps) ≤ room G (take k ps)
room_grows G ps i k h = subst (λ (l : List Pair). room G l ≤ room G (take k ps)) (take-take i k ps h) (room_within G (take k ps) i)

-- pair i ends before place n, where one that comes later starts
pub ends_before : (G : Metric) (i k : ℕ) → i < k → k ≤ length G.found → room G (take i G.found) + space G i ≤ room G (take k G.found)
ends_before G i k h l = let e = room_take G G.found i (omega arith) in let g = room_grows G G.found (suc i) k h in omega arith

-- the last ends where the room does
pub ends_within : (G : Metric) (k : ℕ) → k < length G.found → room G (take k G.found) + space G k ≤ room G G.found
ends_within G k l = let e = room_take G G.found k l in let g = room_within G G.found (suc k) in omega arith

module _ {G : Metric} {lefts rights codes : List ℕ} {C D : ChainColumns} (Y : Ready G lefts rights codes C D) where
  abbrev firsts : List (List Share)
  firsts = map (first_coupling G) G.found

  abbrev from : ℕ → ℕ
  from k = room G (take k G.found)

  first_at : (k : ℕ) → k < length G.found → coupling_at firsts k ≡ first Y k
  first_at k h = map_at (first_coupling G) G.found k [] (pair 0 0) h

  -- pair k is laid at its place
  module _ (k : ℕ) (h : k < length G.found) (S L P : List ℕ) (M : List Float) (rp : from k + space G k ≤ length P) (rm : from k + space G k ≤ length M) where
    abbrev cs : List Share
    cs = first Y k

    abbrev R : Laid
    R = lay_if true cs (drop (from k) P) (drop (from k) M)

    laid_is : R ≡ laying_of lefts rights codes C D k (drop (from k) P) (drop (from k) M)
    laid_is =
        let u = length-drop (from k) P in let w = length-drop (from k) M in
        sym (laying_is Y k h (drop (from k) P) (drop (from k) M)
        ∙ ap (λ (b : Bool). lay_if b cs (drop (from k) P) (drop (from k) M)) (ap₂ ◌&&◌ (le-leb (space G k) (length (drop (from k) P)) (omega arith)) (le-leb (space G k) (length (drop (from k) M)) (omega arith))))

    abbrev S' : List ℕ
    S' = set S k (from k)

    abbrev L' : List ℕ
    L' = set L k (length cs)

    abbrev P' : List ℕ
    P' = take (from k) P ++ over (ats cs) (drop (from k) P)

    abbrev M' : List Float
    M' = take (from k) M ++ over (parts cs) (drop (from k) M)

    places_size : length P' ≡ length P
    places_size =
        let a = length-append (take (from k) P) (over (ats cs) (drop (from k) P)) in
        let b = length-append (ats cs) (drop (length (ats cs)) (drop (from k) P)) in
        let c = length-drop (length (ats cs)) (drop (from k) P) in let d = length-drop (from k) P in
        let e = length-map cs (λ (c : Share). c.at) in let f = first_length Y k in
        let g = length-take-le (from k) P (omega arith) in omega arith

    masses_size : length M' ≡ length M
    masses_size =
        let a = length-append (take (from k) M) (over (parts cs) (drop (from k) M)) in
        let b = length-append (parts cs) (drop (length (parts cs)) (drop (from k) M)) in
        let c = length-drop (length (parts cs)) (drop (from k) M) in let d = length-drop (from k) M in
        let e = length-map cs (λ (c : Share). c.mass) in let f = first_length Y k in
        let g = length-take-le (from k) M (omega arith) in omega arith

    put_shares : shares_in P' M' (from k) (from k + length cs) ≡ cs
    put_shares =
        ap₂ shares_of (slice_put (from k) (length cs) P (ats cs) _ (omega arith) (sym (length-map cs (λ (c : Share). c.at)))) (slice_put (from k) (length cs) M (parts cs) _ (omega arith) (sym (length-map cs (λ (c : Share). c.mass))))
        ∙ shares_of_lem cs

    next_from : from (suc k) ≡ from k + length cs
    next_from = let e = room_take G G.found k h in let f = first_length Y k in omega arith

    keeps_more : Keeps G firsts k S L P M → Keeps G firsts (suc k) S' L' P' M'
    keeps_more K = record {
      in_starts = let e = length-set S k (from k) in let i = K.in_starts in omega arith;
      in_lengths = let e = length-set L k (length cs) in let i = K.in_lengths in omega arith;
      start_at = λ i l. start i l (eq_or_ne i k);
      length_at = λ i l. long i l (eq_or_ne i k);
      fits = λ i l. fit i l (eq_or_ne i k);
      shares_are = λ i l. same i l (eq_or_ne i k);
    }
      where
        start_here : get_or S' k 0 ≡ from k
        start_here = get_or-set_same S k (from k) 0 (let i = K.in_starts in omega arith)

        long_here : get_or L' k 0 ≡ length cs
        long_here = get_or-set_same L k (length cs) 0 (let i = K.in_lengths in omega arith)

        start : (i : ℕ) → i < suc k → (i ≡ k) ⊎ (i ≢ k) → get_or S' i 0 ≡ from i
        start i l (inl e) = ap (λ (j : ℕ). get_or S' j 0) e ∙ start_here ∙ ap from (sym e)
        start i l (inr d) = get_or-set_other S k i (from k) 0 d ∙ K.start_at i (omega arith)

        long : (i : ℕ) → i < suc k → (i ≡ k) ⊎ (i ≢ k) → get_or L' i 0 ≡ length (coupling_at firsts i)
        long i l (inl e) = ap (λ (j : ℕ). get_or L' j 0) e ∙ long_here ∙ ap length (sym (first_at k h)) ∙ ap (λ (j : ℕ). length (coupling_at firsts j)) (sym e)
        long i l (inr d) = get_or-set_other L k i (length cs) 0 d ∙ K.length_at i (omega arith)

        fit : (i : ℕ) → i < suc k → (i ≡ k) ⊎ (i ≢ k) → length (coupling_at firsts i) ≤ space G i
        fit i l (inl e) = subst (λ (j : ℕ). length (coupling_at firsts j) ≤ space G j) (sym e) (let a = ap length (first_at k h) in let b = first_length Y k in omega arith)
        fit i l (inr d) = K.fits i (omega arith)

        same : (i : ℕ) → i < suc k → (i ≡ k) ⊎ (i ≢ k) → shares_in P' M' (get_or S' i 0) (get_or S' i 0 + get_or L' i 0) ≡ coupling_at firsts i
        same i l (inl e) =
            ap (λ (j : ℕ). shares_in P' M' (get_or S' j 0) (get_or S' j 0 + get_or L' j 0)) e
            ∙ ap₂ (λ (a b : ℕ). shares_in P' M' a (a + b)) start_here long_here ∙ put_shares ∙ sym (first_at k h) ∙ ap (coupling_at firsts) (sym e)
        same i l (inr d) =
            let j : i < k = omega arith in
            let s = K.start_at i j in let n = K.length_at i j in let f = K.fits i j in let b = ends_before G i k j (omega arith) in
            ap₂ (λ (a c : ℕ). shares_in P' M' a (a + c)) (get_or-set_other S k i (from k) 0 d) (get_or-set_other L k i (length cs) 0 d)
            ∙ ap₂ shares_of (slice_before (get_or S i 0) (get_or S i 0 + get_or L i 0) (from k) P _ (omega arith) (omega arith)) (slice_before (get_or S i 0) (get_or S i 0 + get_or L i 0) (from k) M _ (omega arith) (omega arith))
            ∙ K.shares_are i j

  -- ---- a store that is long enough: it is filled, and holds the first couplings

  pub record Held (S L P : List ℕ) (M : List Float) (f : Filled) : Type 0 where
    pub done : f.done ≡ true
    pub keeps : Keeps G firsts (length G.found) f.starts f.lengths f.places f.masses
    pub starts_size : length f.starts ≡ length S
    pub lengths_size : length f.lengths ≡ length L
    pub places_size : length f.places ≡ length P
    pub masses_size : length f.masses ≡ length M

  fill_held : (j k : ℕ) (S L P : List ℕ) (M : List Float) → j + k ≡ length G.found → Keeps G firsts k S L P M → room G G.found ≤ length P → room G G.found ≤ length M
      → Held S L P M (fill_from (laying_of lefts rights codes C D) j k (from k) S L P M)
  fill_held zero k S L P M e K rp rm =
      subst (Held S L P M) (sym (fill_zero (laying_of lefts rights codes C D) k (from k) S L P M))
      (record { done = refl; keeps = subst (λ (n : ℕ). Keeps G firsts n S L P M) (let q : k ≡ length G.found = omega arith in q) K; starts_size = refl; lengths_size = refl; places_size = refl; masses_size = refl })
  fill_held (suc j) k S L P M e K rp rm =
      let h : k < length G.found = omega arith in
      let w = ends_within G k h in
      let sp = places_size k h S L P M (omega arith) (omega arith) in
      let sm = masses_size k h S L P M (omega arith) (omega arith) in
      let F = fill_held j (suc k) (S' k h S L P M (omega arith) (omega arith)) (L' k h S L P M (omega arith) (omega arith)) (P' k h S L P M (omega arith) (omega arith)) (M' k h S L P M (omega arith) (omega arith))
      (omega arith) (keeps_more k h S L P M (omega arith) (omega arith) K) (omega arith) (omega arith) in
      subst (Held S L P M)
      (ap (λ (a : ℕ). fill_from (laying_of lefts rights codes C D) j (suc k) a (S' k h S L P M (omega arith) (omega arith)) (L' k h S L P M (omega arith) (omega arith)) (P' k h S L P M (omega arith) (omega arith)) (M' k h S L P M (omega arith) (omega arith))) (next_from k h S L P M (omega arith) (omega arith))
      ∙ fill_more (laying_of lefts rights codes C D) j k (from k) S L P M (R k h S L P M (omega arith) (omega arith)) (laid_is k h S L P M (omega arith) (omega arith)) refl)
      (record {
        done = F.done;
        keeps = F.keeps;
        starts_size = F.starts_size ∙ length-set S k (from k);
        lengths_size = F.lengths_size ∙ length-set L k (length (first Y k));
        places_size = F.places_size ∙ sp;
        masses_size = F.masses_size ∙ sm;
      })

  pub filled_held : (S L P : List ℕ) (M : List Float) → length G.found ≤ length S → length G.found ≤ length L → room G G.found ≤ length P → room G G.found ≤ length M
      → Held S L P M (fill_from (laying_of lefts rights codes C D) (length G.found) 0 0 S L P M)
  filled_held S L P M a b c d = subst (λ (x : ℕ). Held S L P M (fill_from (laying_of lefts rights codes C D) (length G.found) 0 x S L P M)) (nowhere G)
      (fill_held (length G.found) 0 S L P M (omega arith) (record { in_starts = a; in_lengths = b; start_at = λ i l. absurd (omega arith); length_at = λ i l. absurd (omega arith); fits = λ i l. absurd (omega arith); shares_are = λ i l. absurd (omega arith) }) c d)

  -- ---- a store that is too short

  unlaid : (k : ℕ) (h : k < length G.found) (P : List ℕ) (M : List Float) → (leb (space G k) (length (drop (from k) P)) && leb (space G k) (length (drop (from k) M))) ≡ false
      → lay_if false (first Y k) (drop (from k) P) (drop (from k) M) ≡ laying_of lefts rights codes C D k (drop (from k) P) (drop (from k) M)
  unlaid k h P M e = sym (laying_is Y k h (drop (from k) P) (drop (from k) M) ∙ ap (λ (b : Bool). lay_if b (first Y k) (drop (from k) P) (drop (from k) M)) e)

  fill_short : (j k : ℕ) (S L P : List ℕ) (M : List Float) → j + k ≡ length G.found → from k ≤ length P → from k ≤ length M → (length P < room G G.found) ⊎ (length M < room G G.found)
      → (fill_from (laying_of lefts rights codes C D) j k (from k) S L P M).done ≡ false
  fill_short zero k S L P M e ip im s = absurd (over s)
    where
      all_room : from k ≡ room G G.found
      all_room = ap (room G) (take_all k G.found (omega arith))

      over : (length P < room G G.found) ⊎ (length M < room G G.found) → ⊥
      over (inl x) = let a = all_room in omega arith
      over (inr x) = let a = all_room in omega arith
  fill_short (suc j) k S L P M e ip im s = pick (λ S₁ L₁ P₁ M₁ a b c. fill_short j (suc k) S₁ L₁ P₁ M₁ (omega arith) a b c) (lt_or_ge (length P) (from k + space G k)) (lt_or_ge (length M) (from k + space G k))
    where
      h : k < length G.found
      h = omega arith

      stops : (leb (space G k) (length (drop (from k) P)) && leb (space G k) (length (drop (from k) M))) ≡ false → (fill_from (laying_of lefts rights codes C D) (suc j) k (from k) S L P M).done ≡ false
      stops z = ap (λ (f : Filled). f.done) (sym (fill_none (laying_of lefts rights codes C D) j k (from k) S L P M (lay_if false (first Y k) (drop (from k) P) (drop (from k) M)) (unlaid k h P M z) refl))

      pick : ((S₁ L₁ P₁ : List ℕ) (M₁ : List Float) → from (suc k) ≤ length P₁ → from (suc k) ≤ length M₁ → (length P₁ < room G G.found) ⊎ (length M₁ < room G G.found) → (fill_from (laying_of lefts rights codes C D) j (suc k) (from (suc k)) S₁ L₁ P₁ M₁).done ≡ false)
          → (length P < from k + space G k) ⊎ (from k + space G k ≤ length P) → (length M < from k + space G k) ⊎ (from k + space G k ≤ length M) → (fill_from (laying_of lefts rights codes C D) (suc j) k (from k) S L P M).done ≡ false
      pick f (inl x) y = let d = length-drop (from k) P in let q = lt-leb (space G k) (length (drop (from k) P)) (omega arith) in stops (sym (and_first _ _ q) ∙ q)
      pick f (inr x) (inl y) =
          let d = length-drop (from k) P in let g = length-drop (from k) M in
          stops (ap₂ ◌&&◌ (le-leb (space G k) (length (drop (from k) P)) (omega arith)) (lt-leb (space G k) (length (drop (from k) M)) (omega arith)))
      pick f (inr x) (inr y) =
          let sp = places_size k h S L P M x y in let sm = masses_size k h S L P M x y in let nf = next_from k h S L P M x y in let fl = first_length Y k in
          ap (λ (f : Filled). f.done)
          (sym (ap (λ (a : ℕ). fill_from (laying_of lefts rights codes C D) j (suc k) a (S' k h S L P M x y) (L' k h S L P M x y) (P' k h S L P M x y) (M' k h S L P M x y)) nf
          ∙ fill_more (laying_of lefts rights codes C D) j k (from k) S L P M (R k h S L P M x y) (laid_is k h S L P M x y) refl))
          ∙ f (S' k h S L P M x y) (L' k h S L P M x y) (P' k h S L P M x y) (M' k h S L P M x y) (omega arith) (omega arith) (still s)
        where
          still : (length P < room G G.found) ⊎ (length M < room G G.found) → (length (P' k h S L P M x y) < room G G.found) ⊎ (length (M' k h S L P M x y) < room G G.found)
          still (inl z) = inl (let a = places_size k h S L P M x y in omega arith)
          still (inr z) = inr (let a = masses_size k h S L P M x y in omega arith)

  -- refusal 18
  pub unfilled : (S L P : List ℕ) (M : List Float) → (length P < room G G.found) ⊎ (length M < room G G.found) → (fill_from (laying_of lefts rights codes C D) (length G.found) 0 0 S L P M).done ≡ false
  unfilled S L P M s = subst (λ (x : ℕ). (fill_from (laying_of lefts rights codes C D) (length G.found) 0 x S L P M).done ≡ false) (nowhere G)
      (fill_short (length G.found) 0 S L P M (omega arith) (let z = nowhere G in omega arith) (let z = nowhere G in omega arith) s)
