-- A chain laid over the front of lists: the lists read back are the chain, and a chain with few and low entries in each row can be run.
use mathlib.Core.Path.{◌≡◌, refl, sym, ap, ◌∙◌}
use mathlib.Core.Bool.{true, false, not}
use Prim.Native.Nat.{ℕ, suc, ◌+◌, ◌≤◌, ◌<◌}
use mathlib.Core.List.{List, [], ◌∷◌, ◌++◌, map, map-append}
use native.Mathlib.Omega.{arith}
use lib.Dec.{ltb, leb}
use lib.Ieee.{Float}
use lib.ListN.{length, get_or, take, drop, length-map, get_or-append, get_or-map}
use lib.Seq.{take_at, take_all, ext_get_or}
use borrow.Author.Tests.{lt-ltb, le-ltb, le-leb, eq-eqb}
use Rattle.numbers.specs.Lists.{span, all, over}
use Rattle.numbers.specs.Real.{nought}
use Rattle.numbers.proofs.Alls.{all_of, all_append, every_of}
use Rattle.numbers.proofs.Bools.{and_second}
use Rattle.numbers.proofs.Members.{in_at}
use Rattle.numbers.proofs.Refuses.{none}
use Rattle.numbers.proofs.Spans.{span_length}
use Rattle.epsdelta_theory.specs.Jumps.{Jump, Jumps, Row, no_row, targets, rates}
use Rattle.epsdelta_theory.proofs.RowsIn as jumps
use Rattle.epsdelta_theory.proofs.RowsIn.{exits, all_jumps, Holds}
use Rattle.epsdelta_theory.proofs.RowReads.{row_length}
use Rattle.epsdelta_theory.proofs.Rows.{at_map_span}
use Rattle.epsdelta_theory.proofs.Layings.{laid_holds}
use Rattle.parts.proofs.Laid.{targets_length, rates_length}
use Rattle.chain_theory.specs.Chain.{Chain}
use Rattle.chain_theory.specs.Columns.{ChainColumns, entries, chain_of, starts_from, joined, shape_of, columns_of}
use Rattle.chain_theory.specs.Check.{thin, steady, misshapen}
use Rattle.chains.specs.Outcome.{laid}
use Rattle.chains.proofs.RowsLaid.{starts_length, starts_at}
use Rattle.distance_words.proofs.Run.{slim, fits}
use Rattle.bisim_chains.proofs.Making.{over_long}
use Rattle.bisim_chains.proofs.Rows.{Slender}

-- ---- the rows as those of jumps, which are laid in the same way

abbrev wrap : List Jump → Row
wrap es = record { exit = nought; prob = es }

starts_wrap : (x : ℕ) (R : List (List Jump)) → starts_from x R ≡ jumps.starts_from x (map wrap R)
unfolding starts_from jumps.starts_from
starts_wrap x [] = refl
starts_wrap x (es ∷ R) = ap (λ (l : List ℕ). x ∷ l) (starts_wrap (x + length es) R)

joined_wrap : (R : List (List Jump)) → joined R ≡ all_jumps (map wrap R)
unfolding joined all_jumps
joined_wrap [] = refl
joined_wrap (es ∷ R) = ap (λ (l : List Jump). es ++ l) (joined_wrap R)

-- every target of the rows is below n
all_low : (n : ℕ) (R : List (List Jump)) → ((s : ℕ) → s < length R → Slender n (get_or R s [])) → all (λ (t : ℕ). ltb t n) (targets (joined R)) ≡ true
unfolding joined all
all_low n [] f = refl
all_low n (es ∷ R) f =
    ap (all (λ (t : ℕ). ltb t n)) (map-append (λ (j : Jump). j.target) es (joined R))
    ∙ all_append (λ (t : ℕ). ltb t n) (targets es) (targets (joined R))
    ∙ sym (and_second _ _ true
    (all_of (λ (t : ℕ). ltb t n) (targets es) 0 (λ j h. lt-ltb _ _ ((f 0 (omega arith)).low (get_or (targets es) j 0) (in_at (targets es) j 0 h))))
    (sym (all_low n R (λ s h. f (suc s) (omega arith)))))

equal_chains : {R R' : List (List Jump)} {O O' : List Float} {s : ℕ} → R ≡ R' → O ≡ O' → ◌≡◌ {A = Chain} (record { rows = R; observations = O; initial = s }) (record { rows = R'; observations = O'; initial = s })
equal_chains a b = rw (a, b)

module _ (A : Chain) (C : ChainColumns) where
  abbrev R : List (List Jump)
  R = A.rows

  abbrev J : Jumps
  J = map wrap R

  abbrev O : List ℕ
  O = over (starts_from 0 R) C.offsets

  abbrev T : List ℕ
  T = over (targets (joined R)) C.targets

  abbrev P : List Float
  P = over (rates (joined R)) C.probabilities

  lies : jumps.Laid J [] C.offsets C.targets C.probabilities (over (exits J) []) O T P
  lies = record {
    exits_are = refl;
    starts_are = ap (λ (l : List ℕ). over l C.offsets) (starts_wrap 0 R);
    targets_are = ap (λ (l : List Jump). over (targets l) C.targets) (joined_wrap R);
    probs_are = ap (λ (l : List Jump). over (rates l) C.probabilities) (joined_wrap R);
  }

  holds : Holds J (over (exits J) []) O T P
  holds = laid_holds lies

  size : length J ≡ length R
  size = length-map R wrap

  row_is : (s : ℕ) → (get_or J s no_row).prob ≡ get_or R s []
  row_is s = ap (λ (r : Row). r.prob) (get_or-map wrap R s [])

  last : get_or O (length R) 0 ≡ length (joined R)
  last =
      get_or-append (starts_from 0 R) (drop (length (starts_from 0 R)) C.offsets) 0 (length R) (let z = starts_length 0 R in omega arith)
      ∙ starts_at 0 R (length R) (omega arith)
      ∙ ap (λ (l : List (List Jump)). 0 + length (joined l)) (take_all (length R) R (omega arith))
      ∙ omega arith

  abbrev lists : ChainColumns
  lists = laid (columns_of A) C

  entries_are : (s : ℕ) → s < length R → entries lists s ≡ get_or R s []
  unfolding columns_of
  entries_are s h = holds.prob s (let z = size in omega arith) ∙ row_is s

  module _ (seen : length A.observations ≡ length R) where
    pub read_back : chain_of (shape_of A) lists ≡ A
    unfolding chain_of shape_of columns_of
    read_back =
        let n = length R in
        equal_chains
        (ext_get_or [] (map (entries lists) (span 0 n)) R (length-map (span 0 n) (entries lists) ∙ span_length 0 n)
        (λ i h.
        let k = length-map (span 0 n) (entries lists) in
        let l = span_length 0 n in
        let z : 0 + i ≡ i = omega arith in
        at_map_span (entries lists) 0 n i [] (omega arith) ∙ ap (entries lists) z ∙ entries_are i (omega arith)))
        (take_at A.observations (drop (length A.observations) C.observations) n seen)

    module _ (few : length R ≤ 2000) (start : A.initial < length R) (rows : (s : ℕ) → s < length R → Slender (length R) (get_or R s [])) where
      is_thick : thin (shape_of A) lists ≡ false
      unfolding shape_of columns_of
      is_thick =
          let o = over_long (starts_from 0 R) C.offsets in
          let l = starts_length 0 R in
          let t = over_long (targets (joined R)) C.targets in
          let m = targets_length (joined R) in
          let p = over_long (rates (joined R)) C.probabilities in
          let k = rates_length (joined R) in
          none _ _ (le-ltb (length O) (length R + 1) (omega arith)) (none _ _ (le-ltb (length T) (length (joined R)) (omega arith)) (le-ltb (length P) (length (joined R)) (omega arith)))

      is_steady : steady (shape_of A) lists ≡ true
      unfolding shape_of columns_of
      is_steady =
          sym (and_second _ _ true (eq-eqb _ _ holds.first) (sym (sym (and_second _ _ true (eq-eqb _ _ last)
          (sym (every_of (λ (s : ℕ). leb (get_or O s 0) (get_or O (s + 1) 0)) (length R) (λ s h. le-leb _ _ (holds.rise s (let z = size in omega arith)))))))))

      is_low : all (λ (t : ℕ). ltb t (length R)) (take (length (joined R)) T) ≡ true
      is_low =
          ap (all (λ (t : ℕ). ltb t (length R))) (take_at (targets (joined R)) (drop (length (targets (joined R))) C.targets) (length (joined R)) (targets_length (joined R)))
          ∙ all_low (length R) R rows

      is_shaped : misshapen (shape_of A) lists ≡ false
      unfolding shape_of columns_of
      is_shaped = none _ _ (ap not (lt-ltb _ _ start)) (none _ _ is_thick (none _ _ (ap not is_steady) (ap not is_low)))

      is_slim : slim (shape_of A) lists ≡ true
      unfolding shape_of columns_of
      is_slim =
          every_of (λ (s : ℕ). leb (get_or O (s + 1) 0) (get_or O s 0 + 32)) (length R) (λ s h.
          let z = size in
          let l = row_length holds s (omega arith) in
          let e = ap (λ (js : List Jump). length js) (row_is s) in
          let f = (rows s h).few in
          let r = holds.rise s (omega arith) in
          le-leb _ _ (let g : get_or O (s + 1) 0 ≤ get_or O s 0 + 32 = omega arith in g))

      is_seen : leb (length R) (length (over A.observations C.observations)) ≡ true
      is_seen = le-leb _ _ (let o = over_long A.observations C.observations in let g : length R ≤ length (over A.observations C.observations) = omega arith in g)

      pub laid_fits : fits (shape_of A) lists ≡ true
      unfolding shape_of columns_of
      laid_fits =
          sym (and_second _ _ true (le-leb _ _ few) (sym (sym (and_second _ _ true (ap not is_shaped) (sym (sym (and_second _ _ true is_slim (sym is_seen))))))))
