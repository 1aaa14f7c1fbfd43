-- Couplings of a run that stand in the store: their improvement there is the definition's (`improved_from`).
use mathlib.Core.Path.{◌≡◌, refl, sym, subst, ap, ap₂, ◌∙◌}
use mathlib.Core.Logic.{◌⊎◌, inl, inr, ◌≢◌}
use Prim.Native.Nat.{ℕ, zero, suc, ◌+◌, ◌≤◌, ◌<◌}
use mathlib.Core.Bool.{Bool, true, false, ◌&&◌, ◌||◌}
use mathlib.Core.List.{List, [], ◌∷◌, ◌++◌, append_assoc}
use native.Mathlib.Omega.{arith}
use native.Mathlib.Numerals.{add-one}
use lib.ListN.{length, get_or, set, take, drop, length-set, length-map, length-append, length-drop, take-append-drop}
use lib.Seq.{slice, length-take-le, drop-drop, get_or-set_same, get_or-set_other}
use lib.Ieee.{Float, nan, binary64, add, sub, mul, lt}
use borrow.Author.Tests.{le-leb}
use Rattle.numbers.specs.Real.{nought, eps}
use Rattle.numbers.specs.Choice.{larger, apart}
use Rattle.numbers.specs.Lists.{over}
use Rattle.numbers.proofs.Bools.{and_second, eq_or_ne, lt_or_ge}
use Rattle.epsdelta_theory.specs.Jumps.{Jump, jumps_of}
use Rattle.chain_theory.specs.Columns.{ChainColumns, row_targets, row_rates}
use Rattle.distance_theory.specs.Pairs.{Pair, pair_at}
use Rattle.distance_theory.specs.Couplings.{Share, expected, Metric, row_l, row_r, Best, point_mass, best_of, best_coupling, room, shares_of}
use Rattle.distance_theory.specs.Rounds.{backup, Improvement, better, improve, improve_all, improved_from}
use Rattle.distance_theory.specs.Rounds
use Rattle.distance_theory.proofs.Index.{look_up}
use Rattle.distance_theory.proofs.Turns.{coupling_at, improve_next, no_item}
use Rattle.distance_theory.proofs.Held.{shares_in}
use Rattle.distance_theory.proofs.Store.{space, best_length}
use Rattle.distance_theory.proofs.Stored.{shares_of_lem}
use Rattle.distance_theory.proofs.Bests.{Look, ats, parts, best_by, best_by_lem}
use Rattle.distance_store.proofs.Kept.{Ready, look_is, rows_fit_lem, slice_before, slice_put, Keeps, ends_before, ends_within}
use Rattle.distance_words.proofs.Improving.{best_when, best_at, Adopted, gains, room_for, adopt_if, adopt, Bettered, bettered, better_from, best_of_pair}

-- ---- the cheapest coupling

module _ {G : Metric} {lefts rights codes : List ℕ} {C D : ChainColumns} (Y : Ready G lefts rights codes C D) (v : List Float) (k : ℕ) (h : k < length G.found) where
  abbrev es : List Jump
  es = jumps_of (row_targets C (pair_at G.found k).left) (row_rates C (pair_at G.found k).left)

  abbrev fs : List Jump
  fs = jumps_of (row_targets D (pair_at G.found k).right) (row_rates D (pair_at G.found k).right)

  coupling_is : best_of (point_mass (row_l G (pair_at G.found k)) (row_r G (pair_at G.found k))) G.found v (row_l G (pair_at G.found k)) (row_r G (pair_at G.found k)) ≡ best_coupling G v (pair_at G.found k)
  unfolding best_coupling
  coupling_is = refl

  pub best_is : best_of_pair lefts rights codes C D v k ≡ best_coupling G v (pair_at G.found k)
  best_is =
      ap₂ (λ (x y : ℕ). best_at (look_up codes) C D (length codes) v x y) (Y.left_at k h) (Y.right_at k h)
      ∙ ap (λ (b : Bool). best_when b (best_by (point_mass es fs) (look_up codes) v es fs)) (sym (and_second _ _ _ (sym (and_second _ _ _ (Y.left_reads k h) (sym (Y.right_reads k h)))) (sym (rows_fit_lem Y k h))))
      ∙ ap (λ (f : Look). best_by (point_mass es fs) f v es fs) (look_is Y) ∙ best_by_lem (point_mass es fs) G.found v es fs
      ∙ ap₂ (λ (a b : List Jump). best_of (point_mass a b) G.found v a b) (Y.left_row k h) (Y.right_row k h) ∙ coupling_is

  best_few : length (best_coupling G v (pair_at G.found k)).coupling ≤ space G k
  unfolding best_coupling
  best_few = best_length G.found v (row_l G (pair_at G.found k)) (row_r G (pair_at G.found k)) (point_mass (row_l G (pair_at G.found k)) (row_r G (pair_at G.found k)))

-- ---- shares put over a part of a list

abbrev put : {A : Type 0} → ℕ → List A → List A → List A
put n u l = take n l ++ over u (drop n l)

put_length : {A : Type 0} (n : ℕ) (u l : List A) → n + length u ≤ length l → length (put n u l) ≡ length l
put_length n u l h =
    let a = length-append (take n l) (over u (drop n l)) in let b = length-append u (drop (length u) (drop n l)) in
    let c = length-drop (length u) (drop n l) in let d = length-drop n l in let e = length-take-le n l (omega arith) in omega arith

slice_tail : {A : Type 0} (x y z : List A) (a b : ℕ) → length x ≡ length y → length x ≤ a → slice a b (x ++ z) ≡ slice a b (y ++ z)
slice_tail [] [] z a b e h = refl
slice_tail [] (d ∷ y) z a b e h = absurd (omega arith)
slice_tail (c ∷ x) [] z a b e h = absurd (omega arith)
slice_tail (c ∷ x) (d ∷ y) z zero b e h = absurd (omega arith)
slice_tail (c ∷ x) (d ∷ y) z (suc a) zero e h = refl
slice_tail (c ∷ x) (d ∷ y) z (suc a) (suc b) e h = slice_tail x y z a b (omega arith) (omega arith)

-- a part behind it
slice_after : {A : Type 0} (a b n : ℕ) (u l : List A) → n + length u ≤ a → n + length u ≤ length l → slice a b (put n u l) ≡ slice a b l
slice_after a b n u l h k =
    let e = length-take-le n l (omega arith) in
    let f = length-take-le (n + length u) l k in
    let g = length-append (take n l) u in
    ap (slice a b) (sym (append_assoc (take n l) u (drop (length u) (drop n l))) ∙ ap (λ (r : List _). (take n l ++ u) ++ r) (drop-drop (length u) n l))
    ∙ slice_tail (take n l ++ u) (take (n + length u) l) (drop (n + length u) l) a b (omega arith) (omega arith)
    ∙ ap (slice a b) (take-append-drop (n + length u) l)

-- ---- pair k gets another coupling

module _ {G : Metric} {policy : List (List Share)} {S L P : List ℕ} {M : List Float} (K : Keeps G policy (length G.found) S L P M) (size : length policy ≡ length G.found)
    (rp : room G G.found ≤ length P) (rm : room G G.found ≤ length M) (k : ℕ) (h : k < length G.found) (cs : List Share) (few : length cs ≤ space G k) where
  abbrev from : ℕ
  from = get_or S k 0

  abbrev P' : List ℕ
  P' = put from (ats cs) P

  abbrev M' : List Float
  M' = put from (parts cs) M

  ats_size : length (ats cs) ≡ length cs
  ats_size = length-map cs (λ (c : Share). c.at)

  parts_size : length (parts cs) ≡ length cs
  parts_size = length-map cs (λ (c : Share). c.mass)

  in_store : from + length cs ≤ room G G.found
  in_store = let s = K.start_at k h in let w = ends_within G k h in omega arith

  places_kept : length P' ≡ length P
  places_kept = put_length from (ats cs) P (let a = ats_size in let i = in_store in omega arith)

  masses_kept : length M' ≡ length M
  masses_kept = put_length from (parts cs) M (let a = parts_size in let i = in_store in omega arith)

  here : shares_in P' M' from (from + length cs) ≡ cs
  here =
      let i = in_store in
      ap₂ shares_of (slice_put from (length cs) P (ats cs) _ (omega arith) (sym ats_size)) (slice_put from (length cs) M (parts cs) _ (omega arith) (sym parts_size)) ∙ shares_of_lem cs

  elsewhere : (i : ℕ) → i < length G.found → i ≢ k → (i < k) ⊎ (k ≤ i) → shares_in P' M' (get_or S i 0) (get_or S i 0 + get_or L i 0) ≡ shares_in P M (get_or S i 0) (get_or S i 0 + get_or L i 0)
  elsewhere i l d (inl j) =
      let s = K.start_at i l in let t = K.start_at k h in let n = K.length_at i l in let f = K.fits i l in
      let b = ends_before G i k j (omega arith) in let w = in_store in
      ap₂ shares_of (slice_before (get_or S i 0) (get_or S i 0 + get_or L i 0) from P _ (omega arith) (omega arith)) (slice_before (get_or S i 0) (get_or S i 0 + get_or L i 0) from M _ (omega arith) (omega arith))
  elsewhere i l d (inr j) =
      let s = K.start_at i l in let t = K.start_at k h in
      let b = ends_before G k i (omega arith) (omega arith) in let w = in_store in let x = ats_size in let y = parts_size in
      ap₂ shares_of (slice_after (get_or S i 0) (get_or S i 0 + get_or L i 0) from (ats cs) P (omega arith) (omega arith)) (slice_after (get_or S i 0) (get_or S i 0 + get_or L i 0) from (parts cs) M (omega arith) (omega arith))

  keeps_set : Keeps G (set policy k cs) (length G.found) S (set L k (length (ats cs))) P' M'
  keeps_set = record {
    in_starts = K.in_starts;
    in_lengths = let e = length-set L k (length (ats cs)) in let i = K.in_lengths in omega arith;
    start_at = K.start_at;
    length_at = λ i l. long i l (eq_or_ne i k);
    fits = λ i l. fit i l (eq_or_ne i k);
    shares_are = λ i l. same i l (eq_or_ne i k);
  }
    where
      new : coupling_at (set policy k cs) k ≡ cs
      new = get_or-set_same policy k cs [] (omega arith)

      long_here : get_or (set L k (length (ats cs))) k 0 ≡ length cs
      long_here = get_or-set_same L k (length (ats cs)) 0 (let i = K.in_lengths in omega arith) ∙ ats_size

      long : (i : ℕ) → i < length G.found → (i ≡ k) ⊎ (i ≢ k) → get_or (set L k (length (ats cs))) i 0 ≡ length (coupling_at (set policy k cs) i)
      long i l (inl e) = ap (λ (j : ℕ). get_or (set L k (length (ats cs))) j 0) e ∙ long_here ∙ ap length (sym new) ∙ ap (λ (j : ℕ). length (coupling_at (set policy k cs) j)) (sym e)
      long i l (inr d) = get_or-set_other L k i (length (ats cs)) 0 d ∙ K.length_at i l ∙ ap length (sym (get_or-set_other policy k i cs [] d))

      fit : (i : ℕ) → i < length G.found → (i ≡ k) ⊎ (i ≢ k) → length (coupling_at (set policy k cs) i) ≤ space G i
      fit i l (inl e) = subst (λ (j : ℕ). length (coupling_at (set policy k cs) j) ≤ space G j) (sym e) (let a = ap length new in omega arith)
      fit i l (inr d) = let a = ap length (get_or-set_other policy k i cs [] d) in let b = K.fits i l in omega arith

      same : (i : ℕ) → i < length G.found → (i ≡ k) ⊎ (i ≢ k) → shares_in P' M' (get_or S i 0) (get_or S i 0 + get_or (set L k (length (ats cs))) i 0) ≡ coupling_at (set policy k cs) i
      same i l (inl e) =
          ap (λ (j : ℕ). shares_in P' M' (get_or S j 0) (get_or S j 0 + get_or (set L k (length (ats cs))) j 0)) e
          ∙ ap (λ (n : ℕ). shares_in P' M' from (from + n)) long_here ∙ here ∙ sym new ∙ ap (coupling_at (set policy k cs)) (sym e)
      same i l (inr d) =
          ap (λ (n : ℕ). shares_in P' M' (get_or S i 0) (get_or S i 0 + n)) (get_or-set_other L k i (length (ats cs)) 0 d)
          ∙ elsewhere i l d (lt_or_ge i k) ∙ K.shares_are i l ∙ sym (get_or-set_other policy k i cs [] d)

-- ---- a turn, and all

-- the definition's improvement and what stands in the store
pub record Same (G : Metric) (S P₀ : List ℕ) (M₀ : List Float) (r : Improvement) (b : Bettered) : Type 0 where
  pub residual_is : b.residual ≡ r.residual
  pub improved_is : b.improved ≡ r.improved
  pub size : length r.policy ≡ length G.found
  pub keeps : Keeps G r.policy (length G.found) S b.lengths b.places b.masses
  pub places_size : length b.places ≡ length P₀
  pub masses_size : length b.masses ≡ length M₀

improve_as : (G : Metric) (v : List Float) (k : ℕ) (p : Pair) (r : Improvement) → improve G v k p r
    ≡ Rounds.adopt (better v (best_coupling G v p) (coupling_at r.policy k)) k (best_coupling G v p).coupling r.policy (larger r.residual (apart (backup G k (best_coupling G v p).value) (get_or v k nan))) r.improved
unfolding improve
improve_as G v k p r = refl

module _ {G : Metric} {lefts rights codes : List ℕ} {C D : ChainColumns} (Y : Ready G lefts rights codes C D) (v cost : List Float) (γ : Float) (gc : (k : ℕ) → k < length G.found → get_or cost k nan ≡ get_or G.cost k nan) (gg : γ ≡ G.gamma)
    (S P₀ : List ℕ) (M₀ : List Float) (rp : room G G.found ≤ length P₀) (rm : room G G.found ≤ length M₀) where
  abbrev best : ℕ → Best
  best = best_of_pair lefts rights codes C D v

  -- what the machine makes of pair k
  abbrev turned : ℕ → Best → Bettered → Bettered
  turned k b w =
      let a = adopt b.value (ats b.coupling) (parts b.coupling) v k S w.lengths w.places w.masses in
      bettered (larger w.residual (apart (add binary64 (get_or cost k nan) (mul binary64 γ b.value)) (get_or v k nan))) (a.done || w.improved) a.lengths a.places a.masses

  module _ (k : ℕ) (h : k < length G.found) (r : Improvement) (w : Bettered) (U : Same G S P₀ M₀ r w) where
    abbrev b : Best
    b = best_coupling G v (pair_at G.found k)

    abbrev gain : Bool
    gain = better v b (coupling_at r.policy k)

    gain_is : gains b.value v k S w.lengths w.places w.masses ≡ gain
    gain_is = ap (λ (cs : List Share). lt b.value (sub binary64 (expected v cs) eps)) (U.keeps.shares_are k h)

    roomy : room_for (get_or S k 0 + length (ats b.coupling)) (length w.places) (length w.masses) ≡ true
    roomy =
        let p = U.places_size in let m = U.masses_size in let s = U.keeps.start_at k h in let e = ends_within G k h in let f = best_few Y v k h in let a = length-map b.coupling (λ (c : Share). c.at) in
        ap₂ ◌&&◌ (le-leb (get_or S k 0 + length (ats b.coupling)) (length w.places) (omega arith)) (le-leb (get_or S k 0 + length (ats b.coupling)) (length w.masses) (omega arith))

    abbrev adopting : Bool → Adopted
    adopting t = adopt_if t k (get_or S k 0) (ats b.coupling) (parts b.coupling) w.lengths w.places w.masses

    adopt_as : adopt b.value (ats b.coupling) (parts b.coupling) v k S w.lengths w.places w.masses ≡ adopting gain
    adopt_as = ap adopting (ap₂ ◌&&◌ gain_is roomy ∙ and_true gain)
      where
        and_true : (t : Bool) → (t && true) ≡ t
        and_true true = refl
        and_true false = refl

    abbrev off : Float
    off = larger r.residual (apart (backup G k b.value) (get_or v k nan))

    off_is : larger w.residual (apart (add binary64 (get_or cost k nan) (mul binary64 γ b.value)) (get_or v k nan)) ≡ off
    off_is = ap₂ (λ (x : Float) (y : Float). larger x (apart y (get_or v k nan))) U.residual_is (ap₂ (λ (x y : Float). add binary64 x (mul binary64 y b.value)) (gc k h) gg)

    after : (t : Bool) → Same G S P₀ M₀ (Rounds.adopt t k b.coupling r.policy off r.improved) (bettered off ((adopting t).done || w.improved) (adopting t).lengths (adopting t).places (adopting t).masses)
    after true = let p = U.places_size in let m = U.masses_size in record {
      residual_is = refl;
      improved_is = refl;
      size = length-set r.policy k b.coupling ∙ U.size;
      keeps = keeps_set U.keeps U.size (omega arith) (omega arith) k h b.coupling (best_few Y v k h);
      places_size = places_kept U.keeps U.size (omega arith) (omega arith) k h b.coupling (best_few Y v k h) ∙ U.places_size;
      masses_size = masses_kept U.keeps U.size (omega arith) (omega arith) k h b.coupling (best_few Y v k h) ∙ U.masses_size;
    }
    after false = record { residual_is = refl; improved_is = U.improved_is; size = U.size; keeps = U.keeps; places_size = U.places_size; masses_size = U.masses_size }

    turn_same : Same G S P₀ M₀ (improve G v k (pair_at G.found k) r) (turned k (best k) w)
    turn_same =
        subst (λ (x : Best). Same G S P₀ M₀ (improve G v k (pair_at G.found k) r) (turned k x w)) (sym (best_is Y v k h))
        (subst (λ (x : Improvement). Same G S P₀ M₀ x (turned k b w)) (sym (improve_as G v k (pair_at G.found k) r))
        (subst (λ (x : Adopted). Same G S P₀ M₀ (Rounds.adopt gain k b.coupling r.policy off r.improved) (bettered (larger w.residual (apart (add binary64 (get_or cost k nan) (mul binary64 γ b.value)) (get_or v k nan))) (x.done || w.improved) x.lengths x.places x.masses)) (sym adopt_as)
        (subst (λ (x : Float). Same G S P₀ M₀ (Rounds.adopt gain k b.coupling r.policy off r.improved) (bettered x ((adopting gain).done || w.improved) (adopting gain).lengths (adopting gain).places (adopting gain).masses)) (sym off_is) (after gain))))

  all_same : (j k : ℕ) (r : Improvement) (w : Bettered) → j + k ≡ length G.found → Same G S P₀ M₀ r w
      → Same G S P₀ M₀ (improve_all G v k (drop k G.found) r) (better_from best v γ cost S j k w.residual w.improved w.lengths w.places w.masses)
  unfolding better_from improve_all
  all_same zero k r w e U = subst (λ (x : Improvement). Same G S P₀ M₀ x w) (sym (no_item (λ (x : List Pair). improve_all G v k x r) G.found k (omega arith))) U
  all_same (suc j) k r w e U =
      let h : k < length G.found = omega arith in
      subst (λ (x : Improvement). Same G S P₀ M₀ x (better_from best v γ cost S (suc j) k w.residual w.improved w.lengths w.places w.masses))
      (sym (improve_next G v G.found k r h ∙ ap (λ (i : ℕ). improve_all G v i (drop i G.found) (improve G v k (pair_at G.found k) r)) (add-one k)))
      (all_same j (suc k) (improve G v k (pair_at G.found k) r) (turned k (best k) w) (omega arith) (turn_same k h r w U))

  -- the couplings of a run, improved in the store, are those of the definition
  pub improved_same : (policy : List (List Share)) (L : List ℕ) → length policy ≡ length G.found → Keeps G policy (length G.found) S L P₀ M₀
      → Same G S P₀ M₀ (improved_from G v policy) (better_from best v γ cost S (length G.found) 0 nought false L P₀ M₀)
  improved_same policy L z K = all_same (length G.found) 0 (record { policy = policy; residual = nought; improved = false }) (bettered nought false L P₀ M₀) (omega arith)
      (record { residual_is = refl; improved_is = refl; size = z; keeps = K; places_size = refl; masses_size = refl })
