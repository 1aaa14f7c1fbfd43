-- Rows over four lists: one row more behind those that are there (`laid_next`), and that such lists hold their rows (`laid_holds`).
use mathlib.Core.Path.{◌≡◌, refl, sym, ap, subst⁻¹, ◌∙◌}
use Prim.Native.Nat.{ℕ, zero, suc, ◌+◌, ◌-◌, ◌≤◌, ◌<◌}
use mathlib.Core.List.{List, [], ◌∷◌, ◌++◌, map, map-append, append-nil, append_assoc}
use native.Mathlib.Omega.{arith}
use native.Mathlib.Numerals.{add-one}
use lib.Ieee.{Float, nan}
use lib.ListN.{length, get_or, take, drop, set, length-append, length-map, take-append-drop, get_or-append}
use lib.Seq.{slice, take-suc, take_at, take-take, length-take-le, length-slice, take-append-add, drop-append-add, drop-drop}
use Rattle.numbers.specs.Lists.{over}
use Rattle.epsdelta_theory.specs.Jumps.{Jump, Jumps, Row, jumps_of, no_row, targets, rates}
use Rattle.epsdelta_theory.proofs.RowsIn.{exits, all_jumps, starts_from, Laid, LaidTo, Holds, Filled}
use Rattle.epsdelta_theory.proofs.RowReads.{jumps_targets, jumps_rates, jumps_length}

-- ---- over what a list held

module _ {A : Type 0} where
  -- an entry behind the front
  over_snoc : (l d : List A) (x : A) → length l < length d → set (over l d) (length l) x ≡ over (l ++ (x ∷ [])) d
  over_snoc [] [] x h = absurd (omega arith)
  over_snoc [] (y ∷ d) x h = refl
  over_snoc (a ∷ l) [] x h = absurd (omega arith)
  over_snoc (a ∷ l) (y ∷ d) x h = ap (λ (r : List A). a ∷ r) (over_snoc l d x (omega arith))

  over_long : (l d : List A) → length l ≤ length (over l d)
  over_long l d = let e = length-append l (drop (length l) d) in omega arith

  parted : (a r : ℕ) (l : List A) → a ≤ r → l ≡ take a l ++ (slice a r l ++ drop r l)
  parted a r l h =
      sym (take-append-drop r l) ∙ ap (λ (x : List A). x ++ drop r l) (sym (take-append-drop a (take r l)) ∙ ap (λ (x : List A). x ++ slice a r l) (take-take a r l h))
      ∙ append_assoc (take a l) (slice a r l) (drop r l)

  -- a part behind the front
  over_part : (X Y d l l' : List A) (a r : ℕ) → l ≡ over X d → length X ≡ a → take a l' ≡ take a l → slice a r l' ≡ Y → length Y ≡ r - a → a ≤ r → drop r l' ≡ drop r l → l' ≡ over (X ++ Y) d
  over_part X Y d l l' a r e n k y z h p =
      let s : length X + length Y ≡ r = omega arith in
      let front : take a l' ≡ X = k ∙ ap (take a) e ∙ take_at X (drop (length X) d) a n in
      let rest : drop r l' ≡ drop (length (X ++ Y)) d =
      p ∙ ap (drop r) e ∙ ap (λ (j : ℕ). drop j (X ++ drop (length X) d)) (sym s) ∙ drop-append-add X (drop (length X) d) (length Y) ∙ drop-drop (length Y) (length X) d
      ∙ ap (λ (j : ℕ). drop j d) (sym (length-append X Y)) in
      parted a r l' h
      ∙ ap (λ (x : List A). x ++ (slice a r l' ++ drop r l')) front ∙ ap (λ (x : List A). X ++ (x ++ drop r l')) y ∙ ap (λ (x : List A). X ++ (Y ++ x)) rest
      ∙ sym (append_assoc X Y (drop (length (X ++ Y)) d))

-- ---- one row more

abbrev size : Jumps → ℕ
size K = length (all_jumps K)

jumps_snoc : (K : Jumps) (r : Row) → all_jumps (K ++ (r ∷ [])) ≡ all_jumps K ++ r.prob
unfolding all_jumps
jumps_snoc [] r = append-nil r.prob
jumps_snoc (k ∷ K) r = ap (λ (l : List Jump). k.prob ++ l) (jumps_snoc K r) ∙ sym (append_assoc k.prob (all_jumps K) r.prob)

starts_snoc : (a : ℕ) (K : Jumps) (r : Row) → starts_from a (K ++ (r ∷ [])) ≡ starts_from a K ++ ((a + size K + length r.prob) ∷ [])
unfolding starts_from all_jumps
starts_snoc a [] r = let e : a + length r.prob ≡ a + 0 + length r.prob = omega arith in ap (λ (n : ℕ). a ∷ n ∷ []) e
starts_snoc a (k ∷ K) r =
    let z = length-append k.prob (all_jumps K) in
    let e : a + length k.prob + size K + length r.prob ≡ a + length (k.prob ++ all_jumps K) + length r.prob = omega arith in
    ap (λ (l : List ℕ). a ∷ l) (starts_snoc (a + length k.prob) K r ∙ ap (λ (n : ℕ). starts_from (a + length k.prob) K ++ (n ∷ [])) e)

starts_length : (a : ℕ) (K : Jumps) → length (starts_from a K) ≡ suc (length K)
unfolding starts_from
starts_length a [] = refl
starts_length a (k ∷ K) = ap suc (starts_length (a + length k.prob) K)

starts_last : (a : ℕ) (K : Jumps) → get_or (starts_from a K) (length K) 0 ≡ a + size K
unfolding starts_from all_jumps
starts_last a [] = omega arith
starts_last a (k ∷ K) = let z = length-append k.prob (all_jumps K) in let e = starts_last (a + length k.prob) K in omega arith

-- the next state's jumps start behind all that are there
pub next_start : (J : Jumps) (n : ℕ) {E₀ : List Float} {S₀ T₀ : List ℕ} {P₀ E : List Float} {S T : List ℕ} {P : List Float} → n ≤ length J → LaidTo J n E₀ S₀ T₀ P₀ E S T P → get_or S n 0 ≡ size (take n J)
next_start J n {S₀ = S₀} {S = S} h L =
    let K = take n J in
    let l = length-take-le n J h in
    let z = starts_length 0 K in
    ap (λ (s : List ℕ). get_or s n 0) L.starts_are ∙ get_or-append (starts_from 0 K) _ 0 n (omega arith) ∙ ap (λ (i : ℕ). get_or (starts_from 0 K) i 0) (sym l) ∙ starts_last 0 K ∙ omega arith

module _ (J : Jumps) (n r : ℕ) {E₀ : List Float} {S₀ T₀ : List ℕ} {P₀ E : List Float} {S T : List ℕ} {P E' : List Float} {T' : List ℕ} {P' : List Float}
    (L : LaidTo J n E₀ S₀ T₀ P₀ E S T P) (F : Filled (get_or J n no_row) n (get_or S n 0) r E T P E' T' P') (h : n < length J) (he : n < length E₀) (hs : n + 1 < length S₀) (ht : r ≤ length T') (hp : r ≤ length P') where
  abbrev K : Jumps
  K = take n J

  abbrev R : Row
  R = get_or J n no_row

  taken : take (n + 1) J ≡ K ++ (R ∷ [])
  taken = ap (λ (k : ℕ). take k J) (add-one n) ∙ take-suc J n no_row h

  long : length K ≡ n
  long = length-take-le n J (omega arith)

  at_is : get_or S n 0 ≡ size K
  at_is = next_start J n (omega arith) L

  ts : List ℕ
  ts = slice (get_or S n 0) r T'

  ps : List Float
  ps = slice (get_or S n 0) r P'

  t_long : length ts ≡ r - get_or S n 0
  unfolding ts
  t_long = length-slice (get_or S n 0) r T' ht

  p_long : length ps ≡ r - get_or S n 0
  unfolding ps
  p_long = length-slice (get_or S n 0) r P' hp

  is_prob : jumps_of ts ps ≡ R.prob
  unfolding ts ps
  is_prob = F.prob

  prob_long : length R.prob ≡ r - get_or S n 0
  prob_long = ap (λ (l : List Jump). length l) (sym is_prob) ∙ jumps_length ts ps (t_long ∙ sym p_long) ∙ t_long

  end_is : 0 + size K + length R.prob ≡ r
  end_is = let a = prob_long in let b = at_is in let c = F.from in omega arith

  pub laid_next : LaidTo J (n + 1) E₀ S₀ T₀ P₀ E' (set S (n + 1) r) T' P'
  unfolding ts ps
  laid_next = subst⁻¹ (λ (k : Jumps). Laid k E₀ S₀ T₀ P₀ E' (set S (n + 1) r) T' P') taken (record {
    exits_are =
        let z = length-map K (λ (q : Row). q.exit) in
        let k = long in
        F.exit ∙ ap (λ (l : List Float). set l n R.exit) L.exits_are ∙ ap (λ (k : ℕ). set (over (exits K) E₀) k R.exit) (sym (z ∙ long)) ∙ over_snoc (exits K) E₀ R.exit (omega arith)
        ∙ ap (λ (l : List Float). over l E₀) (sym (map-append (λ (q : Row). q.exit) K (R ∷ [])));
    starts_are =
        let z = starts_length 0 K in
        let k = long in
        let y : length (starts_from 0 K) ≡ n + 1 = z ∙ ap suc long ∙ sym (add-one n) in
        ap (λ (l : List ℕ). set l (n + 1) r) L.starts_are ∙ ap (λ (k : ℕ). set (over (starts_from 0 K) S₀) k r) (sym y) ∙ over_snoc (starts_from 0 K) S₀ r (omega arith)
        ∙ ap (λ (k : ℕ). over (starts_from 0 K ++ (k ∷ [])) S₀) (sym end_is) ∙ ap (λ (l : List ℕ). over l S₀) (sym (starts_snoc 0 K R));
    targets_are =
        let z = length-map (all_jumps K) (λ (j : Jump). j.target) in
        let y = length-map R.prob (λ (j : Jump). j.target) in
        over_part (targets (all_jumps K)) (targets R.prob) T₀ T T' (get_or S n 0) r L.targets_are (z ∙ sym at_is) F.targets_kept (sym (jumps_targets ts ps (t_long ∙ sym p_long)) ∙ ap targets is_prob) (y ∙ prob_long) F.from F.targets_past
        ∙ ap (λ (l : List ℕ). over l T₀) (sym (map-append (λ (j : Jump). j.target) (all_jumps K) R.prob) ∙ ap targets (sym (jumps_snoc K R)));
    probs_are =
        let z = length-map (all_jumps K) (λ (j : Jump). j.rate) in
        let y = length-map R.prob (λ (j : Jump). j.rate) in
        over_part (rates (all_jumps K)) (rates R.prob) P₀ P P' (get_or S n 0) r L.probs_are (z ∙ sym at_is) F.probs_kept (sym (jumps_rates ts ps (t_long ∙ sym p_long)) ∙ ap rates is_prob) (y ∙ prob_long) F.from F.probs_past
        ∙ ap (λ (l : List Float). over l P₀) (sym (map-append (λ (j : Jump). j.rate) (all_jumps K) R.prob) ∙ ap rates (sym (jumps_snoc K R)));
  })

-- ---- lists with all rows hold them

jumps_of_lem : (js : List Jump) → jumps_of (targets js) (rates js) ≡ js
unfolding jumps_of
jumps_of_lem [] = refl
jumps_of_lem (j ∷ js) = ap (λ (l : List Jump). j ∷ l) (jumps_of_lem js)

exits_at : (J : Jumps) (s : ℕ) → s < length J → get_or (exits J) s nan ≡ (get_or J s no_row).exit
exits_at [] s h = absurd (omega arith)
exits_at (r ∷ J) zero h = refl
exits_at (r ∷ J) (suc s) h = exits_at J s (omega arith)

starts_first : (J : Jumps) → get_or (starts_from 0 J) 0 0 ≡ 0
unfolding starts_from
starts_first [] = refl
starts_first (r ∷ J) = refl

-- starts counted from 0
starts_from_lem : (a : ℕ) (J : Jumps) (s : ℕ) → s ≤ length J → get_or (starts_from a J) s 0 ≡ a + get_or (starts_from 0 J) s 0
unfolding starts_from
starts_from_lem a [] zero h = omega arith
starts_from_lem a [] (suc s) h = absurd (omega arith)
starts_from_lem a (r ∷ J) zero h = omega arith
starts_from_lem a (r ∷ J) (suc s) h =
    let x = starts_from_lem (a + length r.prob) J s (omega arith) in
    let y = starts_from_lem (0 + length r.prob) J s (omega arith) in
    omega arith

starts_rise : (a : ℕ) (J : Jumps) (s : ℕ) → s < length J → get_or (starts_from a J) s 0 ≤ get_or (starts_from a J) (suc s) 0
unfolding starts_from
starts_rise a [] s h = absurd (omega arith)
starts_rise a (r ∷ J) zero h = let x = starts_from_lem (a + length r.prob) J 0 (omega arith) in omega arith
starts_rise a (r ∷ J) (suc s) h = starts_rise (a + length r.prob) J s (omega arith)

-- a part behind a front
slice_past : {A : Type 0} (X Y : List A) (a b : ℕ) → slice (length X + a) (length X + b) (X ++ Y) ≡ slice a b Y
slice_past X Y a b = ap (drop (length X + a)) (take-append-add X Y b) ∙ drop-append-add X (take b Y) a

module _ {A : Type 0} (f : Jump → A) where
  row_part : (J : Jumps) (s : ℕ) (d : List A) → s < length J → slice (get_or (starts_from 0 J) s 0) (get_or (starts_from 0 J) (suc s) 0) (map f (all_jumps J) ++ d) ≡ map f (get_or J s no_row).prob
  unfolding starts_from all_jumps
  row_part [] s d h = absurd (omega arith)
  row_part (r ∷ J) zero d h =
      let e : get_or (starts_from (0 + length r.prob) J) 0 0 ≡ length (map f r.prob) = let x = starts_from_lem (0 + length r.prob) J 0 (omega arith) in let y = starts_first J in let z = length-map r.prob f in omega arith in
      ap (λ (b : ℕ). take b (map f (r.prob ++ all_jumps J) ++ d)) e
      ∙ ap (λ (l : List A). take (length (map f r.prob)) (l ++ d)) (map-append f r.prob (all_jumps J))
      ∙ ap (take (length (map f r.prob))) (append_assoc (map f r.prob) (map f (all_jumps J)) d)
      ∙ take_at (map f r.prob) (map f (all_jumps J) ++ d) _ refl
  row_part (r ∷ J) (suc s) d h =
      let z = length-map r.prob f in
      let a = get_or (starts_from 0 J) s 0 in
      let b = get_or (starts_from 0 J) (suc s) 0 in
      let X = map f r.prob in
      let Y = map f (all_jumps J) ++ d in
      let i : get_or (starts_from (0 + length r.prob) J) s 0 ≡ length X + a = let x = starts_from_lem (0 + length r.prob) J s (omega arith) in omega arith in
      let j : get_or (starts_from (0 + length r.prob) J) (suc s) 0 ≡ length X + b = let x = starts_from_lem (0 + length r.prob) J (suc s) (omega arith) in omega arith in
      ap (λ (m : ℕ). slice m (get_or (starts_from (0 + length r.prob) J) (suc s) 0) (map f (r.prob ++ all_jumps J) ++ d)) i
      ∙ ap (λ (m : ℕ). slice (length X + a) m (map f (r.prob ++ all_jumps J) ++ d)) j
      ∙ ap (λ (l : List A). slice (length X + a) (length X + b) (l ++ d)) (map-append f r.prob (all_jumps J))
      ∙ ap (slice (length X + a) (length X + b)) (append_assoc X (map f (all_jumps J)) d)
      ∙ slice_past X Y a b
      ∙ row_part J s d (omega arith)

module _ {J : Jumps} {E₀ : List Float} {S₀ T₀ : List ℕ} {P₀ E : List Float} {S T : List ℕ} {P : List Float} (L : Laid J E₀ S₀ T₀ P₀ E S T P) where
  start_at : (s : ℕ) → s ≤ length J → get_or S s 0 ≡ get_or (starts_from 0 J) s 0
  start_at s h = ap (λ (l : List ℕ). get_or l s 0) L.starts_are ∙ get_or-append (starts_from 0 J) (drop (length (starts_from 0 J)) S₀) 0 s (let z = starts_length 0 J in omega arith)

  start_next : (s : ℕ) → s < length J → get_or S (s + 1) 0 ≡ get_or (starts_from 0 J) (suc s) 0
  start_next s h = ap (λ (k : ℕ). get_or S k 0) (add-one s) ∙ start_at (suc s) (omega arith)

  part_is : {A : Type 0} (f : Jump → A) (l d : List A) → l ≡ map f (all_jumps J) ++ d → (s : ℕ) → s < length J → slice (get_or S s 0) (get_or S (s + 1) 0) l ≡ map f (get_or J s no_row).prob
  part_is {A} f l d e s h =
      ap (λ (a : ℕ). slice a (get_or S (s + 1) 0) l) (start_at s (omega arith)) ∙ ap (λ (b : ℕ). slice (get_or (starts_from 0 J) s 0) b l) (start_next s h)
      ∙ ap (slice (get_or (starts_from 0 J) s 0) (get_or (starts_from 0 J) (suc s) 0)) e ∙ row_part f J s d h

  last_is : get_or S (length J) 0 ≡ size J
  last_is = start_at (length J) (omega arith) ∙ starts_last 0 J ∙ omega arith

  pub laid_holds : Holds J E S T P
  laid_holds = record {
    exits_long = let e = ap (λ (l : List Float). length l) L.exits_are in let z = length-map J (λ (r : Row). r.exit) in let o = over_long (exits J) E₀ in omega arith;
    starts_long = let e = ap (λ (l : List ℕ). length l) L.starts_are in let z = starts_length 0 J in let o = over_long (starts_from 0 J) S₀ in omega arith;
    first = start_at 0 (omega arith) ∙ starts_first J;
    rise = λ s h. let a = start_at s (omega arith) in let b = start_next s h in let c = starts_rise 0 J s h in omega arith;
    targets_long = let e = ap (λ (l : List ℕ). length l) L.targets_are in let z = length-map (all_jumps J) (λ (j : Jump). j.target) in let o = over_long (targets (all_jumps J)) T₀ in let n = last_is in omega arith;
    probs_long = let e = ap (λ (l : List Float). length l) L.probs_are in let z = length-map (all_jumps J) (λ (j : Jump). j.rate) in let o = over_long (rates (all_jumps J)) P₀ in let n = last_is in omega arith;
    exit = λ s h. ap (λ (l : List Float). get_or l s nan) L.exits_are ∙ get_or-append (exits J) (drop (length (exits J)) E₀) nan s (let z = length-map J (λ (r : Row). r.exit) in omega arith) ∙ exits_at J s h;
    prob = λ s h.
        ap (λ (l : List ℕ). jumps_of l (slice (get_or S s 0) (get_or S (s + 1) 0) P)) (part_is (λ (j : Jump). j.target) T (drop (length (targets (all_jumps J))) T₀) L.targets_are s h)
        ∙ ap (jumps_of (targets (get_or J s no_row).prob)) (part_is (λ (j : Jump). j.rate) P (drop (length (rates (all_jumps J))) P₀) L.probs_are s h)
        ∙ jumps_of_lem (get_or J s no_row).prob;
  }
