-- The loop of `scan`: one link of the row is one `visit` of the definition.
use mathlib.Core.Path.{◌≡◌, refl, sym, ap, ◌∙◌}
use mathlib.Core.Logic.{◌⊎◌, inl, inr}
use mathlib.Core.Bool.{Bool, true, false, ◌&&◌, and-false}
use Prim.Native.Nat.{ℕ, zero, suc, ◌+◌, ◌-◌, ◌≤◌, ◌<◌}
use mathlib.Core.List.{List, [], ◌∷◌, ◌++◌}
use native.Mathlib.Omega.{arith}
use native.Mathlib.Numerals.{add-one}
use native.Mathlib.Nat.{le_of_suc-le-suc, not-suc-le-zero}
use lib.Dec.{eqb}
use lib.ListN.{length, get_or, set, take, drop, length-set, drop_of_length-le}
use lib.Seq.{slice, drop-cons, length-slice, take-suc-set, drop-append-le, length-take-le, get_or-take}
use Rattle.std.proofs.lemmas.List.{get_or-drop, drop-take}
use lib.Ieee.{Float, of_bits, binary64, lt, nan}
use Rattle.flow_theory.specs.Network.{Net, residual, head}
use Rattle.flow_theory.specs.Levels.{Search, scan, visit, unset, level_of}
use Rattle.flow_theory.proofs.Levels.{count, count_set, count_pos}
use Rattle.flow_theory.proofs.Links.{level_other}
use borrow.Author.Tests.{eq-eqb, eqb-true}
use Rattle.flow_theory.proofs.LevelRows.{Scannable, Scanned}

pub record Inner (H row : List ℕ) (c : List Float) (u : ℕ) (L₀ q₀ L q : List ℕ) (t₀ t j : ℕ) : Type 0 where
  pub ends : j ≤ length row
  pub level_length : length L ≡ length L₀
  pub queue_length : length q ≡ length q₀
  pub longer : t₀ ≤ t
  pub room : t + count L ≤ length q
  pub keep : level_of L u ≡ level_of L₀ u
  pub same : (N : Net) (h : ℕ) → N.heads ≡ H → h ≤ t₀
      → scan N c u (drop j row) (record { level = L; queue = slice h t q }) ≡ scan N c u row (record { level = L₀; queue = slice h t₀ q₀ })

-- the code's reads, and the definition's
pub level_at : (L : List ℕ) (v : ℕ) → v < length L → get_or L v 0 ≡ level_of L v
unfolding level_of
level_at [] v h = absurd (not-suc-le-zero h)
level_at (x ∷ L) zero h = refl
level_at (x ∷ L) (suc v) h = level_at L v (le_of_suc-le-suc h)

pub residual_at : (c : List Float) (e : ℕ) (b : Bool) → lt (of_bits binary64 4427486594234968593) (get_or c e nan) ≡ b → residual c e ≡ b
unfolding residual of_bits
residual_at c e b h = h

pub unset_at : (n : ℕ) (b : Bool) → eqb n 18446744073709551615 ≡ b → eqb n unset ≡ b
unfolding unset
unset_at n b h = h

slice_snoc : (h t v : ℕ) (q : List ℕ) → h ≤ t → t < length q → slice h (suc t) (set q t v) ≡ slice h t q ++ (v ∷ [])
slice_snoc h t v q le lt =
    ap (drop h) (take-suc-set q t v lt) ∙ drop-append-le h (take t q) (v ∷ []) (rw (length-take-le t q (omega arith)) le)

scan_step : (N : Net) (c : List Float) (u j : ℕ) (row : List ℕ) (w : Search) → j < length row
    → scan N c u (drop j row) w ≡ scan N c u (drop (suc j) row) (visit N c u (get_or row j 0) w)
unfolding scan
scan_step N c u j row w lt = ap (λ (es : List ℕ). scan N c u es w) (drop-cons row j 0 lt)

visit_true : (N : Net) (c : List Float) (u e : ℕ) (w : Search) → residual c e ≡ true → level_of w.level (head N e) ≡ unset
    → visit N c u e w ≡ record { level = set w.level (head N e) (suc (level_of w.level u)); queue = w.queue ++ (head N e ∷ []) }
unfolding visit
visit_true N c u e w l f = rw (l, (eq-eqb _ _) f)

visit_false : (N : Net) (c : List Float) (u e : ℕ) (w : Search) → (residual c e && eqb (level_of w.level (head N e)) unset) ≡ false → visit N c u e w ≡ w
unfolding visit
visit_false N c u e w f = rw f

head_at : (N : Net) (H : List ℕ) (e : ℕ) → N.heads ≡ H → head N e ≡ get_or H e 0
unfolding head
head_at N H e q = ap (λ (l : List ℕ). get_or l e 0) q

module _ (H row : List ℕ) (c : List Float) (u : ℕ) (L₀ q₀ L q : List ℕ) (t₀ t j : ℕ) (S : Scannable H row c u L₀ q₀ t₀)
    (I : Inner H row c u L₀ q₀ L q t₀ t j) (more : j < length row) where
  abbrev e : ℕ
  e = get_or row j 0

  abbrev v : ℕ
  v = get_or H e 0

  pub skipped : (residual c e && eqb (level_of L v) unset) ≡ false → Inner H row c u L₀ q₀ L q t₀ t (j + 1)
  skipped f = record {
    ends = omega arith;
    level_length = I.level_length;
    queue_length = I.queue_length;
    longer = I.longer;
    room = I.room;
    keep = I.keep;
    same = λ N h p le. rw (add-one j)
        (ap (scan N c u (drop (suc j) row)) (sym (visit_false N c u e (record { level = L; queue = slice h t q }) (rw (head_at N H e p) f)))
        ∙ sym (scan_step N c u j row (record { level = L; queue = slice h t q }) more) ∙ I.same N h p le);
  }

  module _ (on : residual c e ≡ true) (free : level_of L v ≡ unset) where
    pub v_in : v < length L
    v_in = rw I.level_length (S.heads_in e (S.links_in j more).0)

    pub level_low : suc (level_of L u) < unset
    level_low = rw I.keep S.low

    fewer : suc (count (set L v (suc (level_of L u)))) ≡ count L
    fewer = let l = level_low in count_set L v (suc (level_of L u)) v_in free (omega arith)

    pub q_room : t < length q
    q_room = let r = I.room in let f = fewer in omega arith

    pub stored : Inner H row c u L₀ q₀ (set L v (suc (level_of L u))) (set q t v) t₀ (t + 1) (j + 1)
    stored = record {
      ends = omega arith;
      level_length = length-set L v (suc (level_of L u)) ∙ I.level_length;
      queue_length = length-set q t v ∙ I.queue_length;
      longer = let x = I.longer in omega arith;
      room = let r = I.room in let f = fewer in rw (length-set q t v) (omega arith);
      keep = level_other L v (suc (level_of L u)) u (λ p. apart p) ∙ I.keep;
      same = same';
    }
      where
        apart : u ≡ v → ⊥
        apart p = let z = ap (level_of L) p in let l = level_low in omega arith

        same' : (N : Net) (h : ℕ) → N.heads ≡ H → h ≤ t₀
            → scan N c u (drop (j + 1) row) (record { level = set L v (suc (level_of L u)); queue = slice h (t + 1) (set q t v) })
            ≡ scan N c u row (record { level = L₀; queue = slice h t₀ q₀ })
        same' N h p le =
            let g = I.longer in
            let w : Search = record { level = L; queue = slice h t q } in
            rw (add-one j, add-one t, slice_snoc h t v q (omega arith) q_room)
            (ap (scan N c u (drop (suc j) row)) (sym (visit_true N c u e w on (ap (level_of L) (head_at N H e p) ∙ free) ∙ ap (λ (x : ℕ). record { level = set L x (suc (level_of L u)); queue = slice h t q ++ (x ∷ []) }) (head_at N H e p)))
            ∙ sym (scan_step N c u j row w more) ∙ I.same N h p le)

-- ---- as the code has it

module _ {H row : List ℕ} {c : List Float} {u : ℕ} {L₀ q₀ L q : List ℕ} {t₀ t j : ℕ} where
  pub turn_then : Scannable H row c u L₀ q₀ t₀ → Inner H row c u L₀ q₀ L q t₀ t j → j < length row
      → lt (of_bits binary64 4427486594234968593) (get_or c (get_or row j 0) nan) ≡ true → eqb (get_or L (get_or H (get_or row j 0) 0) 0) 18446744073709551615 ≡ true
      → (L' q' : List ℕ) (t' : ℕ) → L' ≡ set L (get_or H (get_or row j 0) 0) (get_or L u 0 + 1) → q' ≡ set q t (get_or H (get_or row j 0) 0) → t' ≡ t + 1
      → Inner H row c u L₀ q₀ L' q' t₀ t' (j + 1)
  turn_then S I m l f L' q' t' eL eq et =
      let on = residual_at c (get_or row j 0) true l in
      let inn : get_or H (get_or row j 0) 0 < length L = rw I.level_length (S.heads_in (get_or row j 0) (S.links_in j m).0) in
      let free : level_of L (get_or H (get_or row j 0) 0) ≡ unset = sym (level_at L _ inn) ∙ (eqb-true _ _) (unset_at _ true f) in
      let here : u < length L = rw I.level_length S.here in
      rw (eL, eq, et, level_at L u here, add-one (level_of L u)) (stored H row c u L₀ q₀ L q t₀ t j S I m on free)

  pub turn_else : Scannable H row c u L₀ q₀ t₀ → Inner H row c u L₀ q₀ L q t₀ t j → j < length row
      → (lt (of_bits binary64 4427486594234968593) (get_or c (get_or row j 0) nan) ≡ false) ⊎ (eqb (get_or L (get_or H (get_or row j 0) 0) 0) 18446744073709551615 ≡ false)
      → (L' q' : List ℕ) (t' : ℕ) → L' ≡ L → q' ≡ q → t' ≡ t → Inner H row c u L₀ q₀ L' q' t₀ t' (j + 1)
  turn_else S I m f L' q' t' eL eq et = rw (eL, eq, et) (skipped H row c u L₀ q₀ L q t₀ t j S I m (pick f))
    where
      inn : get_or H (get_or row j 0) 0 < length L
      inn = rw I.level_length (S.heads_in (get_or row j 0) (S.links_in j m).0)

      pick : (lt (of_bits binary64 4427486594234968593) (get_or c (get_or row j 0) nan) ≡ false) ⊎ (eqb (get_or L (get_or H (get_or row j 0) 0) 0) 18446744073709551615 ≡ false)
          → (residual c (get_or row j 0) && eqb (level_of L (get_or H (get_or row j 0) 0)) unset) ≡ false
      pick (inl l) = rw (residual_at c (get_or row j 0) false l)
      pick (inr g) = rw (← level_at L (get_or H (get_or row j 0) 0) inn, unset_at _ false g) (and-false (residual c (get_or row j 0)))

  pub ended : Scannable H row c u L₀ q₀ t₀ → Inner H row c u L₀ q₀ L q t₀ t j → length row ≤ j → Scanned H row c u L₀ q₀ L q t₀ t
  unfolding scan
  ended S I le =
      let z : drop j row ≡ [] = drop_of_length-le row le in
      record {
        level_length = I.level_length;
        queue_length = I.queue_length;
        longer = I.longer;
        room = I.room;
        same = λ N h p k. ap (λ (es : List ℕ). scan N c u es (record { level = L; queue = slice h t q })) (sym z) ∙ I.same N h p k;
      }

  pub level_fits : Scannable H row c u L₀ q₀ t₀ → Inner H row c u L₀ q₀ L q t₀ t j → get_or L u 0 + 1 < 18446744073709551616
  unfolding unset
  level_fits S I =
      let here : u < length L = rw I.level_length S.here in
      let l = S.low in
      let k = I.keep in
      let z = level_at L u here in
      omega arith

  pub queue_fits : Scannable H row c u L₀ q₀ t₀ → Inner H row c u L₀ q₀ L q t₀ t j → j < length row
      → eqb (get_or L (get_or H (get_or row j 0) 0) 0) 18446744073709551615 ≡ true → t < length q
  queue_fits S I m f =
      let inn : get_or H (get_or row j 0) 0 < length L = rw I.level_length (S.heads_in (get_or row j 0) (S.links_in j m).0) in
      let free : level_of L (get_or H (get_or row j 0) 0) ≡ unset = sym (level_at L _ inn) ∙ (eqb-true _ _) (unset_at _ true f) in
      let p = count_pos L _ inn free in
      let r = I.room in
      omega arith

-- ---- a part of a row is a row of its own

module _ (list : List ℕ) {a b : ℕ} (o : a ≤ b) (w : b ≤ length list) where
  abbrev pub part : List ℕ
  part = take (b - a) (drop a list)

  pub part_is : part ≡ slice a b list
  part_is = let e : a + (b - a) ≡ b = omega arith in sym (drop-take a (b - a) list) ∙ ap (λ (n : ℕ). drop a (take n list)) e

  pub part_length : length part ≡ b - a
  part_length = ap length part_is ∙ length-slice a b list w

  pub part_at : (j : ℕ) → j < length part → get_or part j 0 ≡ get_or list (a + j) 0
  part_at j h = let l = part_length in ap (λ (xs : List ℕ). get_or xs j 0) part_is ∙ get_or-drop a (take b list) j 0 ∙ get_or-take b list (a + j) 0 (omega arith)
