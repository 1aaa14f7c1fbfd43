-- Why `intern`, `get` and `resolve` answer as defined. Each check is a test of the list in use, `take count labels`: it has `count` entries unless the labels are too few,
-- and none is listed twice where each entry is found at its own place. Past the checks, an old value leaves the labels as they are, and a new one is set behind the `count` in use.
use mathlib.Core.Path.{◌≡◌, refl, sym, ap, ◌∙◌}
use mathlib.Core.Bool.{Bool, true, false, ◌&&◌, ◌||◌, not, true≢false}
use Prim.Native.Nat.{ℕ, suc, ◌+◌, ◌≤◌, ◌<◌}
use mathlib.Core.List.{List, [], ◌∷◌, ◌++◌, append_assoc}
use native.Mathlib.Numerals.{add-one}
use lib.Dec.{eqb, ltb, leb}
use lib.ListN.{length, get_or, take, drop, set, length-append, take-append-drop}
use lib.Seq.{length-take-le, take_all, set_split}
use borrow.Author.Tests.{lt-ltb, le-ltb, le-leb, lt-leb, ltb-true, ltb-false}
use Rattle.std.specs.Prelude.{Option, Ok, Err, Some, None, cond, is_some, unwrap_or}
use Rattle.std.specs.Option.{MatchOption, IsSomeAnd}
use Rattle.numbers.specs.Refuse.{check, answered}
use Rattle.numbers.specs.Lists.{over}
use Rattle.numbers.specs.Search.{seek}
use Rattle.numbers.proofs.Refuses.{first, check_hit, check_skip, hit, skip}
use Rattle.numbers.proofs.Bools.{or_f}
use Rattle.numbers.proofs.Seeks.{seek_new}
use Rattle.bisim_core.specs.declared.ids.LabelId.{LabelId}
use Rattle.bisim_core.specs.Ids.{listed, place, single, mislisted, intern, intern_refusal, get_refusal, resolve_refusal, intern_ends, Outcome, ends, entered, interning, id_of, get, resolve}
use Rattle.bisim_core.proofs.Distinct.{intern_old, intern_new}

-- ---- what the place of a value says

pub placed : (x : ℕ) (l : List ℕ) (k : Option ℕ) → k ≡ place x l → is_some k ≡ listed x l
placed x l k e = ap is_some e ∙ step (listed x l)
  where
    step : (b : Bool) → is_some (cond b (Some (seek x l)) None) ≡ b
    step true = refl
    step false = refl

pub placed_at : (x at : ℕ) (l : List ℕ) → Some at ≡ place x l → (listed x l ≡ true) × (at ≡ seek x l)
placed_at x at l e = step (listed x l) e
  where
    step : (b : Bool) → Some at ≡ cond b (Some (seek x l)) None → (b ≡ true) × (at ≡ seek x l)
    step true e = (refl, ap (λ o. unwrap_or o 0) e)
    step false e = absurd (true≢false (ap is_some e))

pub unplaced : (x : ℕ) (l : List ℕ) → None ≡ place x l → listed x l ≡ false
unplaced x l e = sym (placed x l None e)

-- the id that is made of a value's place, if it has one
pub id_at : {Q : ℕ → LabelId → Type 0} (x : ℕ) (l : List ℕ) (k : Option ℕ) (r : Option LabelId)
    → MatchOption k (r ≡ None) (λ i. IsSomeAnd r (Q i)) → ((i : ℕ) (y : LabelId) → Q i y → y ≡ record { 0 = i }) → k ≡ place x l → r ≡ id_of (listed x l) (seek x l)
id_at x l None r e g p = e ∙ sym (ap (λ (b : Bool). id_of b (seek x l)) (unplaced x l p))
id_at x l (Some at) (Some y) q g p =
    let z = placed_at x at l p in
    ap Some (g at y q) ∙ ap (id_of true) z.1 ∙ sym (ap (λ (b : Bool). id_of b (seek x l)) z.0)
id_at x l (Some at) None q g p = absurd q

module _ (labels : List ℕ) (count : ℕ) where
  abbrev used : List ℕ
  used = take count labels

  -- ---- is a value listed

  pub listed_front : (value : ℕ) → count ≤ length labels → ltb (seek value used) count ≡ listed value used
  listed_front value h = ap (ltb (seek value used)) (sym (length-take-le count labels h))

  pub listed_whole : (value : ℕ) → length labels ≤ count → ltb (seek value used) (length labels) ≡ listed value used
  listed_whole value h = ap (λ (l : List ℕ). ltb (seek value used) (length l)) (sym (take_all count labels h))

  -- ---- is one listed twice

  pub too_few : length labels < count → true ≡ mislisted labels count
  too_few h = hit _ _ (sym (lt-ltb _ _ h))

  pub as_listed : count ≤ length labels → not (single used) ≡ mislisted labels count
  as_listed h = skip _ _ _ (le-ltb _ _ h) refl

  pub enough : mislisted labels count ≡ false → count ≤ length labels
  enough e = ltb-false _ _ (or_f _ _ e).0

  -- ---- `intern`

  module _ (value : ℕ) where
    abbrev done : Outcome
    done = entered (intern used (value ∷ [])) value labels

    refused : (n : ℕ) → intern_refusal labels count value ≡ suc n → ends (Err (suc n)) labels ≡ interning labels count value
    unfolding interning
    refused n e = sym (ap (λ (r : ℕ). intern_ends r labels done) e)

    abbrev pub over_many : Bool
    over_many = ltb 256 count || (eqb count 256 && not (listed value used))

    -- the count, and the place of the value
    pub overfull_is : (k : Option ℕ) → k ≡ place value used → (ltb 256 count || (eqb count 256 && not (is_some k))) ≡ over_many
    overfull_is k e = ap (λ b. ltb 256 count || (eqb count 256 && not b)) (placed value used k e)

    pub refused_3 : over_many ≡ true → ends (Err 3) labels ≡ interning labels count value
    refused_3 e = refused 2 (check_hit _ _ _ e)

    module _ (small : over_many ≡ false) where
      pub refused_4 : mislisted labels count ≡ true → ends (Err 4) labels ≡ interning labels count value
      refused_4 e = refused 3 (check_skip 3 _ _ _ small (check_hit _ _ _ e))

      module _ (fit : mislisted labels count ≡ false) where
        accepted : (not (listed value used) && leb (length labels) count) ≡ false → done ≡ interning labels count value
        unfolding interning
        accepted e = sym (ap (λ (r : ℕ). intern_ends r labels done) (check_skip 3 _ _ _ small (check_skip 4 _ _ _ fit (check_skip 7 _ _ _ e refl))))

        sized : length used ≡ count
        sized = length-take-le count labels (enough fit)

        pub old : listed value used ≡ true → ends (Ok (record { 0 = seek value used }, count)) labels ≡ interning labels count value
        unfolding intern
        old e = same ∙ accepted (rw e)
          where
            known : intern used (value ∷ []) ≡ used
            known = intern_old used value [] (ltb-true _ _ e)

            kept : over used labels ≡ labels
            kept = ap (λ (n : ℕ). used ++ drop n labels) sized ∙ take-append-drop count labels

            same : ends (Ok (record { 0 = seek value used }, count)) labels ≡ done
            same = rw (known, kept, sized)

        module _ (new : listed value used ≡ false) where
          pub refused_7 : length labels ≤ count → ends (Err 7) labels ≡ interning labels count value
          refused_7 h =
              let full : (not (listed value used) && leb (length labels) count) ≡ true = rw (new, le-leb (length labels) count h) in
              refused 6 (check_skip 3 _ _ _ small (check_skip 4 _ _ _ fit (check_hit _ _ _ full)))

          pub added : count < length labels → ends (Ok (record { 0 = count }, count + 1)) (set labels count value) ≡ interning labels count value
          unfolding intern
          added h = same ∙ accepted (rw (new, lt-leb (length labels) count h))
            where
              more : List ℕ
              more = used ++ (value ∷ [])

              known : intern used (value ∷ []) ≡ more
              known = intern_new used value [] (ltb-false _ _ new)

              at_end : seek value more ≡ count
              at_end = seek_new value used (ltb-false _ _ new) ∙ sized

              size : length more ≡ count + 1
              size = length-append used (value ∷ []) ∙ ap (λ (n : ℕ). n + 1) sized

              stored : over more labels ≡ set labels count value
              stored = ap (λ (n : ℕ). more ++ drop n labels) (size ∙ add-one count) ∙ append_assoc used (value ∷ []) (drop (suc count) labels) ∙ sym (set_split labels count value h)

              same : ends (Ok (record { 0 = count }, count + 1)) (set labels count value) ≡ done
              same = rw (known, stored, at_end, size)

  -- ---- `get`, where the labels pass

  pub got : (value : ℕ) (b : Bool) → 0 ≡ get_refusal labels count → listed value used ≡ b → Ok (id_of b (seek value used)) ≡ get labels count value
  unfolding get
  got value b z e = ap (λ (b : Bool). Ok (id_of b (seek value used))) (sym e) ∙ ap (λ (r : ℕ). answered r (id_of (listed value used) (seek value used))) z

  -- ---- `resolve`

  pub resolve_is : (id : ℕ) → resolve_refusal labels count id ≡ first (get_refusal labels count) (check 4 (leb count id) 0)
  resolve_is id = step (ltb 256 count) (leb count id) (mislisted labels count)
    where
      step : (a b m : Bool) → check 3 a (check 4 (b || m) 0) ≡ first (check 3 a (check 4 m 0)) (check 4 b 0)
      step true b m = refl
      step false true true = refl
      step false true false = refl
      step false false true = refl
      step false false false = refl

  module _ (id : ℕ) where
    resolve_refused : (n : ℕ) → resolve_refusal labels count id ≡ suc n → Err (suc n) ≡ resolve labels count id
    unfolding resolve
    resolve_refused n e = sym (ap (λ (r : ℕ). answered r (get_or labels id 0)) e)

    pub resolve_3 : 256 < count → Err 3 ≡ resolve labels count id
    resolve_3 h = resolve_refused 2 (check_hit _ _ _ (lt-ltb 256 count h))

    pub no_such_id : count ≤ 256 → count ≤ id → Err 4 ≡ resolve labels count id
    no_such_id small h = resolve_refused 3 (check_skip 3 _ _ _ (le-ltb 256 count small) (check_hit _ _ _ (sym (hit _ _ (sym (le-leb count id h))))))

  module _ (id : ℕ) (z : 0 ≡ get_refusal labels count) where
    passed : (b : Bool) → leb count id ≡ b → answered (check 4 b 0) (get_or labels id 0) ≡ resolve labels count id
    unfolding resolve
    passed b e = ap (λ (r : ℕ). answered r (get_or labels id 0)) (ap (λ (c : Bool). check 4 c 0) (sym e) ∙ ap (λ (n : ℕ). first n (check 4 (leb count id) 0)) z ∙ sym (resolve_is id))

    pub resolved : id < count → Ok (get_or labels id 0) ≡ resolve labels count id
    resolved h = passed false (lt-leb count id h)
