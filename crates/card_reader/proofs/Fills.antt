-- The steps of the code that stands on the checks: where a model ends, and the columns that are filled.
use mathlib.Core.Path.{◌≡◌, refl, sym, ap, ◌∙◌}
use mathlib.Core.Bool.{true, false}
use mathlib.Core.List.{List, [], ◌∷◌, map}
use Prim.Native.Nat.{ℕ, zero, suc, ◌+◌, ◌*◌, ◌-◌, ◌≤◌, ◌<◌}
use native.Mathlib.Omega.{arith}
use native.Mathlib.Numerals.{add-one}
use lib.Dec.{leb}
use lib.Ieee.{Float}
use lib.ListN.{length, take, drop, set, length-drop, length-append}
use lib.Seq.{drop-drop, sets, length-sets}
use borrow.Author.Tests.{lt-ltb, le-ltb, leb-true}
use Rattle.numbers.proofs.Bools.{and_t}
use Rattle.numbers.proofs.Refuses.{first, first_hit}
use Rattle.card_layout.specs.Layout.{value, laid}
use Rattle.std.specs.Prelude.{Result, Ok, Err}
use Rattle.std.specs.Result.{IsErrAnd}
use Rattle.numbers.specs.declared.refusal.Refusal.{Refusal}
use Rattle.numbers.specs.Refuse.{number, numbered}
use Rattle.numbers.proofs.Refuses.{number_positive}
use Rattle.card_layout.specs.Card.{Transition, Card, refused, outcome, read, states, count, class_part, transition_part, side_size, after_side, classes_in, transition_in, transitions_in, side_in, card_in, last_part, side_fault, last_fault, fault}
use Rattle.card_reader.specs.declared.reader.Head.{Head}
use Rattle.card_reader.specs.declared.reader.Heads.{Heads}
use Rattle.card_layout.specs.Lists.{Columns, columns, source_of, label_of, target_of, weight_of, stored, filled, roomy, all_classes, all_transitions}
use Rattle.card_layout.proofs.Filling.{enough}
use Rattle.card_reader.specs.Answer.{Answered, HeadOf, head_of, heads_of}
use Rattle.card_layout.proofs.Filling.{TransitionsStored, SideRoom}
use Rattle.card_layout.proofs.Steps.{rest_is, laid_room}
use Rattle.card_layout.proofs.Cards.{fault_parts, Passed, passed, passes, accepted, length_classes, length_transitions}

-- ---- what follows in the bytes

pub side_fits : (bs : List ℕ) → Passed bs → side_size bs ≤ length bs
side_fits bs p =
    let a = laid_room 1 3 bs p.head_laid in
    let b = laid_room (states bs) 1 (class_part bs) p.classes_laid in
    let d = laid_room (count bs) 4 (transition_part bs) p.transitions_laid in
    omega (arith, length-drop 19 bs, length-drop (19 + 7 * states bs) bs)

pub side_room : (s : List ℕ) → side_fault s 0 ≡ 0 → side_size s ≤ length s
side_room s e = side_fits s (passed s e)

-- the bytes after a model, by what its first line says
pub after_is : (s : List ℕ) (n m : ℕ) → n ≡ states s → m ≡ count s → take (length s - (19 + 7 * n + 25 * m)) (drop (19 + 7 * n + 25 * m) s) ≡ after_side s
after_is s n m p q = rest_is (19 + 7 * n + 25 * m) s ∙ rw (p, q)

-- ---- the checks of a card, one by one

pub left_off : (s : List ℕ) (f : ℕ) → f ≡ side_fault s 0 → (f ≡ 0 → ⊥) → f ≡ fault s
left_off s f e h = e ∙ sym (fault_parts s ∙ first_hit (side_fault s 0) _ (λ z. h (e ∙ z)))

module _ (s right last : List ℕ) (er : right ≡ after_side s) (el : last ≡ after_side right) (left : side_fault s 0 ≡ 0) where
  last_is : last ≡ last_part s
  last_is = el ∙ ap after_side er

  -- the checks after the left model
  after_left : fault s ≡ first (side_fault right 0) (last_fault (last_part s))
  after_left = fault_parts s ∙ rw (left, ← er)

  pub right_off : (f : ℕ) → f ≡ side_fault right 0 → (f ≡ 0 → ⊥) → f ≡ fault s
  right_off f e h = e ∙ sym (after_left ∙ first_hit (side_fault right 0) _ (λ z. h (e ∙ z)))

  fault_last : side_fault right 0 ≡ 0 → last_fault last ≡ fault s
  fault_last e = ap last_fault last_is ∙ sym (after_left ∙ rw e)

  pub last_off : side_fault right 0 ≡ 0 → laid 1 2 last ≡ false → 1 ≡ fault s
  unfolding last_fault
  last_off e t = rw (← fault_last e, t)

  pub last_more : side_fault right 0 ≡ 0 → laid 1 2 last ≡ true → 13 < length last → 1 ≡ fault s
  unfolding last_fault
  last_more e t h = rw (← fault_last e, t, lt-ltb 13 (length last) h)

  pub no_fault : side_fault right 0 ≡ 0 → laid 1 2 last ≡ true → length last ≤ 13 → 0 ≡ fault s
  unfolding last_fault
  no_fault e t h = rw (← fault_last e, t, le-ltb 13 (length last) h)

-- ---- the columns, one entry at a time

-- n lines of w bytes are read by `taken` and stored from `from` on: l has the first i of them, and those still to come make it what it has to be
abbrev pub Stored : {A : Type 0} → ℕ → (ℕ → List ℕ → List A) → List ℕ → ℕ → ℕ → List A → List A → ℕ → Type 0
Stored w taken s n from l₀ l i = sets l (from + i) (taken (n - i) (drop (w * i) s)) ≡ sets l₀ from (taken n s)

module _ {A : Type 0} (w : ℕ) (taken : ℕ → List ℕ → List A) (one : List ℕ → A) (none : (bs : List ℕ) → taken 0 bs ≡ []) (more : (n : ℕ) (bs : List ℕ) → taken (suc n) bs ≡ one bs ∷ taken n (drop w bs))
    (s : List ℕ) (n from : ℕ) where
  pub stored_next : (l₀ l : List A) (i : ℕ) (a : A) → a ≡ one (drop (w * i) s) → i < n → Stored w taken s n from l₀ l i → Stored w taken s n from l₀ (set l (from + i) a) (i + 1)
  stored_next l₀ l i a e h v =
      let k : n - i ≡ suc (n - (i + 1)) = omega arith in
      let p : w * i + w ≡ w * (i + 1) = omega (arith, add-one i) in
      let q : taken (n - i) (drop (w * i) s) ≡ a ∷ taken (n - (i + 1)) (drop (w * (i + 1)) s) =
      ap (λ (x : ℕ). taken x (drop (w * i) s)) k ∙ more (n - (i + 1)) (drop (w * i) s) ∙ ap (λ (x : A). x ∷ taken (n - (i + 1)) (drop w (drop (w * i) s))) (sym e)
      ∙ ap (λ (x : List ℕ). a ∷ taken (n - (i + 1)) x) (drop-drop w (w * i) s ∙ ap (λ (x : ℕ). drop x s) p) in
      let f : from + (i + 1) ≡ suc (from + i) = omega arith in
      rw f (sym (ap (sets l (from + i)) q)) ∙ v

  pub stored_last : (l₀ l : List A) (i : ℕ) → n ≤ i → Stored w taken s n from l₀ l i → l ≡ sets l₀ from (taken n s)
  stored_last l₀ l i h v = let e : n - i ≡ 0 = omega arith in sym (ap (λ (x : ℕ). sets l (from + i) (taken x (drop (w * i) s))) e ∙ ap (sets l (from + i)) (none (drop (w * i) s))) ∙ v

module _ (s : List ℕ) (n : ℕ) (l₀ l : List ℕ) (i : ℕ) where
  -- the classes, in the first entries
  abbrev pub Classes : Type 0
  Classes = sets l i (classes_in (n - i) (drop (7 * i) s)) ≡ sets l₀ 0 (classes_in n s)

  same : 0 + i ≡ i
  same = omega arith

  pub classes_next : (a : ℕ) → a ≡ value (take (length s - 7 * i) (drop (7 * i) s)) → i < n → Classes → sets (set l i a) (i + 1) (classes_in (n - (i + 1)) (drop (7 * (i + 1)) s)) ≡ sets l₀ 0 (classes_in n s)
  unfolding classes_in
  classes_next a e h v =
      let o : 0 + (i + 1) ≡ i + 1 = omega arith in
      rw (same, o) at (stored_next 7 classes_in value (λ bs. refl) (λ m bs. refl) s n 0 l₀ l i a (e ∙ ap value (rest_is (7 * i) s)) h (rw same v))

  pub classes_last : n ≤ i → Classes → l ≡ sets l₀ 0 (classes_in n s)
  unfolding classes_in
  classes_last h v = stored_last 7 classes_in value (λ bs. refl) (λ m bs. refl) s n 0 l₀ l i h (rw same v)

-- the number in another column of the line at p
pub at_column : (n p : ℕ) (s : List ℕ) → value (take (length (take (length s - p) (drop p s)) - n) (drop n (take (length s - p) (drop p s)))) ≡ value (drop n (drop p s))
at_column n p s = ap value (rest_is n _ ∙ ap (drop n) (rest_is p s))

-- a column of the transitions
abbrev pub column_in : {A : Type 0} → (Transition → A) → ℕ → List ℕ → List A
column_in f n bs = map f (transitions_in n bs)

module _ {A : Type 0} (f : Transition → A) (s : List ℕ) (n from : ℕ) where
  abbrev pub Col : List A → List A → ℕ → Type 0
  Col = Stored 25 (column_in f) s n from

  pub col_next : (l₀ l : List A) (i : ℕ) (a : A) → a ≡ f (transition_in (drop (25 * i) s)) → i < n → Col l₀ l i → Col l₀ (set l (from + i) a) (i + 1)
  unfolding transitions_in
  col_next = stored_next 25 (column_in f) (λ bs. f (transition_in bs)) (λ bs. refl) (λ m bs. refl) s n from

  -- a column is as long as it was
  pub col_length : (l₀ l : List A) (i : ℕ) → Col l₀ l i → length l ≡ length l₀
  col_length l₀ l i v = sym (length-sets l (from + i) (column_in f (n - i) (drop (25 * i) s))) ∙ ap length v ∙ length-sets l₀ from (column_in f n s)

  pub col_last : (l₀ l : List A) (i : ℕ) → n ≤ i → Col l₀ l i → l ≡ sets l₀ from (column_in f n s)
  unfolding transitions_in
  col_last = stored_last 25 (column_in f) (λ bs. f (transition_in bs)) (λ bs. refl) (λ m bs. refl) s n from

-- ---- the counts and the initial state of a model

pub head_found : (h : Head) (bs : List ℕ) → HeadOf h bs → h ≡ head_of (side_in bs)
unfolding side_in
head_found h bs e =
    let a : h.states ≡ length (classes_in (states bs) (class_part bs)) = e.0 ∙ sym (length_classes _ _) in
    let b : h.transitions ≡ length (transitions_in (count bs) (transition_part bs)) = e.2 ∙ sym (length_transitions _ _) in
    same_head a e.1 b
  where
    same_head : {n n' i i' m m' : ℕ} → n ≡ n' → i ≡ i' → m ≡ m' → ◌≡◌ {A = Head} (record { states = n; initial = i; transitions = m }) (record { states = n'; initial = i'; transitions = m' })
    same_head p q r = cc

-- ---- a model in the columns

same_columns : {a a' b b' d d' e e' : List ℕ} {w w' : List Float} → a ≡ a' → b ≡ b' → d ≡ d' → e ≡ e' → w ≡ w'
    → columns a b d e w ≡ columns a' b' d' e' w'
same_columns p q r t u = cc

module _ (bs : List ℕ) (n m : ℕ) (en : n ≡ states bs) (em : m ≡ count bs) where
  pub side_stored : (i j : ℕ) (a b d e : List ℕ) (w : List Float) {a' b' d' e' : List ℕ} {w' : List Float} {cs ts : List ℕ} → cs ≡ class_part bs → ts ≡ transition_part bs
      → a' ≡ sets a i (classes_in n cs) → TransitionsStored (transitions_in m ts) j b d e w b' d' e' w'
      → columns a' b' d' e' w' ≡ stored (side_in bs) i j (columns a b d e w)
  unfolding stored side_in
  side_stored i j a b d e w {cs = cs} {ts} ec et p q =
      let c : classes_in n cs ≡ classes_in (states bs) (class_part bs) = rw (en, ec) in
      let t : transitions_in m ts ≡ transitions_in (count bs) (transition_part bs) = rw (em, et) in
      same_columns
      (p ∙ ap (sets a i) c)
      (q.sources_are ∙ ap (λ (x : List Transition). sets b j (map source_of x)) t)
      (q.labels_are ∙ ap (λ (x : List Transition). sets d j (map label_of x)) t)
      (q.targets_are ∙ ap (λ (x : List Transition). sets e j (map target_of x)) t)
      (q.weights_are ∙ ap (λ (x : List Transition). sets w j (map weight_of x)) t)

-- ---- a card without a fault

pub left_passes : (s : List ℕ) → fault s ≡ 0 → side_fault s 0 ≡ 0
left_passes s e = passes s (accepted s e).left_passed

module _ (s right : List ℕ) (e : fault s ≡ 0) (er : right ≡ after_side s) where
  pub right_passes : side_fault right 0 ≡ 0
  right_passes = ap (λ (x : List ℕ). side_fault x 0) er ∙ passes (after_side s) (accepted s e).right_passed

  module _ (last : List ℕ) (el : last ≡ after_side right) where
    last_at : last ≡ last_part s
    last_at = el ∙ ap after_side er

    pub last_room : 13 ≤ length last
    last_room = let l = laid_room 1 2 (last_part s) (accepted s e).last_laid in let n = ap length last_at in omega arith

    pub heads_found : (x y : Head) (z t : ℕ) → HeadOf x s → HeadOf y right → z ≡ value last → t ≡ value (take (length last - 6) (drop 6 last))
        → ◌≡◌ {A = Heads} (record { left = x; right = y; epsilon = z; rho = t }) (heads_of (card_in s))
    unfolding card_in
    heads_found x y z t p q u v = same_heads (head_found x s p) (head_found y right q ∙ ap (λ (b : List ℕ). head_of (side_in b)) er) (u ∙ ap value last_at)
        (v ∙ ap value (rest_is 6 last) ∙ ap (λ (b : List ℕ). value (drop 6 b)) last_at)
      where
        same_heads : {a a' b b' : Head} {d d' f f' : ℕ} → a ≡ a' → b ≡ b' → d ≡ d' → f ≡ f'
            → ◌≡◌ {A = Heads} (record { left = a; right = b; epsilon = d; rho = f }) (record { left = a'; right = b'; epsilon = d'; rho = f' })
        same_heads p q r t = cc

-- ---- room for a card

pub record Roomy (n m : ℕ) (k : Columns) : Type 0 where
  pub for_classes : n ≤ length k.classes
  pub for_sources : m ≤ length k.sources
  pub for_labels : m ≤ length k.labels
  pub for_targets : m ≤ length k.targets
  pub for_weights : m ≤ length k.weights

-- the counts of both models together
abbrev pub all_states : List ℕ → ℕ
all_states s = states s + states (after_side s)

abbrev pub all_count : List ℕ → ℕ
all_count s = count s + count (after_side s)

pub enough_card : (s : List ℕ) (a b d f g : ℕ)
    → enough (length (all_classes (card_in s))) (length (all_transitions (card_in s))) a b d f g ≡ enough (all_states s) (all_count s) a b d f g
unfolding card_in side_in
enough_card s a b d f g = simp (length-append, length_classes, length_transitions)

enough_all : (n m : ℕ) (k : Columns) → enough n m (length k.classes) (length k.sources) (length k.labels) (length k.targets) (length k.weights) ≡ true → Roomy n m k
enough_all n m k e =
    let p = leb n (length k.classes) in
    let a = (and_t p _ e).1 in
    let b = (and_t (leb m (length k.sources)) _ a).1 in
    let d = (and_t (leb m (length k.labels)) _ b).1 in
    record {
      for_classes = leb-true _ _ (and_t _ _ e).0;
      for_sources = leb-true _ _ (and_t _ _ a).0;
      for_labels = leb-true _ _ (and_t _ _ b).0;
      for_targets = leb-true _ _ (and_t _ _ d).0;
      for_weights = leb-true _ _ (and_t (leb m (length k.targets)) _ d).1;
    }

module _ (s : List ℕ) (e : fault s ≡ 0) (k : Columns) (r : roomy (card_in s) k ≡ true) where
  roomed : Roomy (all_states s) (all_count s) k
  roomed = enough_all (all_states s) (all_count s) k (sym (enough_card s _ _ _ _ _) ∙ r)

  pub left_room : SideRoom s 0 0 k
  left_room =
      let q = roomed in
      record {
        no_fault = left_passes s e;
        in_classes = omega arith;
        in_transitions = record { in_sources = omega arith; in_labels = omega arith; in_targets = omega arith; in_weights = omega arith };
      }

  module _ (right : List ℕ) (er : right ≡ after_side s) (n j : ℕ) (en : n ≡ states s) (ej : j ≡ count s) (k' : Columns) (ek : k' ≡ stored (side_in s) 0 0 k) where
    -- the columns are as long as they were
    kept : Roomy (all_states s) (all_count s) k'
    unfolding stored
    kept =
        let q = roomed in
        rw ek (record {
          for_classes = simp length-sets q.for_classes;
          for_sources = simp length-sets q.for_sources;
          for_labels = simp length-sets q.for_labels;
          for_targets = simp length-sets q.for_targets;
          for_weights = simp length-sets q.for_weights;
        })

    pub right_room : SideRoom right n j k'
    right_room =
        let q = kept in
        rw er (record {
          no_fault = passes (after_side s) (accepted s e).right_passed;
          in_classes = omega arith;
          in_transitions = record { in_sources = omega arith; in_labels = omega arith; in_targets = omega arith; in_weights = omega arith };
        })

    pub card_stored : stored (side_in right) n j k' ≡ filled (card_in s) k
    unfolding filled card_in side_in
    card_stored = rw (ek, er, en, ej, length_classes (states s) (class_part s), length_transitions (count s) (transition_part s))

-- ---- the answers

outcome_refused : (n : ℕ) (c : Card) → (n ≡ 0 → ⊥) → outcome n c ≡ refused n
outcome_refused zero c h = absurd (h refl)
outcome_refused (suc n) c h = refl

-- a refusal that is handed on
pub refused_answered : (s : List ℕ) (k : Columns) (a : Result Heads Refusal) (f : Refusal) → IsErrAnd a (λ e. e ≡ f) → number f ≡ fault s → Answered s k (numbered a) k
unfolding read
refused_answered s k (Ok h) f x e = absurd x
refused_answered s k (Err g) f x e =
    let n : number g ≡ fault s = ap number x ∙ e in
    let r : read s ≡ refused (number g) = ap (λ (n : ℕ). outcome n (card_in s)) (sym n) ∙ outcome_refused (number g) (card_in s) (number_positive g) in
    record { answers = rw r; leaves = rw r }

pub short_answered : (s : List ℕ) (k : Columns) → fault s ≡ 0 → roomy (card_in s) k ≡ false → Answered s k (Err 7) k
unfolding read
short_answered s k e r = record { answers = rw (e, r); leaves = rw (e, r) }

pub card_answered : (s : List ℕ) (k k' : Columns) (h : Heads) → fault s ≡ 0 → roomy (card_in s) k ≡ true → h ≡ heads_of (card_in s) → k' ≡ filled (card_in s) k
    → Answered s k (Ok h) k'
unfolding read
card_answered s k k' h e r p q = record { answers = rw (e, r, p); leaves = rw (e, r, q) }

-- the counts together
pub counts_together : (c : Card) (h : Heads) (a b d e f : ℕ) → h ≡ heads_of c
    → enough (h.left.states + h.right.states) (h.left.transitions + h.right.transitions) a b d e f ≡ enough (length (all_classes c)) (length (all_transitions c)) a b d e f
counts_together c h a b d e f p =
    ap (λ (x : Heads). enough (x.left.states + x.right.states) (x.left.transitions + x.right.transitions) a b d e f) p ∙ simp length-append
