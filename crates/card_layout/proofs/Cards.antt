-- The laws of reading: the layout of a card reads as that card, and what reads as a card is its layout.
use mathlib.Core.Path.{◌≡◌, refl, sym, ap, ◌∙◌}
use mathlib.Core.Logic.{◌⊎◌, inl, inr}
use mathlib.Core.Bool.{Bool, true, false, not}
use mathlib.Core.List.{List, [], ◌∷◌, ◌++◌, map, append_assoc, append-nil}
use Prim.Native.Nat.{ℕ, zero, suc, ◌+◌, ◌*◌, ◌-◌, ◌≤◌, ◌<◌, min}
use native.Mathlib.Omega.{arith}
use lib.Dec.{ltb}
use lib.ListN.{length, get_or, take, drop, length-append, length-take, length-drop, length-map}
use lib.Seq.{drop-drop, drop_at, take_all}
use borrow.Author.Tests.{lt-ltb, le-ltb, ltb-false, not-false}
use Rattle.numbers.specs.Refuse.{check}
use Rattle.numbers.proofs.Bools.{lt_or_ge, or_f}
use Rattle.numbers.proofs.Refuses.{first, check_none, check_same, first_none, first_same}
use Rattle.card_layout.specs.Layout.{lines, line, column, value, numbers, rows, laid}
use Rattle.card_layout.specs.Card.{Transition, Side, Card, head_row, class_row, transition_row, settings_row, side_text, layout, states, count, class_part, transition_part, side_size, after_side, last_part, classes_in, transition_in, transitions_in, side_in, card_in, large, side_fault, last_fault, fault, card, outcome, read, AllFit, AllTransitions, SideWithin, Within}
use Rattle.card_layout.proofs.Lines.{AllRows, value_column, rows_fit_lem, rows_lines, laid_lines, laid_split, laid_take, length_lines, value_take, drop_take_le}

-- ---- what passes

-- the checks of a model, then what follows it
side_first : (bs : List ℕ) (later : ℕ) → side_fault bs later ≡ first (side_fault bs 0) later
unfolding side_fault
side_first bs later = four (not (laid 1 3 bs)) (large bs) (not (laid (states bs) 1 (class_part bs))) (not (laid (count bs) 4 (transition_part bs)))
  where
    four : (a b d e : Bool) → check 1 a (check 2 b (check 1 d (check 1 e later))) ≡ first (check 1 a (check 2 b (check 1 d (check 1 e 0)))) later
    four true b d e = refl
    four false true d e = refl
    four false false true e = refl
    four false false false true = refl
    four false false false false = refl

-- the checks of a card, part by part
pub fault_parts : (bs : List ℕ) → fault bs ≡ first (side_fault bs 0) (first (side_fault (after_side bs) 0) (last_fault (last_part bs)))
unfolding fault
fault_parts bs = side_first bs _ ∙ ap (first (side_fault bs 0)) (side_first (after_side bs) _)

-- a model that passes checks 1 and 2
pub record Passed (bs : List ℕ) : Type 0 where
  pub head_laid : laid 1 3 bs ≡ true
  pub few_states : states bs ≤ 32
  pub few_transitions : count bs ≤ 200
  pub classes_laid : laid (states bs) 1 (class_part bs) ≡ true
  pub transitions_laid : laid (count bs) 4 (transition_part bs) ≡ true

pub passed : (bs : List ℕ) → side_fault bs 0 ≡ 0 → Passed bs
unfolding side_fault
passed bs e =
    let p = check_none 0 (not (laid 1 3 bs)) _ e in
    let q = check_none 1 (large bs) _ p.1 in
    let r = check_none 0 (not (laid (states bs) 1 (class_part bs))) _ q.1 in
    let t = check_none 0 (not (laid (count bs) 4 (transition_part bs))) 0 r.1 in
    let s = or_f (ltb 32 (states bs)) (ltb 200 (count bs)) q.0 in
    record {
      head_laid = not-false _ p.0;
      few_states = ltb-false 32 (states bs) s.0;
      few_transitions = ltb-false 200 (count bs) s.1;
      classes_laid = not-false _ r.0;
      transitions_laid = not-false _ t.0;
    }

pub passes : (bs : List ℕ) → Passed bs → side_fault bs 0 ≡ 0
unfolding side_fault
passes bs p = rw (p.head_laid, le-ltb 32 _ p.few_states, le-ltb 200 _ p.few_transitions, p.classes_laid, p.transitions_laid)

-- ---- the rows of a model, and its numbers

row_two : (bs : List ℕ) → rows 1 2 bs ≡ (value bs ∷ value (drop 6 bs) ∷ []) ∷ []
unfolding rows numbers
row_two bs = refl

row_three : (bs : List ℕ) → rows 1 3 bs ≡ (value bs ∷ value (drop 6 bs) ∷ value (drop 12 bs) ∷ []) ∷ []
unfolding rows numbers
row_three bs = rw (drop-drop 6 6 bs)

row_four : (bs : List ℕ) → numbers 4 bs ≡ transition_row (transition_in bs)
unfolding numbers
row_four bs = rw (drop-drop 6 6 bs, drop-drop 6 12 bs)

class_rows : (n : ℕ) (bs : List ℕ) → rows n 1 bs ≡ map class_row (classes_in n bs)
unfolding rows numbers classes_in
class_rows zero bs = refl
class_rows (suc n) bs = ap (λ (rs : List (List ℕ)). class_row (value bs) ∷ rs) (class_rows n (drop 7 bs))

transition_rows : (n : ℕ) (bs : List ℕ) → rows n 4 bs ≡ map transition_row (transitions_in n bs)
unfolding rows transitions_in
transition_rows zero bs = refl
transition_rows (suc n) bs = rw (row_four bs, transition_rows n (drop 25 bs))

pub length_classes : (n : ℕ) (bs : List ℕ) → length (classes_in n bs) ≡ n
unfolding classes_in
length_classes zero bs = refl
length_classes (suc n) bs = ap suc (length_classes n (drop 7 bs))

pub length_transitions : (n : ℕ) (bs : List ℕ) → length (transitions_in n bs) ≡ n
unfolding transitions_in
length_transitions zero bs = refl
length_transitions (suc n) bs = ap suc (length_transitions n (drop 25 bs))

head_row_lem : (bs : List ℕ) → rows 1 3 bs ≡ head_row (side_in bs) ∷ []
unfolding side_in
head_row_lem bs = row_three bs ∙ (rw (length_classes (states bs) (class_part bs), length_transitions (count bs) (transition_part bs)))

-- ---- what reads as a model is its lines

side_split : (bs : List ℕ) → Passed bs → bs ≡ side_text (side_in bs) ++ after_side bs
unfolding side_text side_in
side_split bs p =
    let n = states bs in
    let m = count bs in
    let h : bs ≡ lines (head_row (side_in bs) ∷ []) ++ class_part bs = laid_split 1 3 bs p.head_laid ∙ ap (λ (x : List (List ℕ)). lines x ++ drop 19 bs) (head_row_lem bs) in
    let i : 19 + n * 7 ≡ 19 + 7 * n = omega arith in
    let j : 19 + 7 * n + m * 25 ≡ 19 + 7 * n + 25 * m = omega arith in
    let k : class_part bs ≡ lines (map class_row (classes_in n (class_part bs))) ++ transition_part bs =
    laid_split n 1 (class_part bs) p.classes_laid
    ∙ ap (λ (x : List (List ℕ)). lines x ++ drop (n * 7) (class_part bs)) (class_rows n (class_part bs))
    ∙ ap (λ (x : List ℕ). lines (map class_row (classes_in n (class_part bs))) ++ x) (drop-drop (n * 7) 19 bs ∙ ap (λ (x : ℕ). drop x bs) i) in
    let l : transition_part bs ≡ lines (map transition_row (transitions_in m (transition_part bs))) ++ after_side bs =
    laid_split m 4 (transition_part bs) p.transitions_laid
    ∙ ap (λ (x : List (List ℕ)). lines x ++ drop (m * 25) (transition_part bs)) (transition_rows m (transition_part bs))
    ∙ ap (λ (x : List ℕ). lines (map transition_row (transitions_in m (transition_part bs))) ++ x) (drop-drop (m * 25) (19 + 7 * n) bs ∙ ap (λ (x : ℕ). drop x bs) j) in
    h
    ∙ ap (λ (x : List ℕ). lines (head_row (side_in bs) ∷ []) ++ x)
    (k ∙ ap (λ (x : List ℕ). lines (map class_row (classes_in n (class_part bs))) ++ x) l)
    ∙ simp append_assoc

-- ---- numbers that are read fit a column

classes_fit : (cs : List ℕ) → AllRows 1 (map class_row cs) → AllFit cs
classes_fit [] f = tt
classes_fit (c ∷ cs) f = (f.1.0, classes_fit cs f.2)

transitions_fit : (ms : List Transition) → AllRows 4 (map transition_row ms) → AllTransitions ms
transitions_fit [] f = tt
transitions_fit (m ∷ ms) f = (f.1, transitions_fit ms f.2)

class_rows_fit : (cs : List ℕ) → AllFit cs → AllRows 1 (map class_row cs)
class_rows_fit [] f = tt
class_rows_fit (c ∷ cs) f = (refl, (f.0, tt), class_rows_fit cs f.1)

transition_rows_fit : (ms : List Transition) → AllTransitions ms → AllRows 4 (map transition_row ms)
transition_rows_fit [] f = tt
transition_rows_fit (m ∷ ms) f = (refl, f.0, transition_rows_fit ms f.1)

side_within : (bs : List ℕ) → Passed bs → SideWithin (side_in bs)
unfolding side_in
side_within bs p =
    let n = states bs in
    let m = count bs in
    let h : AllRows 3 ((value bs ∷ value (drop 6 bs) ∷ value (drop 12 bs) ∷ []) ∷ []) = rw (row_three bs) at (rows_fit_lem 1 3 bs p.head_laid) in
    let k : AllRows 1 (map class_row (classes_in n (class_part bs))) = rw (class_rows n (class_part bs)) at (rows_fit_lem n 1 (class_part bs) p.classes_laid) in
    let l : AllRows 4 (map transition_row (transitions_in m (transition_part bs))) = rw (transition_rows m (transition_part bs)) at (rows_fit_lem m 4 (transition_part bs) p.transitions_laid) in
    record {
      few_states = rw (length_classes n (class_part bs)) p.few_states;
      few_transitions = rw (length_transitions m (transition_part bs)) p.few_transitions;
      initial_fits = h.1.1.0;
      classes_fit = classes_fit (classes_in n (class_part bs)) k;
      transitions_fit = transitions_fit (transitions_in m (transition_part bs)) l;
    }

-- ---- what reads as a card

-- both models pass, the last line is as laid out, and nothing follows
pub record Accepted (bs : List ℕ) : Type 0 where
  pub left_passed : Passed bs
  pub right_passed : Passed (after_side bs)
  pub last_laid : laid 1 2 (last_part bs) ≡ true
  pub ended : length (drop 13 (last_part bs)) ≡ 0

pub accepted : (bs : List ℕ) → fault bs ≡ 0 → Accepted bs
unfolding last_fault
accepted bs e =
    let p = first_none (side_fault bs 0) _ (sym (fault_parts bs) ∙ e) in
    let q = first_none (side_fault (after_side bs) 0) _ p.1 in
    let r = check_none 0 (not (laid 1 2 (last_part bs))) _ q.1 in
    let t = check_none 0 (ltb 13 (length (last_part bs))) 0 r.1 in
    let n = ltb-false 13 (length (last_part bs)) t.0 in
    record { left_passed = passed bs p.0; right_passed = passed (after_side bs) q.0; last_laid = not-false _ r.0; ended = length-drop 13 (last_part bs) ∙ omega arith }

none : (bs : List ℕ) → length bs ≡ 0 → bs ≡ []
none [] e = refl
none (b ∷ bs) e = absurd (omega arith)

last_split : (bs : List ℕ) → Accepted bs → last_part bs ≡ lines (settings_row (card_in bs) ∷ [])
unfolding card_in
last_split bs a =
    laid_split 1 2 (last_part bs) a.last_laid
    ∙ ap (λ (x : List (List ℕ)). lines x ++ drop 13 (last_part bs)) (row_two (last_part bs))
    ∙ ap (λ (x : List ℕ). lines (settings_row (card_in bs) ∷ []) ++ x) (none _ a.ended)
    ∙ append-nil _

laid_again : (bs : List ℕ) → Accepted bs → layout (card_in bs) ≡ bs
unfolding layout card_in
laid_again bs a =
    ap (λ (x : List ℕ). side_text (side_in bs) ++ (side_text (side_in (after_side bs)) ++ x)) (sym (last_split bs a))
    ∙ ap (λ (x : List ℕ). side_text (side_in bs) ++ x) (sym (side_split (after_side bs) a.right_passed))
    ∙ sym (side_split bs a.left_passed)

card_within : (bs : List ℕ) → Accepted bs → Within (card_in bs)
unfolding card_in
card_within bs a =
    let h : AllRows 2 ((value (last_part bs) ∷ value (drop 6 (last_part bs)) ∷ []) ∷ []) = rw (row_two (last_part bs)) at (rows_fit_lem 1 2 (last_part bs) a.last_laid) in
    record {
      left_within = side_within bs a.left_passed;
      right_within = side_within (after_side bs) a.right_passed;
      epsilon_fits = h.1.0;
      rho_fits = h.1.1.0;
    }

outcome_card : (n : ℕ) (c d : Card) → outcome n c ≡ card d → (n ≡ 0) × (c ≡ d)
outcome_card zero c d e = (refl, cc)
outcome_card (suc n) c d e = absurd (let z : ◌≡◌ {A = ℕ} 0 1 = cc in omega arith)

-- THE SECOND LAW: what is read as a card, laid out again, is the same bytes; and it is a card within the sizes
pub layout_read : (bs : List ℕ) (c : Card) → read bs ≡ card c → (layout c ≡ bs) × Within c
unfolding read
layout_read bs c e =
    let o = outcome_card (fault bs) (card_in bs) c e in
    let a = accepted bs o.0 in
    (ap layout (sym o.1) ∙ laid_again bs a, rw o.1 at (card_within bs a))

-- ---- the layout of a model reads as that model

classes_back : (cs r : List ℕ) → AllFit cs → classes_in (length cs) (lines (map class_row cs) ++ r) ≡ cs
unfolding classes_in lines line column
classes_back [] r f = refl
classes_back (c ∷ cs) r f =
    let e = value_column c (10 ∷ (lines (map class_row cs) ++ r)) f.0 in
    let g = classes_back cs r f.1 in
    cc

-- a row of four as a transition
unrow : List ℕ → Transition
unrow r = record { source = get_or r 0 0; label = get_or r 1 0; target = get_or r 2 0; weight = get_or r 3 0 }

unrowed : (ms : List Transition) → map unrow (map transition_row ms) ≡ ms
unfolding unrow
unrowed [] = refl
unrowed (m ∷ ms) = ap (λ (x : List Transition). m ∷ x) (unrowed ms)

transitions_back : (ms : List Transition) (r : List ℕ) → AllTransitions ms → transitions_in (length ms) (lines (map transition_row ms) ++ r) ≡ ms
transitions_back ms r f =
    let x = lines (map transition_row ms) ++ r in
    let e : rows (length ms) 4 x ≡ map transition_row ms =
    ap (λ (n : ℕ). rows n 4 x) (sym (length-map ms transition_row)) ∙ rows_lines 4 (map transition_row ms) r (transition_rows_fit ms f) in
    sym (unrowed (transitions_in (length ms) x)) ∙ ap (map unrow) (sym (transition_rows (length ms) x) ∙ e) ∙ unrowed ms

same_side : (s : Side) (i : ℕ) (cs : List ℕ) (ms : List Transition) → i ≡ s.initial → cs ≡ s.classes → ms ≡ s.transitions
    → record { initial = i; classes = cs; transitions = ms } ≡ s
same_side s i cs ms a b d =
    ap (λ (x : ℕ). record { initial = x; classes = cs; transitions = ms }) a
    ∙ ap (λ (x : List ℕ). record { initial = s.initial; classes = x; transitions = ms }) b
    ∙ ap (λ (x : List Transition). record { initial = s.initial; classes = s.classes; transitions = x }) d

module _ (s : Side) (r : List ℕ) (w : SideWithin s) where
  abbrev cs : List (List ℕ)
  cs = map class_row s.classes

  abbrev ms : List (List ℕ)
  ms = map transition_row s.transitions

  -- the model's lines, and what follows
  abbrev here : List ℕ
  here = lines (head_row s ∷ []) ++ (lines cs ++ (lines ms ++ r))

  head_fits : AllRows 3 (head_row s ∷ [])
  head_fits =
      let a = w.few_states in
      let b = w.few_transitions in
      (refl, (omega arith, (w.initial_fits, (omega arith, tt))), tt)

  head_back : (value here ∷ value (drop 6 here) ∷ value (drop 12 here) ∷ []) ∷ [] ≡ head_row s ∷ []
  head_back = sym (row_three here) ∙ rows_lines 3 (head_row s ∷ []) (lines cs ++ (lines ms ++ r)) head_fits

  states_back : value here ≡ length s.classes
  states_back = let e = head_back in cc

  initial_back : value (drop 6 here) ≡ s.initial
  initial_back = let e = head_back in cc

  count_back : value (drop 12 here) ≡ length s.transitions
  count_back = let e = head_back in cc

  class_part_lem : class_part here ≡ lines cs ++ (lines ms ++ r)
  class_part_lem = drop_at (lines (head_row s ∷ [])) (lines cs ++ (lines ms ++ r)) 19 (length_lines 3 (head_row s ∷ []) head_fits)

  classes_length : length (lines cs) ≡ 7 * length s.classes
  classes_length = let e = length_lines 1 cs (class_rows_fit s.classes w.classes_fit) in let f = length-map s.classes class_row in omega arith

  transitions_length : length (lines ms) ≡ 25 * length s.transitions
  transitions_length = let e = length_lines 4 ms (transition_rows_fit s.transitions w.transitions_fit) in let f = length-map s.transitions transition_row in omega arith

  transition_part_lem : transition_part here ≡ lines ms ++ r
  transition_part_lem =
      ap (λ (n : ℕ). drop (19 + 7 * n) here) states_back
      ∙ sym (drop-drop (7 * length s.classes) 19 here)
      ∙ ap (drop (7 * length s.classes)) class_part_lem
      ∙ drop_at (lines cs) (lines ms ++ r) (7 * length s.classes) classes_length

  after_part : after_side here ≡ r
  after_part =
      ap (λ (n : ℕ). drop (19 + 7 * value here + 25 * n) here) count_back
      ∙ sym (drop-drop (25 * length s.transitions) (19 + 7 * value here) here)
      ∙ ap (drop (25 * length s.transitions)) transition_part_lem
      ∙ drop_at (lines ms) r (25 * length s.transitions) transitions_length

  side_back : side_in here ≡ s
  unfolding side_in
  side_back =
      same_side s _ _ _ initial_back
      (rw (states_back, class_part_lem) (classes_back s.classes (lines ms ++ r) w.classes_fit))
      (rw (count_back, transition_part_lem) (transitions_back s.transitions r w.transitions_fit))

  side_passes : Passed here
  side_passes = record {
    head_laid = laid_lines 3 (head_row s ∷ []) (lines cs ++ (lines ms ++ r)) head_fits;
    few_states = rw states_back w.few_states;
    few_transitions = rw count_back w.few_transitions;
    classes_laid = rw (states_back, class_part_lem, ← length-map s.classes class_row) (laid_lines 1 cs (lines ms ++ r) (class_rows_fit s.classes w.classes_fit));
    transitions_laid = rw (count_back, transition_part_lem, ← length-map s.transitions transition_row) (laid_lines 4 ms r (transition_rows_fit s.transitions w.transitions_fit));
  }

  -- the same of the model's text
  text : side_text s ++ r ≡ here
  unfolding side_text
  text = simp append_assoc

  text_back : side_in (side_text s ++ r) ≡ s
  text_back = rw text side_back

  text_after : after_side (side_text s ++ r) ≡ r
  text_after = rw text after_part

  text_passes : side_fault (side_text s ++ r) 0 ≡ 0
  text_passes = rw text (passes here side_passes)

  text_length : length (side_text s) ≤ 5243
  unfolding side_text
  text_length =
      let a = classes_length in
      let b = transitions_length in
      let d = length_lines 3 (head_row s ∷ []) head_fits in
      let e = w.few_states in
      let f = w.few_transitions in
      simp length-append (omega arith)

-- ---- the layout of a card reads as that card

module _ (c : Card) (w : Within c) where
  abbrev settings : List ℕ
  settings = lines (settings_row c ∷ [])

  settings_fit : AllRows 2 (settings_row c ∷ [])
  settings_fit = (refl, (w.epsilon_fits, (w.rho_fits, tt)), tt)

  settings_back : (value settings ∷ value (drop 6 settings) ∷ []) ∷ [] ≡ settings_row c ∷ []
  settings_back =
      sym (row_two settings) ∙ ap (rows 1 2) (sym (append-nil settings)) ∙ rows_lines 2 (settings_row c ∷ []) [] settings_fit

  settings_pass : last_fault settings ≡ 0
  unfolding last_fault
  settings_pass =
      let a : laid 1 2 settings ≡ true = ap (laid 1 2) (sym (append-nil settings)) ∙ laid_lines 2 (settings_row c ∷ []) [] settings_fit in
      let l = length_lines 2 (settings_row c ∷ []) settings_fit in
      rw (a, le-ltb 13 (length settings) (omega arith))

  last_back : last_part (layout c) ≡ settings
  unfolding layout
  last_back =
      ap after_side (text_after c.left (side_text c.right ++ settings) w.left_within)
      ∙ text_after c.right settings w.right_within

  no_fault : fault (layout c) ≡ 0
  unfolding layout
  no_fault =
      let a = text_passes c.left (side_text c.right ++ settings) w.left_within in
      let d = text_after c.left (side_text c.right ++ settings) w.left_within in
      let b = text_passes c.right settings w.right_within in
      let e = text_after c.right settings w.right_within in
      fault_parts (layout c) ∙ rw (a, d, b, e) settings_pass

  same_card : card_in (layout c) ≡ c
  unfolding card_in layout
  same_card =
      let s = settings_back in
      let l = last_back in
      let a : side_in (layout c) ≡ c.left = text_back c.left (side_text c.right ++ settings) w.left_within in
      let b : side_in (after_side (layout c)) ≡ c.right =
      ap side_in (text_after c.left (side_text c.right ++ settings) w.left_within) ∙ text_back c.right settings w.right_within in
      let d : value settings ≡ c.epsilon = first_of _ _ _ _ s in
      let e : value (drop 6 settings) ≡ c.rho = second_of _ _ _ _ s in
      card_of c _ _ _ _ a b (ap value l ∙ d) (ap (λ (x : List ℕ). value (drop 6 x)) l ∙ e)
    where
      first_of : (a b d e : ℕ) → ◌≡◌ {A = List (List ℕ)} ((a ∷ b ∷ []) ∷ []) ((d ∷ e ∷ []) ∷ []) → a ≡ d
      first_of a b d e p = cc

      second_of : (a b d e : ℕ) → ◌≡◌ {A = List (List ℕ)} ((a ∷ b ∷ []) ∷ []) ((d ∷ e ∷ []) ∷ []) → b ≡ e
      second_of a b d e p = cc

      card_of : (k : Card) (l r : Side) (e p : ℕ) → l ≡ k.left → r ≡ k.right → e ≡ k.epsilon → p ≡ k.rho
          → record { left = l; right = r; epsilon = e; rho = p } ≡ k
      card_of k l r e p x y z t =
          ap (λ (v : Side). record { left = v; right = r; epsilon = e; rho = p }) x
          ∙ ap (λ (v : Side). record { left = k.left; right = v; epsilon = e; rho = p }) y
          ∙ ap (λ (v : ℕ). record { left = k.left; right = k.right; epsilon = v; rho = p }) z
          ∙ ap (λ (v : ℕ). record { left = k.left; right = k.right; epsilon = k.epsilon; rho = v }) t

  -- THE FIRST LAW: reading what the layout writes gives the card back
  pub read_layout : read (layout c) ≡ card c
  unfolding read
  read_layout = rw (no_fault, same_card)

  -- the greatest card is 10,499 bytes
  pub layout_length : length (layout c) ≤ 10499
  unfolding layout
  layout_length =
      let a = text_length c.left [] w.left_within in
      let b = text_length c.right [] w.right_within in
      let d = length_lines 2 (settings_row c ∷ []) settings_fit in
      simp length-append (omega arith)

-- ---- bytes past the greatest card

value_at : (i m : ℕ) (bs : List ℕ) → i + 6 ≤ m → value (drop i (take m bs)) ≡ value (drop i bs)
value_at i m bs h = ap value (drop_take_le i m bs (omega arith)) ∙ value_take (m - i) (drop i bs) (omega arith)

laid_at : (n k i m : ℕ) (bs : List ℕ) → i + n * (6 * k + 1) ≤ m → laid n k (drop i (take m bs)) ≡ laid n k (drop i bs)
laid_at n k i m bs h = ap (laid n k) (drop_take_le i m bs (omega arith)) ∙ laid_take n k (m - i) (drop i bs) (omega arith)

side_take : (m : ℕ) (bs : List ℕ) → 5243 ≤ m → side_fault (take m bs) 0 ≡ side_fault bs 0
unfolding side_fault
side_take m bs h =
    let a : laid 1 3 (take m bs) ≡ laid 1 3 bs = laid_take 1 3 m bs (omega arith) in
    let v : value (take m bs) ≡ value bs = value_take m bs (omega arith) in
    let w : value (drop 12 (take m bs)) ≡ value (drop 12 bs) = value_at 12 m bs (omega arith) in
    rw (a, v, w) (check_same 1 (not (laid 1 3 bs)) _ _ (λ _. check_same 2 (large bs) _ _ (λ s.
    let f = or_f (ltb 32 (states bs)) (ltb 200 (count bs)) s in
    let n = ltb-false 32 (states bs) f.0 in
    let k = ltb-false 200 (count bs) f.1 in
    let d : laid (states bs) 1 (drop 19 (take m bs)) ≡ laid (states bs) 1 (class_part bs) = laid_at (states bs) 1 19 m bs (omega arith) in
    let e : laid (count bs) 4 (drop (19 + 7 * states bs) (take m bs)) ≡ laid (count bs) 4 (transition_part bs) = laid_at (count bs) 4 (19 + 7 * states bs) m bs (omega arith) in
    rw (d, e))))

after_take : (m : ℕ) (bs : List ℕ) → Passed bs → 5243 ≤ m → after_side (take m bs) ≡ take (m - side_size bs) (after_side bs)
after_take m bs p h =
    let v : value (take m bs) ≡ value bs = value_take m bs (omega arith) in
    let w : value (drop 12 (take m bs)) ≡ value (drop 12 bs) = value_at 12 m bs (omega arith) in
    let n = p.few_states in
    let k = p.few_transitions in
    rw (v, w) (drop_take_le (side_size bs) m bs (omega arith))

last_take : (m : ℕ) (bs : List ℕ) → 14 ≤ m → last_fault (take m bs) ≡ last_fault bs
unfolding last_fault
last_take m bs h =
    let a : laid 1 2 (take m bs) ≡ laid 1 2 bs = laid_take 1 2 m bs (omega arith) in
    rw a (check_same 1 (not (laid 1 2 bs)) _ _ (λ _. ap (λ (b : Bool). check 1 b 0) (ap (ltb 13) (length-take m bs) ∙ pick (lt_or_ge 13 (length bs)))))
  where
    pick : (13 < length bs) ⊎ (length bs ≤ 13) → ltb 13 (min m (length bs)) ≡ ltb 13 (length bs)
    pick (inl l) = lt-ltb 13 (min m (length bs)) (omega arith) ∙ sym (lt-ltb 13 (length bs) l)
    pick (inr l) = le-ltb 13 (min m (length bs)) (omega arith) ∙ sym (le-ltb 13 (length bs) l)

fault_take : (m : ℕ) (bs : List ℕ) → 10500 ≤ m → fault (take m bs) ≡ fault bs
fault_take m bs h = fault_parts (take m bs) ∙ rw (side_take m bs (omega arith)) (first_same (side_fault bs 0) _ _ rest) ∙ sym (fault_parts bs)
  where
    rest : side_fault bs 0 ≡ 0 → first (side_fault (after_side (take m bs)) 0) (last_fault (last_part (take m bs))) ≡ first (side_fault (after_side bs) 0) (last_fault (last_part bs))
    rest e =
        let p = passed bs e in
        let n = p.few_states in
        let k = p.few_transitions in
        rw (after_take m bs p (omega arith), side_take (m - side_size bs) (after_side bs) (omega arith))
        (first_same (side_fault (after_side bs) 0) _ _ (λ f.
        let q = passed (after_side bs) f in
        let n' = q.few_states in
        let k' = q.few_transitions in
        rw (after_take (m - side_size bs) (after_side bs) q (omega arith)) (last_take (m - side_size bs - side_size (after_side bs)) (last_part bs) (omega arith))))

-- THE THIRD LAW: the first 10,500 bytes decide
pub read_take : (m : ℕ) (bs : List ℕ) → 10500 ≤ m → read (take m bs) ≡ read bs
unfolding read
read_take m bs h = pick (fault bs) refl
  where
    pick : (n : ℕ) → fault bs ≡ n → read (take m bs) ≡ read bs
    pick zero e =
        let a = accepted bs e in
        let l = layout_length (card_in bs) (card_within bs a) in
        let b = ap length (laid_again bs a) in
        let t : take m bs ≡ bs = take_all m bs (omega arith) in
        ap read t
    pick (suc n) e = let f = fault_take m bs h in rw (f, e)
