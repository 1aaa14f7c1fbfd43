-- What a caller of `read_card` has: in lists that are long enough for every card, either the refusal of the bytes or the card in them.
-- The left model's entries stand first, the right one's after them (`both-cut`).
use mathlib.Core.Path.{◌≡◌, refl, ap, subst, ◌∙◌}
use mathlib.Core.Bool.{true}
use mathlib.Core.List.{List, ◌++◌, map, append_assoc}
use Prim.Native.Nat.{ℕ, ◌+◌, ◌≤◌}
use native.Mathlib.Omega.{arith}
use lib.ListN.{length, take, drop, length-append, length-map}
use lib.Seq.{sets, sets-eq, length-sets, slice, take-append_seam, take-append-add, drop-append_seam}
use borrow.Author.Tests.{le-leb}
use Rattle.card_layout.specs.Card.{Transition, Card, Reading, card, refused, read, Within}
use Rattle.std.specs.Prelude.{Ok, Err}
use Rattle.card_reader.specs.declared.reader.Heads.{Heads}
use Rattle.card_layout.specs.Lists.{Columns, source_of, label_of, target_of, weight_of, stored, filled, roomy, all_classes, all_transitions}
use Rattle.card_reader.specs.Answer.{answer, after, Answered, heads_of}
use Rattle.card_layout.proofs.Cards.{layout_read}

-- ---- two lists stored one after the other

module _ {A : Type 0} (z xs ys : List A) (h : length xs + length ys ≤ length z) where
  abbrev two : List A
  two = sets (sets z 0 xs) (length xs) ys

  two_are : two ≡ xs ++ (ys ++ drop (length xs + length ys) (sets z 0 xs))
  two_are =
      let l = length-sets z 0 xs in
      let o : 0 + length xs ≡ length xs = omega arith in
      let e : sets z 0 xs ≡ xs ++ drop (length xs) z = sets-eq xs z 0 (omega arith) ∙ ap (λ (x : ℕ). xs ++ drop x z) o in
      let f : take (length xs) (sets z 0 xs) ≡ xs = ap (take (length xs)) e ∙ take-append_seam xs (drop (length xs) z) in
      sets-eq ys (sets z 0 xs) (length xs) (omega arith) ∙ append_assoc (take (length xs) (sets z 0 xs)) ys (drop (length xs + length ys) (sets z 0 xs)) ∙ ap (λ (x : List A). x ++ (ys ++ drop (length xs + length ys) (sets z 0 xs))) f

  first_cut : slice 0 (0 + length xs) two ≡ xs
  first_cut = let o : 0 + length xs ≡ length xs = omega arith in ap (λ (x : ℕ). take x two) o ∙ ap (take (length xs)) two_are ∙ take-append_seam xs _

  second_cut : slice (length xs) (length xs + length ys) two ≡ ys
  second_cut =
      ap (slice (length xs) (length xs + length ys)) two_are
      ∙ ap (drop (length xs)) (take-append-add xs (ys ++ drop (length xs + length ys) (sets z 0 xs)) (length ys) ∙ ap (λ (x : List A). xs ++ x) (take-append_seam ys _))
      ∙ drop-append_seam xs ys

-- a column of transitions
module _ {A : Type 0} (f : Transition → A) (z : List A) (xs ys : List Transition) (h : length xs + length ys ≤ length z) where
  abbrev cols : List A
  cols = sets (sets z 0 (map f xs)) (length xs) (map f ys)

  col_first : slice 0 (0 + length xs) cols ≡ map f xs
  col_first =
      let a = length-map xs f in
      let b = length-map ys f in
      subst (λ (n : ℕ). slice 0 (0 + n) (sets (sets z 0 (map f xs)) n (map f ys)) ≡ map f xs) a (first_cut z (map f xs) (map f ys) (omega arith))

  col_second : slice (length xs) (length xs + length ys) cols ≡ map f ys
  col_second =
      let a = length-map xs f in
      let b = length-map ys f in
      subst (λ (n : ℕ). slice n (n + length ys) (sets (sets z 0 (map f xs)) n (map f ys)) ≡ map f ys) a
      (subst (λ (m : ℕ). slice (length (map f xs)) (length (map f xs) + m) (sets (sets z 0 (map f xs)) (length (map f xs)) (map f ys)) ≡ map f ys) b (second_cut z (map f xs) (map f ys) (omega arith)))

-- ---- a card in the lists

-- one model's entries: its classes from n on, its transitions from m on
pub record SideListed (classes : List ℕ) (ts : List Transition) (n m : ℕ) (k : Columns) : Type 0 where
  pub its_classes : slice n (n + length classes) k.classes ≡ classes
  pub its_sources : slice m (m + length ts) k.sources ≡ map source_of ts
  pub its_labels : slice m (m + length ts) k.labels ≡ map label_of ts
  pub its_targets : slice m (m + length ts) k.targets ≡ map target_of ts
  pub its_weights : slice m (m + length ts) k.weights ≡ map weight_of ts

pub record Listed (c : Card) (h : Heads) (k : Columns) : Type 0 where
  pub its_heads : h ≡ heads_of c
  pub its_left : SideListed c.left.classes c.left.transitions 0 0 k
  pub its_right : SideListed c.right.classes c.right.transitions (length c.left.classes) (length c.left.transitions) k

-- lists that are long enough for every card
pub record Long (k : Columns) : Type 0 where
  pub classes_long : 64 ≤ length k.classes
  pub sources_long : 400 ≤ length k.sources
  pub labels_long : 400 ≤ length k.labels
  pub targets_long : 400 ≤ length k.targets
  pub weights_long : 400 ≤ length k.weights

module _ (c : Card) (w : Within c) (k : Columns) (g : Long k) where
  abbrev l : ℕ
  l = length c.left.classes + length c.right.classes

  abbrev n : ℕ
  n = length c.left.transitions + length c.right.transitions

  few_classes : l ≤ 64
  few_classes = let a = w.left_within.few_states in let b = w.right_within.few_states in omega arith

  few_transitions : n ≤ 400
  few_transitions = let a = w.left_within.few_transitions in let b = w.right_within.few_transitions in omega arith

  has_room_lem : roomy c k ≡ true
  has_room_lem =
      let a = few_classes in
      let b = few_transitions in
      let x = length-append c.left.classes c.right.classes in
      let y = length-append c.left.transitions c.right.transitions in
      let p = g.classes_long in
      let q = g.sources_long in
      let r = g.labels_long in
      let s = g.targets_long in
      let t = g.weights_long in
      rw (
        le-leb (length (all_classes c)) (length k.classes) (omega arith),
        le-leb (length (all_transitions c)) (length k.sources) (omega arith),
        le-leb (length (all_transitions c)) (length k.labels) (omega arith),
        le-leb (length (all_transitions c)) (length k.targets) (omega arith),
        le-leb (length (all_transitions c)) (length k.weights) (omega arith),
      )

  card_listed : Listed c (heads_of c) (filled c k)
  unfolding filled stored
  card_listed =
      let a = few_classes in
      let b = few_transitions in
      let p = g.classes_long in
      let q = g.sources_long in
      let r = g.labels_long in
      let s = g.targets_long in
      let t = g.weights_long in
      record {
        its_heads = refl;
        its_left = record {
          its_classes = first_cut k.classes c.left.classes c.right.classes (omega arith);
          its_sources = col_first source_of k.sources c.left.transitions c.right.transitions (omega arith);
          its_labels = col_first label_of k.labels c.left.transitions c.right.transitions (omega arith);
          its_targets = col_first target_of k.targets c.left.transitions c.right.transitions (omega arith);
          its_weights = col_first weight_of k.weights c.left.transitions c.right.transitions (omega arith);
        };
        its_right = record {
          its_classes = second_cut k.classes c.left.classes c.right.classes (omega arith);
          its_sources = col_second source_of k.sources c.left.transitions c.right.transitions (omega arith);
          its_labels = col_second label_of k.labels c.left.transitions c.right.transitions (omega arith);
          its_targets = col_second target_of k.targets c.left.transitions c.right.transitions (omega arith);
          its_weights = col_second weight_of k.weights c.left.transitions c.right.transitions (omega arith);
        };
      }

-- the lists are as long as they were
filled_long : (c : Card) (k : Columns) → Long k → Long (filled c k)
unfolding filled stored
filled_long c k g = record {
  classes_long = simp length-sets g.classes_long;
  sources_long = simp length-sets g.sources_long;
  labels_long = simp length-sets g.labels_long;
  targets_long = simp length-sets g.targets_long;
  weights_long = simp length-sets g.weights_long;
}

-- ---- what the answer says of the bytes

pub record Found (bs : List ℕ) (h : Heads) (k : Columns) : Type 0 where
  pub the_card : Card
  pub reads : read bs ≡ card the_card
  pub within : Within the_card
  pub lists : Listed the_card h k
  pub long : Long k

refused_case : (x : Reading) (k : Columns) (n : ℕ) → ((c : Card) → x ≡ card c → roomy c k ≡ true) → Err n ≡ answer x k → x ≡ refused n
refused_case (refused m) k n f e = ap refused (let z : m ≡ n = cc in z)
refused_case (card c) k n f e = absurd (let r = f c refl in let g : Err n ≡ Ok (heads_of c) = e ∙ rw r in let z : ◌≡◌ {A = ℕ} 0 1 = cc in omega arith)

card_case : (x : Reading) (k k' : Columns) (h : Heads) → ((c : Card) → x ≡ card c → roomy c k ≡ true) → Ok h ≡ answer x k → k' ≡ after x k
    → (c : Card) × (x ≡ card c) × (h ≡ heads_of c) × (k' ≡ filled c k)
card_case (refused m) k k' h f e d = absurd (let z : ◌≡◌ {A = ℕ} 0 1 = cc in omega arith)
card_case (card c) k k' h f e d =
    let r = f c refl in
    let g : Ok h ≡ Ok (heads_of c) = e ∙ rw r in
    (c, refl, (let z : h ≡ heads_of c = cc in z), d ∙ rw r)

module _ (bs : List ℕ) (k k' : Columns) (g : Long k) where
  roomed : (c : Card) → read bs ≡ card c → roomy c k ≡ true
  roomed c e = has_room_lem c (layout_read bs c e).1 k g

  pub answered_refused : (n : ℕ) → Answered bs k (Err n) k' → read bs ≡ refused n
  answered_refused n a = refused_case (read bs) k n roomed a.answers

  found_of_lem : (h : Heads) (c : Card) → read bs ≡ card c → h ≡ heads_of c → k' ≡ filled c k → Found bs h k'
  found_of_lem h c e p q =
      let w = (layout_read bs c e).1 in
      record { the_card = c; reads = e; within = w; lists = rw (p, q) (card_listed c w k g); long = rw q (filled_long c k g) }

  pub answered_card : (h : Heads) → Answered bs k (Ok h) k' → Found bs h k'
  answered_card h a = let f = card_case (read bs) k k' h roomed a.answers a.leaves in found_of_lem h f.0 f.1 f.2 f.3
