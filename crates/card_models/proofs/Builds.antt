-- The models of a card on their way from the lists that hold it to what is printed.
use Rattle.std.specs.Prelude.{Some, Option}
use Rattle.bisim_core.specs.declared.ids.StateId.{StateId}
use mathlib.Core.Path.{◌≡◌, sym, ap, subst, ◌∙◌}
use mathlib.Core.List.{List}
use Prim.Native.Nat.{ℕ, zero, suc, ◌+◌, ◌-◌, ◌≤◌}
use native.Mathlib.Omega.{arith}
use lib.Dec.{ltb}
use lib.ListN.{length, take, drop}
use lib.Seq.{slice}
use Rattle.numbers.specs.Refuse.{check}
use Rattle.bisim_core.specs.Data.{Transitions, Columns, transitions}
use Rattle.bisim_core.specs.declared.wlts.Shape.{Shape}
use Rattle.bisim_build.specs.Build as builds
use Rattle.bisim_build.specs.Build.{build}
use Rattle.std.specs.Prelude.{Result, Ok, Err}
use Rattle.build_theory.specs.Checks.{refusal}
use Rattle.card_layout.specs.Card.{Side, Card, Within}
use Rattle.card_layout.specs.Lists as answers
use Rattle.card_reader.specs.Answer.{head_of, heads_of}
use Rattle.card_reader.specs.declared.reader.Head.{Head}
use Rattle.card_reader.specs.declared.reader.Heads.{Heads}
use Rattle.card_reader.proofs.Lists.{SideListed, Listed, Long}
use Rattle.card_report.specs.Report.{refusal_line}
use Rattle.card_relation.specs.Relating.{relation_text}
use Rattle.card_models.specs.Models.{card_text}
use Rattle.card_models.specs.Together.{both}
use Rattle.card_models.specs.Sides.{shortest, cut_at, side_ends}
use Rattle.card_models.proofs.Handing.{blank, built_of, models_text, built_text, Room, Few, FewBoth, side_built, lists_text, right_text, heads_text}
use Rattle.card_models.proofs.Parts.{cut, side_there}
use Rattle.card_models.proofs.Answers.{built_text_lem}

-- ---- the classes, as code cuts them

module _ (ML MR : Columns) (h : Heads) (classes : List ℕ) (b : Result (Shape × Shape) ℕ) where
  pub lists_refused : (n : ℕ) → b ≡ Err n → refusal_line n ≡ lists_text b ML MR h classes
  lists_refused n e = rw e

  -- the classes that `epsdelta` is handed
  pub lists_related : (SL SR : Shape) → b ≡ Ok (SL, SR)
      → relation_text SL ML SR MR (take (h.left.states - 0) (drop 0 classes)) (take (h.left.states + h.right.states - h.left.states) (drop h.left.states classes)) h.epsilon h.rho
      ≡ lists_text b ML MR h classes
  lists_related SL SR e =
      let o : h.left.states - 0 ≡ h.left.states = omega arith in
      rw (e, o, cut h.left.states h.right.states classes)

-- ---- the models built

-- the states of a model that is there
states_of : Result Shape ℕ → ℕ
states_of (Ok S) = S.states
states_of (Err n) = 0

-- a model that is built has the states that it was given
built_states : (s : ℕ) (i : Option StateId) (C : Transitions) (n : ℕ) (M : Columns) → states_of (build s i C n M).answer ≤ s
unfolding build states_of
built_states s i C n M = pick (refusal s i C n (builds.short s n M))
  where
    pick : (r : ℕ) → states_of (builds.settled r M (builds.made s i C n M)).answer ≤ s
    pick zero = omega arith
    pick (suc r) = omega arith

few_of : (x : Result Shape ℕ) (n : ℕ) → states_of x ≤ n → n ≤ 32 → Few x
unfolding states_of
few_of (Ok S) n h g = omega arith
few_of (Err m) n h g = tt

side_states : (h : Head) (m : ℕ) (C : Transitions) (M : Columns) → states_of (side_ends h m C M).answer ≤ h.states
unfolding states_of
side_states h m C M = pick (check 7 (ltb (shortest C) (m + h.transitions)) 0)
  where
    pick : (r : ℕ) → states_of (builds.settled r M (build h.states (Some (record { 0 = h.initial })) (cut_at m h.transitions C) h.transitions M)).answer ≤ h.states
    pick zero = built_states h.states (Some (record { 0 = h.initial })) (cut_at m h.transitions C) h.transitions M
    pick (suc r) = omega arith

pub built_few : (x : Result Shape ℕ) (N : Columns) (h : Head) (m : ℕ) (k : answers.Columns) → builds.ends x N ≡ side_built h m k → h.states ≤ 32 → Few x
built_few x N h m k e g =
    let f : states_of x ≡ states_of (side_built h m k).answer = ap (λ (o : builds.Outcome). states_of o.answer) e in
    few_of x h.states (subst (λ (n : ℕ). n ≤ h.states) (sym f) (side_states h m (transitions k.sources k.labels k.targets k.weights) blank)) g

pub both_few : (x y : Result Shape ℕ) (b : Result (Shape × Shape) ℕ) → b ≡ both x y → Few x → Few y → FewBoth b
both_few x y b e p q = rw e (pick x y p q)
  where
    pick : (u v : Result Shape ℕ) → Few u → Few v → FewBoth (both u v)
    pick (Ok S) (Ok T) f g = (f, g)
    pick (Ok S) (Err n) f g = tt
    pick (Err m) v f g = tt

-- a model built, in what is printed
pub right_is : (left y : Result Shape ℕ) (b : Result (Shape × Shape) ℕ) (ML N : Columns) (h : Heads) (k : answers.Columns) → b ≡ both left y → builds.ends y N ≡ side_built h.right h.left.transitions k
    → lists_text b ML N h k.classes ≡ right_text left ML h k
right_is left y b ML N h k e f =
    ap (λ (z : Result (Shape × Shape) ℕ). lists_text z ML N h k.classes) e ∙ ap (λ (o : builds.Outcome). lists_text (both left o.answer) ML o.memory h k.classes) f

pub left_is : (x : Result Shape ℕ) (N : Columns) (h : Heads) (k : answers.Columns) → builds.ends x N ≡ side_built h.left 0 k → right_text x N h k ≡ heads_text h k
left_is x N h k e = ap (λ (o : builds.Outcome). right_text o.answer o.memory h k) e

-- ---- the card in the lists

side_built_lem : (s : Side) (n m : ℕ) (k : answers.Columns) → Long k → m + length s.transitions ≤ 400 → SideListed s.classes s.transitions n m k → side_built (head_of s) m k ≡ built_of s
side_built_lem s n m k g e L =
    let a = g.sources_long in
    let b = g.labels_long in
    let d = g.targets_long in
    let f = g.weights_long in
    sym (side_there (head_of s) m (transitions k.sources k.labels k.targets k.weights) blank (omega arith)) ∙ rw (L.its_sources, L.its_labels, L.its_targets, L.its_weights)

module _ (c : Card) (k : answers.Columns) (w : Within c) (g : Long k) (L : SideListed c.left.classes c.left.transitions 0 0 k)
    (R : SideListed c.right.classes c.right.transitions (length c.left.classes) (length c.left.transitions) k) where
  heads_text_lem : heads_text (heads_of c) k ≡ built_text c
  heads_text_lem =
      let o : 0 + length c.left.classes ≡ length c.left.classes = omega arith in
      let l : slice 0 (length c.left.classes) k.classes ≡ c.left.classes = ap (λ (z : ℕ). slice 0 z k.classes) (sym o) ∙ L.its_classes in
      let m = w.left_within.few_transitions in
      let n = w.right_within.few_transitions in
      let x = side_built_lem c.left 0 0 k g (omega arith) L in
      let y = side_built_lem c.right (length c.left.classes) (length c.left.transitions) k g (omega arith) R in
      ap (λ (z : builds.Outcome). right_text z.answer z.memory (heads_of c) k) x
      ∙ ap (λ (z : builds.Outcome). lists_text (both (built_of c.left).answer z.answer) (built_of c.left).memory z.memory (heads_of c) k.classes) y
      ∙ ap (λ (z : List ℕ). models_text (both (built_of c.left).answer (built_of c.right).answer) (built_of c.left).memory (built_of c.right).memory z (slice (length c.left.classes) (length c.left.classes + length c.right.classes) k.classes) c.epsilon c.rho) l
      ∙ ap (λ (z : List ℕ). models_text (both (built_of c.left).answer (built_of c.right).answer) (built_of c.left).memory (built_of c.right).memory c.left.classes z c.epsilon c.rho) R.its_classes

pub listed_text : (c : Card) (h : Heads) (k : answers.Columns) → Within c → Long k → Listed c h k → heads_text h k ≡ card_text c
listed_text c h k w g L = ap (λ (z : Heads). heads_text z k) L.its_heads ∙ heads_text_lem c k w g L.its_left L.its_right ∙ built_text_lem c w

-- the counts of a card that was read, and room in the lists
pub card_room : (c : Card) (h : Heads) (k : answers.Columns) → h ≡ heads_of c → Within c → Long k → Room h k
card_room c h k e w g = rw e (fits w.left_within.few_states w.right_within.few_states g.classes_long)
  where
    fits : length c.left.classes ≤ 32 → length c.right.classes ≤ 32 → 64 ≤ length k.classes → Room (heads_of c) k
    fits p q a = record { left_few = p; right_few = q; classes_room = omega arith }
