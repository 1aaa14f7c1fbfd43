-- Words of the private contracts of `card`: a card in the lists that `read_card` filled, and its models on their way.
use Rattle.std.specs.Prelude.{Some}
use mathlib.Core.List.{List}
use Prim.Native.Nat.{ℕ, ◌+◌, ◌≤◌}
use lib.ListN.{length, replicate}
use lib.Seq.{slice}
use Rattle.numbers.specs.Real.{nought}
use Rattle.bisim_core.specs.Data.{transitions}
use Rattle.bisim_core.specs.Data as models
use Rattle.bisim_build.specs.Build.{Outcome, build}
use Rattle.std.specs.Prelude.{Result, Ok, Err}
use Rattle.bisim_core.specs.declared.wlts.Shape.{Shape}
use Rattle.card_layout.specs.Card.{Side, Card}
use Rattle.card_layout.specs.Lists.{Columns}
use Rattle.card_reader.specs.declared.reader.Head.{Head}
use Rattle.card_reader.specs.declared.reader.Heads.{Heads}
use Rattle.card_report.specs.Report.{refusal_line}
use Rattle.card_relation.specs.Relating.{relation_text}
use Rattle.card_models.specs.Models.{given_of}
use Rattle.card_models.specs.Sides.{side_ends}
use Rattle.card_models.specs.Together.{both}

-- ---- a card's models, built

-- the stores that `build` is lent, for the largest model of a card, of 200 transitions and 32 states
abbrev pub blank : models.Columns
blank = models.columns (replicate 200 0) (replicate 33 0) (replicate 200 0) (replicate 200 0) (replicate 200 nought)

abbrev pub built_of : Side → Outcome
built_of s = build (length s.classes) (Some (record { 0 = s.initial })) (given_of s) (length s.transitions) blank

-- both models with their classes, ε and ρ, or what refuses one
abbrev pub models_text : Result (Shape × Shape) ℕ → models.Columns → models.Columns → List ℕ → List ℕ → ℕ → ℕ → List ℕ
models_text (Ok (SL, SR)) ML MR cl cr ε ρ = relation_text SL ML SR MR cl cr ε ρ
models_text (Err n) ML MR cl cr ε ρ = refusal_line n

-- both models built, then their relation
abbrev pub built_text : Card → List ℕ
built_text c =
    models_text (both (built_of c.left).answer (built_of c.right).answer) (built_of c.left).memory (built_of c.right).memory
    c.left.classes c.right.classes c.epsilon c.rho

-- ---- the lists that hold a card

-- the counts of a card, and lists that have its entries
pub record Room (h : Heads) (k : Columns) : Type 0 where
  pub left_few : h.left.states ≤ 32
  pub right_few : h.right.states ≤ 32
  pub classes_room : h.left.states + h.right.states ≤ length k.classes

-- a model that is there has at most 32 states
abbrev pub Few : Result Shape ℕ → Type 0
Few (Ok S) = S.states ≤ 32
Few (Err n) = Unit

abbrev pub FewBoth : Result (Shape × Shape) ℕ → Type 0
FewBoth (Ok (SL, SR)) = (SL.states ≤ 32) × (SR.states ≤ 32)
FewBoth (Err n) = Unit

-- the model of that head, built from the transitions from m on
abbrev pub side_built : Head → ℕ → Columns → Outcome
side_built h m k = side_ends h m (transitions k.sources k.labels k.targets k.weights) blank

-- what is printed, with the classes as they stand in a list
abbrev pub lists_text : Result (Shape × Shape) ℕ → models.Columns → models.Columns → Heads → List ℕ → List ℕ
lists_text b ML MR h classes = models_text b ML MR (slice 0 h.left.states classes) (slice h.left.states (h.left.states + h.right.states) classes) h.epsilon h.rho

-- with a left model, and the right one built
abbrev pub right_text : Result Shape ℕ → models.Columns → Heads → Columns → List ℕ
right_text left ML h k = lists_text (both left (side_built h.right h.left.transitions k).answer) ML (side_built h.right h.left.transitions k).memory h k.classes

-- with both built
abbrev pub heads_text : Heads → Columns → List ℕ
heads_text h k = right_text (side_built h.left 0 k).answer (side_built h.left 0 k).memory h k
