-- What is printed, by what the reader answered.
use mathlib.Core.Path.{◌≡◌, refl, subst, ap, ◌∙◌}
use mathlib.Core.List.{List}
use Prim.Native.Nat.{ℕ, ◌≤◌}
use native.Mathlib.Omega.{arith}
use lib.Ieee.{Float}
use lib.ListN.{length, replicate, length-replicate}
use Rattle.numbers.specs.Real.{nought}
use Rattle.bisim_core.specs.Data as models
use Rattle.bisim_build.specs.Build.{Outcome}
use Rattle.card_layout.specs.Card.{Card, Reading, card, refused, read, Within}
use Rattle.card_layout.specs.Lists as answers
use Rattle.card_reader.specs.Answer.{Answered}
use Rattle.std.specs.Prelude.{Result, Ok, Err}
use Rattle.numbers.specs.declared.refusal.Refusal.{Refusal}
use Rattle.numbers.specs.Refuse.{number, numbered}
use Rattle.card_reader.specs.declared.reader.Head.{Head}
use Rattle.card_reader.specs.declared.reader.Heads.{Heads}
use Rattle.card_layout.proofs.Cards.{layout_read}
use Rattle.card_reader.proofs.Lists.{Long, Found, answered_refused, answered_card}
use Rattle.card_report.specs.Report.{refusal_line, most_report}
use Rattle.card_relation.proofs.Relates.{line_fits}
use Rattle.card_models.specs.Models.{card_text}
use Rattle.card_models.specs.Sides.{side_ends}
use Rattle.card_models.proofs.Handing.{blank, Room, heads_text}
use Rattle.card_models.proofs.Answers.{card_fits}
use Rattle.card_models.proofs.Builds.{listed_text, card_room}
use Rattle.card.specs.Printing.{reading_text, printed}

-- the lists that are lent
abbrev zeros : answers.Columns
zeros = answers.columns (replicate 64 0) (replicate 400 0) (replicate 400 0) (replicate 400 0) (replicate 400 nought)

zeros_long : Long zeros
zeros_long = record {
  classes_long = rw (length-replicate {A = ℕ} 64 0) (omega arith);
  sources_long = rw (length-replicate {A = ℕ} 400 0) (omega arith);
  labels_long = rw (length-replicate {A = ℕ} 400 0) (omega arith);
  targets_long = rw (length-replicate {A = ℕ} 400 0) (omega arith);
  weights_long = rw (length-replicate {A = Float} 400 nought) (omega arith);
}

-- ---- what the reader answered

pub printed_refused : (bs : List ℕ) (n : ℕ) → read bs ≡ refused n → refusal_line n ≡ printed bs
unfolding printed
printed_refused bs n e = rw e

pub printed_card : (bs : List ℕ) (c : Card) → read bs ≡ card c → card_text c ≡ printed bs
unfolding printed
printed_card bs c e = rw e

module _ {bs : List ℕ} {k : answers.Columns} (r : Result Heads Refusal) (A : Answered bs zeros (numbered r) k) where
  pub was_refused : {n : Refusal} → r ≡ Err n → refusal_line (number n) ≡ printed bs
  was_refused {n} e = printed_refused bs (number n) (answered_refused bs zeros k zeros_long (number n) (subst (λ (x : Result Heads Refusal). Answered bs zeros (numbered x) k) e A))

  was_card : {h : Heads} → r ≡ Ok h → Found bs h k
  was_card {h} e = answered_card bs zeros k zeros_long h (subst (λ (x : Result Heads Refusal). Answered bs zeros (numbered x) k) e A)

  pub was_room : {h : Heads} → r ≡ Ok h → Room h k
  was_room {h} e = let F = was_card e in card_room F.the_card h k F.lists.its_heads F.within F.long

  pub was_printed : {h : Heads} → r ≡ Ok h → heads_text h k ≡ printed bs
  was_printed {h} e = let F = was_card e in listed_text F.the_card h k F.within F.long F.lists ∙ printed_card bs F.the_card F.reads

-- ---- a model built in lists that hold what they held at first

pub from_blank : (h : Head) (m : ℕ) (C : models.Transitions) {M : models.Columns} {o : Outcome} → o ≡ side_ends h m C M → M ≡ blank → o ≡ side_ends h m C blank
from_blank h m C e f = e ∙ ap (side_ends h m C) f

-- ---- how long a text is

reading_fits : (x : Reading) → ((c : Card) → x ≡ card c → Within c) → length (reading_text x) ≤ most_report
reading_fits (card c) f = card_fits c (f c refl)
reading_fits (refused n) f = line_fits n

pub printed_fits : (bs : List ℕ) → length (printed bs) ≤ most_report
unfolding printed
printed_fits bs = reading_fits (read bs) (λ c e. (layout_read bs c e).1)
