-- The claims of specs/Claim.antt hold: the reader's laws, and the definition by its cases. The worked card of document 01, byte for byte.
use mathlib.Core.Path.{◌≡◌, refl, sym, ap, ◌∙◌}
use mathlib.Core.Logic.{◌⊎◌, inl, inr}
use mathlib.Core.Bool.{Bool, true, false, ◌||◌, cond}
use mathlib.Core.List.{List, [], ◌∷◌}
use Prim.Native.Nat.{ℕ, suc}
use lib.ListN.{length, take}
use Rattle.numbers.specs.Refuse.{check}
use Rattle.numbers.specs.Lists.{In}
use Rattle.epsdelta_theory.specs.Refusal.{tolerances_outside}
use Rattle.epsdelta_theory.specs.Claim.{final}
use Rattle.card_layout.specs.Layout.{place, column, line, lines}
use Rattle.card_layout.specs.Card.{Card, Reading, card, refused, read, side_text, layout}
use Rattle.card_layout.specs.Claim.{large_first}
use Rattle.card_layout.proofs.Cards.{layout_read}
use Rattle.card_layout.proofs.Claims as cards
use Rattle.card_layout.proofs.Claims.{worked, worked_card}
use Rattle.card_report.specs.Report.{report}
use Rattle.card_relation.specs.Relating.{parts, text_of}
use Rattle.card_models.specs.Models.{stray, card_refusal, card_given, card_text}
use Rattle.card_models.proofs.Wholes.{tolerances_below}
use Rattle.card_models.proofs.Answers.{card_sound}
use Rattle.card_models.proofs.Worked.{worked_none, worked_text}
use Rattle.card.specs.Printing.{reading_text, printed}
use Rattle.card.specs.Claim.{Passes, Refuses, Laws}
use Rattle.card.proofs.Prints.{printed_card, printed_refused, printed_fits}

-- the same reading prints the same
same_printed : (bs cs : List ℕ) → read bs ≡ read cs → printed bs ≡ printed cs
unfolding printed
same_printed bs cs e = ap reading_text e

-- ---- a card

module _ (bs : List ℕ) (c : Card) (e : read bs ≡ card c) where
  -- by what refuses it
  card_text_lem : (n : ℕ) → card_refusal c ≡ n → printed bs ≡ text_of n (report (final (card_given c)) (length c.left.classes) (length c.right.classes))
  unfolding card_text
  card_text_lem n f = sym (printed_card bs c e) ∙ ap (λ (m : ℕ). text_of m (report (final (card_given c)) (length c.left.classes) (length c.right.classes))) f

  card_only : Refuses bs ⊎ ((d : Card) × Passes bs d)
  unfolding card_refusal
  card_only = pick (stray c.left || stray c.right) refl (tolerances_outside (parts c.epsilon) (parts c.rho)) refl
    where
      by : (p q : Bool) → (stray c.left || stray c.right) ≡ p → tolerances_outside (parts c.epsilon) (parts c.rho) ≡ q → card_refusal c ≡ check 4 p (check 9 q 0)
      by p q f g = rw (f, g)

      pick : (p : Bool) → (stray c.left || stray c.right) ≡ p → (q : Bool) → tolerances_outside (parts c.epsilon) (parts c.rho) ≡ q → Refuses bs ⊎ ((d : Card) × Passes bs d)
      pick true f q g = inl (record { number = 4; listed = inr (inr (inl refl)); line = card_text_lem 4 (by true q f g) })
      pick false f true g = inl (record { number = 9; listed = inr (inr (inr (inl refl))); line = card_text_lem 9 (by false true f g) })
      pick false f false g = inr (c, record { reads = e; none = by false false f g })

only : (bs : List ℕ) → Refuses bs ⊎ ((c : Card) × Passes bs c)
only bs = pick (read bs) refl
  where
    one_or_two : (n : ℕ) (b : Bool) → n ≡ cond b 2 1 → In n (1 ∷ 2 ∷ 4 ∷ 9 ∷ [])
    one_or_two n true e = inr (inl e)
    one_or_two n false e = inl e

    pick : (x : Reading) → read bs ≡ x → Refuses bs ⊎ ((c : Card) × Passes bs c)
    pick (card c) e = card_only bs c e
    pick (refused n) e = inl (record { number = n; listed = one_or_two n (large_first bs) ((cards.laws).refuses bs n e); line = sym (printed_refused bs n e) })

pub laws : Laws
laws = record {
  first_bytes = λ bs. same_printed (take 10500 bs) bs ((cards.laws).first_bytes bs);
  fits = printed_fits;
  no_card = λ bs n e. sym (printed_refused bs n e);
  refused_card = λ bs c n e f. card_text_lem bs c e (suc n) f;
  low_factor = λ bs c e. let w = (layout_read bs c e).1 in tolerances_below c.epsilon c.rho w.epsilon_fits w.rho_fits;
  passed = λ bs c P. card_text_lem bs c P.reads 0 P.none;
  sound = λ bs c P. card_sound c (layout_read bs c P.reads).1 P.none;
  only = only;
}

-- ---- the worked card

-- it passes
pub worked_passes : Passes (layout worked) worked
worked_passes = record { reads = worked_card; none = worked_none }

-- it prints what document 01 shows
pub worked_printed : printed (layout worked) ≡ lines ((2 ∷ 2 ∷ 2 ∷ []) ∷ (0 ∷ 0 ∷ []) ∷ (1 ∷ 1 ∷ []) ∷ [])
worked_printed = sym (printed_card (layout worked) worked worked_card) ∙ worked_text

-- byte for byte: the card of document 01, and the text that it shows
abbrev worked_bytes : List ℕ
worked_bytes =
    32 ∷ 32 ∷ 32 ∷ 32 ∷ 32 ∷ 50 ∷ 32 ∷ 32 ∷ 32 ∷ 32 ∷ 32 ∷ 48 ∷ 32 ∷ 32 ∷ 32 ∷ 32 ∷ 32 ∷ 49 ∷ 10 ∷
    32 ∷ 32 ∷ 32 ∷ 32 ∷ 32 ∷ 48 ∷ 10 ∷
    32 ∷ 32 ∷ 32 ∷ 32 ∷ 32 ∷ 49 ∷ 10 ∷
    32 ∷ 32 ∷ 32 ∷ 32 ∷ 32 ∷ 48 ∷ 32 ∷ 32 ∷ 32 ∷ 32 ∷ 32 ∷ 48 ∷ 32 ∷ 32 ∷ 32 ∷ 32 ∷ 32 ∷ 49 ∷ 32 ∷ 32 ∷ 32 ∷ 32 ∷ 32 ∷ 50 ∷ 10 ∷
    32 ∷ 32 ∷ 32 ∷ 32 ∷ 32 ∷ 50 ∷ 32 ∷ 32 ∷ 32 ∷ 32 ∷ 32 ∷ 48 ∷ 32 ∷ 32 ∷ 32 ∷ 32 ∷ 32 ∷ 49 ∷ 10 ∷
    32 ∷ 32 ∷ 32 ∷ 32 ∷ 32 ∷ 48 ∷ 10 ∷
    32 ∷ 32 ∷ 32 ∷ 32 ∷ 32 ∷ 49 ∷ 10 ∷
    32 ∷ 32 ∷ 32 ∷ 32 ∷ 32 ∷ 48 ∷ 32 ∷ 32 ∷ 32 ∷ 32 ∷ 32 ∷ 48 ∷ 32 ∷ 32 ∷ 32 ∷ 32 ∷ 32 ∷ 49 ∷ 32 ∷ 32 ∷ 32 ∷ 32 ∷ 32 ∷ 52 ∷ 10 ∷
    32 ∷ 32 ∷ 32 ∷ 32 ∷ 32 ∷ 48 ∷ 32 ∷ 32 ∷ 50 ∷ 48 ∷ 52 ∷ 56 ∷ 10 ∷ []

abbrev report_bytes : List ℕ
report_bytes =
    32 ∷ 32 ∷ 32 ∷ 32 ∷ 32 ∷ 50 ∷ 32 ∷ 32 ∷ 32 ∷ 32 ∷ 32 ∷ 50 ∷ 32 ∷ 32 ∷ 32 ∷ 32 ∷ 32 ∷ 50 ∷ 10 ∷
    32 ∷ 32 ∷ 32 ∷ 32 ∷ 32 ∷ 48 ∷ 32 ∷ 32 ∷ 32 ∷ 32 ∷ 32 ∷ 48 ∷ 10 ∷
    32 ∷ 32 ∷ 32 ∷ 32 ∷ 32 ∷ 49 ∷ 32 ∷ 32 ∷ 32 ∷ 32 ∷ 32 ∷ 49 ∷ 10 ∷ []

worked_laid : layout worked ≡ worked_bytes
unfolding layout side_text lines line column place
worked_laid = refl

report_laid : lines ((2 ∷ 2 ∷ 2 ∷ []) ∷ (0 ∷ 0 ∷ []) ∷ (1 ∷ 1 ∷ []) ∷ []) ≡ report_bytes
unfolding lines line column place
report_laid = refl

pub worked_bytes_lem : printed worked_bytes ≡ report_bytes
worked_bytes_lem = ap printed (sym worked_laid) ∙ worked_printed ∙ report_laid
