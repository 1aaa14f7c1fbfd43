-- The text of the relation of two models: its report, or the line of what is refused.
use Rattle.std.specs.Prelude.{◌||◌, List, ℕ, zero, suc, ◌+◌, ◌≤◌, ltb, pos, Float}
use Rattle.std.specs.Float.{binary64}
use Rattle.std.specs.Float.Ieee.{of_bits, of_int, div}
use Rattle.numbers.specs.Refuse.{check}
use Rattle.bisim_core.specs.Data.{Columns}
use Rattle.bisim_core.specs.declared.wlts.Shape.{Shape}
use Rattle.epsdelta_theory.specs.Relation.{relation_bytes}
use Rattle.epsdelta_theory.specs.Refusal.{epsdelta_refusal}
use Rattle.epsdelta_theory.specs.Epsdelta.{given}
use Rattle.epsdelta_theory.specs.Claim.{final}
use Rattle.epsdelta.specs.declared.asked.Sides.{Sides}
use Rattle.epsdelta_theory.specs.declared.tolerances.Tolerances.{Tolerances}
use Rattle.card_report.specs.Report.{report, refusal_line, store_fault}

-- so many 1,024ths
abbrev pub parts : ℕ → Float
parts n = div binary64 (of_int binary64 (pos n)) (of_bits binary64 0x4090000000000000)

-- a text, or the line of what is refused
abbrev pub text_of : ℕ → List ℕ → List ℕ
text_of zero text = text
text_of (suc n) text = refusal_line (suc n)

-- ε and ρ so
abbrev pub in_parts : ℕ → ℕ → Tolerances
in_parts ε ρ = record { epsilon = parts ε; rho = parts ρ }

-- two models, their classes, ε and ρ; the relation has the bytes that it needs
abbrev pub relation_at : Shape → Columns → Shape → Columns → List ℕ → List ℕ → Float → Float → List ℕ
relation_at SL ML SR MR cl cr ε ρ =
    text_of (epsdelta_refusal SL ML SR MR cl cr ε ρ (relation_bytes (SL.states + SR.states)))
    (report (final (given SL ML SR MR cl cr ε ρ)) SL.states SR.states)

-- ε and ρ in 1,024ths
abbrev pub relation_text : Shape → Columns → Shape → Columns → List ℕ → List ℕ → ℕ → ℕ → List ℕ
relation_text SL ML SR MR cl cr ε ρ = relation_at SL ML SR MR cl cr (parts ε) (parts ρ)

-- neither model has over 32 states
abbrev pub AtMost32 : Sides → Type 0
AtMost32 B = (B.left.model.shape.states ≤ 32) × (B.right.model.shape.states ≤ 32)

-- why no text is written: 2, a model has over 32 states; 7, the store has no room; 0 for neither
abbrev pub relation_fault : Shape → Shape → ℕ → ℕ
relation_fault SL SR room = check 2 (ltb 32 SL.states || ltb 32 SR.states) (store_fault room)
