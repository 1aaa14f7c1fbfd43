-- The text of what `epsdelta` answered: the relation is read back from its bytes, and a refusal is its line.
use mathlib.Core.Path.{◌≡◌, refl, sym, ap, subst, ◌∙◌}
use mathlib.Core.Bool.{Bool, false, ◌||◌}
use mathlib.Core.List.{List, [], ◌∷◌}
use Prim.Native.Nat.{ℕ, zero, suc, ◌+◌, ◌*◌, ◌/◌, ◌≤◌, ◌<◌}
use native.Mathlib.Omega.{arith}
use lib.Dec.{ltb}
use lib.Ieee.{Float}
use lib.ListN.{length, drop, get_or-append}
use lib.Seq.{ext_get_or}
use borrow.Author.Tests.{le-ltb, lt-ltb}
use Rattle.std.specs.Prelude.{Result, Ok, Err}
use Rattle.numbers.specs.Bits.{packed, bit_at, unpack}
use Rattle.numbers.specs.Lists.{over}
use Rattle.numbers.specs.Refuse.{check}
use Rattle.numbers.proofs.Packed.{packed_bit, packed_length, unpack_at, unpack_length}
use Rattle.bisim_core.specs.Data.{Columns}
use Rattle.bisim_core.specs.Model.{model}
use Rattle.bisim_core.specs.declared.wlts.Shape.{Shape}
use Rattle.epsdelta_theory.specs.Relation.{relation_bytes}
use Rattle.epsdelta_theory.specs.Refusal.{tolerances_outside, models_refusal, relation_refusal, epsdelta_refusal}
use Rattle.epsdelta_theory.specs.Epsdelta.{given, task, epsdelta}
use Rattle.epsdelta_theory.specs.Claim.{final}
use Rattle.epsdelta_theory.proofs.Runs.{run_length}
use Rattle.epsdelta_theory.proofs.Rows.{model_length, union_length}
use Rattle.epsdelta_theory.specs.declared.tolerances.Tolerances.{Tolerances}
use Rattle.epsdelta.specs.Outcome.{Outcome, ends, settled}
use Rattle.card_layout.proofs.Lines.{length_line}
use Rattle.card_report.specs.Report.{report, refusal_line, most_report, store_fault, report_fault, relation_in, Printed}
use Rattle.card_report.proofs.Texts.{square_low, report_room}
use Rattle.card_relation.specs.Relating.{in_parts, text_of, relation_at, relation_text, relation_fault}

-- ---- a store with room

room_free : (n : ℕ) → most_report ≤ n → store_fault n ≡ 0
room_free n h = rw (le-ltb n most_report h)

module _ (text out out' : List ℕ) (t : Result ℕ ℕ) (h : most_report ≤ length out) where
  pub with_room : Printed (store_fault (length out)) text out t out' → Printed 0 text out t out'
  with_room p = subst (λ (f : ℕ). Printed f text out t out') (room_free (length out) h) p

  pub of_room : Printed 0 text out t out' → Printed (store_fault (length out)) text out t out'
  of_room p = subst (λ (f : ℕ). Printed f text out t out') (sym (room_free (length out) h)) p

-- the same text
pub retold : {text text' out out' : List ℕ} {t : Result ℕ ℕ} {f : ℕ} → text ≡ text' → Printed f text out t out' → Printed f text' out t out'
retold {out = out} {out'} {t} {f} e p = subst (λ (x : List ℕ). Printed f x out t out') e p

-- ---- the relation in the bytes

bytes_hold : (R : List Bool) (store : List ℕ) (n : ℕ) → length R ≡ n * n → relation_in (over (packed R) store) n ≡ R
unfolding bit_at
bytes_hold R store n e =
    let l = unpack_length (over (packed R) store) (n * n) 0 in
    ext_get_or false (unpack (over (packed R) store) (n * n) 0) R (l ∙ sym e)
    (λ i h.
    let o : 0 + i ≡ i = omega arith in
    let b = packed_length R in
    unpack_at (over (packed R) store) (n * n) 0 i (omega arith)
    ∙ ap (bit_at (over (packed R) store)) o
    ∙ rw (get_or-append (packed R) (drop (length (packed R)) store) 0 (i / 8) (omega arith)) (packed_bit R i))

-- ---- what `epsdelta` answered

-- the number of a refusal and one more, 0 for none
told : Result (Unit {0}) ℕ → ℕ
told (Ok x) = 0
told (Err n) = suc n

module _ (rel store : List ℕ) (R : List Bool) where
  related_case : (n : ℕ) → ends (Ok tt) rel ≡ settled n store R → (n ≡ 0) × (rel ≡ over (packed R) store)
  unfolding told
  related_case zero e = (refl, ap (λ (o : Outcome (Result (Unit {0}) ℕ)). o.relation) e)
  related_case (suc n) e = absurd (let z = ap (λ (o : Outcome (Result (Unit {0}) ℕ)). told o.answer) e in omega arith)

  refused_case : (m n : ℕ) (text : List ℕ) → ends (Err m) rel ≡ settled n store R → refusal_line m ≡ text_of n text
  unfolding told
  refused_case m zero text e = absurd (let z = ap (λ (o : Outcome (Result (Unit {0}) ℕ)). told o.answer) e in omega arith)
  refused_case m (suc n) text e = let z = ap (λ (o : Outcome (Result (Unit {0}) ℕ)). told o.answer) e in let f : m ≡ suc n = omega arith in ap refusal_line f

module _ (l r n : ℕ) (rel store : List ℕ) (R : List Bool) (out out' : List ℕ) (t : Result ℕ ℕ) where
  pub finish_related : l ≤ 32 → r ≤ 32 → 512 ≤ length rel → most_report ≤ length out → ends (Ok tt) rel ≡ settled n store R → length R ≡ (l + r) * (l + r)
      → Printed (report_fault l r (length rel) (length out)) (report (relation_in rel (l + r)) l r) out t out' → Printed 0 (text_of n (report R l r)) out t out'
  finish_related a b d h e k p =
      let s = related_case rel store R n e in
      let q = square_low (l + r) (omega arith) in
      let f = report_room rel l r out a b (omega arith) h in
      let g : relation_in rel (l + r) ≡ R = ap (λ (x : List ℕ). relation_in x (l + r)) s.1 ∙ bytes_hold R store (l + r) k in
      retold (ap (λ (x : List Bool). report x l r) g ∙ ap (λ (m : ℕ). text_of m (report R l r)) (sym s.0)) (subst (λ (x : ℕ). Printed x (report (relation_in rel (l + r)) l r) out t out') f p)

  pub finish_refused : (m : ℕ) → most_report ≤ length out → ends (Err m) rel ≡ settled n store R → Printed (store_fault (length out)) (refusal_line m) out t out'
      → Printed 0 (text_of n (report R l r)) out t out'
  finish_refused m h e p = retold (refused_case rel store R m n (report R l r) e) (with_room (refusal_line m) out out' t h p)

-- ---- the relation of two models

module _ (SL : Shape) (ML : Columns) (SR : Shape) (MR : Columns) (cl cr : List ℕ) where
  pub final_length : (ε ρ : Float) → length (final (given SL ML SR MR cl cr ε ρ)) ≡ (SL.states + SR.states) * (SL.states + SR.states)
  unfolding epsdelta given
  final_length ε ρ =
      run_length (task (given SL ML SR MR cl cr ε ρ))
      ∙ ap (λ (n : ℕ). n * n) (union_length (model SL ML) (model SR MR) ∙ rw (model_length SL ML, model_length SR MR))

  -- more bytes than the relation needs change nothing
  roomy : (ε ρ : Float) (n : ℕ) → relation_bytes (SL.states + SR.states) ≤ n
      → epsdelta_refusal SL ML SR MR cl cr ε ρ n ≡ epsdelta_refusal SL ML SR MR cl cr ε ρ (relation_bytes (SL.states + SR.states))
  unfolding epsdelta_refusal relation_refusal
  roomy ε ρ n h =
      let m = relation_bytes (SL.states + SR.states) in
      ap (λ (b : Bool). models_refusal SL ML SR MR (check 7 (ltb (length cl) SL.states || (ltb (length cr) SR.states || b)) (check 8 false (check 9 (tolerances_outside ε ρ) (check 10 (ltb 2000 (SL.states + SR.states)) 0)))))
      (le-ltb n m h ∙ sym (le-ltb m m (omega arith)))

  pub same_relation : (ε ρ : Float) → SL.states ≤ 32 → SR.states ≤ 32
      → text_of (epsdelta_refusal SL ML SR MR cl cr ε ρ 512) (report (final (given SL ML SR MR cl cr ε ρ)) SL.states SR.states) ≡ relation_at SL ML SR MR cl cr ε ρ
  same_relation ε ρ h g =
      let q = square_low (SL.states + SR.states) (omega arith) in
      ap (λ (n : ℕ). text_of n (report (final (given SL ML SR MR cl cr ε ρ)) SL.states SR.states)) (roomy ε ρ 512 (omega arith))

  -- ε and ρ in 1,024ths
  pub at_parts : (ε ρ : ℕ) {t : Tolerances} → t ≡ in_parts ε ρ → relation_at SL ML SR MR cl cr t.epsilon t.rho ≡ relation_text SL ML SR MR cl cr ε ρ
  at_parts ε ρ e = ap (λ (t : Tolerances). relation_at SL ML SR MR cl cr t.epsilon t.rho) e

-- ---- how long a text is

pub line_fits : (n : ℕ) → length (refusal_line n) ≤ most_report
line_fits n = let e = length_line (n ∷ []) in omega arith

pub text_fits : (n : ℕ) (text : List ℕ) → length text ≤ most_report → length (text_of n text) ≤ most_report
text_fits zero text h = h
text_fits (suc n) text h = line_fits (suc n)

-- ---- the checks before

module _ (SL SR : Shape) (text out : List ℕ) where
  pub left_over : 32 < SL.states → Printed (relation_fault SL SR (length out)) text out (Err 2) out
  left_over h = let e = lt-ltb 32 SL.states h in record { answers = rw e; leaves = rw e }

  pub right_over : SL.states ≤ 32 → 32 < SR.states → Printed (relation_fault SL SR (length out)) text out (Err 2) out
  right_over g h = let d = le-ltb 32 SL.states g in let e = lt-ltb 32 SR.states h in record { answers = rw (d, e); leaves = rw (d, e) }

  none_over : SL.states ≤ 32 → SR.states ≤ 32 → relation_fault SL SR (length out) ≡ store_fault (length out)
  none_over g h = rw (le-ltb 32 SL.states g, le-ltb 32 SR.states h)

  pub store_short : SL.states ≤ 32 → SR.states ≤ 32 → length out < most_report → Printed (relation_fault SL SR (length out)) text out (Err 7) out
  store_short g h f =
      subst (λ (x : ℕ). Printed x text out (Err 7) out) (sym (none_over g h))
      (let e = lt-ltb (length out) most_report f in record { answers = rw e; leaves = rw e })

  module _ (out' : List ℕ) (t : Result ℕ ℕ) (g : SL.states ≤ 32) (h : SR.states ≤ 32) (f : most_report ≤ length out) where
    pub relation_room : Printed 0 text out t out' → Printed (relation_fault SL SR (length out)) text out t out'
    relation_room p = subst (λ (x : ℕ). Printed x text out t out') (sym (none_over g h)) (of_room text out out' t f p)

    pub relation_free : Printed (relation_fault SL SR (length out)) text out t out' → Printed 0 text out t out'
    relation_free p = with_room text out out' t f (subst (λ (x : ℕ). Printed x text out t out') (none_over g h) p)
