-- The steps of the code that writes text, as the definitions make them.
use mathlib.Core.Path.{◌≡◌, refl, sym, ap, subst, ◌∙◌}
use mathlib.Core.Bool.{Bool, true, false}
use mathlib.Core.List.{List, [], ◌∷◌, ◌++◌, append_assoc}
use Prim.Native.Nat.{ℕ, zero, suc, ◌+◌, ◌*◌, ◌-◌, ◌/◌, ◌≤◌, ◌<◌}
use native.Mathlib.Omega.{arith}
use native.Mathlib.Numerals.{add-one}
use native.Mathlib.Nat.{mul-le-mul, suc-mul}
use lib.ListN.{length, set, length-append}
use lib.Seq.{sets, length-sets, set_comm}
use borrow.Author.Tests.{le-ltb, lt-ltb}
use Rattle.numbers.specs.Bits.{bit_at}
use Rattle.numbers.proofs.Packed.{unpack_at}
use Rattle.epsdelta_theory.specs.Relation.{holds, related, relation_bytes}
use Rattle.epsdelta_theory.proofs.Pairs.{entry_in}
use Rattle.card_layout.specs.Layout.{line, lines}
use Rattle.card_layout.proofs.Lines.{length_line}
use Rattle.card_layout.proofs.Writes.{sets_append}
use Rattle.std.specs.Prelude.{Result, Ok, Err}
use Rattle.card_report.specs.Report.{keep, across, down, pairs, report, refusal_line, most_report, store_fault, report_fault, relation_in, text_answer, text_stored, Printed}

-- ---- a pair of the relation

pub square_low : (t : ℕ) → t ≤ 64 → t * t ≤ 4096
square_low t h = mul-le-mul h h

pub related_at : (store : List ℕ) (l r s t : ℕ) → s < l → t < r → bit_at store (s * (l + r) + (l + t)) ≡ related (l + r) l (relation_in store (l + r)) s t
unfolding related holds
related_at store l r s t h g =
    let i : ℕ = s * (l + r) + (l + t) in
    let e : i ≡ 0 + i = omega arith in
    ap (bit_at store) e ∙ sym (unpack_at store ((l + r) * (l + r)) 0 i (entry_in (l + r) s (l + t) (omega arith) (omega arith)))

-- ---- the pairs of one left state, one by one

-- rows stored one by one: what is still to come makes the store and the place what they have to be
pub record Putting (todo : List (List ℕ)) (all : List (List ℕ)) (out₀ : List ℕ) (out : List ℕ) (p : ℕ) : Type 0 where
  pub sized : length out ≡ length out₀
  pub place : p + 13 * length todo ≡ 13 * length all
  pub same : sets out p (lines todo) ≡ sets out₀ 0 (lines all)

pub length_pair : (s t : ℕ) → length (line (s ∷ t ∷ [])) ≡ 13
length_pair s t = length_line (s ∷ t ∷ [])

lines_append : (x y : List (List ℕ)) → lines (x ++ y) ≡ lines x ++ lines y
unfolding lines
lines_append [] y = refl
lines_append (r ∷ x) y = ap (λ (z : List ℕ). line r ++ z) (lines_append x y) ∙ sym (append_assoc (line r) (lines x) (lines y))

module _ (all : List (List ℕ)) (out₀ : List ℕ) where
  pub putting_same : {todo todo' : List (List ℕ)} {out : List ℕ} {p : ℕ} → todo ≡ todo' → Putting todo all out₀ out p → Putting todo' all out₀ out p
  putting_same {out = out} {p} e k = subst (λ (x : List (List ℕ)). Putting x all out₀ out p) e k

  pub putting_row : (s t : ℕ) (todo : List (List ℕ)) (out out' : List ℕ) (p : ℕ) → out' ≡ sets out p (line (s ∷ t ∷ []))
      → Putting ((s ∷ t ∷ []) ∷ todo) all out₀ out p → Putting todo all out₀ out' (p + 13)
  unfolding lines
  putting_row s t todo out out' p e k =
      let a = k.place in
      let b = k.sized in
      let d : length out' ≡ length out = ap length e ∙ simp length-sets in
      record {
        sized = omega arith;
        place = omega arith;
        same =
            ap (λ (x : List ℕ). sets x (p + 13) (lines todo)) e
            ∙ sym (sets_append out p (line (s ∷ t ∷ [])) (lines todo) ∙ ap (λ (n : ℕ). sets (sets out p (line (s ∷ t ∷ []))) (p + n) (lines todo)) (length_pair s t))
            ∙ k.same;
      }

  pub putting_more : (x y : List (List ℕ)) (out out' : List ℕ) (p q : ℕ) → q ≡ p + 13 * length x → length (lines x) ≡ 13 * length x → out' ≡ sets out p (lines x)
      → Putting (x ++ y) all out₀ out p → Putting y all out₀ out' q
  putting_more x y out out' p q eq el e k =
      let a = k.place in
      let b = k.sized in
      let d : length out' ≡ length out = ap length e ∙ simp length-sets in
      let n = length-append x y in
      record {
        sized = omega arith;
        place = omega arith;
        same =
            ap (λ (z : List ℕ). sets z q (lines y)) e
            ∙ sym (ap (sets out p) (lines_append x y) ∙ sets_append out p (lines x) (lines y) ∙ ap (λ (n : ℕ). sets (sets out p (lines x)) n (lines y)) (ap (λ (n : ℕ). p + n) el ∙ sym eq))
            ∙ k.same;
      }

module _ (R : List Bool) (l r s t : ℕ) (h : t < r) where
  across_step : across R l r s (r - t) t ≡ keep (related (l + r) l R s t) (s ∷ t ∷ []) (across R l r s (r - (t + 1)) (t + 1))
  unfolding across
  across_step =
      let e : r - t ≡ suc (r - (t + 1)) = omega arith in
      ap (λ (n : ℕ). across R l r s n t) e ∙ ap (λ (n : ℕ). keep (related (l + r) l R s t) (s ∷ t ∷ []) (across R l r s (r - (t + 1)) n)) (sym (add-one t))

  pub across_hit : related (l + r) l R s t ≡ true → across R l r s (r - t) t ≡ (s ∷ t ∷ []) ∷ across R l r s (r - (t + 1)) (t + 1)
  across_hit e = across_step ∙ ap (λ (b : Bool). keep b (s ∷ t ∷ []) (across R l r s (r - (t + 1)) (t + 1))) e

  pub across_miss : related (l + r) l R s t ≡ false → across R l r s (r - t) t ≡ across R l r s (r - (t + 1)) (t + 1)
  across_miss e = across_step ∙ ap (λ (b : Bool). keep b (s ∷ t ∷ []) (across R l r s (r - (t + 1)) (t + 1))) e

pub across_none : (R : List Bool) (l r s t : ℕ) → r ≤ t → across R l r s (r - t) t ≡ []
unfolding across
across_none R l r s t h = let e : r - t ≡ 0 = omega arith in ap (λ (n : ℕ). across R l r s n t) e

-- at most r pairs, each a line of 13 bytes
keep_rows : (b : Bool) (s t : ℕ) (x : List (List ℕ)) (n : ℕ) → length x ≤ n → length (lines x) ≡ 13 * length x
    → (length (keep b (s ∷ t ∷ []) x) ≤ suc n) × (length (lines (keep b (s ∷ t ∷ []) x)) ≡ 13 * length (keep b (s ∷ t ∷ []) x))
unfolding lines
keep_rows true s t x n h e = let a = length_pair s t in (omega arith, simp length-append (omega arith))
keep_rows false s t x n h e = (omega arith, e)

pub across_rows : (R : List Bool) (l r s k t : ℕ) → (length (across R l r s k t) ≤ k) × (length (lines (across R l r s k t)) ≡ 13 * length (across R l r s k t))
unfolding across lines
across_rows R l r s zero t = (omega arith, refl)
across_rows R l r s (suc k) t =
    let a = across_rows R l r s k (suc t) in
    keep_rows (related (l + r) l R s t) s t (across R l r s k (suc t)) k a.0 a.1

module _ (R : List Bool) (l r s t : ℕ) (h : t < r) (all : List (List ℕ)) (out₀ out : List ℕ) (p : ℕ) (k : Putting (across R l r s (r - t) t) all out₀ out p) where
  pub turn_hit : (out' : List ℕ) (p' : ℕ) → related (l + r) l R s t ≡ true → out' ≡ sets out p (line (s ∷ t ∷ [])) → p' ≡ p + 13
      → Putting (across R l r s (r - (t + 1)) (t + 1)) all out₀ out' p'
  turn_hit out' p' e eo ep =
      subst (λ (x : ℕ). Putting (across R l r s (r - (t + 1)) (t + 1)) all out₀ out' x) (sym ep)
      (putting_row all out₀ s t _ out out' p eo (putting_same all out₀ (across_hit R l r s t h e) k))

  pub turn_miss : (out' : List ℕ) (p' : ℕ) → related (l + r) l R s t ≡ false → out' ≡ out → p' ≡ p
      → Putting (across R l r s (r - (t + 1)) (t + 1)) all out₀ out' p'
  turn_miss out' p' e eo ep =
      subst (λ (x : ℕ). Putting (across R l r s (r - (t + 1)) (t + 1)) all out₀ out' x) (sym ep)
      (subst (λ (x : List ℕ). Putting (across R l r s (r - (t + 1)) (t + 1)) all out₀ x p) (sym eo)
      (putting_same all out₀ (across_miss R l r s t h e) k))

pub putting_ends : {todo all : List (List ℕ)} {out₀ out : List ℕ} {p : ℕ} → todo ≡ [] → Putting todo all out₀ out p
    → (p ≡ 13 * length all) × (out ≡ sets out₀ 0 (lines all))
unfolding lines
putting_ends {all = all} {out₀} {out} {p} e k =
    let a = k.place in
    let b = ap length e in
    (omega arith, ap (λ (x : List (List ℕ)). sets out p (lines x)) (sym e) ∙ k.same)

-- ---- the pairs of all left states, one left state after the other

pub down_step : (R : List Bool) (l r s : ℕ) → s < l → down R l r (l - s) s ≡ across R l r s r 0 ++ down R l r (l - (s + 1)) (s + 1)
unfolding down
down_step R l r s h =
    let e : l - s ≡ suc (l - (s + 1)) = omega arith in
    ap (λ (n : ℕ). down R l r n s) e ∙ ap (λ (n : ℕ). across R l r s r 0 ++ down R l r (l - (s + 1)) n) (sym (add-one s))

pub down_all : (R : List Bool) (l r s : ℕ) → s ≡ 0 → pairs R l r ≡ down R l r (l - s) s
down_all R l r s e =
    let a : l ≡ l - s = omega arith in
    ap (λ (n : ℕ). down R l r n 0) a ∙ ap (down R l r (l - s)) (sym e)

pub down_none : (R : List Bool) (l r s : ℕ) → l ≤ s → down R l r (l - s) s ≡ []
unfolding down
down_none R l r s h = let e : l - s ≡ 0 = omega arith in ap (λ (n : ℕ). down R l r n s) e

pub turn_down : (R : List Bool) (l r s : ℕ) → s < l → (all : List (List ℕ)) (out₀ out out' : List ℕ) (p q : ℕ)
    → q ≡ p + 13 * length (across R l r s r 0) → out' ≡ sets out p (lines (across R l r s r 0))
    → Putting (down R l r (l - s) s) all out₀ out p → Putting (down R l r (l - (s + 1)) (s + 1)) all out₀ out' q
turn_down R l r s h all out₀ out out' p q eq eo k =
    putting_more all out₀ (across R l r s r 0) _ out out' p q eq (across_rows R l r s r 0).1 eo (putting_same all out₀ (down_step R l r s h) k)

down_rows : (R : List Bool) (l r k s : ℕ) → length (lines (down R l r k s)) ≡ 13 * length (down R l r k s)
unfolding down lines
down_rows R l r zero s = refl
down_rows R l r (suc k) s =
    let a = (across_rows R l r s r 0).1 in
    let b = down_rows R l r k (suc s) in
    ap length (lines_append (across R l r s r 0) (down R l r k (suc s))) ∙ simp length-append (omega arith)

-- how many bytes pairs take
pub pairs_length : (R : List Bool) (l r : ℕ) → length (lines (pairs R l r)) ≡ 13 * length (pairs R l r)
pairs_length R l r = down_rows R l r l 0

report_length : (R : List Bool) (l r : ℕ) → length (report R l r) ≡ 19 + 13 * length (pairs R l r)
unfolding report lines
report_length R l r =
    let a = length_line (l ∷ r ∷ length (pairs R l r) ∷ []) in
    let b = down_rows R l r l 0 in
    simp length-append (omega arith)

down_few : (R : List Bool) (l r k s : ℕ) → length (down R l r k s) ≤ k * r
unfolding down
down_few R l r zero s = omega arith
down_few R l r (suc k) s =
    let a = (across_rows R l r s r 0).0 in
    let b = down_few R l r k (suc s) in
    let m = suc-mul k r in
    simp length-append (omega arith)

-- a report of at most 32 states a side fits the store
pub report_fits : (R : List Bool) (l r : ℕ) → l ≤ 32 → r ≤ 32 → length (report R l r) ≤ most_report
report_fits R l r h g =
    let a = report_length R l r in
    let b = down_few R l r l 0 in
    let m : l * r ≤ 1024 = mul-le-mul h g in
    omega arith

-- ---- the head, written after the pairs

set_over : (l : List ℕ) (i a j : ℕ) (xs : List ℕ) → i < j → set (sets l j xs) i a ≡ sets (set l i a) j xs
set_over l i a j [] h = refl
set_over l i a j (x ∷ xs) h =
    set_over (set l j x) i a (suc j) xs (omega arith)
    ∙ ap (λ (z : List ℕ). sets z (suc j) xs) (set_comm l j i x a (λ e. omega arith))

sets_over : (hs l : List ℕ) (i j : ℕ) (xs : List ℕ) → i + length hs ≤ j → sets (sets l j xs) i hs ≡ sets (sets l i hs) j xs
sets_over [] l i j xs g = refl
sets_over (h ∷ hs) l i j xs g =
    ap (λ (z : List ℕ). sets z (suc i) hs) (set_over l i h j xs (omega arith)) ∙ sets_over hs (set l i h) (suc i) j xs (omega arith)

module _ (store : List ℕ) (l r : ℕ) (out : List ℕ) where
  -- the relation
  abbrev R : List Bool
  R = relation_in store (l + r)

  report_at : (m : ℕ) (mid out' : List ℕ) → m ≡ 13 * length (pairs R l r) → mid ≡ sets out 19 (lines (pairs R l r))
      → out' ≡ sets mid 0 (line (l ∷ r ∷ m / 13 ∷ [])) → out' ≡ sets out 0 (report R l r)
  unfolding report lines
  report_at m mid out' ee em eo =
      let n = length (pairs R l r) in
      let d : m / 13 ≡ n = omega arith in
      let h = line (l ∷ r ∷ n ∷ []) in
      let lh : length h ≡ 19 = length_line (l ∷ r ∷ n ∷ []) in
      eo ∙ ap (λ (x : ℕ). sets mid 0 (line (l ∷ r ∷ x ∷ []))) d
      ∙ ap (λ (x : List ℕ). sets x 0 h) em
      ∙ sets_over h out 0 19 (lines (pairs R l r)) (omega arith)
      ∙ ap (λ (x : ℕ). sets (sets out 0 h) x (lines (pairs R l r))) (let z : 19 ≡ 0 + length h = omega arith in z)
      ∙ sym (sets_append out 0 h (lines (pairs R l r)))

  abbrev room : ℕ
  room = length out

  abbrev bytes : ℕ
  bytes = length store

  abbrev needed : ℕ
  needed = relation_bytes (l + r)

  -- what is written by the fault f
  prints : (f : ℕ) (t : Result ℕ ℕ) (out' : List ℕ) → report_fault l r bytes room ≡ f → t ≡ text_answer f (report R l r) → out' ≡ text_stored f (report R l r) out
      → Printed (report_fault l r bytes room) (report R l r) out t out'
  prints f t out' e a b = record { answers = rw e a; leaves = rw e b }

  pub left_over : 32 < l → Printed (report_fault l r bytes room) (report R l r) out (Err 2) out
  unfolding report_fault
  left_over h = prints 2 (Err 2) out (rw (lt-ltb 32 l h)) refl refl

  pub right_over : l ≤ 32 → 32 < r → Printed (report_fault l r bytes room) (report R l r) out (Err 2) out
  unfolding report_fault
  right_over a h = prints 2 (Err 2) out (rw (le-ltb 32 l a, lt-ltb 32 r h)) refl refl

  pub relation_short : l ≤ 32 → r ≤ 32 → (k : ℕ) → k ≡ needed → bytes < k → Printed (report_fault l r bytes room) (report R l r) out (Err 7) out
  unfolding report_fault
  relation_short a b k e g = let h : bytes < needed = subst (λ (x : ℕ). bytes < x) e g in prints 7 (Err 7) out (rw (le-ltb 32 l a, le-ltb 32 r b, lt-ltb bytes needed h)) refl refl

  pub store_short : l ≤ 32 → r ≤ 32 → (k : ℕ) → k ≡ needed → k ≤ bytes → room < most_report → Printed (report_fault l r bytes room) (report R l r) out (Err 7) out
  unfolding report_fault
  store_short a b k e g h = let d : needed ≤ bytes = subst (λ (x : ℕ). x ≤ bytes) e g in prints 7 (Err 7) out (rw (le-ltb 32 l a, le-ltb 32 r b, le-ltb bytes needed d, lt-ltb room most_report h)) refl refl

  pub report_room : l ≤ 32 → r ≤ 32 → needed ≤ bytes → most_report ≤ room → report_fault l r bytes room ≡ 0
  unfolding report_fault
  report_room a b d h = rw (le-ltb 32 l a, le-ltb 32 r b, le-ltb bytes needed d, le-ltb room most_report h)

  pub reported : l ≤ 32 → r ≤ 32 → (k : ℕ) → k ≡ needed → k ≤ bytes → most_report ≤ room → (m : ℕ) (mid out' : List ℕ)
      → m ≡ 13 * length (pairs R l r) → mid ≡ sets out 19 (lines (pairs R l r)) → out' ≡ sets mid 0 (line (l ∷ r ∷ m / 13 ∷ []))
      → Printed (report_fault l r bytes room) (report R l r) out (Ok (19 + m)) out'
  reported a b k e g h m mid out' ee em eo =
      let d : needed ≤ bytes = subst (λ (x : ℕ). x ≤ bytes) e g in
      prints 0 (Ok (19 + m)) out' (report_room a b d h) (ap Ok (ap (λ (n : ℕ). 19 + n) ee ∙ sym (report_length R l r))) (report_at m mid out' ee em eo)

-- ---- a refusal's line

pub line_short : (text out : List ℕ) → length out < most_report → Printed (store_fault (length out)) text out (Err 7) out
line_short text out h = record { answers = rw (lt-ltb (length out) most_report h); leaves = rw (lt-ltb (length out) most_report h) }

pub line_written : (n : ℕ) (out out' : List ℕ) → most_report ≤ length out → out' ≡ sets out 0 (line (n ∷ []))
    → Printed (store_fault (length out)) (refusal_line n) out (Ok 7) out'
line_written n out out' h e = record {
  answers = rw (le-ltb (length out) most_report h) (ap Ok (sym (length_line (n ∷ []))));
  leaves = rw (le-ltb (length out) most_report h) e;
}
