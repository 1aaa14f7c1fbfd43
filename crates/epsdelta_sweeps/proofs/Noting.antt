-- Noted strikes as code reads and writes them: a sweep that is over, and what a turn leaves noted.
use mathlib.Core.Path.{◌≡◌, sym, ap, subst⁻¹, ◌∙◌}
use Rattle.epsdelta_sweeps.specs.Place.{none, Aged, words}
use Rattle.epsdelta_sweeps.specs.declared.changes.Strikes.{Strikes}
use Rattle.epsdelta_sweeps.proofs.Words.{words_length, recent_at, before_at, again_at}
use mathlib.Core.Logic.{◌⊎◌, inl, inr, ◌≢◌}
use mathlib.Core.Bool.{Bool, true, false, true≢false}
use mathlib.Core.List.{List}
use Prim.Native.Nat.{ℕ, ◌+◌, ◌*◌, ◌≤◌, ◌<◌}
use native.Mathlib.Omega.{arith}
use lib.Ieee.{Float, nan}
use lib.ListN.{length, get_or, set, length-set}
use lib.Seq.{get_or-set_same, get_or-set_other}
use Rattle.numbers.specs.Real.{is_zero}
use Rattle.numbers.specs.Bits.{bit_at}
use Rattle.numbers.proofs.Bools.{eq_or_ne}
use Rattle.epsdelta_theory.proofs.Pairs.{packed_holds}
use Rattle.epsdelta_theory.proofs.TasksIn.{RowsFit}
use Rattle.epsdelta_theory.proofs.Unchanged.{Noted, noted_next}

-- the words of n states, at first
pub first_words : (n : ℕ) (l : List Strikes) → length l ≡ n → (2 * n < length (words n l false)) × (get_or (words n l false) (2 * n) 0 ≡ 0)
first_words n l h = let e = words_length n l false h in (omega arith, again_at n l false h)

-- the strikes of the states before u are those of the sweep before, the others not yet
pub record Fading (C out : List Strikes) (u : ℕ) : Type 0 where
  pub long : length out ≡ length C
  pub faded : (v : ℕ) → v < u → (get_or out v none).before ≡ (get_or C v none).recent
  pub left : (v : ℕ) → u ≤ v → get_or out v none ≡ get_or C v none

pub fades : (C out : List Strikes) (u : ℕ) → u < length C → Fading C out u → Fading C (set out u (record { recent = 0; before = (get_or out u none).recent })) (u + 1)
fades C out u h F = record {
  long = length-set out u x ∙ F.long;
  faded = λ v l. pick v l (eq_or_ne v u);
  left = λ v l. get_or-set_other out u v x none (omega arith) ∙ F.left v (omega arith);
}
  where
    x : Strikes
    x = record { recent = 0; before = (get_or out u none).recent }

    pick : (v : ℕ) → v < u + 1 → (v ≡ u) ⊎ (v ≢ u) → (get_or (set out u x) v none).before ≡ (get_or C v none).recent
    pick v l (inl e) =
        let k : u < length out = let w = F.long in omega arith in
        ap (λ (y : ℕ). (get_or (set out u x) y none).before) e
        ∙ ap (λ (y : Strikes). y.before) (get_or-set_same out u x none k) ∙ ap (λ (y : Strikes). y.recent) (F.left u (omega arith)) ∙ ap (λ (y : ℕ). (get_or C y none).recent) (sym e)
    pick v l (inr d) = ap (λ (y : Strikes). y.before) (get_or-set_other out u v x none d) ∙ F.faded v (omega arith)

-- as words
pub fades_words : (n : ℕ) (C out : List Strikes) (b d : Bool) → length C ≡ n → Aged C out → (v : ℕ) → v < n → get_or (words n out d) (2 * v + 1) 0 ≡ get_or (words n C b) (2 * v) 0
fades_words n C out b d k A v l = let z = A.0 in before_at n out d v l (omega arith) ∙ A.1 v (omega arith) ∙ sym (recent_at n C b v l k)

pub fades_length : (n : ℕ) (C out : List Strikes) (b d : Bool) → length C ≡ n → Aged C out → length (words n out d) ≡ length (words n C b)
fades_length n C out b d k A = let z = A.0 in words_length n out d (omega arith) ∙ sym (words_length n C b k)

-- ---- after a turn without a strike

module _ {n : ℕ} {E : List Float} {S T : List ℕ} {P : List Float} {need : Float} (F : RowsFit n S T P) {store C : List ℕ} {s t : ℕ} (N : Noted n E S T P need store C s t) where
  pub noted_absent : bit_at store (s * n + t) ≡ false → Noted n E S T P need store C s (t + 1)
  noted_absent e = noted_next F N (λ z h. absurd (true≢false (sym h ∙ sym (packed_holds n N.relation s t) ∙ ap (λ (x : List ℕ). bit_at x (s * n + t)) (sym N.bytes) ∙ e)))

  pub noted_no_exit : is_zero (get_or E s nan) ≡ true → Noted n E S T P need store C s (t + 1)
  noted_no_exit e = noted_next F N (λ z h. absurd (true≢false (sym e ∙ z)))

-- ---- after a strike

pub noted_as : {n : ℕ} {E : List Float} {S T : List ℕ} {P : List Float} {need : Float} {store C store' C' : List ℕ} {s t : ℕ}
    → store' ≡ store → C' ≡ C → Noted n E S T P need store C s t → Noted n E S T P need store' C' s t
noted_as {n} {E} {S} {T} {P} {need} {C = C} {store' = store'} {s = s} {t = t} e f N =
    subst⁻¹ (λ (l : List ℕ). Noted n E S T P need store' l s t) f (subst⁻¹ (λ (l : List ℕ). Noted n E S T P need l C s t) e N)
