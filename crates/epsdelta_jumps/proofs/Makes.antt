-- The loop over the states of a model that makes their rows one after the other (`Making`).
use mathlib.Core.Path.{◌≡◌, refl, sym, ap, subst, subst⁻¹, ◌∙◌}
use Prim.Native.Nat.{ℕ, ◌+◌, ◌≤◌, ◌<◌}
use mathlib.Core.List.{List, [], ◌∷◌}
use native.Mathlib.Omega.{arith}
use lib.Ieee.{Float}
use lib.ListN.{length, get_or, set}
use lib.Seq.{get_or-set_same}
use Rattle.bisim_core.specs.Data.{columns_of}
use Rattle.bisim_core.specs.Model as models
use Rattle.bisim_core.specs.Model.{begins}
use Rattle.bisim_core.specs.declared.wlts.Wlts.{Wlts}
use Rattle.epsdelta_theory.specs.Jumps.{Row, Jumps, no_row, row}
use Rattle.epsdelta_theory.proofs.RowReads.{starts_up}
use Rattle.epsdelta_theory.proofs.RowsIn.{all_jumps, starts_from, LaidTo, Filled}
use Rattle.epsdelta_theory.proofs.Layings.{laid_next}
use Rattle.parts.specs.Jumping.{HasRows, degree}
use Rattle.epsdelta_jumps.specs.declared.store.RowStore.{RowStore}
use Rattle.epsdelta_jumps.specs.Store.{SameStore, LaidInTo}

-- ---- the loop

-- the rows of a model's states
abbrev pub RowsOf : Wlts → ℕ → Jumps → Type 0
RowsOf M off J = (s : ℕ) → s < M.shape.states → get_or J (off + s) no_row ≡ row off (models.row (columns_of M) s)

-- s states are done; their jumps end at place `end`
pub record Making (M : Wlts) (off at : ℕ) (V W : RowStore) (end s : ℕ) : Type 0 where
  pub low : s ≤ M.shape.states
  pub room : end ≤ at + begins (columns_of M) s
  pub lists : SameStore V W
  pub last : get_or W.starts.now (off + s) 0 ≡ end
  pub held : (J : Jumps) (U : RowStore) → off + M.shape.states ≤ length J → RowsOf M off J → off + M.shape.states ≤ length U.exits.now → off + M.shape.states < length U.starts.now → LaidInTo J off U V → LaidInTo J (off + s) U W

same_store : (V : RowStore) → SameStore V V
same_store V = (refl, refl, refl, refl, refl, refl, refl, refl)

pub making : (M : Wlts) (off at : ℕ) (V : RowStore) → get_or V.starts.now off 0 ≡ at → Making M off at V V at 0
making M off at V e =
    let z : off ≡ off + 0 = omega arith in
    record {
      low = omega arith;
      room = omega arith;
      lists = same_store V;
      last = ap (λ (x : ℕ). get_or V.starts.now x 0) (sym z) ∙ e;
      held = λ J U j R e₁ s₁ H. subst (λ (x : ℕ). LaidInTo J x U V) z H;
    }

-- the lists are as long as is asked
abbrev pub Long : Wlts → ℕ → ℕ → RowStore → Type 0
Long M off at V =
    (off + M.shape.states ≤ length V.exits.now) × (off + M.shape.states < length V.starts.now) × (at + begins (columns_of M) M.shape.states ≤ length V.targets.now) × (at + begins (columns_of M) M.shape.states ≤ length V.probs.now)

module _ {M : Wlts} {off at : ℕ} {V W : RowStore} {end s : ℕ} (R : HasRows M) (G : Long M off at V) (I : Making M off at V W end s) (h : s < M.shape.states) where
  ends : begins (columns_of M) (s + 1) ≤ begins (columns_of M) M.shape.states
  ends = starts_up M.offsets.now M.shape.states R.rise (s + 1) M.shape.states (omega arith) (omega arith)

  -- what `fill` asks for
  pub fillable : (off + s < length W.exits.now) × (end + degree (columns_of M) s ≤ length W.targets.now) × (end + degree (columns_of M) s ≤ length W.probs.now)
  fillable =
      let u = ends in
      let r = R.rise s h in
      let m = I.room in
      let l = I.lists in
      let g = G in
      (omega arith, omega arith, omega arith)

  -- where the jumps end is a small number
  pub within : (r : ℕ) → r ≤ end + degree (columns_of M) s → at ≤ 4096 → r ≤ 8192
  within r l x = let o = R.rise s h in let u = ends in let m = I.room in let c = R.edges_few in omega arith

  -- X is what `fill` leaves, and Y that with where the jumps end
  pub turn : (r : ℕ) (X Y : RowStore) → r ≤ end + degree (columns_of M) s → SameStore W X → SameStore X Y
      → Filled (row off (models.row (columns_of M) s)) (off + s) end r W.exits.now W.targets.now W.probs.now X.exits.now X.targets.now X.probs.now → X.starts.now ≡ W.starts.now
      → Y.exits.now ≡ X.exits.now → Y.starts.now ≡ set X.starts.now (off + s + 1) r → Y.targets.now ≡ X.targets.now → Y.probs.now ≡ X.probs.now → Making M off at V Y r (s + 1)
  turn r X Y l p q F t e₂ s₂ t₂ p₂ =
      let o = R.rise s h in
      let u = ends in
      let m = I.room in
      let k : off + s + 1 ≡ off + (s + 1) = omega arith in
      let w = I.lists in
      let g = G in
      let s₃ : Y.starts.now ≡ set W.starts.now (off + s + 1) r = s₂ ∙ ap (λ (S : List ℕ). set S (off + s + 1) r) t in
      record {
        low = omega arith;
        room = omega arith;
        lists = (q.0 ∙ p.0 ∙ w.0, q.1 ∙ p.1 ∙ w.1, q.2 ∙ p.2 ∙ w.2, q.3 ∙ p.3 ∙ w.3, q.4 ∙ p.4 ∙ w.4, q.5 ∙ p.5 ∙ w.5, q.6 ∙ p.6 ∙ w.6, q.7 ∙ p.7 ∙ w.7);
        last = ap (λ (S : List ℕ). get_or S (off + (s + 1)) 0) s₃ ∙ ap (λ (x : ℕ). get_or (set W.starts.now (off + s + 1) r) x 0) (sym k) ∙ get_or-set_same W.starts.now (off + s + 1) r 0 (omega arith);
        held = λ J U j Z e₁ s₁ H.
            rw (e₂, s₃, t₂, p₂)
            (subst (λ (x : ℕ). LaidTo J x U.exits.now U.starts.now U.targets.now U.probs.now X.exits.now (set W.starts.now (off + s + 1) r) X.targets.now X.probs.now) k
            (laid_next J (off + s) r (I.held J U j Z e₁ s₁ H)
            (subst⁻¹ (λ (x : ℕ). Filled (get_or J (off + s) no_row) (off + s) x r W.exits.now W.targets.now W.probs.now X.exits.now X.targets.now X.probs.now) I.last
            (subst⁻¹ (λ (x : Row). Filled x (off + s) end r W.exits.now W.targets.now W.probs.now X.exits.now X.targets.now X.probs.now) (Z s h) F))
            (omega arith) (omega arith) (omega arith) (omega arith) (omega arith)));
      }

module _ {M : Wlts} {off at : ℕ} {V W : RowStore} {end s : ℕ} (I : Making M off at V W end s) (e : s ≡ M.shape.states) where
  pub done_end : (end ≤ at + begins (columns_of M) M.shape.states) × (get_or W.starts.now (off + M.shape.states) 0 ≡ end)
  done_end = (subst (λ (x : ℕ). end ≤ at + begins (columns_of M) x) e I.room, subst (λ (x : ℕ). get_or W.starts.now (off + x) 0 ≡ end) e I.last)

  pub done_laid : (J : Jumps) (U : RowStore) → off + M.shape.states ≤ length J → RowsOf M off J → off + M.shape.states ≤ length U.exits.now → off + M.shape.states < length U.starts.now → LaidInTo J off U V → LaidInTo J (off + M.shape.states) U W
  done_laid J U j R e₁ s₁ H = subst (λ (x : ℕ). LaidInTo J (off + x) U W) e (I.held J U j R e₁ s₁ H)

-- no row yet: only the start of the first is there
pub laid_none : (J : Jumps) (E : List Float) (S T : List ℕ) (P : List Float) → 0 < length S → LaidTo J 0 E S T P E (set S 0 0) T P
unfolding starts_from all_jumps
laid_none J E [] T P h = absurd (omega arith)
laid_none J E (x ∷ S) T P h = record { exits_are = refl; starts_are = refl; targets_are = refl; probs_are = refl }

-- ---- states that are numbered from 0 on

add_zero : (n : ℕ) → 0 + n ≡ n
add_zero n = omega arith

pub from_zero : (J : Jumps) (n : ℕ) (V W : RowStore) → LaidInTo J (0 + n) V W → LaidInTo J n V W
from_zero J n V W H = subst (λ (x : ℕ). LaidInTo J x V W) (add_zero n) H

pub start_from_zero : (S : List ℕ) (n a : ℕ) → get_or S (0 + n) 0 ≡ a → get_or S n 0 ≡ a
start_from_zero S n a e = subst (λ (x : ℕ). get_or S x 0 ≡ a) (add_zero n) e

pub row_from_zero : (J : Jumps) (s : ℕ) (r : Row) → get_or J s no_row ≡ r → get_or J (0 + s) no_row ≡ r
row_from_zero J s r e = subst⁻¹ (λ (x : ℕ). get_or J x no_row ≡ r) (add_zero s) e
