-- What is known of an input that is not refused: each check passes of both models.
use Rattle.std.specs.Prelude.{Some, None, Option}
use Rattle.bisim_core.specs.declared.ids.StateId.{StateId}
use mathlib.Core.Path.{◌≡◌, refl}
use Prim.Native.Nat.{ℕ, ◌≤◌, ◌<◌, ◌+◌}
use mathlib.Core.Bool.{Bool, true, false, ◌||◌, not, true≢false}
use mathlib.Core.List.{List}
use lib.Dec.{ltb}
use lib.ListN.{length}
use lib.Ieee.{Float, le}
use borrow.Author.Tests.{ltb-false, not-false}
use Rattle.numbers.specs.Real.{is_valid, one, greatest_factor}
use Rattle.numbers.proofs.Bools.{and_t, or_f}
use Rattle.numbers.proofs.Refuses.{check_none, check_skip}
use Rattle.bisim_core.specs.Data.{Columns}
use Rattle.bisim_core.specs.declared.wlts.Shape.{Shape}
use Rattle.bisim_core.specs.Model.{large, unfit, weights_outside, crowded, model_refusal}
use Rattle.bisim_core.proofs.Accepted.{Accepted, accepted}
use Rattle.epsdelta_theory.specs.Relation.{relation_bytes}
use Rattle.epsdelta_theory.specs.Refusal.{short, absent, factor_outside, tolerances_outside, models_refusal, later_refusal, relation_refusal, epsdelta_refusal}
use Rattle.epsdelta_theory.specs.Bisimilar.{start}

-- what no check refuses, whatever 8 and 9 are of
pub record Passed (fails8 fails9 : Bool) (SL : Shape) (ML : Columns) (SR : Shape) (MR : Columns) (cl cr : List ℕ) (bytes : ℕ) : Type 0 where
  pub left : Accepted SL ML
  pub right : Accepted SR MR
  pub left_classes : SL.states ≤ length cl
  pub right_classes : SR.states ≤ length cr
  pub room : relation_bytes (SL.states + SR.states) ≤ bytes
  pub passes8 : fails8 ≡ false
  pub passes9 : fails9 ≡ false
  pub few : SL.states + SR.states ≤ 2000

-- the model check's own list, from its checks one by one
pub model_passed : (S : Shape) (M : Columns) → large S ≡ false → unfit S M ≡ false → weights_outside S M ≡ false → crowded S M ≡ false → Accepted S M
unfolding model_refusal
model_passed S M a b c d = accepted S M (check_skip 3 (large S) _ 0 a (check_skip 4 (unfit S M) _ 0 b (check_skip 5 (weights_outside S M) _ 0 c (check_skip 6 (crowded S M) 0 0 d refl))))

-- both models, and what comes after them
pub models_passed : (SL : Shape) (ML : Columns) (SR : Shape) (MR : Columns) (later : ℕ) → models_refusal SL ML SR MR later ≡ 0 → Accepted SL ML × Accepted SR MR × (later ≡ 0)
unfolding models_refusal
models_passed SL ML SR MR later e =
    let a = check_none 2 (large SL || large SR) _ e in
    let b = check_none 3 (unfit SL ML || unfit SR MR) _ a.1 in
    let c = check_none 4 (weights_outside SL ML || weights_outside SR MR) _ b.1 in
    let d = check_none 5 (crowded SL ML || crowded SR MR) _ c.1 in
    let a2 = or_f (large SL) (large SR) a.0 in
    let b2 = or_f (unfit SL ML) (unfit SR MR) b.0 in
    let c2 = or_f (weights_outside SL ML) (weights_outside SR MR) c.0 in
    let d2 = or_f (crowded SL ML) (crowded SR MR) d.0 in
    (model_passed SL ML a2.0 b2.0 c2.0 d2.0, model_passed SR MR a2.1 b2.1 c2.1 d2.1, d.1)

pub passed : (fails8 fails9 : Bool) (SL : Shape) (ML : Columns) (SR : Shape) (MR : Columns) (cl cr : List ℕ) (bytes : ℕ)
    → relation_refusal fails8 fails9 SL ML SR MR cl cr bytes ≡ 0 → Passed fails8 fails9 SL ML SR MR cl cr bytes
unfolding relation_refusal
passed fails8 fails9 SL ML SR MR cl cr bytes e =
    let (A, B, z) = models_passed SL ML SR MR (later_refusal fails8 fails9 SL.states SR.states (length cl) (length cr) bytes) e in
    let f = check_none 6 (short SL.states SR.states (length cl) (length cr) bytes) _ z in
    let g = check_none 7 fails8 _ f.1 in
    let h = check_none 8 fails9 _ g.1 in
    let i = check_none 9 (ltb 2000 (SL.states + SR.states)) 0 h.1 in
    let f2 = or_f (ltb (length cl) SL.states) _ f.0 in
    let f3 = or_f (ltb (length cr) SR.states) (ltb bytes (relation_bytes (SL.states + SR.states))) f2.1 in
    record {
      left = A;
      right = B;
      left_classes = ltb-false _ _ f2.0;
      right_classes = ltb-false _ _ f3.0;
      room = ltb-false _ _ f3.1;
      passes8 = g.0;
      passes9 = h.0;
      few = ltb-false _ _ i.0;
    }

-- what `epsdelta` does not refuse
pub record Unrefused (SL : Shape) (ML : Columns) (SR : Shape) (MR : Columns) (cl cr : List ℕ) (ε ρ : Float) (bytes : ℕ) : Type 0 where
  pub left : Accepted SL ML
  pub right : Accepted SR MR
  pub left_classes : SL.states ≤ length cl
  pub right_classes : SR.states ≤ length cr
  pub room : relation_bytes (SL.states + SR.states) ≤ bytes
  pub tolerance_valid : is_valid ε ≡ true
  pub factor_least : le one ρ ≡ true
  pub factor_most : le ρ greatest_factor ≡ true
  pub few : SL.states + SR.states ≤ 2000

pub unrefused : (SL : Shape) (ML : Columns) (SR : Shape) (MR : Columns) (cl cr : List ℕ) (ε ρ : Float) (bytes : ℕ)
    → epsdelta_refusal SL ML SR MR cl cr ε ρ bytes ≡ 0 → Unrefused SL ML SR MR cl cr ε ρ bytes
unfolding epsdelta_refusal
unrefused SL ML SR MR cl cr ε ρ bytes e =
    let A = passed false (tolerances_outside ε ρ) SL ML SR MR cl cr bytes e in
    let f = or_f (not (is_valid ε)) (factor_outside ρ) A.passes9 in
    let g = and_t (le one ρ) (le ρ greatest_factor) (not-false _ f.1) in
    record {
      left = A.left;
      right = A.right;
      left_classes = A.left_classes;
      right_classes = A.right_classes;
      room = A.room;
      tolerance_valid = not-false _ f.0;
      factor_least = g.0;
      factor_most = g.1;
      few = A.few;
    }

-- an initial state that is there is below its model's count
pub start_below : (S : Shape) (M : Columns) → Accepted S M → absent S.initial ≡ false → start S.initial < S.states
start_below S M A e = pick S.initial refl e
  where
    pick : (i : Option StateId) → S.initial ≡ i → absent i ≡ false → start i < S.states
    pick (Some s) p e = A.start_in s p
    pick None p e = absurd (true≢false e)
