-- `normalise`: the turns of its loops, and which answer is due.
use mathlib.Core.Path.{◌≡◌, refl, sym, ap, ◌∙◌}
use mathlib.Core.Bool.{true, false}
use Prim.Native.Nat.{ℕ, zero, suc, ◌-◌, ◌≤◌}
use mathlib.Core.List.{List, [], ◌∷◌, ◌++◌, map}
use native.Mathlib.Omega.{arith}
use lib.Ieee.{Float, inf, binary64, neg, sub}
use lib.ListN.{length, take, drop}
use lib.Seq.{length-take-le}
use borrow.Author.Tests.{ltb-false}
use Rattle.std.specs.List.{fold}
use Rattle.std.specs.Prelude.{Result, Ok, Err}
use Rattle.std.specs.Result.{IsErrAnd}
use Rattle.numbers.specs.Lists as lists
use Rattle.numbers.specs.Real.{least_observation, greatest_weight}
use Rattle.numbers.specs.Refuse
use Rattle.numbers.specs.Refuse.{check, numbered}
use Rattle.numbers.specs.declared.refusal.Refusal.{Refusal}
use Rattle.numbers.specs.Choice.{smaller, larger}
use Rattle.numbers.proofs.Refuses.{check_none, number_positive}
use Rattle.parts.specs.Earlier.{earlier}
use Rattle.parts.proofs.Earlier.{both_four, neither}
use Rattle.chain_theory.specs.Chain.{least_from, greatest_from, scaled, Scaled, normalise}
use Rattle.chain_theory.specs.Columns.{ChainColumns}
use Rattle.chain_theory.specs.Check.{misshapen, unobserved, unfitting, improper, chain_refusal}
use Rattle.chain_theory.specs.declared.ChainShape.{ChainShape}
use Rattle.normalise.specs.Outcome.{normalise_refusal, ends, settled, normalised, scaling}

-- ---- the least and the greatest

pub least_is : (x : Float) (l : List Float) → fold smaller x l ≡ least_from x l
unfolding least_from
least_is x [] = refl
least_is x (y ∷ l) = least_is (smaller x y) l

pub greatest_is : (x : Float) (l : List Float) → fold larger x l ≡ greatest_from x l
unfolding greatest_from
greatest_is x [] = refl
greatest_is x (y ∷ l) = greatest_is (larger x y) l

-- over one list, then over another
least_append : (x : Float) (a b : List Float) → least_from (least_from x a) b ≡ least_from x (a ++ b)
unfolding least_from
least_append x [] b = refl
least_append x (y ∷ a) b = least_append (smaller x y) a b

greatest_append : (x : Float) (a b : List Float) → greatest_from (greatest_from x a) b ≡ greatest_from x (a ++ b)
unfolding greatest_from
greatest_append x [] b = refl
greatest_append x (y ∷ a) b = greatest_append (larger x y) a b

-- ---- both lists: the least and the greatest go over the one and then over the other

pub both_scaled : (L R : List Float) (top low least high greatest : Float) (l r : List Float)
    → top ≡ inf false → low ≡ least_from top L → least ≡ least_from low R → high ≡ greatest_from (neg top) L → greatest ≡ greatest_from high R
    → l ≡ map (scaled least (sub binary64 greatest least)) L → r ≡ map (scaled least (sub binary64 greatest least)) R
    → scaling (sub binary64 greatest least) l r ≡ normalise L R
unfolding normalise neg
both_scaled L R top low least high greatest l r t a b c d e g =
    let k : least ≡ least_from (inf false) (L ++ R) = b ∙ ap (λ (z : Float). least_from z R) (a ∙ ap (λ (z : Float). least_from z L) t) ∙ least_append (inf false) L R in
    let h : greatest ≡ greatest_from (inf true) (L ++ R) = d ∙ ap (λ (z : Float). greatest_from z R) (c ∙ ap (λ (z : Float). greatest_from (neg z) L) t) ∙ greatest_append (inf true) L R in
    rw (e, g, k, h) refl

-- ---- the first check that fails over both chains

abbrev refusal_of : ChainShape → ChainColumns → ℕ
refusal_of H C = chain_refusal least_observation greatest_weight H C

-- a chain that is not refused has an observation for each state
seen_long : (H : ChainShape) (C : ChainColumns) → refusal_of H C ≡ 0 → H.states ≤ length C.observations
unfolding chain_refusal
seen_long H C e =
    let later = check 12 (unfitting least_observation greatest_weight H.states C.observations) (check 13 (improper H C) 0) in
    let (a, b) = check_none 3 (misshapen H C) (check 7 (unobserved H C) later) e in
    let (c, d) = check_none 6 (unobserved H C) later b in
    ltb-false _ _ c

-- by the chain as it is read
by : {K H : ChainShape} {D C : ChainColumns} {n : ℕ} → (K ≡ H) × (D ≡ C) → n ≡ chain_refusal least_observation greatest_weight K D → n ≡ refusal_of H C
by {K} {H} {D} (e, f) p = p ∙ ap (λ (G : ChainShape). refusal_of G D) e ∙ ap (refusal_of H) f

-- by both chains as they are read
module _ {KL KR HL HR : ChainShape} {DL DR CL CR : ChainColumns} {x y n : ℕ} (el : (KL ≡ HL) × (DL ≡ CL)) (er : (KR ≡ HR) × (DR ≡ CR)) (pl : x ≡ refusal_of KL DL) (pr : y ≡ refusal_of KR DR) (f : n ≡ earlier x y) where
  p : x ≡ refusal_of HL CL
  p = by el pl

  q : y ≡ refusal_of HR CR
  q = by er pr

  number : n ≡ earlier (refusal_of HL CL) (refusal_of HR CR)
  number = f ∙ ap (λ (a : ℕ). earlier a y) p ∙ ap (earlier (refusal_of HL CL)) q

  number_is : n ≡ normalise_refusal HL CL HR CR
  unfolding normalise_refusal chain_refusal
  number_is = number ∙ both_four 3 6 11 12 (omega arith) (omega arith) (omega arith) (misshapen HL CL) (unobserved HL CL) (unfitting least_observation greatest_weight HL.states CL.observations) (improper HL CL) (misshapen HR CR) (unobserved HR CR) (unfitting least_observation greatest_weight HR.states CR.observations) (improper HR CR)

  abbrev N : Scaled
  N = normalise (take HL.states CL.observations) (take HR.states CR.observations)

  settled_refused : (a : Result Float Refusal) (r : Refusal) (k : ℕ) → IsErrAnd a (λ s. s ≡ r) → Refuse.number r ≡ k → ends (numbered a) CL.observations CR.observations ≡ settled k N CL.observations CR.observations
  settled_refused (Ok s) r k h e = absurd h
  settled_refused (Err s) r zero h e = absurd (number_positive r e)
  settled_refused (Err s) r (suc k) h e = ap (λ (j : ℕ). ends (Err j) CL.observations CR.observations) (ap Refuse.number h ∙ e)

  pub answer_refused : (a : Result Float Refusal) (r : Refusal) → IsErrAnd a (λ s. s ≡ r) → Refuse.number r ≡ n → ends (numbered a) CL.observations CR.observations ≡ normalised HL CL HR CR
  unfolding normalised
  answer_refused a r h e = settled_refused a r _ h (e ∙ number_is)

  pub both_long : n ≡ 0 → (HL.states ≤ length CL.observations) × (HR.states ≤ length CR.observations)
  both_long h = let (a, b) = neither (refusal_of HL CL) (refusal_of HR CR) (sym number ∙ h) in (seen_long HL CL a, seen_long HR CR b)

  -- both fronts are lent and put back
  pub answer_scaled : n ≡ 0 → (x : Float) (l r : List Float) → length l ≡ length (take (HL.states - 0) CL.observations) → length r ≡ length (take (HR.states - 0) CR.observations)
      → scaling x l r ≡ normalise (take (HL.states - 0) CL.observations) (take (HR.states - 0) CR.observations)
      → ends (Ok x) (l ++ drop (HL.states - 0) CL.observations) (r ++ drop (HR.states - 0) CR.observations) ≡ normalised HL CL HR CR
  unfolding normalised
  answer_scaled h x l r a b e =
      let (c, d) = both_long h in
      let f : HL.states - 0 ≡ length l = let z = length-take-le (HL.states - 0) CL.observations (omega arith) in omega arith in
      let g : HR.states - 0 ≡ length r = let z = length-take-le (HR.states - 0) CR.observations (omega arith) in omega arith in
      let j : HL.states - 0 ≡ HL.states = omega arith in
      let k : HR.states - 0 ≡ HR.states = omega arith in
      ap (λ (i : ℕ). ends (Ok x) (l ++ drop i CL.observations) (r ++ drop (HR.states - 0) CR.observations)) f
      ∙ ap (λ (i : ℕ). ends (Ok x) (lists.over l CL.observations) (r ++ drop i CR.observations)) g
      ∙ ap (λ (Y : Scaled). ends (Ok Y.scale) (lists.over Y.left CL.observations) (lists.over Y.right CR.observations)) (e ∙ ap (λ (i : ℕ). normalise (take i CL.observations) (take (HR.states - 0) CR.observations)) j ∙ ap (λ (i : ℕ). normalise (take HL.states CL.observations) (take i CR.observations)) k)
      ∙ ap (λ (j : ℕ). settled j N CL.observations CR.observations) (sym h ∙ number_is)
