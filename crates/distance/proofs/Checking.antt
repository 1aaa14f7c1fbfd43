-- The checks of `distance` out of those of each chain by itself, and of the rest: of all that fail the first.
use mathlib.Core.Path.{◌≡◌, refl, ap, ap₂, ◌∙◌}
use Prim.Native.Nat.{ℕ}
use mathlib.Core.Bool.{Bool, true, false, ◌||◌}
use mathlib.Core.List.{List}
use native.Mathlib.Omega.{arith}
use lib.Ieee.{Float}
use Rattle.numbers.specs.Real.{nought, one}
use Rattle.numbers.specs.Refuse.{check}
use Rattle.parts.specs.Earlier.{earlier}
use Rattle.parts.proofs.Earlier.{both_four}
use Rattle.chain_theory.specs.Columns.{ChainColumns}
use Rattle.chain_theory.specs.Check.{discount_outside, misshapen, unobserved, unfitting, improper, chain_refusal}
use Rattle.chain_theory.specs.declared.ChainShape.{ChainShape}
use Rattle.distance_theory.specs.Refusal.{short, excessive, distance_refusal}
use Rattle.distance_theory.specs.declared.MetricOptions.{MetricOptions}
use Rattle.bisim_checks.specs.Sides.{rest_refusal}

-- 4, 7, 12 and 13 of the chains, then 7, 11 and 14 of the rest
merged : (a b c d s g o : Bool) → earlier (check 4 a (check 7 b (check 12 c (check 13 d 0)))) (check 7 s (check 11 g (check 14 o 0))) ≡ check 4 a (check 7 (b || s) (check 11 g (check 12 c (check 13 d (check 14 o 0)))))
merged true b c d true g o = refl
merged true b c d false true o = refl
merged true b c d false false true = refl
merged true b c d false false false = refl
merged false true c d true g o = refl
merged false true c d false true o = refl
merged false true c d false false true = refl
merged false true c d false false false = refl
merged false false true d true g o = refl
merged false false true d false true o = refl
merged false false true d false false true = refl
merged false false true d false false false = refl
merged false false false true true g o = refl
merged false false false true false true o = refl
merged false false false true false false true = refl
merged false false false true false false false = refl
merged false false false false s g o = refl

joined : (a b d : Bool) → ((a || b) || d) ≡ (a || (b || d))
joined true b d = refl
joined false b d = refl

module _ (HL : ChainShape) (CL : ChainColumns) (HR : ChainShape) (CR : ChainColumns) (γ : Float) (o : MetricOptions) (lists : List ℕ) (records : ℕ) where
  together : earlier (earlier (chain_refusal nought one HL CL) (chain_refusal nought one HR CR)) (rest_refusal γ o lists records) ≡ distance_refusal HL CL HR CR γ o lists records
  unfolding distance_refusal chain_refusal rest_refusal
  together =
      let a : Bool = misshapen HL CL || misshapen HR CR in
      let b : Bool = unobserved HL CL || unobserved HR CR in
      let c : Bool = unfitting nought one HL.states CL.observations || unfitting nought one HR.states CR.observations in
      let d : Bool = improper HL CL || improper HR CR in
      ap (λ (k : ℕ). earlier k (rest_refusal γ o lists records))
      (both_four 3 6 11 12 (omega arith) (omega arith) (omega arith)
      (misshapen HL CL) (unobserved HL CL) (unfitting nought one HL.states CL.observations) (improper HL CL) (misshapen HR CR) (unobserved HR CR) (unfitting nought one HR.states CR.observations) (improper HR CR))
      ∙ merged a b c d (short lists records) (discount_outside γ) (excessive o)
      ∙ ap (λ (t : Bool). check 4 a (check 7 t (check 11 (discount_outside γ) (check 12 c (check 13 d (check 14 (excessive o) 0)))))) (joined (unobserved HL CL) (unobserved HR CR) (short lists records))

  -- out of what each is refused for
  pub total : {l r x k n : ℕ} → l ≡ chain_refusal nought one HL CL → r ≡ chain_refusal nought one HR CR → x ≡ rest_refusal γ o lists records → k ≡ earlier l r → n ≡ earlier k x → n ≡ distance_refusal HL CL HR CR γ o lists records
  total p q s e f = f ∙ ap₂ earlier (e ∙ ap₂ earlier p q) s ∙ together
