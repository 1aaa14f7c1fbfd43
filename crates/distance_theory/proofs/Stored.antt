-- Laws of the coupling store: shares in two lists, summed part by part.
use mathlib.Core.Path.{◌≡◌, refl, sym, ap, ap₂, ◌∙◌}
use Prim.Native.Nat.{ℕ}
use mathlib.Core.List.{List, [], ◌∷◌, map}
use lib.ListN.{length, length-map}
use lib.Seq.{slice, take_at}
use lib.Ieee.{Float}
use Rattle.numbers.specs.Lists.{over}
use Rattle.numbers.specs.Real.{nought, sum, sum_from}
use Rattle.distance_theory.specs.Couplings.{Share, weighed, expected, shares_of}
use Rattle.distance_theory.proofs.Bests.{ats, parts}

-- ---- shares in two lists

pub shares_of_lem : (cs : List Share) → shares_of (ats cs) (parts cs) ≡ cs
unfolding shares_of
shares_of_lem [] = refl
shares_of_lem (c ∷ cs) = ap (λ (l : List Share). c ∷ l) (shares_of_lem cs)

-- shares over the front of two lists
pub shares_front : (cs : List Share) (p : List ℕ) (m : List Float) (n : ℕ) → n ≡ length cs → shares_of (slice 0 n (over (ats cs) p)) (slice 0 n (over (parts cs) m)) ≡ cs
shares_front cs p m n e =
    ap₂ shares_of (take_at (ats cs) _ n (length-map cs (λ (c : Share). c.at) ∙ sym e)) (take_at (parts cs) _ n (length-map cs (λ (c : Share). c.mass) ∙ sym e)) ∙ shares_of_lem cs

-- Σ mass × value, from place i up to place b
abbrev pub sum_part : List Float → List ℕ → List Float → Float → ℕ → ℕ → Float
sum_part v P M x i b = sum_from x (map (weighed v) (shares_of (slice i b P) (slice i b M)))

-- from nothing it is what the shares come to
pub sum_part_lem : (v : List Float) (P : List ℕ) (M : List Float) (a b : ℕ) → sum_part v P M nought a b ≡ expected v (shares_of (slice a b P) (slice a b M))
unfolding expected sum
sum_part_lem v P M a b = refl
