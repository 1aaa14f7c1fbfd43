-- The sum of mass × value over two lists side by side: a share is one item of it.
use mathlib.Core.Path.{◌≡◌, refl, sym, ap, ◌∙◌}
use Prim.Native.Nat.{ℕ}
use mathlib.Core.List.{List, [], ◌∷◌, map}
use mathlib.Core.Logic.{◌⊎◌}
use lib.ListN.{get_or}
use lib.Ieee.{Float, nan, binary64, add, mul}
use Rattle.numbers.specs.Real.{nought, sum_from, sum}
use Rattle.distance_theory.specs.Couplings.{Share, weighed, expected, shares_of}
use Rattle.distance_theory.proofs.Held.{no_shares}

-- what is still to come, places ps and masses ms, added to x is the sum of all
pub record Adding (v : List Float) (P : List ℕ) (M : List Float) (x : Float) (ps : List ℕ) (ms : List Float) : Type 0 where
  pub same : sum_from x (map (weighed v) (shares_of ps ms)) ≡ expected v (shares_of P M)

module _ {v : List Float} {P : List ℕ} {M : List Float} where
  pub adding_starts : {ps : List ℕ} {ms : List Float} → ps ≡ P → ms ≡ M → Adding v P M nought ps ms
  unfolding expected sum
  adding_starts e f = rw (e, f) (record { same = refl })

  module _ {x : Float} {ps : List ℕ} {ms : List Float} (I : Adding v P M x ps ms) where
    pub adding_on : {p : ℕ} {m y : Float} {ps' : List ℕ} {ms' : List Float} → ps ≡ p ∷ ps' → ms ≡ m ∷ ms' → y ≡ get_or v p nan → Adding v P M (add binary64 x (mul binary64 m y)) ps' ms'
    unfolding shares_of sum_from
    adding_on e f h = let J = rw (e, f) at I in rw h (record { same = J.same })

    pub adding_ends : (ps ≡ []) ⊎ (ms ≡ []) → x ≡ expected v (shares_of P M)
    unfolding sum_from shares_of
    adding_ends h = ap (λ (l : List Share). sum_from x (map (weighed v) l)) (sym (no_shares ps ms h)) ∙ I.same
