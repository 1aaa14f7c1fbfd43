-- Tests of several lengths at once, as a row of tests.
use mathlib.Core.Path.{◌≡◌, refl, ap}
use mathlib.Core.Bool.{Bool, true, false, ◌&&◌}
use mathlib.Core.List.{List, [], ◌∷◌}
use Rattle.numbers.specs.Lists.{all}

and_end : (b : Bool) → (b && true) ≡ b
and_end true = refl
and_end false = refl

pub all_one : {A : Type 0} (t : A → Bool) (a : A) → all t (a ∷ []) ≡ t a
unfolding all
all_one t a = and_end (t a)

pub all_more : {A : Type 0} (t : A → Bool) (a : A) (l : List A) (b : Bool) → all t l ≡ b → all t (a ∷ l) ≡ (t a && b)
unfolding all
all_more t a l b e = ap (λ (x : Bool). t a && x) e
