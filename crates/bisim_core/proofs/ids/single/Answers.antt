use Rattle.std.proofs.Common.{◌≡◌, rules, refl, sym, ◌∙◌, ℕ, zero, suc, ◌<◌, Bool, true, false, List, [], ◌∷◌, length, get_or, take, not, eqb, ltb, arith}
use Prim.Native.Nat.compare
use borrow.Author.Tests.{tests, eq-eqb, lt-ltb, ne_eqb}
use Rattle.std.proofs.lemmas.Iterator.{YieldsList-from_range}
use Rattle.std.proofs.lemmas.Iterator.Search.{all_from_yields_List}
use Rattle.numbers.specs.Search.{seek, here}
use Rattle.numbers.proofs.Alls.{every_same}
use Rattle.numbers.proofs.Loops.{every_of_range}
use Rattle.numbers.proofs.Seeks.{seek_here}
use Rattle.bisim_core.specs.Ids.{listed}
use Rattle.bisim_core.proofs.ids.single.Goals as goal

-- what stands at i is found there, or among those before it
found_at : (x i : ℕ) (l : List ℕ) → i < length l → get_or l i 0 ≡ x → not (listed x (take i l)) ≡ eqb (seek x l) i
unfolding seek
found_at x i [] h e = absurd (omega arith)
found_at x zero (y ∷ l) h e = sym (eq-eqb _ _ (seek_here x y l e))
found_at x (suc i) (y ∷ l) h e = step (eqb y x) (found_at x i l (omega arith) e)
  where
    step : (b : Bool) → not (listed x (take i l)) ≡ eqb (seek x l) i → not (ltb (here b (seek x (take i l))) (length (take (suc i) (y ∷ l)))) ≡ eqb (here b (seek x l)) (suc i)
    step true f = rw (lt-ltb 0 (suc (length (take i l))) (omega arith), ne_eqb 0 (suc i) (λ q. omega arith))
    step false f = rw (compare.suc-suc (suc (seek x (take i l))) (length (take i l)), compare.suc-suc (seek x l) i) f

pub returns : goal.returns
returns c =
    let l = c.args.labels.now in
    all_from_yields_List (λ i. not (listed (get_or l i 0) (take i l))) _ _ _ c.all.ensures.ran (YieldsList-from_range 0 (length l) (length l) refl (omega arith)) (λ x b q k. search (rules, tests))
    ∙ every_of_range _ _ ∙ every_same _ _ (length l) (λ i h. found_at _ i l h refl)
