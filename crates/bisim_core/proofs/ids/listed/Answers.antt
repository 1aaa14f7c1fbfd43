-- A fold by 'or' of what each number is.
use Rattle.std.proofs.Common.{◌≡◌, rules, refl, sym, ◌∙◌, ℕ, suc, Bool, true, false, List, [], ◌∷◌, length, eqb, ltb, arith}
use Prim.Native.Nat.compare
use borrow.Author.Tests.{tests, lt-ltb}
use Rattle.std.specs.Prelude.{◌||◌, fold}
use Rattle.std.proofs.lemmas.Iterator.{YieldsList-from_slice}
use Rattle.std.proofs.lemmas.Iterator.Consumers.{fold_from_yields_List}
use Rattle.numbers.specs.Search.{seek, here}
use Rattle.bisim_core.specs.Ids.{listed}
use Rattle.bisim_core.proofs.ids.listed.Goals as goal

folded : (x : ℕ) (b : Bool) (l : List ℕ) → fold (λ a y. a || eqb y x) b l ≡ (b || listed x l)
unfolding seek
folded x true [] = refl
folded x false [] = refl
folded x b (y ∷ l) = folded x (b || eqb y x) l ∙ step b (eqb y x)
  where
    step : (b e : Bool) → ((b || e) || listed x l) ≡ (b || ltb (here e (seek x l)) (length (y ∷ l)))
    step true true = refl
    step true false = refl
    step false true = sym (lt-ltb 0 (suc (length l)) (omega arith))
    step false false = rw (compare.suc-suc (suc (seek x l)) (length l))

pub returns : goal.returns
returns c = fold_from_yields_List _ (λ a y. a || eqb y c.args.x) _ _ c.fold.ensures.ran (YieldsList-from_slice c.args.labels.now cc) (λ a x b q k. search (rules, tests)) ∙ folded c.args.x false c.args.labels.now
