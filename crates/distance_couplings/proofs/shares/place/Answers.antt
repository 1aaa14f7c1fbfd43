-- A place is at most 4,096.
use mathlib.Core.Path.{◌≡◌, ap, ◌∙◌}
use Prim.Native.Nat.{ℕ}
use native.Mathlib.Omega.{arith}
use mathlib.Core.List.{List}
use lib.ListN.{length}
use Rattle.std.specs.Prelude.{Option, unwrap_or}
use Rattle.distance_theory.specs.Pairs.{Pair, pair}
use Rattle.distance_theory.proofs.Index.{look_up, looked, look_few, number_looked}
use Rattle.distance_couplings.proofs.shares.place.Goals as goal

-- by the number that is none
placed : (l : List ℕ) (p : Pair) (o : Option ℕ) (n : ℕ) → n ≡ unwrap_or o (length l) → o ≡ looked l p → n ≡ look_up l p
placed l p o n e f = e ∙ ap (λ (z : Option ℕ). unwrap_or z (length l)) f ∙ number_looked l p

pub overflow_cast-result : goal.overflow_cast-result
overflow_cast-result c = let e = placed c.args.codes.now (pair c.args.x c.args.y) _ _ c.unwrap_or.ensures c.place_of.ensures in let h = look_few c.args.codes.now (pair c.args.x c.args.y) 4096 c.requires (omega arith) in record { fits = omega arith }

pub returns : goal.returns
returns c = placed c.args.codes.now (pair c.args.x c.args.y) _ _ c.unwrap_or.ensures c.place_of.ensures
