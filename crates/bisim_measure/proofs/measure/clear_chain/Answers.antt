-- Each list is cleared.
use mathlib.Core.Path.{◌≡◌}
use mathlib.Core.List.{List}
use Prim.Native.Nat.{ℕ}
use lib.Ieee.{Float}
use Rattle.chain_theory.specs.Columns.{chain_columns}
use Rattle.bisim_measure.proofs.measure.clear_chain.Goals as goal

equal_columns : {O O' T T' : List ℕ} {P P' W W' : List Float} → O ≡ O' → T ≡ T' → P ≡ P' → W ≡ W' → chain_columns O T P W ≡ chain_columns O' T' P' W'
equal_columns o t p w = rw (o, t, p, w)

pub returns-clause-cleared : goal.returns-clause-cleared
returns-clause-cleared c = equal_columns (c.fill.ensures.after (λ y e. e)) (c.fill-2.ensures.after (λ y e. e)) (c.fill-3.ensures.after (λ y e. e)) (c.fill-4.ensures.after (λ y e. e))
