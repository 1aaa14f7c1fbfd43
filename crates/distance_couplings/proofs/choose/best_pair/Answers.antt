-- What is answered, or no share of value 0.
use Rattle.std.proofs.Common.{ℕ, List, ◌≡◌, ◌∙◌, ap, ap₂, Option, Some, None}
use Rattle.std.specs.Prelude.{Float}
use Rattle.std.specs.Option.{UnwrapsOrElse}
use Rattle.numbers.specs.Real.{nought}
use Rattle.distance_theory.specs.declared.lent.Best.{Best}
use Rattle.distance_theory.proofs.Bests.{bested, bested_as}
use Rattle.distance_couplings.proofs.choose.best_pair.Goals as goal

or_none : (r : Option Best) {b : Best} {p : List ℕ} {m : List Float} → UnwrapsOrElse r (λ (a : Best). (a.value ≡ nought) × (a.cells ≡ 0)) b → bested b.value b.cells p m ≡ bested_as r p m
or_none (Some c) {b} {p} {m} e = ap (λ (a : Best). bested a.value a.cells p m) e
or_none None {b} {p} {m} e = let (v, n) = e in ap₂ (λ (x : Float) (k : ℕ). bested x k p m) v n

pub returns-clause-bested : goal.returns-clause-bested
returns-clause-bested c = λ h. or_none c.best_if_any.result c.unwrap_or_default.ensures ∙ c.best_if_any.ensures.bested h

pub returns-clause-none : goal.returns-clause-none
returns-clause-none c = λ h. let (r, p, m) = c.best_if_any.ensures.none h in or_none c.best_if_any.result c.unwrap_or_default.ensures ∙ (λ i. bested_as (r i) (p i) (m i))
