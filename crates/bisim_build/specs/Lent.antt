-- How `build` ends, of a draft and a store.
use Rattle.std.specs.Prelude.{◌≡◌, Result}
use Rattle.numbers.specs.declared.refusal.Refusal.{Refusal}
use Rattle.numbers.specs.Refuse.{numbered}
use Rattle.bisim_core.specs.declared.wlts.Shape.{Shape}
use Rattle.build_theory.specs.declared.lent.Draft.{Draft}
use Rattle.build_theory.specs.declared.lent.Store.{Store}
use Rattle.build_theory.specs.Lent.{transitions_of, columns_in}
use Rattle.bisim_build.specs.Build.{ends, build}

-- the answer and the columns are those of the definition, from what the store held
abbrev pub Built : Draft → Result Shape Refusal → Store → Store → Type 0
Built D r S S' = ends (numbered r) (columns_in S') ≡ build D.states D.initial (transitions_of D) D.given (columns_in S)
