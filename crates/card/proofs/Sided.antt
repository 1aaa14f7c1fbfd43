-- A model that stands in a store.
use mathlib.Core.Path.{◌≡◌}
use mathlib.Core.List.{List}
use Prim.Native.Nat.{ℕ}
use lib.Ieee.{Float}
use Rattle.bisim_core.specs.Data.{Columns}
use Rattle.bisim_core.specs.declared.wlts.Shape.{Shape}
use Rattle.card_relation.specs.Relating.{relation_at}

-- the relation of two of them, by their shapes and what is in the stores
pub relation_stands : {S S' T T' : Shape} {M M' N N' : Columns} (cl cr : List ℕ) (ε ρ : Float) → S' ≡ S → M' ≡ M → T' ≡ T → N' ≡ N → relation_at S' M' T' N' cl cr ε ρ ≡ relation_at S M T N cl cr ε ρ
relation_stands cl cr ε ρ p q r t = cc
