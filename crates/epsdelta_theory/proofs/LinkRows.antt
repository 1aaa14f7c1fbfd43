-- Words of private contracts: the links of a flow test as they are written into rows of heads and capacities, two places each.
use mathlib.Core.Path.{◌≡◌}
use Prim.Native.Nat.{ℕ, suc, ◌+◌, ◌*◌, ◌≤◌}
use mathlib.Core.Bool.{Bool}
use mathlib.Core.List.{List, [], ◌∷◌, ◌++◌}
use lib.Dec.{leb}
use lib.ListN.{length, take, drop}
use lib.Ieee.{Float}
use Rattle.numbers.specs.Bits.{bit_at}
use Rattle.epsdelta_theory.specs.FlowTest.{Link, link_if, heads, caps}

-- links ls were written from place e on, up to e'; what stood before and after is as it was
pub record Added (ls : List Link) (h : List ℕ) (c : List Float) (e : ℕ) (h' : List ℕ) (c' : List Float) (e' : ℕ) : Type 0 where
  pub count : e' ≡ e + (length ls + length ls)
  pub heads_is : take e' h' ≡ take e h ++ heads ls
  pub caps_is : take e' c' ≡ take e c ++ caps ls
  pub heads_rest : drop e' h' ≡ drop e' h
  pub caps_rest : drop e' c' ≡ drop e' c
  pub heads_size : length h' ≡ length h
  pub caps_size : length c' ≡ length c

-- room for n links from place e on, in rows for at most 1,088 added links
pub record Free (h : List ℕ) (c : List Float) (e n : ℕ) : Type 0 where
  pub heads_room : e + (n + n) ≤ length h
  pub caps_room : e + (n + n) ≤ length c
  pub small : e + (n + n) ≤ 2176

-- room for the links between a and b targets, if all are related: each link and its reverse
abbrev pub has_room : ℕ → ℕ → ℕ → Bool
has_room a b places = leb (2 * (a + b + a * b)) places

-- from the source to nodes i and on, with these rates
unfoldable pub source_row : ℕ → ℕ → List Float → List Link
source_row source i [] = []
source_row source i (w ∷ ws) = record { from = source; to = i; cap = w } ∷ source_row source (suc i) ws

-- from nodes i and on to the sink
unfoldable pub sink_row : ℕ → ℕ → List Float → List Link
sink_row sink i [] = []
sink_row sink i (w ∷ ws) = record { from = i; to = sink; cap = w } ∷ sink_row sink (suc i) ws

-- from node i to nodes k and on, where the bit of the target is set, the bits counted from b on
unfoldable pub cross_row : List ℕ → ℕ → ℕ → ℕ → List ℕ → List Link
unfolding link_if bit_at
cross_row store b i k [] = []
cross_row store b i k (t ∷ ts) = link_if (bit_at store (b + t)) i k (cross_row store b i (suc k) ts)

-- from nodes i and on, each with n bits of its own
unfoldable pub cross_rows : List ℕ → ℕ → ℕ → ℕ → List ℕ → List ℕ → List Link
unfolding cross_row
cross_rows store n i k [] ts = []
cross_rows store n i k (u ∷ us) ts = cross_row store (u * n) i k ts ++ cross_rows store n (suc i) k us ts

-- the links of a flow test: targets us with rates vs, and targets ts with rates ws
abbrev pub row_links : List ℕ → ℕ → List ℕ → List Float → List ℕ → List Float → List Link
row_links store n us vs ts ws = let a = length us in let b = length ts in source_row (a + b) 0 vs ++ (sink_row (a + b + 1) a ws ++ cross_rows store n 0 a us ts)
