-- Words of private contracts: the links of `transport` as they are written into rows of heads, capacities and costs, two places each.
use mathlib.Core.Path.{◌≡◌}
use Prim.Native.Nat.{ℕ, ◌+◌, ◌*◌, ◌≤◌}
use mathlib.Core.List.{List}
use lib.ListN.{length, get_or, set}
use lib.Ieee.{Float, nan, neg}
use Rattle.numbers.specs.Real.{nought}
use Rattle.numbers.proofs.Over.{over}
use Rattle.transport_theory.specs.Links.{Link, links, heads, caps, prices}

-- the k-th of the links
abbrev pub link_at : List Link → ℕ → Link
link_at ls k = get_or ls k (record { from = 0; to = 0; cap = nan; cost = nan })

-- room for two places at e
pub record Space (h : List ℕ) (c p : List Float) (e : ℕ) : Type 0 where
  pub heads_room : e + 2 ≤ length h
  pub caps_room : e + 2 ≤ length c
  pub prices_room : e + 2 ≤ length p
  pub small : e + 2 ≤ 2176

-- a link stands at e, and its reverse after it
pub record Put (l : Link) (h : List ℕ) (c p : List Float) (e : ℕ) (h' : List ℕ) (c' p' : List Float) : Type 0 where
  pub heads_is : h' ≡ set (set h e l.to) (e + 1) l.from
  pub caps_is : c' ≡ set (set c e l.cap) (e + 1) nought
  pub prices_is : p' ≡ set (set p e l.cost) (e + 1) (neg l.cost)

-- masses, costs and rows of which the links can be written
pub record Writable (a b costs : List Float) (h : List ℕ) (c p : List Float) : Type 0 where
  pub few_a : length a ≤ 32
  pub few_b : length b ≤ 32
  pub enough : length a * length b ≤ length costs
  pub heads_room : length (links a b costs) + length (links a b costs) ≤ length h
  pub caps_room : length (links a b costs) + length (links a b costs) ≤ length c
  pub prices_room : length (links a b costs) + length (links a b costs) ≤ length p

-- the first k links stand over the front of three rows
pub record Wrote (ls : List Link) (h₀ : List ℕ) (c₀ p₀ : List Float) (k : ℕ) (h : List ℕ) (c p : List Float) : Type 0 where
  pub upto : k ≤ length ls
  pub heads_is : h ≡ over (heads ls) (k + k) h₀
  pub caps_is : c ≡ over (caps ls) (k + k) c₀
  pub prices_is : p ≡ over (prices ls) (k + k) p₀
