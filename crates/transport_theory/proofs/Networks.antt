-- The network of `transport`: how long its parts are, and that its links join its nodes.
use mathlib.Core.Path.{◌≡◌, refl, sym, ap}
use Prim.Native.Nat.{ℕ, zero, suc, ◌≤◌, ◌<◌, ◌+◌, ◌*◌, ◌/◌, ◌%◌}
use mathlib.Core.Logic.{◌⊎◌, inl, inr}
use mathlib.Core.List.{List, [], ◌∷◌, ◌++◌}
use native.Mathlib.Omega.{arith}
use native.Mathlib.Nat.{not-suc-le-zero, div-lt_iff_lt-mul, mod-lt, mul-le-mul}
use lib.Dec.{lit<}
use lib.ListN.{length, get_or, length-append, length-take}
use lib.Ieee.{Float}
use Rattle.numbers.proofs.Bools.{eq_or_ne}
use Rattle.flow_theory.specs.Network.{rev, nodes, head, node_lists}
use Rattle.flow_theory.specs.Levels.{unset}
use Rattle.flow_theory.proofs.Links.{WellFormed}
use Rattle.flow_theory.proofs.Outs.{network_nodes}
use Rattle.flow_theory.proofs.Theorem.{made}
use Rattle.transport_theory.specs.Links.{Link, supplies, demands, crossings, cells, links, heads, caps, prices, roads}

-- a cell is in a plan of some columns
pub columns_some : (m n k : ℕ) → k < m * n → 0 < n
columns_some m n k h = pick n h (eq_or_ne n 0)
  where
    pick : (n : ℕ) → k < m * n → (n ≡ 0) ⊎ (n ≡ 0 → ⊥) → 0 < n
    pick n h (inl z) = absurd (let q : m * n ≡ m * 0 = ap (λ (x : ℕ). m * x) z in omega arith)
    pick n h (inr z) = omega arith

-- ---- lengths

pub supplies_length : (s i : ℕ) (a : List Float) → length (supplies s i a) ≡ length a
unfolding supplies
supplies_length s i [] = refl
supplies_length s i (x ∷ a) = ap suc (supplies_length s (suc i) a)

pub demands_length : (s j : ℕ) (b : List Float) → length (demands s j b) ≡ length b
unfolding demands
demands_length s j [] = refl
demands_length s j (x ∷ b) = ap suc (demands_length s (suc j) b)

pub crossings_length : (m n k : ℕ) (cs : List Float) → length (crossings m n k cs) ≡ length cs
unfolding crossings
crossings_length m n k [] = refl
crossings_length m n k (c ∷ cs) = ap suc (crossings_length m n (suc k) cs)

-- with all costs given: m + n + m × n added links
pub links_length : (a b cost : List Float) → length a * length b ≤ length cost → length (links a b cost) ≡ length a + (length b + length a * length b)
unfolding links
links_length a b cost h =
    let m = length a in let n = length b in
    let xs = supplies (m + n) 0 a in let ys = demands (suc (m + n)) m b in let zs = crossings m n 0 (cells m n cost) in
    let p = length-append xs (ys ++ zs) in let q = length-append ys zs in
    let x = supplies_length (m + n) 0 a in let y = demands_length (suc (m + n)) m b in let z = crossings_length m n 0 (cells m n cost) in
    let t = length-take (m * n) cost in omega arith

pub heads_length : (ls : List Link) → length (heads ls) ≡ length ls + length ls
unfolding heads
heads_length [] = refl
heads_length (l ∷ ls) = let h = heads_length ls in omega arith

pub caps_length : (ls : List Link) → length (caps ls) ≡ length ls + length ls
unfolding caps
caps_length [] = refl
caps_length (l ∷ ls) = let h = caps_length ls in omega arith

pub prices_length : (ls : List Link) → length (prices ls) ≡ length ls + length ls
unfolding prices
prices_length [] = refl
prices_length (l ∷ ls) = let h = prices_length ls in omega arith

-- ---- links join nodes

abbrev pub Inside : ℕ → List Link → Type 0
Inside n [] = Unit {0}
Inside n (l ∷ ls) = (l.from < n) × (l.to < n) × Inside n ls

inside_append : (n : ℕ) (xs ys : List Link) → Inside n xs → Inside n ys → Inside n (xs ++ ys)
inside_append n [] ys p q = q
inside_append n (x ∷ xs) ys p q = (p.0, p.1, inside_append n xs ys p.2 q)

supplies_inside : (n s i : ℕ) (a : List Float) → s < n → i + length a ≤ n → Inside n (supplies s i a)
unfolding supplies
supplies_inside n s i [] h l = tt
supplies_inside n s i (x ∷ a) h l = (h, omega arith, supplies_inside n s (suc i) a h (omega arith))

demands_inside : (n s j : ℕ) (b : List Float) → s < n → j + length b ≤ n → Inside n (demands s j b)
unfolding demands
demands_inside n s j [] h l = tt
demands_inside n s j (x ∷ b) h l = (omega arith, h, demands_inside n s (suc j) b h (omega arith))

crossings_inside : (top m n k : ℕ) (cs : List Float) → m + n ≤ top → k + length cs ≤ m * n → Inside top (crossings m n k cs)
unfolding crossings
crossings_inside top m n k [] h l = tt
crossings_inside top m n k (c ∷ cs) h l =
    let f : k < m * n = omega arith in
    let z = columns_some m n k f in
    let r : k / n < m = (div-lt_iff_lt-mul z).1 f in
    let q : k % n < n = mod-lt k z in
    (omega arith, omega arith, crossings_inside top m n (suc k) cs h (omega arith))

pub links_inside : (a b cost : List Float) → Inside (length a + length b + 2) (links a b cost)
unfolding links
links_inside a b cost =
    let m = length a in let n = length b in
    inside_append (m + n + 2) (supplies (m + n) 0 a) (demands (suc (m + n)) m b ++ crossings m n 0 (cells m n cost))
    (supplies_inside (m + n + 2) (m + n) 0 a (omega arith) (omega arith))
    (inside_append (m + n + 2) (demands (suc (m + n)) m b) (crossings m n 0 (cells m n cost))
    (demands_inside (m + n + 2) (suc (m + n)) m b (omega arith) (omega arith))
    (crossings_inside (m + n + 2) m n 0 (cells m n cost) (omega arith) (let t = length-take (m * n) cost in omega arith)))

pub heads_inside : (n : ℕ) (ls : List Link) → Inside n ls → (e : ℕ) → e < length (heads ls) → get_or (heads ls) e 0 < n
unfolding heads
heads_inside n [] p e h = absurd (not-suc-le-zero h)
heads_inside n (l ∷ ls) p zero h = p.1
heads_inside n (l ∷ ls) p (suc zero) h = p.0
heads_inside n (l ∷ ls) p (suc (suc e)) h = heads_inside n ls p.2 e (omega arith)

-- ---- the network of at most 32 masses on a side is well formed

pub roads_nodes : (a b cost : List Float) → nodes (roads a b cost).net ≡ length a + length b + 2
roads_nodes a b cost = network_nodes (heads (links a b cost)) (length a + length b + 2)

unset_large : 10000 < unset
unfolding unset
unset_large = lit< tt

pub roads_good : (a b cost : List Float) → length a ≤ 32 → length b ≤ 32 → WellFormed (roads a b cost).net
unfolding head
roads_good a b cost f g =
    let k = roads_nodes a b cost in let u = unset_large in
    made (roads a b cost).net (length (links a b cost)) (heads_length (links a b cost)) (omega arith)
    (λ e h. let i = heads_inside (length a + length b + 2) (links a b cost) (links_inside a b cost) e h in omega arith)
    (omega arith) (omega arith) (ap (λ (x : ℕ). node_lists (heads (links a b cost)) x (length (heads (links a b cost)))) (sym k))

-- at most 1,088 added links, so 2,176 in all
pub cells_few : (m n : ℕ) → m ≤ 32 → n ≤ 32 → m * n ≤ 1024
cells_few m n f g = let p : m * n ≤ 32 * 32 = mul-le-mul f g in omega arith

-- the reverse of cell k's link, whose capacity is the cell's mass, is one of the links
pub moved_in : (a b cost : List Float) (k : ℕ) → length a * length b ≤ length cost → k < length a * length b
    → rev (2 * (length a + length b) + 2 * k) < length (links a b cost) + length (links a b cost)
unfolding rev
moved_in a b cost k h l = let n = links_length a b cost h in omega arith
