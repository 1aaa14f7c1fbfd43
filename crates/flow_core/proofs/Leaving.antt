-- The links that leave a node, which `Network::leaving` gives, are those of the node in the network that a run sees.
use mathlib.Core.Path.{◌≡◌, sym, subst, subst⁻¹, ◌∙◌}
use Prim.Native.Nat.{ℕ, ◌+◌, ◌≤◌, ◌<◌}
use native.Mathlib.Omega.{arith}
use native.Mathlib.Numerals.{add-one}
use mathlib.Core.List.{List}
use lib.ListN.{length, get_or, set}
use lib.Seq.{slice}
use lib.Ieee.{Float}
use Rattle.flow_check.specs.declared.Network.{Network}
use Rattle.flow_check.specs.Lent.{leaving}
use Rattle.flow_check.proofs.Leaving.{leaving_is}
use Rattle.flow_theory.specs.Network.{Net, nodes, out}
use Rattle.flow_theory.proofs.LevelRows.{InRows, Scannable, Scanned, Searchable}
use Rattle.flow_theory.proofs.Searching.{Outer, node_in, scannable, outer_again}
use Rattle.flow_theory.proofs.PathRows.{Walkable}
use Rattle.flow_theory.proofs.Scanning.{part_is}

pub leaving_out : (M : Network) {N : Net} {H : List ℕ} {s u : ℕ} → InRows N H M.list.now M.starts.now s → u < nodes N → leaving M u ≡ out N u
leaving_out M {N} {H} {s} {u} D h =
    let p = D.places in
    let o : (get_or M.starts.now u 0 ≤ get_or M.starts.now (u + 1) 0) × (get_or M.starts.now (u + 1) 0 ≤ length M.list.now) = rw (add-one u) (D.ordered u h) in
    let r : out N u ≡ slice (get_or M.starts.now u 0) (get_or M.starts.now (u + 1) 0) M.list.now = rw (add-one u) (D.rows u h) in
    leaving_is M u (omega arith) o.0 o.1 ∙ part_is M.list.now o.0 o.1 ∙ sym r

-- the search of the levels, one node of the queue on
module _ (M : Network) {H : List ℕ} {c : List Float} {s : ℕ} {L q : List ℕ} (R : Searchable H M.list.now M.starts.now c s L q) {L₁ q₁ : List ℕ} {first end : ℕ}
    (O : Outer H M.list.now M.starts.now c s (set L s 0) (set q 0 s) L₁ q₁ first end) (more : first < end) where
  abbrev u : ℕ
  u = get_or q₁ first 0

  node_out : leaving M u ≡ out R.net u
  node_out = leaving_out M R.laid (node_in R O more)

  pub node_scannable : Scannable H (leaving M u) c u L₁ q₁ end
  node_scannable = subst⁻¹ (λ (r : List ℕ). Scannable H r c u L₁ q₁ end) node_out (scannable R O more)

  pub node_scanned : {L₂ q₂ : List ℕ} {end' : ℕ} → Scanned H (leaving M u) c u L₁ q₁ L₂ q₂ end end' → Outer H M.list.now M.starts.now c s (set L s 0) (set q 0 s) L₂ q₂ (first + 1) end'
  node_scanned {L₂} {q₂} {end'} S = outer_again R O more (subst (λ (r : List ℕ). Scanned H r c u L₁ q₁ L₂ q₂ end end') node_out S)

-- a path has room for as many links as there are marks
pub next_few : {N : Net} {starts list : List ℕ} {c : List Float} {L nx : List ℕ} → Walkable N starts list c L nx → length nx ≤ 66
next_few W = let p = W.laid.places in let s = W.size in omega arith
