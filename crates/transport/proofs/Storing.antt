-- Links stored from rows, and the capacities that they keep.
use mathlib.Core.Path.{◌≡◌, refl, ap, ◌∙◌}
use Prim.Native.Nat.{ℕ, zero, suc, ◌+◌, ◌≤◌, ◌<◌}
use native.Mathlib.Nat.{le_of_suc-le-suc, not-suc-le-zero}
use mathlib.Core.List.{List, [], ◌∷◌, ◌++◌}
use native.Mathlib.Omega.{arith}
use lib.ListN.{length, get_or, set, drop}
use lib.Ieee.{Float, nan}
use Rattle.numbers.specs.Lists
use Rattle.numbers.proofs.Over.{over, over_next, over_done}
use Rattle.flow.specs.declared.network.Link.{Link}
use Rattle.flow.specs.declared.network.FlowNetwork.{FlowNetwork}
use Rattle.flow.specs.Network.{with_caps, with_links}
use Rattle.flow.proofs.Packing.{past_end, caps_none}
use Rattle.transport_theory.proofs.Sending.{Sent, send}
use Rattle.transport.specs.Network.{entries, stored}

pub entries_length : (H : List ℕ) (c p : List Float) → length c ≡ length H → length p ≡ length H → length (entries H c p) ≡ length H
unfolding entries
entries_length [] c p e f = refl
entries_length (h ∷ H) [] p e f = absurd (omega arith)
entries_length (h ∷ H) (x ∷ c) [] e f = absurd (omega arith)
entries_length (h ∷ H) (x ∷ c) (y ∷ p) e f = ap suc (entries_length H c p (omega arith) (omega arith))

entry_at : (H : List ℕ) (c p : List Float) → length c ≡ length H → length p ≡ length H → (i : ℕ) → i < length H
    → record { head = get_or H i 0; cap = get_or c i nan; cost = get_or p i nan } ≡ get_or (entries H c p) i past_end
unfolding entries
entry_at [] c p e f i h = absurd (not-suc-le-zero h)
entry_at (h ∷ H) [] p e f i l = absurd (omega arith)
entry_at (h ∷ H) (x ∷ c) [] e f i l = absurd (omega arith)
entry_at (h ∷ H) (x ∷ c) (y ∷ p) e f zero l = refl
entry_at (h ∷ H) (x ∷ c) (y ∷ p) e f (suc i) l = entry_at H c p (omega arith) (omega arith) i (le_of_suc-le-suc l)

-- the network while links are stored: the first i are those of the rows
abbrev pub StoredTo : FlowNetwork → List ℕ → List Float → List Float → FlowNetwork → ℕ → Type 0
StoredTo N H c p N' i = (i ≤ length H) × (N' ≡ with_links N (over (entries H c p) i N.links))

pub store_begins : (N : FlowNetwork) (H : List ℕ) (c p : List Float) → StoredTo N H c p N 0
store_begins N H c p = (omega arith, refl)

module _ (N : FlowNetwork) (H : List ℕ) (c p : List Float) (e : length c ≡ length H) (f : length p ≡ length H) {N' : FlowNetwork} {i : ℕ} (I : StoredTo N H c p N' i) where
  pub store_on : length H ≤ length N.links → i < length H → StoredTo N H c p (with_links N' (set N'.links i (record { head = get_or H i 0; cap = get_or c i nan; cost = get_or p i nan }))) (i + 1)
  store_on few h =
      let l = entries_length H c p e f in (
        omega arith,
        ap (λ (M : FlowNetwork). with_links M (set M.links i (record { head = get_or H i 0; cap = get_or c i nan; cost = get_or p i nan }))) I.1
            ∙ ap (with_links N) (over_next (entries H c p) N.links (over (entries H c p) i N.links) i past_end _ refl (entry_at H c p e f i h) (omega arith) (omega arith)),
      )

  pub store_ends : length H ≤ i → (nodes : ℕ) → record { links = N'.links; count = length H; nodes = nodes; starts = N'.starts; list = N'.list } ≡ stored N H c p nodes
  store_ends h nodes =
      let u = I.0 in
      let l = entries_length H c p e f in
      ap (λ (M : FlowNetwork). record { links = M.links; count = length H; nodes = nodes; starts = M.starts; list = M.list })
      (I.1 ∙ ap (with_links N) (over_done (entries H c p) N.links _ i refl (omega arith)))

-- ---- the capacities that are kept

kept_before : (H : List ℕ) (c p c' : List Float) (t : List Link) → length c ≡ length H → length p ≡ length H → length c' ≡ length H → with_caps (entries H c p ++ t) c' ≡ entries H c' p ++ t
unfolding entries with_caps
kept_before [] c p [] t e f g = caps_none t
kept_before [] c p (z ∷ c') t e f g = absurd (omega arith)
kept_before (h ∷ H) [] p c' t e f g = absurd (omega arith)
kept_before (h ∷ H) (x ∷ c) [] c' t e f g = absurd (omega arith)
kept_before (h ∷ H) (x ∷ c) (y ∷ p) [] t e f g = absurd (omega arith)
kept_before (h ∷ H) (x ∷ c) (y ∷ p) (z ∷ c') t e f g = ap (λ (m : List Link). record { head = h; cap = z; cost = y } ∷ m) (kept_before H c p c' t (omega arith) (omega arith) (omega arith))

pub kept : (H : List ℕ) (c p c' : List Float) (ls : List Link) → length c ≡ length H → length p ≡ length H → length c' ≡ length H → with_caps (Lists.over (entries H c p) ls) c' ≡ Lists.over (entries H c' p) ls
kept H c p c' ls e f g =
    let k = entries_length H c p e f in
    let l = entries_length H c' p g f in
    kept_before H c p c' (drop (length (entries H c p)) ls) e f g
    ∙ ap (λ (n : ℕ). entries H c' p ++ drop n ls) (let q : length (entries H c p) ≡ length (entries H c' p) = omega arith in q)

-- the rounds on a network that links were stored in find the node lists that it had
pub sent_on : (a b : List Float) (H : List ℕ) (c p : List Float) (N : FlowNetwork) (nodes : ℕ) {M : FlowNetwork} {s : Sent} → M ≡ stored N H c p nodes → s ≡ send a b H c p M.starts M.list → s ≡ send a b H c p N.starts N.list
sent_on a b H c p N nodes E S = S ∙ ap (λ (M : FlowNetwork). send a b H c p M.starts M.list) E
