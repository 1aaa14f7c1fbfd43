-- A network filled from rows whose network is accepted passes the check; so the run on it is that of the definition, and of the flow test where the rows are its links.
use mathlib.Core.Path.{◌≡◌, refl, sym, ap, subst, ◌∙◌}
use mathlib.Core.Logic.{◌⊎◌, inl, inr}
use mathlib.Core.Bool.{Bool, true, false, ◌||◌}
use Prim.Native.Nat.{ℕ, suc, ◌+◌, ◌/◌, ◌%◌, ◌≤◌, ◌<◌}
use mathlib.Core.List.{List, []}
use native.Mathlib.Omega.{arith}
use lib.Dec.{T, ltb}
use lib.ListN.{length, get_or, take, drop, length-append}
use lib.Seq.{length-take-le}
use lib.Ieee.{Float, inf, nan, lt, le, eq, neg, of_bits}
use lib.Ieee.Bits.{is_true}
use borrow.Author.Tests.{le-leb, lt-ltb, eq-eqb}
use Rattle.numbers.specs.Real.{nought, greatest_weight}
use Rattle.numbers.specs.Lists.{over}
use Rattle.numbers.proofs.Alls.{all_of, every_of}
use Rattle.flow_theory.specs.Network.{head, left, rev}
use Rattle.flow_theory.specs.Rows.{network, starts_of, list_of}
use Rattle.flow_theory.specs.Run.{max_flow}
use Rattle.flow_theory.proofs.Accepted.{Accepted}
use Rattle.flow_theory.proofs.Outs.{network_nodes}
use Rattle.flow_theory.proofs.ListRows.{Indexable}
use Rattle.flow_theory.proofs.Enlisted.{starts_length}
use Rattle.flow_check.specs.Refusal.{cap_fits, cost_fits, pair_fits, links_fit, sizes_fit, lists_fit, leaves_finite, ends_fit}
use Rattle.flow_check.proofs.Accepting.{infinite_is}
use Rattle.flow_check.proofs.Laying.{list_length}
use Rattle.flow_core.specs.Outcome.{settled}
use Rattle.flow_core.specs.Test.{flow_between}
use Rattle.flow_core.proofs.Tests.{written_accepted, answer_is}
use Rattle.flow_links.proofs.Fitting as links
use Rattle.epsdelta_theory.specs.Relation.{relation_of}
use Rattle.flow.specs.declared.network.Link.{Link}
use Rattle.flow.specs.declared.network.FlowNetwork.{FlowNetwork}
use Rattle.flow.specs.Network.{heads_of, caps_of, costs_of, flow_if}
use Rattle.flow.specs.Filled.{laid, rows_fit, filled, flow_rows_if, flow_rows}
use Rattle.flow.proofs.Accepted.{accepts_on, ends_fit_lem, spares, same_over}
use Rattle.flow.proofs.Laid.{row_laid, heads_laid, caps_laid, cost_laid, cost_added, cost_reverse}

-- a capacity in range passes the check
in_range : (x : Float) → T (le nought x) → T (le x greatest_weight) ⊎ (x ≡ inf false) → cap_fits x ≡ true
in_range x a (inl b) = rw (is_true (le nought x) a, is_true (le x greatest_weight) b) refl
in_range x a (inr b) = rw (is_true (le nought x) a, infinite_is x b) (by (le x greatest_weight))
  where
    by : (y : Bool) → (y || true) ≡ true
    by true = refl
    by false = refl

-- costs of 0 and its negation pass it
costs_fit_lem : (x y : Float) → x ≡ nought → y ≡ neg nought → (cost_fits x ≡ true) × (eq y (neg x) ≡ true)
unfolding eq neg le lt of_bits
costs_fit_lem x y p q = (rw p refl, rw (p, q) refl)

module _ (N : FlowNetwork) (whole : length N.links ≡ 2176) (places : length N.list ≡ 2176) (H : List ℕ) (c : List Float) (n nodes s t k : ℕ) (A : Accepted (network (take n H) nodes s t) (take n c) k) (in-heads : n ≤ length H) (in-caps : n ≤ length c) where
  abbrev H' : List ℕ
  H' = take n H

  abbrev c'' : List Float
  c'' = take n c

  abbrev p' : List Float
  p' = costs_of n (laid N.links H c n)

  heads_size : length H' ≡ n
  heads_size = length-take-le n H in-heads

  caps_size : length c'' ≡ n
  caps_size = length-take-le n c in-caps

  few : nodes ≤ 66
  few = subst (λ (x : ℕ). x ≤ 66) (network_nodes H' nodes) A.few

  small : n ≤ 2176
  small = let a = A.small in let b = A.pairs in let d = heads_size in omega arith

  there : n ≤ length N.links
  there = let a = small in omega arith

  head_in : (e : ℕ) → e < n → get_or H' e 0 < nodes
  unfolding head
  head_in e h = let d = heads_size in subst (λ (x : ℕ). get_or H' e 0 < x) (network_nodes H' nodes) (A.heads_in e (omega arith))

  ready : Indexable H' nodes
  ready = let d = heads_size in let a = small in record { added = k; pairs = A.pairs; small = omega arith; heads_in = λ e h. head_in e (omega arith) }

  cap_fits_lem : (e : ℕ) → e < n → cap_fits (get_or c'' e nan) ≡ true
  unfolding left
  cap_fits_lem e h = let d = heads_size in let (a, b) = A.range e (omega arith) in in_range (get_or c'' e nan) a b

  pair : (j : ℕ) → j < length H' / 2 → pair_fits H' c'' p' nodes j ≡ true
  pair j h =
      let d = heads_size in
      let m = A.pairs in
      let (x, y) = costs_fit_lem (get_or p' (j + j) nan) (get_or p' (j + j + 1) nan) (cost_laid N.links H c n there (j + j) (omega arith) ∙ cost_added j) (cost_laid N.links H c n there (j + j + 1) (omega arith) ∙ cost_reverse j) in
      rw (lt-ltb (get_or H' (j + j + 1) 0) nodes (head_in (j + j + 1) (omega arith)), lt-ltb (get_or H' (j + j) 0) nodes (head_in (j + j) (omega arith)), cap_fits_lem (j + j) (omega arith), cap_fits_lem (j + j + 1) (omega arith), x, y) refl

  sizes_fit_lem : sizes_fit nodes (length H') (length c'') (length p') (length (over (list_of H' nodes) N.list)) ≡ true
  sizes_fit_lem =
      let m = A.pairs in
      let d = heads_size in
      let x = list_length ready in
      let y = length-append (list_of H' nodes) (drop (length (list_of H' nodes)) N.list) in
      rw (
        le-leb nodes 66 few,
        le-leb (length H') 2176 ready.small,
        eq-eqb (length H' % 2) 0 (omega arith),
        eq-eqb (length c'') (length H') (caps_size ∙ sym heads_size),
        eq-eqb (length p') (length H') (row_laid N.links H c n there (λ (l : Link). l.cost) ∙ sym heads_size),
      ) (le-leb (length H') (length (over (list_of H' nodes) N.list)) (omega (arith, x, y)))

  lists_fit_lem : lists_fit H' nodes (over (starts_of H' nodes) N.starts) (over (list_of H' nodes) N.list) ≡ true
  lists_fit_lem = rw (same_over (suc nodes) (starts_of H' nodes) N.starts (starts_length ready), same_over (length H') (list_of H' nodes) N.list (list_length ready)) refl

  links_fit_lem : links_fit H' c'' p' nodes ≡ true
  links_fit_lem = every_of (pair_fits H' c'' p' nodes) (length H' / 2) pair

  both_ends : ends_fit H' c'' nodes s t ≡ true
  unfolding head left
  both_ends =
      let v = network_nodes H' nodes in
      let d = heads_size in
      ends_fit_lem H' c'' nodes s t (subst (λ (x : ℕ). s < x) v A.source_in) (subst (λ (x : ℕ). t < x) v A.sink_in) A.ends
      (every_of (λ e. leaves_finite s (get_or H' (rev e) 0) (get_or c'' e nan)) (length H') (λ e h. spares (get_or H' (rev e) 0) s (get_or c'' e nan) (A.finite e h)))

  pub filled_accepted : accepts_on (filled N H c n nodes) s t ≡ true
  filled_accepted = rw (heads_laid N.links H c n there in-heads, caps_laid N.links H c n there in-caps, sizes_fit_lem, links_fit_lem, lists_fit_lem) both_ends

  pub rows_fit_lem : (p : List Float) → n ≤ length p → rows_fit H (length c) (length p) n nodes ≡ true
  rows_fit_lem p in-costs =
      let m = A.pairs in
      let d = heads_size in
      rw (le-leb n (length H) in-heads, le-leb n (length c) in-caps, le-leb n (length p) in-costs, le-leb nodes 66 few, le-leb n 2176 small, eq-eqb (n % 2) 0 (omega arith))
      (all_of (λ v. ltb v nodes) H' 0 (λ j h. lt-ltb (get_or H' j 0) nodes (head_in j (omega arith))))

  -- the run on the filled network is the definition's
  pub rows_flow : (p : List Float) → n ≤ length p → (flow_rows N H c p n nodes s t).answer ≡ (settled true (max_flow (network H' nodes s t) c'') []).answer
  rows_flow p in-costs =
      let F = filled N H c n nodes in
      let L = laid N.links H c n in
      ap (λ (b : Bool). (flow_rows_if b N H c p n nodes s t).answer) (rows_fit_lem p in-costs)
      ∙ ap (λ (b : Bool). (flow_if b F s t).answer) (le-leb n 2176 small)
      ∙ ap (λ (b : Bool). (settled b (max_flow (network (heads_of n L) nodes s t) (caps_of n L)) (caps_of n L)).answer) filled_accepted
      ∙ ap (λ (x : List ℕ). (settled true (max_flow (network x nodes s t) (caps_of n L)) []).answer) (heads_laid N.links H c n there in-heads)
      ∙ ap (λ (x : List Float). (settled true (max_flow (network H' nodes s t) x) []).answer) (caps_laid N.links H c n there in-caps)

-- where the rows are the links of a flow test, its answer is the test's
pub rows_between : {us : List ℕ} {vs : List Float} {ts : List ℕ} {ws : List Float} {m : ℕ} (store : List ℕ) {h : List ℕ} {k : ℕ} {h' : List ℕ} {c' : List Float} → links.Laid us vs ts ws m (relation_of store) h k h' c'
    → (N : FlowNetwork) → length N.links ≡ 2176 → length N.list ≡ 2176 → (p : List Float) → k ≤ length p
    → (flow_rows N h' c' p k (length us + length ts + 2) (length us + length ts) (length us + length ts + 1)).answer ≡ flow_between us vs ts ws m (relation_of store)
rows_between {us} {vs} {ts} {ws} {m} store {h} {k} {h'} {c'} L N whole places p in-costs =
    rows_flow N whole places h' c' k (length us + length ts + 2) (length us + length ts) (length us + length ts + 1) (length (take k h') / 2) (written_accepted store L) L.heads_in L.caps_in p in-costs
    ∙ answer_is store L
