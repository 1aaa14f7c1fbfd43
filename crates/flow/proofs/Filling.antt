-- A network filled from rows: when the rows fit, and what is left of them.
use mathlib.Core.Path.{◌≡◌, refl, sym, ap, ap₂, ◌∙◌}
use Prim.Native.Nat.{ℕ, zero, suc, ◌≤◌}
use native.Mathlib.Nat.{le_refl}
use mathlib.Core.Bool.{Bool, true, false, ◌&&◌, cond}
use mathlib.Core.List.{List}
use native.Mathlib.Omega.{arith}
use lib.Dec.{leb, leb→le}
use lib.ListN.{length, take}
use lib.Seq.{length-take-le, get_or-take, take-length}
use lib.Ieee.{Float, nan}
use borrow.Author.Tests.{le-leb}
use Rattle.numbers.specs.Lists.{over}
use Rattle.numbers.proofs.Bools.{t_of, and_t}
use Rattle.flow_theory.specs.Rows.{starts_of, list_of}
use Rattle.flow.specs.declared.network.FlowNetwork.{FlowNetwork}
use Rattle.flow.specs.declared.network.Link.{Link}
use Rattle.flow.specs.Filled.{laid, rows_fit, relisted_if, filled, filled_if, flow_rows_if, flow_rows}
use Rattle.flow_check.specs.Refusal.{refused_unless}
use Rattle.flow.specs.Network.{Flown, flown, flow_in}
use Rattle.std.specs.Prelude.{Err}

module _ (H : List ℕ) (caps costs n nodes : ℕ) where
  -- the test of `node_lists` is the one of the rows
  tests : (a b d e x : Bool) → (a ≡ true → e ≡ true) → ((a && (b && (d && (true && (true && b))))) && (e && x)) ≡ (a && (b && (d && x)))
  tests true true true e x h = ap (λ (y : Bool). y && x) (h refl)
  tests true true false e x h = refl
  tests true false d e x h = refl
  tests false b d e x h = refl

  pub fit_rows : rows_fit H caps costs n nodes ≡ true → (n ≤ 2176) × (n ≤ length H) × (n ≤ caps)
  fit_rows e =
      let (a, e₁) = and_t (leb n (length H)) _ e in
      let (b, e₂) = and_t (leb n caps) _ e₁ in
      let (_, e₃) = and_t (leb n costs) _ e₂ in
      let (_, e₄) = and_t (leb nodes 66) _ e₃ in
      let (f, _) = and_t (leb n 2176) _ e₄ in
      (leb→le n 2176 (t_of f), leb→le n (length H) (t_of a), leb→le n caps (t_of b))

  -- and a network of n links fits them
  pub fit_network : rows_fit H caps costs n nodes ≡ true → (N : FlowNetwork) → N.count ≡ n → (N.count ≤ 2176) × (N.count ≤ length H) × (N.count ≤ caps) × (N.count ≤ costs)
  fit_network e N k =
      let (a, b, d) = fit_rows e in
      let (_, e₁) = and_t (leb n (length H)) _ e in
      let (_, e₂) = and_t (leb n caps) _ e₁ in
      let (f, _) = and_t (leb n costs) _ e₂ in
      let p = leb→le n costs (t_of f) in
      (omega arith, omega arith, omega arith, omega arith)

-- rows that are cut to the places in use make the same network
laid_cut : (ls : List Link) (H : List ℕ) (c : List Float) (n m : ℕ) → m ≤ n → laid ls (take n H) (take n c) m ≡ laid ls H c m
unfolding laid
laid_cut ls H c n zero h = refl
laid_cut ls H c n (suc m) h = rw (laid_cut ls H c n m (omega arith), get_or-take n H m 0 (omega arith), get_or-take n c m nan (omega arith)) refl

module _ (N : FlowNetwork) (H : List ℕ) (c p : List Float) (n nodes : ℕ) (in-heads : n ≤ length H) (in-caps : n ≤ length c) (in-costs : n ≤ length p) where
  size : length (take n H) ≡ n
  size = length-take-le n H in-heads

  again : take (length (take n H)) (take n H) ≡ take n H
  again = take-length (take n H)

  pub fit_cut : rows_fit (take n H) (length (take n H)) (length (take n H)) (length (take n H)) nodes ≡ rows_fit H (length c) (length p) n nodes
  fit_cut = rw (again, le-leb (length (take n H)) (length (take n H)) (le_refl (length (take n H))), size, le-leb n (length H) in-heads, le-leb n (length c) in-caps, le-leb n (length p) in-costs) refl

  pub filled_cut : filled N (take n H) (take n c) (length (take n H)) nodes ≡ filled N H c n nodes
  filled_cut = rw (again, size, laid_cut N.links H c n n (le_refl n)) refl

  -- the run through the whole rows, and a refusal, as the parts in use have them
  pub run_cut : (s t : ℕ) (F : Flown) (M : FlowNetwork) → rows_fit (take n H) (length (take n H)) (length (take n H)) (length (take n H)) nodes ≡ true
      → M ≡ filled_if (rows_fit (take n H) (length (take n H)) (length (take n H)) (length (take n H)) nodes) N (take n H) (take n c) (length (take n H)) nodes → F ≡ flow_in M H c p s t → F ≡ flow_rows N H c p n nodes s t
  run_cut s t F M b m f =
      f ∙ ap (λ (x : FlowNetwork). flow_in x H c p s t) (m ∙ ap (λ (x : Bool). filled_if x N (take n H) (take n c) (length (take n H)) nodes) b ∙ filled_cut)
      ∙ sym (ap (λ (x : Bool). flow_rows_if x N H c p n nodes s t) (sym fit_cut ∙ b))

  pub refused_cut : (s t : ℕ) (M : FlowNetwork) → rows_fit (take n H) (length (take n H)) (length (take n H)) (length (take n H)) nodes ≡ false
      → M ≡ filled_if (rows_fit (take n H) (length (take n H)) (length (take n H)) (length (take n H)) nodes) N (take n H) (take n c) (length (take n H)) nodes → flown (Err 15) M H c p ≡ flow_rows N H c p n nodes s t
  refused_cut s t M b m =
      ap (λ (x : FlowNetwork). flown (Err 15) x H c p) (m ∙ ap (λ (x : Bool). filled_if x N (take n H) (take n c) (length (take n H)) nodes) b)
      ∙ sym (ap (λ (x : Bool). flow_rows_if x N H c p n nodes s t) (sym fit_cut ∙ b))

-- the node lists that were lent, back in the network
pub relists : (r : Bool) (N : FlowNetwork) (H : List ℕ) (nodes : ℕ) (st l : List ℕ) → st ≡ cond r (over (starts_of H nodes) N.starts) N.starts → l ≡ cond r (over (list_of H nodes) N.list) N.list
    → record { links = N.links; count = N.count; nodes = N.nodes; starts = st; list = l } ≡ relisted_if r N H nodes
relists true N H nodes st l p q = ap₂ (λ (x y : List ℕ). record { links = N.links; count = N.count; nodes = N.nodes; starts = x; list = y }) p q
relists false N H nodes st l p q = ap₂ (λ (x y : List ℕ). record { links = N.links; count = N.count; nodes = N.nodes; starts = x; list = y }) p q

-- whether rows fit, by the refusal's number
pub fits_of : (b : Bool) → 0 ≡ refused_unless b → b ≡ true
fits_of true e = refl
fits_of false e = absurd (omega arith)

pub unfit_of : (b : Bool) → 15 ≡ refused_unless b → b ≡ false
unfit_of true e = absurd (omega arith)
unfit_of false e = refl
