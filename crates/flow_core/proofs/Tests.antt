-- Two rows that fit a flow test: their network is accepted, and its run is the one of the definition.
use mathlib.Core.Path.{◌≡◌, refl, sym, ap, ◌∙◌}
use Prim.Native.Nat.{ℕ, suc, ◌+◌, ◌/◌}
use mathlib.Core.Bool.{Bool, true, false}
use mathlib.Core.List.{List, [], ◌∷◌}
use native.Mathlib.Omega.{arith}
use native.Mathlib.Numerals.{add-one}
use lib.ListN.{length, take}
use Rattle.std.specs.Prelude.{Err}
use lib.Ieee.{Float, le, of_bits}
use Rattle.numbers.specs.Real.{nought, greatest_weight}
use Rattle.numbers.specs.Lists.{all}
use Rattle.numbers.specs.Bits.{packed}
use Rattle.numbers.proofs.Bools.{t_of, and_t}
use Rattle.flow_theory.proofs.Accepted.{Accepted}
use Rattle.flow_theory.specs.Rows.{network}
use Rattle.flow_theory.specs.Run.{FlowRun, max_flow}
use Rattle.epsdelta_theory.specs.Jumps.{jumps_of}
use Rattle.epsdelta_theory.specs.FlowTest.{Link, links_of, heads, caps, network_between, run_between}
use Rattle.epsdelta_theory.proofs.FlowTests.{AllInRange, heads_length, between_accepted}
use Rattle.epsdelta_theory.proofs.RowReads.{jumps_length}
use Rattle.flow_links.specs.Fits.{rate_fits, fits}
use Rattle.epsdelta_theory.specs.Relation.{relation_of}
use Rattle.flow_links.proofs.LinkWrites.{links_same}
use Rattle.flow_links.proofs.Fitting.{Fit, fit, Laid}
use Rattle.flow_core.specs.Outcome.{settled}
use Rattle.flow_core.specs.Test.{flow_between}

refused : (us : List ℕ) (vs : List Float) (ts : List ℕ) (ws : List Float) (n : ℕ) → fits us vs ts ws n ≡ false → (R : List Bool) → Err 15 ≡ flow_between us vs ts ws n R
refused us vs ts ws n f R = ap (λ (b : Bool). (settled b (run_between n R (jumps_of us vs) (jumps_of ts ws)) []).answer) (sym f)

in_range : (ts : List ℕ) (ws : List Float) → all rate_fits ws ≡ true → AllInRange (jumps_of ts ws)
unfolding jumps_of all of_bits
in_range [] ws f = tt
in_range (t ∷ ts) [] f = tt
in_range (t ∷ ts) (w ∷ ws) f =
    let (a, r) = and_t (rate_fits w) (all rate_fits ws) f in
    let (b, d) = and_t (le nought w) (le w greatest_weight) a in
    ((t_of b, t_of d), in_range ts ws r)

module _ (us : List ℕ) (vs : List Float) (ts : List ℕ) (ws : List Float) (n : ℕ) (f : fits us vs ts ws n ≡ true) where
  abbrev fitting : Fit us vs ts ws n
  fitting = fit us vs ts ws n f

  pub lefts : length (jumps_of us vs) ≡ length us
  lefts = jumps_length us vs (sym fitting.left.rates)

  pub rights : length (jumps_of ts ws) ≡ length ts
  rights = jumps_length ts ws (sym fitting.right.rates)

  -- their network is accepted
  pub between : (R : List Bool) → Accepted (network_between n R (jumps_of us vs) (jumps_of ts ws)) (caps (links_of n R (jumps_of us vs) (jumps_of ts ws))) (length (links_of n R (jumps_of us vs) (jumps_of ts ws)))
  between R =
      let l = fitting.left.few in
      let m = fitting.right.few in
      let a = lefts in
      let b = rights in
      between_accepted n R (jumps_of us vs) (jumps_of ts ws) (in_range us vs fitting.left.range) (in_range ts ws fitting.right.range) (omega arith) (omega arith)

module _ {us : List ℕ} {vs : List Float} {ts : List ℕ} {ws : List Float} {n : ℕ} (store : List ℕ) {h : List ℕ} {k : ℕ} {h' : List ℕ} {c' : List Float} (L : Laid us vs ts ws n (relation_of store) h k h' c') where
  sources : length us + length ts ≡ length (jumps_of us vs) + length (jumps_of ts ws)
  sources = let a = lefts us vs ts ws n L.fitting in let b = rights us vs ts ws n L.fitting in omega arith

  -- the network of the written links is accepted
  pub written_accepted : Accepted (network (take k h') (length us + length ts + 2) (length us + length ts) (length us + length ts + 1)) (take k c') (length (take k h') / 2)
  written_accepted =
      let ls : List Link = links_of n (relation_of store) (jumps_of us vs) (jumps_of ts ws) in
      let d = heads_length ls in
      let half : length (heads ls) / 2 ≡ length ls = omega arith in
      rw (L.heads_is, L.caps_is, sources, add-one (length (jumps_of us vs) + length (jumps_of ts ws)), half) (between us vs ts ws n L.fitting (relation_of store))

  run_is : max_flow (network (take k h') (length us + length ts + 2) (length us + length ts) (length us + length ts + 1)) (take k c') ≡ run_between n (relation_of store) (jumps_of us vs) (jumps_of ts ws)
  run_is = rw (L.heads_is, L.caps_is, sources, add-one (length (jumps_of us vs) + length (jumps_of ts ws)))

  -- the run over the rows is the answer of the definition
  pub answer_is : (settled true (max_flow (network (take k h') (length us + length ts + 2) (length us + length ts) (length us + length ts + 1)) (take k c')) []).answer ≡ flow_between us vs ts ws n (relation_of store)
  answer_is = ap (λ (x : FlowRun). (settled true x []).answer) run_is ∙ ap (λ (b : Bool). (settled b (run_between n (relation_of store) (jumps_of us vs) (jumps_of ts ws)) []).answer) (sym L.fitting)

-- the bytes of a packed relation are read as that relation
pub between_packed : (us : List ℕ) (vs : List Float) (ts : List ℕ) (ws : List Float) (n : ℕ) (store : List ℕ) (R : List Bool) → store ≡ packed R → flow_between us vs ts ws n (relation_of store) ≡ flow_between us vs ts ws n R
between_packed us vs ts ws n store R z = by (fits us vs ts ws n) refl
  where
    by : (b : Bool) → fits us vs ts ws n ≡ b → flow_between us vs ts ws n (relation_of store) ≡ flow_between us vs ts ws n R
    by true f =
        let F = fit us vs ts ws n f in
        let source = length (jumps_of us vs) + length (jumps_of ts ws) in
        ap (λ (ls : List Link). (settled (fits us vs ts ws n) (max_flow (network (heads ls) (source + 2) source (suc source)) (caps ls)) []).answer) (links_same n store R z us vs ts ws F.left.rates F.right.rates)
    by false f = sym (refused us vs ts ws n f (relation_of store)) ∙ refused us vs ts ws n f R
