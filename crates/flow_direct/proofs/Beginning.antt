-- The flow test of two rows that fit: what its start is, and what an answer says of it.
use mathlib.Core.Path.{◌≡◌, refl, sym, ap, ◌∙◌}
use Prim.Native.Nat.{ℕ, ◌+◌, ◌*◌}
use mathlib.Core.Bool.{Bool, true, false, not, ◌&&◌, true≢false, beq}
use mathlib.Core.List.{List, []}
use lib.Dec.{leb}
use lib.Ieee.{Float, le}
use lib.ListN.{get_or}
use Rattle.std.specs.Prelude.{Option, Some, None}
use Rattle.std.specs.Option.{MatchOption, option_eq}
use Rattle.numbers.specs.Bits.{bit_at}
use Rattle.numbers.proofs.Bools.{and_t, and_second}
use Rattle.flow_theory.specs.Run.{FlowRun}
use Rattle.epsdelta_theory.specs.Jumps.{Jump, jumps_of}
use Rattle.epsdelta_theory.specs.Relation.{relation_of, holds}
use Rattle.epsdelta_theory.proofs.RowReads.{jumps_at}
use Rattle.flow_routes.proofs.Crossing.{target_at}
use Rattle.flow_routes.proofs.Standing.{Rows, holding, flow_of, first_flow}
use Rattle.flow_routes.proofs.Reaching.{Begins, Told}
use Rattle.flow_links.specs.Fits.{row_fits, fits}
use Rattle.flow_links.proofs.LinkWrites.{entry}
use Rattle.flow_links.proofs.Fitting.{fit}
use Rattle.flow_core.specs.Outcome.{settled}
use Rattle.flow_core.proofs.Tests.{lefts, rights, between}
use Rattle.flow_links.specs.declared.rows.Test.{Test}
use Rattle.flow_links.specs.Lent.{test_fits}
use Rattle.flow_direct.specs.Lent as lent
use Rattle.flow_direct.specs.Reaches.{reaches, lacks, test_reaches, test_lacks, back_lacks, at_least}

abbrev rows_of : List ℕ → List Float → List ℕ → List Float → ℕ → List ℕ → Rows
rows_of us vs ts ws n store = record { states = n; relation = relation_of store; ps = jumps_of us vs; pt = jumps_of ts ws }

module _ (us : List ℕ) (vs : List Float) (ts : List ℕ) (ws : List Float) (n : ℕ) (store : List ℕ) where
  module _ (f : fits us vs ts ws n ≡ true) where
    held_bit : (i k : ℕ) → bit_at store (get_or us i 0 * n + get_or ts k 0) ≡ holding (rows_of us vs ts ws n store) i k
    unfolding holds
    held_bit i k =
        let F = fit us vs ts ws n f in
        ap (λ (j : Jump). bit_at store (j.target * n + get_or ts k 0)) (sym (jumps_at us vs i (sym F.left.rates)))
        ∙ ap (λ (j : Jump). bit_at store (target_at (jumps_of us vs) i * n + j.target)) (sym (jumps_at ts ws k (sym F.right.rates)))
        ∙ entry store (target_at (jumps_of us vs) i * n + target_at (jumps_of ts ws) k)

    begins : Begins (rows_of us vs ts ws n store) us vs ts ws n store
    begins =
        let F = fit us vs ts ws n f in
        record {
          reads = record { lefts = lefts us vs ts ws n f; rights = rights us vs ts ws n f; bit = held_bit };
          accepted = between us vs ts ws n f (relation_of store);
          left = λ i. ap (λ (j : Jump). j.rate) (jumps_at us vs i (sym F.left.rates));
          right = λ k. ap (λ (j : Jump). j.rate) (jumps_at ts ws k (sym F.right.rates));
        }

    -- what is known of rows that fit
    pub known_reaches : (need : Float) (known : Option Bool) → Told us vs ts ws n store need known → MatchOption known (lacks us vs ts ws n (relation_of store) need ≡ true) (λ passes. passes ≡ reaches us vs ts ws n (relation_of store) need)
    known_reaches need (Some _) E = E (rows_of us vs ts ws n store) begins ∙ ap (λ (b : Bool). b && le need (flow_of (rows_of us vs ts ws n store))) (sym f)
    known_reaches need None E = ap (λ (b : Bool). b && not (le need (first_flow (rows_of us vs ts ws n store)))) f ∙ ap not (E (rows_of us vs ts ws n store) begins)

-- of a test that is lent
pub known_test : (T : Test) → test_fits T ≡ true → (need : Float) (known : Option Bool) → lent.Told T need known → MatchOption known (test_lacks T need ≡ true) (λ passes. passes ≡ test_reaches T need)
known_test T = known_reaches T.left.targets.now T.left.rates.now T.right.targets.now T.right.rates.now T.states T.relation.now

-- what is known to be so
pub known_true : (Q : Type 0) {x : Bool} (known : Option Bool) → MatchOption known Q (λ passes. passes ≡ x) → true ≡ option_eq beq known (Some true) → x ≡ true
known_true Q (Some true) e z = sym e
known_true Q (Some false) e z = absurd (true≢false z)
known_true Q None e z = absurd (true≢false z)

-- ---- both ways

-- rows that fit one way fit the other
fits_back : (us : List ℕ) (vs : List Float) (ts : List ℕ) (ws : List Float) (n : ℕ) → fits us vs ts ws n ≡ true → fits ts ws us vs n ≡ true
fits_back us vs ts ws n f =
    let (a, r) = and_t (leb n 2000) (row_fits us vs && row_fits ts ws) f in
    let (b, d) = and_t (row_fits us vs) (row_fits ts ws) r in
    sym (and_second (leb n 2000) (row_fits ts ws && row_fits us vs) true a (and_second (row_fits ts ws) (row_fits us vs) true d (sym b)))

-- of the test back
pub known_back : (T U : Test) → (U.left ≡ T.right) × (U.right ≡ T.left) × (U.states ≡ T.states) × (U.relation ≡ T.relation) → test_fits T ≡ true → (need : Float) (known : Option Bool) → lent.Told U need known
    → MatchOption known (back_lacks T need ≡ true) (λ passes. passes ≡ reaches T.right.targets.now T.right.rates.now T.left.targets.now T.left.rates.now T.states (relation_of T.relation.now) need)
known_back T U (l, r, n, b) f need known t =
    known_reaches T.right.targets.now T.right.rates.now T.left.targets.now T.left.rates.now T.states T.relation.now (fits_back T.left.targets.now T.left.rates.now T.right.targets.now T.right.rates.now T.states f) need known (rw (l, r, n, b) at t)

-- what an answer says
pub answer_reaches : (need : Float) (b : Bool) (r : FlowRun) → at_least need (settled b r []).answer ≡ (b && le need r.total)
answer_reaches need true r = refl
answer_reaches need false r = refl
