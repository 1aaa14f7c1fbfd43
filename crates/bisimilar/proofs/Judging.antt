-- From the relation that is made, or refused, to what `epsdelta_bisimilar` answers and leaves.
-- By the number of the refusal: one that is not 0 stands, and without one the final relation is read at the initial states, which are below their counts.
use mathlib.Core.Path.{◌≡◌, refl, sym, ap, ◌∙◌}
use Prim.Native.Nat.{ℕ, zero, suc, ◌+◌, ◌*◌, ◌/◌, ◌≤◌}
use mathlib.Core.Bool.{Bool, false, ◌||◌, true≢false}
use mathlib.Core.List.{List}
use native.Mathlib.Omega.{arith}
use lib.ListN.{length, drop, replicate, length-append, length-drop}
use lib.Ieee.{Float}
use Rattle.std.specs.Prelude.{Option, Some, None, IsSome, Result, Ok, Err, IsErrAnd}
use Rattle.std.specs.Result.{is_ok}
use Rattle.numbers.specs.declared.refusal.Refusal.{Refusal}
use Rattle.numbers.specs.Refuse.{number, numbered}
use Rattle.numbers.specs.Bits.{packed}
use Rattle.numbers.specs.Lists.{over}
use Rattle.numbers.proofs.Bools.{or_f}
use Rattle.numbers.proofs.Packed.{packed_length}
use Rattle.bisim_core.specs.Data.{Columns}
use Rattle.bisim_core.specs.declared.ids.StateId.{StateId}
use Rattle.bisim_core.specs.declared.wlts.Shape.{Shape}
use Rattle.epsdelta_theory.specs.Relation.{related, relation_bytes}
use Rattle.epsdelta_theory.specs.Epsdelta.{given, task, epsdelta}
use Rattle.epsdelta_theory.specs.Claim.{final}
use Rattle.epsdelta_theory.specs.Refusal.{absent, tolerances_outside, relation_refusal, bisimilar_refusal}
use Rattle.epsdelta_theory.specs.Bisimilar.{start, bisimilar}
use Rattle.epsdelta_theory.proofs.Runs.{run_length}
use Rattle.epsdelta_theory.proofs.Theorem.{total}
use Rattle.epsdelta_theory.proofs.Unrefused.{Passed, passed, start_below}
use Rattle.epsdelta.specs.Outcome as made
use Rattle.bisimilar.specs.Related.{related_outcome}
use Rattle.epsdelta.specs.Outcome.{Outcome, ends}
use Rattle.bisimilar.specs.Outcome.{judged_by, bisimilar_outcome}
use Rattle.bisimilar.proofs.Reading.{related_answer}

-- as many bytes as before
over_length : (new old : List ℕ) → length new ≤ length old → length (over new old) ≡ length old
over_length new old h = let a = length-append new (drop (length new) old) in let b = length-drop (length new) old in omega arith

-- how a relation that is made, or refused, is read at s and t and cleared
abbrev concluded : Result (Unit {0}) ℕ → ℕ → ℕ → ℕ → ℕ → List ℕ → Outcome (Result Bool ℕ)
concluded (Err r) left right s t store = ends (Err r) store
concluded (Ok x) left right s t store = ends (related_outcome left right store s t) (replicate (length store) 0)

-- a refusal that is handed on
pub handed_on : {A : Type 0} (a : Result A Refusal) (r : Refusal) (store : List ℕ) → IsErrAnd a (λ e. e ≡ r) → ends (numbered a) store ≡ ends (Err (number r)) store
handed_on (Ok x) r store h = absurd h
handed_on (Err e) r store h = ap (λ (x : Refusal). ends (Err (number x)) store) h

-- an answer comes of no refusal
answered_zero : (n : ℕ) {x : Unit {0}} {bytes : List ℕ} (store : List ℕ) (R : List Bool) → made.ends (Ok x) bytes ≡ made.settled n store R → n ≡ 0
answered_zero zero store R e = refl
answered_zero (suc n) store R e = absurd (true≢false (ap (λ (o : made.Outcome (Result (Unit {0}) ℕ)). is_ok o.answer) e))

present : (i : Option StateId) → absent i ≡ false → IsSome i
present None e = absurd (true≢false e)
present (Some s) e = refl

module _ (SL : Shape) (ML : Columns) (SR : Shape) (MR : Columns) (cl cr : List ℕ) (ε ρ : Float) where
  abbrev R : List Bool
  R = final (given SL ML SR MR cl cr ε ρ)

  -- an entry for each ordered pair
  entries : length R ≡ (SL.states + SR.states) * (SL.states + SR.states)
  unfolding epsdelta
  entries = run_length (task (given SL ML SR MR cl cr ε ρ)) ∙ ap (λ (n : ℕ). n * n) (total SL ML SR MR cl cr ε ρ 0)

  is_bisimilar : bisimilar SL ML SR MR cl cr ε ρ ≡ related (SL.states + SR.states) SL.states R (start SL.initial) (start SR.initial)
  unfolding bisimilar
  is_bisimilar = refl

  bytes_of : length (packed R) ≡ relation_bytes (SL.states + SR.states)
  bytes_of = packed_length R ∙ ap (λ (n : ℕ). (n + 7) / 8) entries

  module _ (store : List ℕ) where
    -- without a refusal
    read : Passed (absent SL.initial || absent SR.initial) (tolerances_outside ε ρ) SL ML SR MR cl cr (length store)
        → ends (related_outcome SL.states SR.states (over (packed R) store) (start SL.initial) (start SR.initial)) (replicate (length (over (packed R) store)) 0)
        ≡ ends (Ok (bisimilar SL ML SR MR cl cr ε ρ)) (replicate (length store) 0)
    read P =
        let a = or_f (absent SL.initial) (absent SR.initial) P.passes8 in
        let b = bytes_of in
        let r = P.room in
        let w : length (over (packed R) store) ≡ length store = over_length (packed R) store (omega arith) in
        let v = related_answer SL.states SR.states R (drop (length (packed R)) store) (start SL.initial) (start SR.initial) entries (start_below SL ML P.left a.0) (start_below SR MR P.right a.1) P.left.states_few P.right.states_few (omega arith) P.few in
        ap (λ (x : Result Bool ℕ). ends x (replicate (length (over (packed R) store)) 0)) (v ∙ ap Ok (sym is_bisimilar)) ∙ ap (λ (n : ℕ). ends (Ok (bisimilar SL ML SR MR cl cr ε ρ)) (replicate n 0)) w

    settle : (n : ℕ) → bisimilar_refusal SL ML SR MR cl cr ε ρ (length store) ≡ n
        → concluded (made.settled n store R).answer SL.states SR.states (start SL.initial) (start SR.initial) (made.settled n store R).relation ≡ judged_by n (bisimilar SL ML SR MR cl cr ε ρ) store
    unfolding bisimilar_refusal
    settle zero e = read (passed (absent SL.initial || absent SR.initial) (tolerances_outside ε ρ) SL ML SR MR cl cr (length store) e)
    settle (suc n) e = refl

    -- an answer comes of two models with initial states
    pub both_present : {b : Bool} {x : Unit {0}} {bytes : List ℕ} → b ≡ (absent SL.initial || absent SR.initial) → made.ends (Ok x) bytes ≡ made.outcome_unless b SL ML SR MR cl cr ε ρ store → IsSome SL.initial × IsSome SR.initial
    both_present {b} p e =
        let P = passed b (tolerances_outside ε ρ) SL ML SR MR cl cr (length store) (answered_zero (relation_refusal b (tolerances_outside ε ρ) SL ML SR MR cl cr (length store)) store R e) in
        let a = or_f (absent SL.initial) (absent SR.initial) (sym p ∙ P.passes8) in
        (present SL.initial a.0, present SR.initial a.1)

    -- the relation made or refused, then read and cleared
    pub ended_by : {b : Bool} {s t : ℕ} (x : Result (Unit {0}) ℕ) (bytes : List ℕ) → b ≡ (absent SL.initial || absent SR.initial) → s ≡ start SL.initial → t ≡ start SR.initial
        → made.ends x bytes ≡ made.outcome_unless b SL ML SR MR cl cr ε ρ store → concluded x SL.states SR.states s t bytes ≡ bisimilar_outcome SL ML SR MR cl cr ε ρ store
    unfolding bisimilar_refusal
    ended_by {b} {s} {t} x bytes p q w e =
        ap (λ (m : ℕ). concluded x SL.states SR.states m t bytes) q ∙ ap (λ (m : ℕ). concluded x SL.states SR.states (start SL.initial) m bytes) w
        ∙ ap (λ (o : made.Outcome (Result (Unit {0}) ℕ)). concluded o.answer SL.states SR.states (start SL.initial) (start SR.initial) o.relation) (e ∙ ap (λ (c : Bool). made.outcome_unless c SL ML SR MR cl cr ε ρ store) p)
        ∙ settle (bisimilar_refusal SL ML SR MR cl cr ε ρ (length store)) refl
