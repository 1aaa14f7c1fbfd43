-- `union`: which answer is due, that the rows of accepted models can be made, and that what is made is the union.
use mathlib.Core.Path.{◌≡◌, refl, sym, ap, subst, ◌∙◌}
use Prim.Native.Nat.{ℕ, zero, suc, ◌+◌, ◌≤◌, ◌<◌}
use mathlib.Core.Bool.{Bool, false, ◌||◌}
use mathlib.Core.List.{[]}
use native.Mathlib.Omega.{arith}
use lib.Dec.{ltb, leb}
use lib.ListN.{length, get_or}
use lib.Seq.{take_all}
use borrow.Author.Tests.{ltb-false, leb-false}
use Rattle.numbers.proofs.Bools.{or_f}
use Rattle.std.specs.Prelude.{Result, Ok, Err, Some, IsErrAnd}
use Rattle.numbers.specs.declared.refusal.Refusal.{Refusal}
use Rattle.numbers.specs.Refuse.{number}
use Rattle.numbers.proofs.Refuses.{number_positive}
use Rattle.bisim_core.specs.Data.{columns_of}
use Rattle.bisim_core.specs.declared.wlts.Wlts.{Wlts}
use Rattle.bisim_core.specs.Model.{begins, model, model_refusal}
use Rattle.bisim_core.specs.Model as models
use Rattle.bisim_core.proofs.Accepted.{Accepted}
use Rattle.epsdelta_theory.specs.Jumps.{Jumps, no_row, row, union}
use Rattle.epsdelta_theory.proofs.Rows.{model_length, model_at, union_length, union_left, union_right}
use Rattle.epsdelta_theory.specs.Refusal.{models_refusal}
use Rattle.parts.specs.Earlier.{earlier}
use Rattle.parts.specs.Jumping.{HasRows}
use Rattle.parts.proofs.Models.{models_number, models_accepted, readable}
use Rattle.epsdelta_jumps.specs.declared.store.RowStore.{RowStore}
use Rattle.epsdelta_jumps.specs.declared.jumps.Fault.{Fault}
use Rattle.epsdelta_jumps.specs.declared.jumps.Fault.TheVariants.{Refused}
use Rattle.epsdelta_jumps.specs.Union.{fault_number, faulted, settled, joined}
use Rattle.epsdelta_jumps.specs.Store.{cramped, LaidIn, LaidInTo}

-- ---- the answer

-- a refusal that is handed on, and a fault
refused : (n : ℕ) (b : Bool) (a : Result (Unit {0}) Fault) (r : Refusal) → IsErrAnd a (λ f. f ≡ Refused r) → number r ≡ n → faulted a ≡ settled n b
refused zero b a r h e = absurd (number_positive r e)
refused (suc n) b (Ok x) r h e = absurd h
refused (suc n) b (Err f) r h e = ap (λ (g : Fault). Err (fault_number g)) h ∙ ap (λ (k : ℕ). Err (Some k)) e

-- a model that is refused turns the call back
pub turned_back : (L R : Wlts) (b : Bool) {x y : ℕ} (a : Result (Unit {0}) Fault) (r : Refusal) → x ≡ model_refusal L.shape (columns_of L) → y ≡ model_refusal R.shape (columns_of R) → number r ≡ earlier x y
    → IsErrAnd a (λ f. f ≡ Refused r) → faulted a ≡ joined L.shape (columns_of L) R.shape (columns_of R) b
unfolding joined
turned_back L R b {x} {y} a r l m n h = refused (models_refusal L.shape (columns_of L) R.shape (columns_of R) 0) b a r h (models_number L.shape (columns_of L) R.shape (columns_of R) x y (number r) l m n)

-- neither is refused
module _ (L R : Wlts) {x y : ℕ} (l : x ≡ model_refusal L.shape (columns_of L)) (m : y ≡ model_refusal R.shape (columns_of R)) (n : 0 ≡ earlier x y) where
  both_accepted : Accepted L.shape (columns_of L) × Accepted R.shape (columns_of R)
  both_accepted = models_accepted L.shape (columns_of L) R.shape (columns_of R) x y 0 l m n refl

  pub few_together : (L.shape.states + R.shape.states ≤ 4000) × (L.shape.edges + R.shape.edges ≤ 8192)
  few_together = let (a, b) = both_accepted in let p = a.states_few in let q = b.states_few in let u = a.edges_few in let v = b.edges_few in (omega arith, omega arith)

  -- then the answer depends on the lists
  pub by_lists : {b c : Bool} → b ≡ c → settled 0 c ≡ joined L.shape (columns_of L) R.shape (columns_of R) b
  unfolding joined
  by_lists {b} e = ap (settled 0) (sym e) ∙ ap (λ (k : ℕ). settled k b) (models_number L.shape (columns_of L) R.shape (columns_of R) x y 0 l m n)

  abbrev A : Accepted L.shape (columns_of L)
  A = both_accepted.0

  abbrev B : Accepted R.shape (columns_of R)
  B = both_accepted.1

  -- ---- the rows can be made

  pub ready : HasRows L × HasRows R
  ready = (readable A, readable B)

  pub roomy : (V : RowStore) → cramped (L.shape.states + R.shape.states) (L.shape.edges + R.shape.edges) V ≡ false
      → (L.shape.states + R.shape.states ≤ length V.exits.now) × (L.shape.states + R.shape.states < length V.starts.now)
      × (begins (columns_of L) L.shape.states + begins (columns_of R) R.shape.states ≤ length V.targets.now) × (begins (columns_of L) L.shape.states + begins (columns_of R) R.shape.states ≤ length V.probs.now)
  roomy V h =
      let n = L.shape.states + R.shape.states in
      let m = L.shape.edges + R.shape.edges in
      let e = length V.exits.now in
      let s = length V.starts.now in
      let t = length V.targets.now in
      let p = length V.probs.now in
      let (a, i) = or_f (ltb e n) (leb s n || (ltb t m || ltb p m)) h in
      let (b, j) = or_f (leb s n) (ltb t m || ltb p m) i in
      let (c, d) = or_f (ltb t m) (ltb p m) j in
      let c' = ltb-false t m c in
      let d' = ltb-false p m d in
      let u = A.begins_last in
      let v = B.begins_last in
      (ltb-false e n a, leb-false s n b, omega arith, omega arith)

  -- ---- what is made is the union

  pub united : (V W : RowStore)
      → ((J : Jumps) → L.shape.states + R.shape.states ≤ length J → ((s : ℕ) → s < L.shape.states → get_or J s no_row ≡ row 0 (models.row (columns_of L) s))
      → ((s : ℕ) → s < R.shape.states → get_or J (L.shape.states + s) no_row ≡ row L.shape.states (models.row (columns_of R) s))
      → LaidInTo J (L.shape.states + R.shape.states) V W)
      → LaidIn (union (model L.shape (columns_of L)) (model R.shape (columns_of R))) V W
  united V W f =
      let l = model L.shape (columns_of L) in
      let r = model R.shape (columns_of R) in
      let J = union l r in
      let n = model_length L.shape (columns_of L) in
      let m = model_length R.shape (columns_of R) in
      let z : length J ≡ L.shape.states + R.shape.states = union_length l r ∙ omega arith in
      subst (λ (K : Jumps). LaidIn K V W) (take_all (L.shape.states + R.shape.states) J (omega arith))
      (f J (omega arith)
      (λ s h. union_left l r s (omega arith) ∙ ap (row 0) (model_at L.shape (columns_of L) s h))
      (λ s h. subst (λ (k : ℕ). get_or J (k + s) no_row ≡ row k (get_or r s [])) n (union_right l r s) ∙ ap (row L.shape.states) (model_at R.shape (columns_of R) s h)))
