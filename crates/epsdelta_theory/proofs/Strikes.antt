-- What a trail of strikes says of the relation that it leads to: all of it stood before each strike, it is symmetric, it holds what was never struck, and a mark that it lacks was struck.
use mathlib.Core.Path.{◌≡◌, refl, sym, subst, subst⁻¹, ap, ◌∙◌}
use Prim.Native.Nat.{ℕ, ◌<◌, ◌*◌}
use mathlib.Core.Bool.{Bool, true, false, true≢false}
use mathlib.Core.Logic.{◌⊎◌, inl, inr}
use mathlib.Core.List.{List, [], ◌∷◌}
use native.Mathlib.Omega.{arith}
use lib.ListN.{length}
use Rattle.numbers.specs.Lists.{In}
use Rattle.epsdelta_theory.specs.Relation.{holds, clear}
use Rattle.epsdelta_theory.specs.Sweeps.{Task, marks, Strike}
use Rattle.epsdelta_theory.specs.Claim.{Symmetric, Within, Trail}
use Rattle.epsdelta_theory.proofs.Pairs.{clear_length, clear_within, clear_other, clear_there, clear_back, pair_cases}
use Rattle.epsdelta_theory.proofs.Marks.{marks_length}
use Rattle.epsdelta_theory.proofs.Sweeps.{Justified, AllJustified}

module _ (Q : Task) where
  abbrev n : ℕ
  n = Q.states

  pub trail_within : (ks : List Strike) (R : List Bool) → Trail Q ks R → (k : Strike) → In k ks → Within Q.states R k.before
  trail_within (l ∷ ks) R (e, h) k (inl p) = subst⁻¹ (λ (z : Strike). Within Q.states R z.before) p
      (subst⁻¹ (λ (S : List Bool). Within Q.states S l.before) e (clear_within n l.before l.low l.high))
  trail_within (l ∷ ks) R (e, h) k (inr i) =
      let r = trail_within ks l.before h k i in
      λ u v q. r u v (clear_within n l.before l.low l.high u v (subst (λ (S : List Bool). holds n S u v ≡ true) e q))
  trail_within [] R _ k x3 = elim x3 [ ]

  pub trail_length : (ks : List Strike) (R : List Bool) → Trail Q ks R → length R ≡ n * n
  trail_length [] R e = ap length e ∙ marks_length Q
  trail_length (l ∷ ks) R (e, h) = ap length e ∙ clear_length n l.before l.low l.high ∙ trail_length ks l.before h

  pub trail_marks : (ks : List Strike) (R : List Bool) → Trail Q ks R → Within Q.states R (marks Q)
  trail_marks [] R e u v h = subst (λ (S : List Bool). holds n S u v ≡ true) e h
  trail_marks (l ∷ ks) R (e, h) u v q =
      trail_marks ks l.before h u v (clear_within n l.before l.low l.high u v (subst (λ (S : List Bool). holds n S u v ≡ true) e q))

  pub trail_justified : (ks : List Strike) → AllJustified Q ks → (k : Strike) → In k ks → Justified Q k
  trail_justified (l ∷ ks) (a, r) k (inl p) = subst⁻¹ (Justified Q) p a
  trail_justified (l ∷ ks) (a, r) k (inr i) = trail_justified ks r k i
  trail_justified [] _ k x3 = elim x3 [ ]

  -- a pair that is gone was struck
  pub trail_gone : (ks : List Strike) (R : List Bool) → Trail Q ks R → AllJustified Q ks → (u v : ℕ) → u < v → v < n
      → holds n (marks Q) u v ≡ true → holds n R u v ≡ false → (k : Strike) × In k ks × (k.low ≡ u) × (k.high ≡ v)
  trail_gone [] R e a u v l h m g = absurd (true≢false (sym m ∙ sym (ap (λ (S : List Bool). holds n S u v) e) ∙ g))
  trail_gone (l ∷ ks) R (e, h) (a, r) u v lt hv m g = pick (trail_gone ks l.before h r u v lt hv m) (pair_cases u v l.low l.high) (holds n l.before u v) refl
    where
      pick : (holds n l.before u v ≡ false → (k : Strike) × In k ks × (k.low ≡ u) × (k.high ≡ v))
          → ((u ≡ l.low) × (v ≡ l.high)) ⊎ ((u ≡ l.low) → (v ≡ l.high) → ⊥)
          → (b : Bool) → holds n l.before u v ≡ b → (k : Strike) × In k (l ∷ ks) × (k.low ≡ u) × (k.high ≡ v)
      pick i (inl (p, q)) b f = (l, inl refl, sym p, sym q)
      pick i (inr ne) false f = let (k, w, x, y) = i f in (k, inr w, x, y)
      pick i (inr ne) true f =
          absurd (true≢false (sym f ∙ sym (clear_other n l.before l.low l.high u v (let p = a.apart in let q = a.inside in omega arith) a.inside hv ne
          (λ p q. let z = a.apart in omega arith)) ∙ sym (ap (λ (S : List Bool). holds n S u v) e) ∙ g))

  -- no state is struck with itself
  pub trail_self : (ks : List Strike) (R : List Bool) → Trail Q ks R → AllJustified Q ks → (u : ℕ) → u < n → holds n (marks Q) u u ≡ true → holds n R u u ≡ true
  trail_self [] R e a u hu m = subst⁻¹ (λ (S : List Bool). holds n S u u ≡ true) e m
  trail_self (l ∷ ks) R (e, h) (a, r) u hu m =
      ap (λ (S : List Bool). holds n S u u) e
      ∙ clear_other n l.before l.low l.high u u (let p = a.apart in let q = a.inside in omega arith) a.inside hu
      (λ p q. let z = a.apart in omega arith) (λ p q. let z = a.apart in omega arith)
      ∙ trail_self ks l.before h r u hu m

  pub trail_symmetric : (ks : List Strike) (R : List Bool) → Trail Q ks R → AllJustified Q ks
      → Symmetric n (marks Q) → Symmetric n R
  trail_symmetric [] R e a m u v hu hv = subst⁻¹ (λ (S : List Bool). holds n S u v ≡ holds n S v u) e (m u v hu hv)
  trail_symmetric (l ∷ ks) R (e, h) (a, r) m u v hu hv =
      subst⁻¹ (λ (S : List Bool). holds n S u v ≡ holds n S v u) e
      (pick (trail_symmetric ks l.before h r m u v hu hv) (pair_cases u v l.low l.high) (pair_cases u v l.high l.low))
    where
      C : List Bool
      C = clear n l.before l.low l.high

      lo : l.low < n
      lo = let p = a.apart in let q = a.inside in omega arith

      pick : holds n l.before u v ≡ holds n l.before v u
          → ((u ≡ l.low) × (v ≡ l.high)) ⊎ ((u ≡ l.low) → (v ≡ l.high) → ⊥)
          → ((u ≡ l.high) × (v ≡ l.low)) ⊎ ((u ≡ l.high) → (v ≡ l.low) → ⊥)
          → holds n (clear n l.before l.low l.high) u v ≡ holds n (clear n l.before l.low l.high) v u
      pick i (inl (p, q)) c = rw (p, q) (clear_there n l.before l.low l.high ∙ sym (clear_back n l.before l.low l.high))
      pick i (inr f) (inl (p, q)) = rw (p, q) (clear_back n l.before l.low l.high ∙ sym (clear_there n l.before l.low l.high))
      pick i (inr f) (inr g) =
          clear_other n l.before l.low l.high u v lo a.inside hv f g
          ∙ i
          ∙ sym (clear_other n l.before l.low l.high v u lo a.inside hu (λ p q. g q p) (λ p q. f q p))
