-- The values of the first pairs, and the turns of the loop over the rounds.
use mathlib.Core.Path.{◌≡◌, refl, sym, ap, ap₂, ◌∙◌}
use Prim.Native.Nat.{ℕ, suc, ◌+◌, ◌-◌, ◌≤◌, ◌<◌}
use mathlib.Core.Bool.{Bool, true, false, not, ◌&&◌, ◌||◌}
use mathlib.Core.List.{List, ◌++◌, append-nil}
use native.Mathlib.Omega.{arith}
use native.Mathlib.Numerals.{add-one}
use lib.Dec.{leb}
use lib.ListN.{length, take, drop, drop_of_length-le, take-append-drop}
use lib.Seq.{take_all, length-take-le}
use lib.Ieee.{Float, inf, le}
use borrow.Author.Tests.{le-leb, lt-leb}
use Rattle.chain_theory.specs.Lent.{of_chain}
use Rattle.distance_theory.specs.Rounds.{many, sweeps}
use Rattle.distance_theory.specs.declared.lent.StoreMut.{StoreMut}
use Rattle.distance_theory.specs.declared.lent.Task.{Task as Given}
use Rattle.distance_theory.proofs.Held.{policy_in}
use Rattle.distance_theory.proofs.Lengths.{sweeps_length}
use Rattle.distance_words.proofs.Readable.{held}
use Rattle.distance_words.proofs.Valuing.{Valued, valued, priced, evaluable, evaluated_if, evaluated}
use Rattle.distance_words.proofs.Improving.{Bettered, bettered, improve, improve_in}
use Rattle.distance_words.proofs.Iterating.{Task, Iterated, iterated, task_of, valued_in, values_of, bettered_of, ended, iterate_from}

pub record Iterates (T : Task) (k : ℕ) (v₀ : List Float) (l₀ p₀ : List ℕ) (m₀ : List Float) (x : Float) (n : ℕ) (v : List Float) (l p : List ℕ) (m : List Float) : Type 0 where
  pub left : n ≤ k
  pub values_size : length v ≡ length v₀
  pub comes : iterate_from T (k - n) x n v l p m ≡ iterate_from T k (inf false) 0 v₀ l₀ p₀ m₀

-- ---- the values of the first n pairs

module _ (k : ℕ) (S L P : List ℕ) (M c : List Float) (γ tol : Float) (v : List Float) (n : ℕ) where
  -- there are fewer
  pub values_short : length v < n → valued 18 v ≡ evaluated k S L P M c γ tol v n
  values_short h = ap (λ (b : Bool). evaluated_if b (sweeps (priced γ (take n c)) (policy_in S L P M n) tol k (take n v)) v)
      (none (leb n (length c)) ∙ ap (λ (b : Bool). leb n (length c) && (b && held S L P M n)) (sym (lt-leb n (length v) h)))
    where
      none : (b : Bool) → false ≡ (b && false)
      none true = refl
      none false = refl

  -- by these alone, those past them as they were
  module _ (h : n ≤ length v) where
    abbrev swept : List Float
    swept = sweeps (priced γ (take n c)) (policy_in S L P M n) tol k (take n v)

    swept_long : length swept ≡ n
    swept_long = sweeps_length (priced γ (take n c)) (policy_in S L P M n) tol k (take n v) ∙ length-take-le n v h

    cut_is : evaluated k S L P M c γ tol (take n v) n ≡ evaluated_if (evaluable S L P M c v n) swept (take n v)
    cut_is =
        let z = length-take-le n v h in
        ap₂ (λ (b : Bool) (w : List Float). evaluated_if (leb n (length c) && (b && held S L P M n)) (sweeps (priced γ (take n c)) (policy_in S L P M n) tol k w) (take n v))
        (le-leb n (length (take n v)) (omega arith) ∙ sym (le-leb n (length v) h)) (take_all n (take n v) (omega arith))

    pub values_cut : {r : ℕ} {u : List Float} → valued r u ≡ evaluated k S L P M c γ tol (take n v) (length (take n v)) → valued r (u ++ drop n v) ≡ evaluated k S L P M c γ tol v n
    values_cut {r} {u} e = ap (λ (w : Valued). valued w.refusal (w.value ++ drop n v)) (e ∙ ap (evaluated k S L P M c γ tol (take n v)) (length-take-le n v h) ∙ cut_is) ∙ whole (evaluable S L P M c v n)
      where
        whole : (b : Bool) → valued (evaluated_if b swept (take n v)).refusal ((evaluated_if b swept (take n v)).value ++ drop n v) ≡ evaluated_if b swept v
        whole true =
            let z = length-take-le n v h in
            let m = swept_long in
            ap (λ (l : List Float). valued 0 ((swept ++ l) ++ drop n v)) (drop_of_length-le (take n v) {i = length swept} (omega arith))
            ∙ ap (λ (l : List Float). valued 0 (l ++ drop n v)) (append-nil swept) ∙ ap (λ (j : ℕ). valued 0 (swept ++ drop j v)) (sym m)
        whole false = ap (valued 18) (take-append-drop n v)

-- ---- round after round

-- what the calls of a round answer, by the task, where there are as many pairs as values
pub values_in : (G : Given) (s : List ℕ) (Z : StoreMut) (aim fine : Float) (v : List Float) {n r : ℕ} {u : List Float} → valued r u ≡ valued_in G s Z fine v → length v ≡ n
    → u ≡ values_of (task_of G n s aim fine) v Z.lengths.now Z.places.now Z.masses.now
values_in G s Z aim fine v e en = ap (λ (w : Valued). w.value) (e ∙ ap (evaluated many s Z.lengths.now Z.places.now Z.masses.now G.cost.now G.gamma fine v) en)

pub betters_in : (G : Given) (s : List ℕ) (Z : StoreMut) (aim fine : Float) (v : List Float) {n : ℕ} {b : Bettered} → b ≡ improve_in G v s Z → length v ≡ n
    → b ≡ bettered_of (task_of G n s aim fine) v Z.lengths.now Z.places.now Z.masses.now
betters_in G s Z aim fine v e en =
    e ∙ ap (λ (n : ℕ). improve n G.pairs.lefts.now G.pairs.rights.now G.pairs.codes.now (of_chain G.left) (of_chain G.right) v G.cost.now G.gamma s Z.lengths.now Z.places.now Z.masses.now) en

module _ {T : Task} {k : ℕ} {v₀ : List Float} {l₀ p₀ : List ℕ} {m₀ : List Float} {x : Float} {n : ℕ} {v : List Float} {l p : List ℕ} {m : List Float} (I : Iterates T k v₀ l₀ p₀ m₀ x n v l p m) where
  pub iterates_end : k ≤ n → iterated x k v l p m ≡ iterate_from T k (inf false) 0 v₀ l₀ p₀ m₀
  unfolding iterate_from
  iterates_end h = ap (λ (j : ℕ). iterated x j v l p m) (let b = I.left in let e : k ≡ n = omega arith in e) ∙ ap (λ (j : ℕ). iterate_from T j x n v l p m) (let b = I.left in let e : 0 ≡ k - n = omega arith in e) ∙ I.comes

  -- a round
  module _ (h : n < k) {u : List Float} (eu : u ≡ values_of T v l p m)
      {x' : Float} {t : Bool} {l' p' : List ℕ} {m' : List Float} (eb : bettered x' t l' p' m' ≡ bettered_of T u l p m) {d : Bool} (ed : d ≡ (not t || le x' T.aim)) where
    abbrev onward : List Float → Bettered → Bool → Iterated
    onward w b e = elim e as (λ z. Iterated) [ true ↦ iterated b.residual (suc n) w b.lengths b.places b.masses | false ↦ iterate_from T (k - (n + 1)) b.residual (suc n) w b.lengths b.places b.masses ]

    opened : iterate_from T (suc (k - (n + 1))) x n v l p m ≡ onward (values_of T v l p m) (bettered_of T (values_of T v l p m) l p m) (ended T.aim (bettered_of T (values_of T v l p m) l p m))
    unfolding iterate_from
    opened = refl

    -- by what the calls have answered
    told : iterate_from T (suc (k - (n + 1))) x n v l p m ≡ onward u (bettered x' t l' p' m') d
    told =
        opened ∙ ap (λ (w : List Float). onward w (bettered_of T w l p m) (ended T.aim (bettered_of T w l p m))) (sym eu)
        ∙ ap (λ (b : Bettered). onward u b (ended T.aim b)) (sym eb) ∙ ap (onward u (bettered x' t l' p' m')) (sym ed)

    one_more : suc (k - (n + 1)) ≡ k - n
    one_more = omega arith

    pub iterates_stop : d ≡ true → iterated x' (n + 1) u l' p' m' ≡ iterate_from T k (inf false) 0 v₀ l₀ p₀ m₀
    iterates_stop e =
        ap (λ (j : ℕ). iterated x' j u l' p' m') (add-one n) ∙ sym (told ∙ ap (onward u (bettered x' t l' p' m')) e) ∙ ap (λ (j : ℕ). iterate_from T j x n v l p m) one_more ∙ I.comes

    pub iterates_next : d ≡ false → length u ≡ length v → Iterates T k v₀ l₀ p₀ m₀ x' (n + 1) u l' p' m'
    iterates_next e zv = record {
      left = omega arith;
      values_size = zv ∙ I.values_size;
      comes =
          ap (λ (j : ℕ). iterate_from T (k - (n + 1)) x' j u l' p' m') (add-one n) ∙ sym (told ∙ ap (onward u (bettered x' t l' p' m')) e)
          ∙ ap (λ (j : ℕ). iterate_from T j x n v l p m) one_more ∙ I.comes;
    }
