-- The distinct targets of a state: the same in any order of its transitions and by any labels, and joining adds none.
use mathlib.Core.Path.{◌≡◌, refl, sym, subst, ap, ◌∙◌}
use mathlib.Core.Logic.{inl, inr, ◌≢◌}
use mathlib.Core.Bool.{Bool, true, false, ◌&&◌, ◌||◌, not, true≢false}
use Prim.Native.Nat.{ℕ, ◌≤◌}
use mathlib.Core.List.{List, [], ◌∷◌, map}
use native.Mathlib.Omega.{arith}
use lib.Dec.{eqb}
use lib.ListN.{length}
use borrow.Author.Tests.{eqb-true, eqb-false, eq-eqb, ne_eqb, le-ltb, ltb-false, not-true}
use Rattle.numbers.specs.Lists.{In}
use Rattle.numbers.specs.Real.{is_zero}
use Rattle.numbers.proofs.Bools.{and_t, or_f}
use Rattle.bisim_core.specs.Data.{Edge}
use Rattle.bisim_core.specs.Ids.{distinct}
use Rattle.bisim_core.specs.Edges.{chosen, others, crowded_at, crowded_in}
use Rattle.build_theory.specs.Edges.{before, put, insert, sort_edges, same, taken, ended, runs, join, keep, nonzero}
use Rattle.build_theory.proofs.Ranks.{AllE, all_sorted}
use Rattle.build_theory.proofs.Weights.{zero_sum}
use Rattle.build_theory.proofs.Counts.{distinct_fewer}

-- an edge of s to another state, if it has a weight, leads to one of a list
abbrev Leads : ℕ → List ℕ → Edge → Type 0
Leads s F a = is_zero a.weight ≡ false → a.source ≡ s → a.target ≢ s → In a.target F

abbrev leads_on : ℕ → Edge → Bool
leads_on s a = eqb a.source s && not (eqb a.target s)

leads_on_lem : (s : ℕ) (a : Edge) → a.source ≡ s → a.target ≢ s → leads_on s a ≡ true
leads_on_lem s a e f = rw (eq-eqb a.source s e, ne_eqb a.target s f)

led_by : (s : ℕ) (a : Edge) → leads_on s a ≡ true → (a.source ≡ s) × (a.target ≢ s)
led_by s a e =
    let (p, q) = and_t (eqb a.source s) (not (eqb a.target s)) e in
    (eqb-true _ _ p, eqb-false _ _ (not-true _ q))

-- ---- the targets of the edges that have a weight, and what each edge says

leads_all : (s : ℕ) (F : List ℕ) (E : List Edge) → ((t : ℕ) → In t (others s (nonzero E)) → In t F) → AllE (Leads s F) E
unfolding nonzero others
leads_all s F [] h = tt
leads_all s F (a ∷ E) h = (λ z p q. first z (leads_on_lem s a p q), leads_all s F E (λ t i. h t (later (is_zero a.weight) (leads_on s a) t i)))
  where
    later : (b c : Bool) (t : ℕ) → In t (others s (nonzero E)) → In t (others s (keep b a (nonzero E)))
    later true c t i = i
    later false c t i = next (leads_on s a)
      where
        next : (d : Bool) → In t (chosen d a.target (others s (nonzero E)))
        next true = inr i
        next false = i

    first : is_zero a.weight ≡ false → leads_on s a ≡ true → In a.target F
    first z p = h a.target (rw (z, p) (inl refl))

all_led : (s : ℕ) (F : List ℕ) (E : List Edge) → AllE (Leads s F) E → (t : ℕ) → In t (others s (nonzero E)) → In t F
unfolding nonzero others
all_led s F [] l t i = absurd i
all_led s F (a ∷ E) (l, k) t i = weight (all_led s F E k t) (is_zero a.weight) refl i
  where
    lead : (In t (others s (nonzero E)) → In t F) → is_zero a.weight ≡ false → (c : Bool) → leads_on s a ≡ c → In t (chosen c a.target (others s (nonzero E))) → In t F
    lead ih z true e (inl p) = let (x, y) = led_by s a e in subst (λ (u : ℕ). In u F) (sym p) (l z x y)
    lead ih z true e (inr j) = ih j
    lead ih z false e j = ih j

    weight : (In t (others s (nonzero E)) → In t F) → (b : Bool) → is_zero a.weight ≡ b → In t (others s (keep b a (nonzero E))) → In t F
    weight ih true z i = ih i
    weight ih false z i = lead ih z (leads_on s a) refl i

-- ---- any order

inserted : (P : Edge → Type 0) (x : Edge) (l : List Edge) → AllE P (insert x l) → P x × AllE P l
unfolding insert
inserted P x [] h = h
inserted P x (y ∷ l) h = pick (inserted P x l) (before y x) h
  where
    pick : (AllE P (insert x l) → P x × AllE P l) → (b : Bool) → AllE P (put b x y l (insert x l)) → P x × AllE P (y ∷ l)
    pick ih true (p, k) = let (q, m) = ih k in (q, (p, m))
    pick ih false k = k

unsorted : (P : Edge → Type 0) (l : List Edge) → AllE P (sort_edges l) → AllE P l
unfolding sort_edges
unsorted P [] h = tt
unsorted P (x ∷ l) h = let (p, k) = inserted P x (sort_edges l) h in (p, unsorted P l k)

crowded_same : (E F : List Edge) → ((s : ℕ) → length (distinct (others s E)) ≡ length (distinct (others s F))) → (ss : List ℕ) → crowded_in E ss ≡ crowded_in F ss
unfolding crowded_in
crowded_same E F h [] = refl
crowded_same E F h (s ∷ ss) = rw (h s) (ap (λ (b : Bool). crowded_at F s || b) (crowded_same E F h ss))

pub sorted_crowd : (E : List Edge) (ss : List ℕ) → crowded_in (nonzero (sort_edges E)) ss ≡ crowded_in (nonzero E) ss
sorted_crowd E = crowded_same (nonzero (sort_edges E)) (nonzero E) (λ s.
    let a = distinct_fewer (others s (nonzero (sort_edges E))) (others s (nonzero E))
    (all_led s (others s (nonzero E)) (sort_edges E) (all_sorted (Leads s (others s (nonzero E))) E (leads_all s (others s (nonzero E)) E (λ t i. i)))) in
    let b = distinct_fewer (others s (nonzero E)) (others s (nonzero (sort_edges E)))
    (all_led s (others s (nonzero (sort_edges E))) E (unsorted (Leads s (others s (nonzero (sort_edges E)))) E (leads_all s (others s (nonzero (sort_edges E))) (sort_edges E) (λ t i. i)))) in
    omega arith)

-- ---- joined

same_parts : (a x : Edge) → same a x ≡ true → (x.source ≡ a.source) × (x.target ≡ a.target)
same_parts a x e =
    let (p, q) = and_t (eqb a.source x.source) (eqb a.label x.label && eqb a.target x.target) e in
    let (r, t) = and_t (eqb a.label x.label) (eqb a.target x.target) q in
    (sym (eqb-true _ _ p), sym (eqb-true _ _ t))

-- a sum that has a weight has one that does
leads_taken : (s : ℕ) (F : List ℕ) (a x : Edge) → same a x ≡ true → Leads s F a → Leads s F x → Leads s F (taken true a x)
leads_taken s F a x e l k z p q = pick (is_zero a.weight) refl (is_zero x.weight) refl
  where
    pick : (b : Bool) → is_zero a.weight ≡ b → (c : Bool) → is_zero x.weight ≡ c → In a.target F
    pick false u c v = l u p q
    pick true u false v = let (f, g) = same_parts a x e in subst (λ (t : ℕ). In t F) g (k v (f ∙ p) (λ y. q (sym g ∙ y)))
    pick true u true v = absurd (true≢false (sym (zero_sum a.weight x.weight u v) ∙ z))

leads_runs : (s : ℕ) (F : List ℕ) (a : Edge) (xs : List Edge) → Leads s F a → AllE (Leads s F) xs → AllE (Leads s F) (runs a xs)
unfolding runs
leads_runs s F a [] l h = (l, tt)
leads_runs s F a (x ∷ xs) l (k, h) = pick (same a x) refl (λ g. leads_runs s F (taken true a x) xs g h) (leads_runs s F x xs k h)
  where
    pick : (b : Bool) → same a x ≡ b → (Leads s F (taken true a x) → AllE (Leads s F) (runs (taken true a x) xs)) → AllE (Leads s F) (runs x xs)
        → AllE (Leads s F) (ended b a (runs (taken b a x) xs))
    pick true e on new = on (leads_taken s F a x e l k)
    pick false e on new = (l, new)

leads_join : (s : ℕ) (F : List ℕ) (E : List Edge) → AllE (Leads s F) E → AllE (Leads s F) (join E)
unfolding join
leads_join s F [] h = tt
leads_join s F (x ∷ xs) (l, h) = leads_runs s F x xs l h

uncrowded : (E F : List Edge) → ((s : ℕ) → length (distinct (others s E)) ≤ length (distinct (others s F))) → (ss : List ℕ) → crowded_in F ss ≡ false → crowded_in E ss ≡ false
unfolding crowded_in
uncrowded E F h [] e = refl
uncrowded E F h (s ∷ ss) e =
    let (p, q) = or_f (crowded_at F s) (crowded_in F ss) e in
    let k = h s in
    let m = ltb-false 31 (length (distinct (others s F))) p in
    rw (le-ltb 31 (length (distinct (others s E))) (omega arith)) (uncrowded E F h ss q)

-- the edges of a model are no more crowded than the transitions that they are made of
pub joined_crowd : (E : List Edge) (ss : List ℕ) → crowded_in (nonzero E) ss ≡ false → crowded_in (nonzero (join (sort_edges E))) ss ≡ false
joined_crowd E = uncrowded (nonzero (join (sort_edges E))) (nonzero E) (λ s. distinct_fewer (others s (nonzero (join (sort_edges E)))) (others s (nonzero E))
    (all_led s (others s (nonzero E)) (join (sort_edges E)) (leads_join s (others s (nonzero E)) (sort_edges E) (all_sorted (Leads s (others s (nonzero E))) E (leads_all s (others s (nonzero E)) E (λ t i. i))))))

-- ---- any labels

abbrev Alike : Edge → Edge → Type 0
Alike a b = (a.source ≡ b.source) × (a.target ≡ b.target) × (a.weight ≡ b.weight)

pub others_alike : (f g : ℕ → Edge) → ((i : ℕ) → Alike (f i) (g i)) → (s : ℕ) (l : List ℕ) → others s (nonzero (map f l)) ≡ others s (nonzero (map g l))
unfolding nonzero others
others_alike f g h s [] = refl
others_alike f g h s (i ∷ l) = let (p, q, r) = h i in ap (λ (b : Bool). others s (keep b (f i) (nonzero (map f l)))) (ap is_zero r) ∙ pick (others_alike f g h s l) (is_zero (g i).weight) p q
  where
    pick : others s (nonzero (map f l)) ≡ others s (nonzero (map g l)) → (b : Bool) → (f i).source ≡ (g i).source → (f i).target ≡ (g i).target
        → others s (keep b (f i) (nonzero (map f l))) ≡ others s (keep b (g i) (nonzero (map g l)))
    pick ih true p q = ih
    pick ih false p q = rw (p, q) (ap (chosen (leads_on s (g i)) (g i).target) ih)

pub crowd_alike : (f g : ℕ → Edge) → ((i : ℕ) → Alike (f i) (g i)) → (l ss : List ℕ) → crowded_in (nonzero (map f l)) ss ≡ crowded_in (nonzero (map g l)) ss
crowd_alike f g h l ss = crowded_same (nonzero (map f l)) (nonzero (map g l)) (λ s. ap (λ (x : List ℕ). length (distinct x)) (others_alike f g h s l)) ss
