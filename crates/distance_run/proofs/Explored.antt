-- What `discover_from` lists is run as the definition says, however many pairs there are.
use mathlib.Core.Path.{◌≡◌, refl, sym, ap, ap₂, ◌∙◌}
use mathlib.Core.Bool.{false, true≢false}
use lib.Dec.{eqb}
use mathlib.Core.Logic.{◌⊎◌, inl, inr}
use Prim.Native.Nat.{ℕ, ◌≤◌, ◌<◌, min}
use mathlib.Core.List.{List}
use native.Mathlib.Omega.{arith}
use lib.ListN.{length, take, length-map, length-append, drop}
use lib.Seq.{take_all, take_at}
use lib.Ieee.{Float}
use borrow.Author.Tests.{lt-ltb, le-ltb, ne_eqb}
use Rattle.std.specs.Prelude.{Result, Ok, Err}
use Rattle.std.specs.Result.{IsErrAnd, is_ok}
use Rattle.numbers.specs.Lists.{over}
use Rattle.numbers.specs.Refuse.{number, numbered, answered}
use Rattle.numbers.specs.declared.refusal.Refusal.{Refusal}
use Rattle.numbers.proofs.Bools.{lt_or_ge}
use Rattle.numbers.proofs.Refuses.{check_hit, check_skip}
use Rattle.chain_theory.specs.Columns.{ChainColumns, chain_of}
use Rattle.chain_theory.specs.declared.ChainShape.{ChainShape}
use Rattle.chain_theory.proofs.Shaped.{Shaped}
use Rattle.distance_theory.specs.Pairs.{Pair, most, row_of, pairs}
use Rattle.distance_theory.specs.Outcome.{run}
use Rattle.distance_theory.specs.declared.MetricOptions.{MetricOptions}
use Rattle.distance_theory.proofs.Discovery.{listed, lefts, rights, Found, found, found_refusal, found_in}
use Rattle.distance_theory.proofs.Explore.{pairs_some}
use Rattle.distance_theory.proofs.Index.{index, index_length}
use Rattle.distance_words.specs.Told.{Told, told_of}
use Rattle.distance_words.specs.declared.told.Answer.{Answer}
use Rattle.distance_words.proofs.Found.{found_of}
use Rattle.distance_run.proofs.Chains.{cut, many_told, found_told}

observations_are : (H : ChainShape) (C : ChainColumns) → take H.states C.observations ≡ (chain_of H C).observations
unfolding chain_of
observations_are H C = refl

-- ---- how many pairs there are, or 17

abbrev refused : ℕ → Result ℕ ℕ
refused k = Err k

abbrev counts : ℕ → Result ℕ ℕ
counts n = Ok n

ways : (n : ℕ) → 0 < n → {x : Result ℕ ℕ} → x ≡ answered (found_refusal n) n → ((most < n) × (x ≡ refused 17)) ⊎ ((n ≤ most) × (x ≡ counts n))
ways n h {x} e = pick (lt_or_ge most n)
  where
    none : eqb n 0 ≡ false
    none = ne_eqb n 0 (λ z. let y : n ≡ 0 = z in omega arith)

    pick : (most < n) ⊎ (n ≤ most) → ((most < n) × (x ≡ refused 17)) ⊎ ((n ≤ most) × (x ≡ counts n))
    pick (inl g) = inl (g, e ∙ ap (λ (k : ℕ). answered k n) (check_skip 4 (eqb n 0) _ 17 none (check_hit 17 _ 0 (lt-ltb most n g))))
    pick (inr g) = inr (g, e ∙ ap (λ (k : ℕ). answered k n) (check_skip 4 (eqb n 0) _ 0 none (check_skip 17 _ 0 0 (le-ltb most n g) refl)))

abbrev value : Result ℕ ℕ → ℕ
value (Ok x) = x
value (Err k) = 0

abbrev number_in : Result ℕ ℕ → ℕ
number_in (Ok x) = 0
number_in (Err k) = k

abbrev told : ℕ → Told
told k = Err k

module _ (HL : ChainShape) (CL : ChainColumns) (HR : ChainShape) (CR : ChainColumns) (γ : Float) (o : MetricOptions) (SL : Shaped HL CL) (SR : Shaped HR CR) (few : HR.states ≤ 2000)
    (slimL : (x : ℕ) → x < HL.states → length (row_of (chain_of HL CL) x) ≤ 32) (slimR : (x : ℕ) → x < HR.states → length (row_of (chain_of HR CR) x) ≤ 32)
    (seenL : HL.states ≤ length CL.observations) (seenR : HR.states ≤ length CR.observations) (asked : o.top ≤ 64)
    (l r c l₀ r₀ c₀ : List ℕ) (p : List ℕ) (m : List Float) where
  abbrev all : List Pair
  all = pairs (chain_of HL CL) (chain_of HR CR)

  abbrev answer : Told
  answer = told_of (run (chain_of HL CL) (chain_of HR CR) γ o (min (length p) (length m)))

  counted : {x : Result ℕ ℕ} → found x l r c ≡ found_in (listed all l₀ r₀ c₀) → ((most < length all) × (x ≡ refused 17)) ⊎ ((length all ≤ most) × (x ≡ counts (length all)))
  counted e = ways (length all) (pairs_some (chain_of HL CL) (chain_of HR CR)) (ap (λ (d : Found). d.answer) e)

  pub explored_refused : (x : Refusal) → found (Err (number x)) l r c ≡ found_in (listed all l₀ r₀ c₀) → (t : Result Answer Refusal) → IsErrAnd t (λ y. y ≡ x) → numbered t ≡ answer
  explored_refused x e (Ok y) i = absurd i
  explored_refused x e (Err y) i = ap (λ (z : Refusal). told (number z)) i ∙ pick (counted e)
    where
      pick : ((most < length all) × (refused (number x) ≡ refused 17)) ⊎ ((length all ≤ most) × (refused (number x) ≡ counts (length all))) → told (number x) ≡ answer
      pick (inl h) = ap told (ap number_in h.1) ∙ many_told HL CL HR CR γ o (min (length p) (length m)) h.0
      pick (inr h) = absurd (true≢false (sym (ap is_ok h.1)))

  module _ (n : ℕ) (e : found (Ok n) l r c ≡ found_in (listed all l₀ r₀ c₀)) where
    pub some : (n ≡ length all) × (n ≤ most)
    some = pick (counted e)
      where
        pick : ((most < length all) × (counts n ≡ refused 17)) ⊎ ((length all ≤ most) × (counts n ≡ counts (length all))) → (n ≡ length all) × (n ≤ most)
        pick (inl h) = absurd (true≢false (ap is_ok h.1))
        pick (inr h) = let z = ap value h.1 in let k = h.0 in (z, omega arith)

    front_all : take most all ≡ all
    front_all = let z = some in let a = z.0 in let b = z.1 in take_all most all (omega arith)

    left_front : l ≡ over (lefts all) l₀
    left_front = ap (λ (d : Found). d.lefts) e ∙ ap (λ (ps : List Pair). over (lefts ps) l₀) front_all

    right_front : r ≡ over (rights all) r₀
    right_front = ap (λ (d : Found). d.rights) e ∙ ap (λ (ps : List Pair). over (rights ps) r₀) front_all

    code_front : c ≡ over (index all) c₀
    code_front = ap (λ (d : Found). d.codes) e ∙ ap (λ (ps : List Pair). over (index ps) c₀) front_all

    long : (a b x : List ℕ) → x ≡ over a b → length a ≡ length all → n ≤ length x
    long a b x f g = let z = some.0 in let y = ap length f in let w = length-append a (drop (length a) b) in omega arith

    pub left_long : n ≤ length l
    left_long = long (lefts all) l₀ l left_front (length-map all (λ (q : Pair). q.left))

    pub right_long : n ≤ length r
    right_long = long (rights all) r₀ r right_front (length-map all (λ (q : Pair). q.right))

    cut_is : (a b x : List ℕ) → x ≡ over a b → length a ≡ length all → take n x ≡ a
    cut_is a b x f g = ap (take n) f ∙ take_at a _ n (g ∙ sym some.0)

    pub explored_told : {C D : ChainColumns} → C ≡ cut HL CL → D ≡ cut HR CR → {t : Told}
        → t ≡ found_of (length (take n l)) (take n l) (take n r) (take n c) C D C.observations D.observations γ o p m → t ≡ answer
    explored_told {C} {D} f g {t} k =
        let ll = cut_is (lefts all) l₀ l left_front (length-map all (λ (q : Pair). q.left)) in
        let rr = cut_is (rights all) r₀ r right_front (length-map all (λ (q : Pair). q.right)) in
        let cc = cut_is (index all) c₀ c code_front (index_length all) in
        k
        ∙ ap₂ (λ (x y : List ℕ). found_of (length x) x y (take n c) C D C.observations D.observations γ o p m) ll rr
        ∙ ap (λ (y : List ℕ). found_of (length (lefts all)) (lefts all) (rights all) y C D C.observations D.observations γ o p m) cc
        ∙ ap₂ (λ (x y : ChainColumns). found_of (length (lefts all)) (lefts all) (rights all) (index all) x y x.observations y.observations γ o p m) f g
        ∙ ap (λ (j : ℕ). found_of j (lefts all) (rights all) (index all) (cut HL CL) (cut HR CR) (take HL.states CL.observations) (take HR.states CR.observations) γ o p m) (length-map all (λ (q : Pair). q.left))
        ∙ ap₂ (λ (x y : List Float). found_of (length all) (lefts all) (rights all) (index all) (cut HL CL) (cut HR CR) x y γ o p m) (observations_are HL CL) (observations_are HR CR)
        ∙ found_told HL CL HR CR γ o SL SR few slimL slimR seenL seenR asked (let z = some in let a = z.0 in let b = z.1 in omega arith) p m
