-- Discovery as the code has it: the pairs in lists of their left and right states, and their index. `Noted` is what the lists hold at every time.
use mathlib.Core.Path.{◌≡◌, refl, sym, subst, subst⁻¹, ap, ap₂, ◌∙◌}
use mathlib.Core.Logic.{◌⊎◌, inl, inr}
use Prim.Native.Nat.{ℕ, zero, suc, ◌≤◌, ◌<◌, ◌+◌, ◌-◌}
use mathlib.Core.Bool.{Bool, true, false, not, ◌&&◌}
use mathlib.Core.List.{List, [], ◌∷◌, ◌++◌, map, map-append, append-nil, append_assoc}
use native.Mathlib.Omega.{arith}
use native.Mathlib.Numerals.{add-one}
use native.Mathlib.Nat.{le_of_suc-le-suc, not-suc-le-zero}
use lib.Dec.{eqb, ltb, leb}
use lib.ListN.{length, get_or, set, take, drop, length-append, length-drop, length-map, length-take, take-append-drop, get_or-append}
use lib.Seq.{slice, take_all, take-suc, take_at, take-append-le, length-slice, drop-append-add, drop-drop}
use Rattle.std.specs.Prelude.{Result, Ok, Err}
use Rattle.std.specs.Result.{IsErrAnd}
use Rattle.numbers.specs.Refuse.{check, answered, number}
use Rattle.numbers.specs.declared.refusal.Refusal.{Refusal}
use Rattle.numbers.specs.Lists.{In, over}
use Rattle.numbers.specs.Sort.{insert}
use borrow.Author.Tests.{ltb-true, ltb-false, leb-true, not-true, le-ltb, ne_eqb}
use Rattle.numbers.proofs.Refuses.{check_skip}
use Rattle.numbers.proofs.Bools.{and_t}
use Rattle.numbers.proofs.Members.{in_at, in_left, in_right, in_snoc, apart_snoc}
use Rattle.numbers.proofs.Sorts.{insert_here, insert_past}
use Rattle.epsdelta_theory.specs.Jumps.{Jump, targets}
use Rattle.epsdelta_theory.proofs.RowsIn.{pushed, put}
use Rattle.epsdelta_theory.proofs.RowReads.{starts_up, jumps_targets}
use Rattle.chain_theory.specs.Chain.{Chain}
use Rattle.chain_theory.specs.declared.Chain.{Chain as Lent}
use Rattle.chain_theory.specs.Lent.{of_chain}
use Rattle.chain_theory.specs.Columns.{ChainColumns, begins, chain_of}
use Rattle.chain_theory.specs.Check.{misshapen}
use Rattle.chain_theory.specs.declared.ChainShape.{ChainShape}
use Rattle.chain_theory.proofs.Shaped.{shaped}
use Rattle.distance_theory.specs.Pairs.{Pair, pair, pair_at, place, most, meet, meet_all, cross, target_pair, row_of, successors, explore, pairs}
use Rattle.distance_theory.specs.declared.lent.PairsMut.{PairsMut}
use Rattle.distance_theory.proofs.Crossings.{map_at}
use Rattle.distance_theory.proofs.Explore.{pairs_some, place_in, Sane, meet_known, meet_new, meet_all_full, follow, explore_on, explore_end, explore_full}
use Rattle.distance_theory.proofs.Inside.{Sound, Of, AllOf, successors_of_lem, row_at, chain_sound}
use Rattle.distance_theory.proofs.Index.{key, code, index, keyed, is_at, Splits, goes_in, is_known, index_length, index_more}

-- ---- the lists

abbrev pub lefts : List Pair → List ℕ
lefts ps = map (λ (p : Pair). p.left) ps

abbrev pub rights : List Pair → List ℕ
rights ps = map (λ (p : Pair). p.right) ps

-- how many pairs were found, and what the lists hold then
pub record Discovery : Type 0 where
  pub count : ℕ
  pub lefts : List ℕ
  pub rights : List ℕ
  pub codes : List ℕ

abbrev pub discovered : ℕ → List ℕ → List ℕ → List ℕ → Discovery
discovered n l r c = record { count = n; lefts = l; rights = r; codes = c }

-- the first 4,096 pairs over the front of the lists
abbrev pub listed : List Pair → List ℕ → List ℕ → List ℕ → Discovery
listed found l r c = let ps = take most found in discovered (length found) (over (lefts ps) l) (over (rights ps) r) (over (index ps) c)

-- nothing is found where nothing can be looked for
abbrev pub listed_if : Bool → List Pair → List ℕ → List ℕ → List ℕ → Discovery
listed_if true found l r c = listed found l r c
listed_if false found l r c = discovered 0 l r c

-- columns as check 4 wants them, of at most 2,000 states
abbrev pub readable : ChainShape → ChainColumns → Bool
readable H C = leb H.states 2000 && not (misshapen H C)

abbrev pub long : ℕ → ℕ → ℕ → Bool
long l r c = leb most l && (leb most r && leb most c)

abbrev pub discoverable : ChainShape → ChainColumns → ChainShape → ChainColumns → List ℕ → List ℕ → List ℕ → Bool
discoverable HL CL HR CR l r c = long (length l) (length r) (length c) && (readable HL CL && readable HR CR)

-- the pairs of two chains; lists that do not fit stay as they are
abbrev pub discover : ChainShape → ChainColumns → ChainShape → ChainColumns → List ℕ → List ℕ → List ℕ → Discovery
discover HL CL HR CR l r c = listed_if (discoverable HL CL HR CR l r c) (pairs (chain_of HL CL) (chain_of HR CR)) l r c

-- the same of chains and lists that are lent
abbrev pub discoverable_in : Lent → Lent → PairsMut → Bool
discoverable_in L R P = discoverable L.shape (of_chain L) R.shape (of_chain R) P.lefts.now P.rights.now P.codes.now

abbrev pub discover_in : Lent → Lent → PairsMut → Discovery
discover_in L R P = discover L.shape (of_chain L) R.shape (of_chain R) P.lefts.now P.rights.now P.codes.now

-- ---- what they hold at every time

-- the pairs found so far, of a and b states, over lists that were l₀, r₀ and c₀
pub record Noted (a b : ℕ) (found : List Pair) (l₀ r₀ c₀ : List ℕ) (n : ℕ) (l r c : List ℕ) : Type 0 where
  pub count_is : n ≡ length found
  pub lefts_are : l ≡ over (lefts (take most found)) l₀
  pub rights_are : r ≡ over (rights (take most found)) r₀
  pub codes_are : c ≡ over (index (take most found)) c₀
  pub sane : Sane found
  pub low : AllOf a b found

-- room for a pair more, unless there are 4,096
pub record Lists (n : ℕ) (l r c : List ℕ) : Type 0 where
  pub few : n ≤ most
  pub lefts_long : most ≤ length l
  pub rights_long : most ≤ length r
  pub codes_long : most ≤ length c

-- the pairs ps are met
abbrev pub Takes : List Pair → ℕ → List ℕ → List ℕ → List ℕ → ℕ → List ℕ → List ℕ → List ℕ → Type 0
Takes ps n l r c n' l' r' c' =
    (a b : ℕ) (found : List Pair) (l₀ r₀ c₀ : List ℕ) → b ≤ 2048 → AllOf a b ps → Noted a b found l₀ r₀ c₀ n l r c → Noted a b (meet_all ps found) l₀ r₀ c₀ n' l' r' c'

-- the same of lists that are lent
abbrev pub Noting : PairsMut → Type 0
Noting P = Lists P.count P.lefts.now P.rights.now P.codes.now

-- a refusal is 17, and 4,096 pairs are noted then
abbrev pub Over : Result (Unit {0}) Refusal → PairsMut → Type 0
Over (Ok u) Q = Unit {0}
Over (Err r) Q = (number r ≡ 17) × (Q.count ≡ most)

-- how many pairs there are: those that are noted, or one more for which 17 came up
abbrev pub counted : Result (Unit {0}) Refusal → ℕ → ℕ
counted (Ok u) n = n
counted (Err r) n = suc most

abbrev pub Taken : List Pair → Result (Unit {0}) Refusal → PairsMut → PairsMut → Type 0
Taken ps a P Q = Takes ps P.count P.lefts.now P.rights.now P.codes.now (counted a Q.count) Q.lefts.now Q.rights.now Q.codes.now

-- how many there are, and what the lists hold then
abbrev pub discovered_as : Result (Unit {0}) Refusal → PairsMut → Discovery
discovered_as a Q = discovered (counted a Q.count) Q.lefts.now Q.rights.now Q.codes.now

abbrev pub Meets : List Pair → Result (Unit {0}) Refusal → PairsMut → PairsMut → Type 0
Meets ps a P Q = Over a Q × Noting Q × Taken ps a P Q

-- 17 is handed on
pub handed : (ps : List Pair) (P Q : PairsMut) (a : Result (Unit {0}) Refusal) (r : Refusal) → IsErrAnd a (λ e. e ≡ r) → Meets ps (Err r) P Q → Meets ps a P Q
handed ps P Q (Ok u) r h M = absurd h
handed ps P Q (Err s) r h ((o, k), N, T) = ((ap number h ∙ o, k), N, T)

-- the number of the refusal, or how many pairs were found; and the lists then
pub record Found : Type 0 where
  pub answer : Result ℕ ℕ
  pub lefts : List ℕ
  pub rights : List ℕ
  pub codes : List ℕ

abbrev pub found : Result ℕ ℕ → List ℕ → List ℕ → List ℕ → Found
found a l r c = record { answer = a; lefts = l; rights = r; codes = c }

-- how many pairs are noted then: those that were found, 4,096 of more, and as many as before where nothing was looked for
abbrev pub CountLeft : Result ℕ Refusal → PairsMut → PairsMut → Type 0
CountLeft (Ok n) P Q = Q.count ≡ n
CountLeft (Err r) P Q = (number r ≡ 17 → Q.count ≡ most) × (number r ≡ 4 → Q.count ≡ P.count)

-- 17 is handed on
pub count_left : (a : Result ℕ Refusal) (r : Refusal) (P Q : PairsMut) → IsErrAnd a (λ e. e ≡ r) → Over (Err r) Q → CountLeft a P Q
count_left (Ok n) r P Q h o = absurd h
count_left (Err s) r P Q h (o, k) = (λ e. k, λ e. absurd (let f = ap number h ∙ o in omega arith))

abbrev pub found_as : Result ℕ ℕ → PairsMut → Found
found_as a Q = found a Q.lefts.now Q.rights.now Q.codes.now

-- 4 where nothing can be looked for, 17 where there are over 4,096 pairs
abbrev pub found_refusal : ℕ → ℕ
found_refusal n = check 4 (eqb n 0) (check 17 (ltb most n) 0)

abbrev pub found_in : Discovery → Found
found_in D = found (answered (found_refusal D.count) D.count) D.lefts D.rights D.codes

-- each target of one row with each of another
unfoldable pub crossing : List ℕ → List ℕ → List Pair
crossing [] ys = []
crossing (x ∷ xs) ys = map (pair x) ys ++ crossing xs ys

-- the targets of state x, in columns of offsets and targets
abbrev pub row_in : List ℕ → List ℕ → ℕ → List ℕ
row_in O T x = slice (get_or O x 0) (get_or O (x + 1) 0) T

-- they can be read
pub record Rowed (O T : List ℕ) (x : ℕ) : Type 0 where
  pub ends : x + 1 < length O
  pub rises : get_or O x 0 ≤ get_or O (x + 1) 0
  pub within : get_or O (x + 1) 0 ≤ length T

-- what is read of a chain of n states: where its rows begin, and its targets
pub record Reads (n : ℕ) (A : Chain) (O T : List ℕ) : Type 0 where
  pub few : n ≤ 2000
  pub sound : Sound n A
  pub offsets_long : n < length O
  pub rise : (s : ℕ) → s < n → get_or O s 0 ≤ get_or O (s + 1) 0
  pub targets_long : (s : ℕ) → s < n → get_or O (s + 1) 0 ≤ length T
  pub rows : (s : ℕ) → s < n → targets (row_of A s) ≡ row_in O T s

-- ---- one entry more over the front of a list

over_more : (l d : List ℕ) (x : ℕ) → length l < length d → set (over l d) (length l) x ≡ over (l ++ (x ∷ [])) d
over_more [] [] x h = absurd (not-suc-le-zero h)
over_more [] (y ∷ d) x h = refl
over_more (z ∷ l) [] x h = absurd (not-suc-le-zero h)
over_more (z ∷ l) (y ∷ d) x h = ap (λ (r : List ℕ). z ∷ r) (over_more l d x (le_of_suc-le-suc h))

over_size : (l d : List ℕ) (n : ℕ) → n ≤ length (over l d) → length l < n → length l < length d
over_size l d n h k = let a = length-append l (drop (length l) d) in let b = length-drop (length l) d in omega arith

-- place n of a list that ends there, over another
over_next : (l d o : List ℕ) (x n : ℕ) → o ≡ over l d → length l ≡ n → n < most → most ≤ length o → set o n x ≡ over (l ++ (x ∷ [])) d
over_next l d o x n e s h k =
    let z : length l < length d = over_size l d most (subst (λ (y : List ℕ). most ≤ length y) e k) (omega arith) in
    ap (λ (y : List ℕ). set y n x) e ∙ ap (λ (j : ℕ). set (over l d) j x) (sym s) ∙ over_more l d x z

-- ---- a code put in

pushed_is : (k : ℕ) (l : List ℕ) (c : ℕ) → k < length l → pushed k l c ≡ (c ∷ take k l) ++ drop (suc k) l
unfolding pushed
pushed_is k [] c h = absurd (not-suc-le-zero h)
pushed_is zero (y ∷ l) c h = refl
pushed_is (suc k) (y ∷ l) c h = ap (λ (r : List ℕ). c ∷ r) (pushed_is k l y (le_of_suc-le-suc h))

push_insert : (t n k m : ℕ) (l : List ℕ) → n + k ≡ m → m < length l → Splits (take m l) t n → take n l ++ pushed k (drop n l) t ≡ insert t (take m l) ++ drop (suc m) l
unfolding insert
push_insert t n k m [] s h S = absurd (not-suc-le-zero h)
push_insert t zero k zero (x ∷ l) s h S = ap (λ (j : ℕ). pushed j (x ∷ l) t) (let e : k ≡ 0 = omega arith in e) ∙ pushed_is 0 (x ∷ l) t h
push_insert t zero k (suc m) (x ∷ l) s h S =
    ap (λ (j : ℕ). pushed j (x ∷ l) t) (let e : k ≡ suc m = omega arith in e) ∙ pushed_is (suc m) (x ∷ l) t h
    ∙ ap (λ (r : List ℕ). r ++ drop (suc m) l) (sym (insert_here t x (take m l) (S.behind 0 (omega arith) (omega arith))))
push_insert t (suc n) k zero (x ∷ l) s h S = absurd (omega arith)
push_insert t (suc n) k (suc m) (x ∷ l) s h S =
    let R : Splits (take m l) t n = record { within = le_of_suc-le-suc S.within; before = λ i j. S.before (suc i) (omega arith); behind = λ i j q. S.behind (suc i) (omega arith) (omega arith) } in
    ap (λ (r : List ℕ). x ∷ r) (push_insert t n k m l (omega arith) (le_of_suc-le-suc h) R)
    ∙ ap (λ (r : List ℕ). r ++ drop (suc m) l) (sym (insert_past t x (take m l) (S.before 0 (omega arith))))

-- an entry put in at a place is pushed in there
pub put_pushed : (n k : ℕ) (l : List ℕ) (c : ℕ) → put n k l c ≡ take n l ++ pushed k (drop n l) c
unfolding put pushed
put_pushed zero k l c = refl
put_pushed (suc n) k [] c = refl
put_pushed (suc n) k (y ∷ l) c = ap (λ (r : List ℕ). y ∷ r) (put_pushed n k l c)

pub put_length : (n k : ℕ) (l : List ℕ) (c : ℕ) → length (put n k l c) ≡ length l
unfolding put pushed
put_length (suc n) k [] c = refl
put_length (suc n) k (y ∷ l) c = ap suc (put_length n k l c)
put_length zero k [] c = refl
put_length zero zero (y ∷ l) c = refl
put_length zero (suc k) (y ∷ l) c = ap suc (put_length zero k l y)

-- ---- some pairs met

pub takes_nil : (n : ℕ) (l r c : List ℕ) → Takes [] n l r c n l r c
unfolding meet_all
takes_nil n l r c a b found l₀ r₀ c₀ h w N = N

meet_all_append : (ps qs found : List Pair) → meet_all (ps ++ qs) found ≡ meet_all qs (meet_all ps found)
unfolding meet_all
meet_all_append [] qs found = refl
meet_all_append (p ∷ ps) qs found = meet_all_append ps qs (meet p found)

of_left : (a b : ℕ) (ps qs : List Pair) → AllOf a b (ps ++ qs) → AllOf a b ps
of_left a b ps qs w p i = w p (in_left p ps qs i)

of_right : (a b : ℕ) (ps qs : List Pair) → AllOf a b (ps ++ qs) → AllOf a b qs
of_right a b ps qs w p i = w p (in_right p ps qs i)

module _ {n n₁ : ℕ} {l r c l₁ r₁ c₁ : List ℕ} where
  -- first some, then others
  pub takes_append : {n₂ : ℕ} {l₂ r₂ c₂ : List ℕ} (ps qs : List Pair) → Takes ps n l r c n₁ l₁ r₁ c₁ → Takes qs n₁ l₁ r₁ c₁ n₂ l₂ r₂ c₂ → Takes (ps ++ qs) n l r c n₂ l₂ r₂ c₂
  takes_append {n₂} {l₂} {r₂} {c₂} ps qs f g a b found l₀ r₀ c₀ h w N =
      subst⁻¹ (λ (x : List Pair). Noted a b x l₀ r₀ c₀ n₂ l₂ r₂ c₂) (meet_all_append ps qs found)
      (g a b (meet_all ps found) l₀ r₀ c₀ h (of_right a b ps qs w) (f a b found l₀ r₀ c₀ h (of_left a b ps qs w) N))

  -- pair 4,097 was met: the others change nothing
  pub takes_full : (ps qs : List Pair) → most < n₁ → Takes ps n l r c n₁ l₁ r₁ c₁ → Takes (ps ++ qs) n l r c n₁ l₁ r₁ c₁
  takes_full ps qs m f a b found l₀ r₀ c₀ h w N =
      let M = f a b found l₀ r₀ c₀ h (of_left a b ps qs w) N in
      let k = M.count_is in
      subst⁻¹ (λ (x : List Pair). Noted a b x l₀ r₀ c₀ n₁ l₁ r₁ c₁) (meet_all_append ps qs found ∙ meet_all_full qs (meet_all ps found) (omega arith)) M

-- ---- one pair

meet_one : (p : Pair) (found : List Pair) → meet_all (p ∷ []) found ≡ meet p found
unfolding meet_all
meet_one p found = refl

meet_low : (a b : ℕ) (p : Pair) (found : List Pair) → Of a b p → AllOf a b found → AllOf a b (found ++ (p ∷ []))
meet_low a b p found o w q i = pick (in_snoc q p found i)
  where
    pick : In q found ⊎ (q ≡ p) → Of a b q
    pick (inl j) = w q j
    pick (inr e) = subst⁻¹ (Of a b) e o

module _ (x y n : ℕ) (l r c : List ℕ) (L : Lists n l r c) where
  -- what the codes in use are
  front : (a b : ℕ) (found : List Pair) (l₀ r₀ c₀ : List ℕ) → Noted a b found l₀ r₀ c₀ n l r c → (take most found ≡ found) × (take n c ≡ index found)
  front a b found l₀ r₀ c₀ N =
      let f = L.few in let k = N.count_is in
      let t : take most found ≡ found = take_all most found (omega arith) in
      (t, ap (take n) (N.codes_are ∙ ap (λ (ps : List Pair). over (index ps) c₀) t) ∙ take_at (index found) _ n (index_length found ∙ sym k))

  -- the codes of its key go to place at
  module _ (k at : ℕ) (ek : k ≡ key (pair x y)) (ea : at ≡ keyed (take n c) k) where
    looked : (a b : ℕ) (found : List Pair) (l₀ r₀ c₀ : List ℕ) → b ≤ 2048 → AllOf a b (pair x y ∷ []) → Noted a b found l₀ r₀ c₀ n l r c → is_at (take n c) at k ≡ ltb (place (pair x y) found) (length found)
    looked a b found l₀ r₀ c₀ h w N =
        let f = L.few in let s = N.count_is in
        let o = (w (pair x y) (inl refl)).1 in
        ap₂ (is_at (take n c)) (ea ∙ ap (keyed (take n c)) ek) ek
        ∙ ap (λ (z : List ℕ). is_at z (keyed z (key (pair x y))) (key (pair x y))) (front a b found l₀ r₀ c₀ N).1
        ∙ is_known a found N.sane.0 (λ p i. let q = N.low p i in let u = q.1 in (q.0, omega arith)) (omega arith) (pair x y) (omega arith)

    -- it is known
    pub takes_known : is_at (take n c) at k ≡ true → Takes (pair x y ∷ []) n l r c n l r c
    takes_known q a b found l₀ r₀ c₀ h w N =
        subst⁻¹ (λ (z : List Pair). Noted a b z l₀ r₀ c₀ n l r c) (meet_one (pair x y) found ∙ meet_known (pair x y) found (ltb-true (place (pair x y) found) (length found) (sym (looked a b found l₀ r₀ c₀ h w N) ∙ q))) N

    module _ (q : is_at (take n c) at k ≡ false) where
      -- it is none of those found
      absent : (a b : ℕ) (found : List Pair) (l₀ r₀ c₀ : List ℕ) → b ≤ 2048 → AllOf a b (pair x y ∷ []) → Noted a b found l₀ r₀ c₀ n l r c → length found ≤ place (pair x y) found
      absent a b found l₀ r₀ c₀ h w N = ltb-false (place (pair x y) found) (length found) (sym (looked a b found l₀ r₀ c₀ h w N) ∙ q)

      new : (a b : ℕ) (found : List Pair) (l₀ r₀ c₀ : List ℕ) → b ≤ 2048 → AllOf a b (pair x y ∷ []) → Noted a b found l₀ r₀ c₀ n l r c → meet_all (pair x y ∷ []) found ≡ found ++ (pair x y ∷ [])
      new a b found l₀ r₀ c₀ h w N =
          let f = L.few in let s = N.count_is in let e = absent a b found l₀ r₀ c₀ h w N in
          meet_one (pair x y) found ∙ meet_new (pair x y) found (omega arith) (omega arith)

      grown : (a b : ℕ) (found : List Pair) (l₀ r₀ c₀ : List ℕ) → b ≤ 2048 → AllOf a b (pair x y ∷ []) → Noted a b found l₀ r₀ c₀ n l r c → Sane (found ++ (pair x y ∷ []))
      grown a b found l₀ r₀ c₀ h w N =
          let f = L.few in let s = N.count_is in let e = absent a b found l₀ r₀ c₀ h w N in
          (apart_snoc found (pair x y) N.sane.0 (λ i. let j = place_in (pair x y) found i in omega arith), (let z = length-append found (pair x y ∷ []) in omega arith))

      -- it is pair 4,097
      pub takes_last : most ≤ n → Takes (pair x y ∷ []) n l r c (suc most) l r c
      takes_last m a b found l₀ r₀ c₀ h w N =
          let f = L.few in let s = N.count_is in
          let z = length-append found (pair x y ∷ []) in
          let t : take most (found ++ (pair x y ∷ [])) ≡ take most found = take-append-le most found (pair x y ∷ []) (omega arith) in
          subst⁻¹ (λ (z : List Pair). Noted a b z l₀ r₀ c₀ (suc most) l r c) (new a b found l₀ r₀ c₀ h w N)
          (record {
            count_is = omega arith;
            lefts_are = N.lefts_are ∙ ap (λ (ps : List Pair). over (lefts ps) l₀) (sym t);
            rights_are = N.rights_are ∙ ap (λ (ps : List Pair). over (rights ps) r₀) (sym t);
            codes_are = N.codes_are ∙ ap (λ (ps : List Pair). over (index ps) c₀) (sym t);
            sane = grown a b found l₀ r₀ c₀ h w N;
            low = meet_low a b (pair x y) found (w (pair x y) (inl refl)) N.low;
          })

      -- it is noted
      pub takes_new : n < most → (c' : List ℕ) → c' ≡ put at (n - at) c (code (pair x y) n) → Takes (pair x y ∷ []) n l r c (n + 1) (set l n x) (set r n y) c'
      takes_new m c' ec a b found l₀ r₀ c₀ h w N =
          let s = N.count_is in
          let z = length-append found (pair x y ∷ []) in
          let (t, i) = front a b found l₀ r₀ c₀ N in
          let t' : take most (found ++ (pair x y ∷ [])) ≡ found ++ (pair x y ∷ []) = take_all most (found ++ (pair x y ∷ [])) (omega arith) in
          subst⁻¹ (λ (z : List Pair). Noted a b z l₀ r₀ c₀ (n + 1) (set l n x) (set r n y) c') (new a b found l₀ r₀ c₀ h w N)
          (record {
            count_is = omega arith;
            lefts_are = over_next (lefts found) l₀ l x n (N.lefts_are ∙ ap (λ (ps : List Pair). over (lefts ps) l₀) t) (length-map found (λ (p : Pair). p.left) ∙ sym s) m L.lefts_long
                ∙ ap (λ (s : List ℕ). over s l₀) (sym (ap lefts t' ∙ map-append (λ (p : Pair). p.left) found (pair x y ∷ [])));
            rights_are = over_next (rights found) r₀ r y n (N.rights_are ∙ ap (λ (ps : List Pair). over (rights ps) r₀) t) (length-map found (λ (p : Pair). p.right) ∙ sym s) m L.rights_long
                ∙ ap (λ (s : List ℕ). over s r₀) (sym (ap rights t' ∙ map-append (λ (p : Pair). p.right) found (pair x y ∷ [])));
            codes_are = coded found c₀ s (N.codes_are ∙ ap (λ (ps : List Pair). over (index ps) c₀) t) i (splits a b found l₀ r₀ c₀ h w N i) ∙ ap (λ (ps : List Pair). over (index ps) c₀) (sym t');
            sane = grown a b found l₀ r₀ c₀ h w N;
            low = meet_low a b (pair x y) found (w (pair x y) (inl refl)) N.low;
          })
        where
          splits : (a b : ℕ) (found : List Pair) (l₀ r₀ c₀ : List ℕ) → b ≤ 2048 → AllOf a b (pair x y ∷ []) → Noted a b found l₀ r₀ c₀ n l r c → take n c ≡ index found → Splits (take n c) (code (pair x y) n) at
          splits a b found l₀ r₀ c₀ h w N i =
              let f = L.few in let s = N.count_is in
              let e = absent a b found l₀ r₀ c₀ h w N in
              let o = (w (pair x y) (inl refl)).1 in
              subst⁻¹ (λ (z : List ℕ). Splits z (code (pair x y) n) at) i (subst⁻¹ (Splits (index found) (code (pair x y) n)) (ea ∙ ap (keyed (take n c)) ek ∙ ap (λ (z : List ℕ). keyed z (key (pair x y))) i)
              (goes_in a found N.sane.0 (λ p j. let v = N.low p j in let u = v.1 in (v.0, omega arith)) (omega arith) (pair x y) n m (omega arith) (λ j. let v = place_in (pair x y) found j in omega arith)))

          coded : (found : List Pair) (c₀ : List ℕ) → n ≡ length found → c ≡ over (index found) c₀ → take n c ≡ index found → Splits (take n c) (code (pair x y) n) at → c' ≡ over (index (found ++ (pair x y ∷ []))) c₀
          coded found c₀ v e i s =
              let u = s.within in
              let w = length-take n c in
              let g = L.codes_long in
              ec ∙ put_pushed at (n - at) c (code (pair x y) n) ∙ push_insert (code (pair x y) n) at (n - at) n c (omega arith) (omega arith) s
              ∙ ap₂ (λ (p q : List ℕ). p ++ q) (ap (insert (code (pair x y) n)) i ∙ ap (λ (j : ℕ). insert (code (pair x y) j) (index found)) v ∙ sym (index_more found (pair x y)))
              (ap (drop (suc n)) e ∙ tail)
            where
              tail : drop (suc n) (over (index found) c₀) ≡ drop (length (index (found ++ (pair x y ∷ [])))) c₀
              tail =
                  let p = index_length found in
                  let q = index_length (found ++ (pair x y ∷ [])) in
                  let z = length-append found (pair x y ∷ []) in
                  ap (λ (j : ℕ). drop j (over (index found) c₀)) (let e : suc n ≡ length (index found) + 1 = omega arith in e)
                  ∙ drop-append-add (index found) (drop (length (index found)) c₀) 1 ∙ drop-drop 1 (length (index found)) c₀
                  ∙ ap (λ (j : ℕ). drop j c₀) (let e : length (index found) + 1 ≡ length (index (found ++ (pair x y ∷ []))) = omega arith in e)

-- ---- pair after pair, and row after row

module _ (F : List ℕ → List Pair) (joins : (u v : List ℕ) → F (u ++ v) ≡ F u ++ F v) {n n₁ : ℕ} {l r c l₁ r₁ c₁ : List ℕ} (zs : List ℕ) (j : ℕ) where
  -- entry j is next
  pub takes_next : {n₂ : ℕ} {l₂ r₂ c₂ : List ℕ} → j < length zs → Takes (F (take j zs)) n l r c n₁ l₁ r₁ c₁ → Takes (F (get_or zs j 0 ∷ [])) n₁ l₁ r₁ c₁ n₂ l₂ r₂ c₂ → Takes (F (take (j + 1) zs)) n l r c n₂ l₂ r₂ c₂
  takes_next {n₂} {l₂} {r₂} {c₂} h f g =
      subst⁻¹ (λ (ps : List Pair). Takes ps n l r c n₂ l₂ r₂ c₂) (ap (λ (i : ℕ). F (take i zs)) (add-one j) ∙ ap F (take-suc zs j 0 h) ∙ joins (take j zs) (get_or zs j 0 ∷ []))
      (takes_append (F (take j zs)) (F (get_or zs j 0 ∷ [])) f g)

  -- pair 4,097 was met
  pub takes_stop : most < n₁ → Takes (F (take j zs)) n l r c n₁ l₁ r₁ c₁ → Takes (F zs) n l r c n₁ l₁ r₁ c₁
  takes_stop m f = subst (λ (ps : List Pair). Takes ps n l r c n₁ l₁ r₁ c₁) (sym (joins (take j zs) (drop j zs)) ∙ ap F (take-append-drop j zs)) (takes_full (F (take j zs)) (F (drop j zs)) m f)

  -- no entry is left
  pub takes_done : length zs ≤ j → Takes (F (take j zs)) n l r c n₁ l₁ r₁ c₁ → Takes (F zs) n l r c n₁ l₁ r₁ c₁
  takes_done h f = subst (λ (ps : List Pair). Takes ps n l r c n₁ l₁ r₁ c₁) (ap F (take_all j zs h)) f

pub pair_joins : (x : ℕ) (u v : List ℕ) → map (pair x) (u ++ v) ≡ map (pair x) u ++ map (pair x) v
pair_joins x u v = map-append (pair x) u v

-- rows beside a row ys
abbrev pub crossed : List ℕ → List ℕ → List Pair
crossed ys xs = crossing xs ys

pub crossing_joins : (ys u v : List ℕ) → crossed ys (u ++ v) ≡ crossed ys u ++ crossed ys v
unfolding crossing
crossing_joins ys [] v = refl
crossing_joins ys (x ∷ u) v = ap (λ (l : List Pair). map (pair x) ys ++ l) (crossing_joins ys u v) ∙ sym (append_assoc (map (pair x) ys) (crossing u ys) (crossing v ys))

-- no row yet, and one
pub takes_none : (ys : List ℕ) (n : ℕ) (l r c : List ℕ) → Takes (crossed ys []) n l r c n l r c
unfolding crossing
takes_none ys n l r c = takes_nil n l r c

crossing_one : (x : ℕ) (ys : List ℕ) → crossed ys (x ∷ []) ≡ map (pair x) ys
unfolding crossing
crossing_one x ys = append-nil (map (pair x) ys)

pub takes_row : (x : ℕ) (ys : List ℕ) {n n₁ : ℕ} {l r c l₁ r₁ c₁ : List ℕ} → Takes (map (pair x) ys) n l r c n₁ l₁ r₁ c₁ → Takes (crossed ys (x ∷ [])) n l r c n₁ l₁ r₁ c₁
takes_row x ys {n} {n₁} {l} {r} {c} {l₁} {r₁} {c₁} f = subst⁻¹ (λ (ps : List Pair). Takes ps n l r c n₁ l₁ r₁ c₁) (crossing_one x ys) f

pub takes_rows : {xs ys us vs : List ℕ} → xs ≡ us → ys ≡ vs → {n n₁ : ℕ} {l r c l₁ r₁ c₁ : List ℕ} → Takes (crossing xs ys) n l r c n₁ l₁ r₁ c₁ → Takes (crossing us vs) n l r c n₁ l₁ r₁ c₁
takes_rows ex ey {n} {n₁} {l} {r} {c} {l₁} {r₁} {c₁} k = subst (λ (ps : List Pair). Takes ps n l r c n₁ l₁ r₁ c₁) (ap₂ crossing ex ey) k

cross_row_lem : (x : ℕ) (e : Jump) (fs : List Jump) → e.target ≡ x → map (target_pair e) fs ≡ map (pair x) (targets fs)
cross_row_lem x e [] q = refl
cross_row_lem x e (f ∷ fs) q = ap₂ (λ (p : Pair) (l : List Pair). p ∷ l) (ap (λ (z : ℕ). pair z f.target) q) (cross_row_lem x e fs q)

cross_targets : (es fs : List Jump) → cross target_pair es fs ≡ crossing (targets es) (targets fs)
unfolding cross crossing
cross_targets [] fs = refl
cross_targets (e ∷ es) fs = ap₂ (λ (u v : List Pair). u ++ v) (cross_row_lem e.target e fs refl) (cross_targets es fs)

-- ---- discovery

-- from pair i on, with n pairs found so far
pub record Finds (A B : Chain) (a b : ℕ) (l₀ r₀ c₀ : List ℕ) (i n : ℕ) (l r c : List ℕ) : Type 0 where
  pub found : List Pair
  pub fuel : ℕ
  pub noted : Noted a b found l₀ r₀ c₀ n l r c
  pub enough : suc most ≤ fuel + i
  pub comes : explore A B fuel i found ≡ pairs A B

pairs_is : (A B : Chain) → explore A B (suc most) 0 (pair A.initial B.initial ∷ []) ≡ pairs A B
unfolding pairs
pairs_is A B = refl

index_one : (p : Pair) → index (p ∷ []) ≡ code p 0 ∷ []
unfolding index
index_one p = refl

-- discovery can begin
abbrev pub Explorable : List ℕ → List ℕ → List ℕ → List ℕ → List ℕ → List ℕ → List ℕ → Type 0
Explorable O T P U l r c = (A : Chain) × (B : Chain) × (a : ℕ) × (b : ℕ) × (l₀ : List ℕ) × (r₀ : List ℕ) × (c₀ : List ℕ) × Reads a A O T × Reads b B P U × Finds A B a b l₀ r₀ c₀ 0 1 l r c

-- it has come to pair i, with n pairs found
abbrev pub Discovers : List ℕ → List ℕ → List ℕ → List ℕ → List ℕ → List ℕ → List ℕ → ℕ → ℕ → List ℕ → List ℕ → List ℕ → Type 0
Discovers O T P U l r c i n l' r' c' =
    (A B : Chain) (a b : ℕ) (l₀ r₀ c₀ : List ℕ) → Reads a A O T → Reads b B P U → Finds A B a b l₀ r₀ c₀ 0 1 l r c → Finds A B a b l₀ r₀ c₀ i n l' r' c'

-- all pairs were found
abbrev pub Explores : List ℕ → List ℕ → List ℕ → List ℕ → List ℕ → List ℕ → List ℕ → ℕ → List ℕ → List ℕ → List ℕ → Type 0
Explores O T P U l r c n l' r' c' =
    (A B : Chain) (a b : ℕ) (l₀ r₀ c₀ : List ℕ) → Reads a A O T → Reads b B P U → Finds A B a b l₀ r₀ c₀ 0 1 l r c → Noted a b (pairs A B) l₀ r₀ c₀ n l' r' c'

-- the same of chains and lists that are lent
abbrev pub ExplorableIn : Lent → Lent → PairsMut → Type 0
ExplorableIn L R P = Explorable L.offsets.now L.targets.now R.offsets.now R.targets.now P.lefts.now P.rights.now P.codes.now

abbrev pub DiscoversIn : Lent → Lent → PairsMut → ℕ → PairsMut → Type 0
DiscoversIn L R P i Q = Discovers L.offsets.now L.targets.now R.offsets.now R.targets.now P.lefts.now P.rights.now P.codes.now i Q.count Q.lefts.now Q.rights.now Q.codes.now

abbrev pub ExploresIn : Lent → Lent → PairsMut → Result (Unit {0}) Refusal → PairsMut → Type 0
ExploresIn L R P a Q = Explores L.offsets.now L.targets.now R.offsets.now R.targets.now P.lefts.now P.rights.now P.codes.now (counted a Q.count) Q.lefts.now Q.rights.now Q.codes.now

module _ (A B : Chain) (a b : ℕ) (O T P U : List ℕ) (Ra : Reads a A O T) (RB : Reads b B P U) where
  -- the initial pair
  pub finds_start : (x y : ℕ) → A.initial ≡ x → B.initial ≡ y → (l r c : List ℕ) → most ≤ length l → most ≤ length r → most ≤ length c → Finds A B a b l r c 0 1 (set l 0 x) (set r 0 y) (set c 0 (code (pair x y) 0))
  finds_start x y ex ey l r c h i j = record {
    found = pair x y ∷ [];
    fuel = suc most;
    noted = record {
      count_is = refl;
      lefts_are = over_more [] l x (omega arith);
      rights_are = over_more [] r y (omega arith);
      codes_are = over_more [] c (code (pair x y) 0) (omega arith) ∙ ap (λ (s : List ℕ). over s c) (sym (index_one (pair x y)));
      sane = ((λ i. i, tt), omega arith);
      low = λ p q. pick p q;
    };
    enough = omega arith;
    comes = ap₂ (λ (u v : ℕ). explore A B (suc most) 0 (pair u v ∷ [])) (sym ex) (sym ey) ∙ pairs_is A B;
  }
    where
      pick : (p : Pair) → In p (pair x y ∷ []) → Of a b p
      pick p (inl e) = subst⁻¹ (Of a b) e (subst (λ (z : ℕ). z < a) ex Ra.sound.initial, subst (λ (z : ℕ). z < b) ey RB.sound.initial)
      pick p (inr q) = absurd q

  module _ (l₀ r₀ c₀ : List ℕ) (i n : ℕ) (l r c : List ℕ) (F : Finds A B a b l₀ r₀ c₀ i n l r c) (few : n ≤ most) where
    -- pair i is one of states
    pub pair_reads : i < n → (get_or l i 0 ≡ (pair_at F.found i).left) × (get_or r i 0 ≡ (pair_at F.found i).right) × Of a b (pair_at F.found i)
    pair_reads h =
        let k = F.noted.count_is in
        let t : take most F.found ≡ F.found = take_all most F.found (omega arith) in
        let s = length-map F.found (λ (p : Pair). p.left) in
        let u = length-map F.found (λ (p : Pair). p.right) in (
          ap (λ (z : List ℕ). get_or z i 0) (F.noted.lefts_are ∙ ap (λ (ps : List Pair). over (lefts ps) l₀) t) ∙ get_or-append (lefts F.found) _ 0 i (omega arith) ∙ map_at (λ (p : Pair). p.left) F.found i 0 (pair 0 0) (omega arith),
          ap (λ (z : List ℕ). get_or z i 0) (F.noted.rights_are ∙ ap (λ (ps : List Pair). over (rights ps) r₀) t) ∙ get_or-append (rights F.found) _ 0 i (omega arith) ∙ map_at (λ (p : Pair). p.right) F.found i 0 (pair 0 0) (omega arith),
          F.noted.low (pair_at F.found i) (in_at F.found i (pair 0 0) (omega arith)),
        )

    pub pair_in_lem : i < n → (get_or l i 0 < a) × (get_or r i 0 < b)
    pair_in_lem h = let (u, v, o) = pair_reads h in let p = o.0 in let q = o.1 in (omega arith, omega arith)

    -- what follows pair i
    pub pair_follows : i < n → successors A B (pair_at F.found i)
        ≡ crossing (row_in O T (get_or l i 0)) (row_in P U (get_or r i 0))
    pair_follows h =
        let (u, v, o) = pair_reads h in
        cross_targets (row_of A (pair_at F.found i).left) (row_of B (pair_at F.found i).right)
        ∙ ap₂ crossing (Ra.rows _ o.0 ∙ ap (row_in O T) (sym u)) (RB.rows _ o.1 ∙ ap (row_in P U) (sym v))

    -- pair i was followed
    pub finds_turn : {n' : ℕ} {l' r' c' : List ℕ} → i < n
        → Takes (crossing (row_in O T (get_or l i 0)) (row_in P U (get_or r i 0))) n l r c n' l' r' c'
        → Finds A B a b l₀ r₀ c₀ (i + 1) n' l' r' c'
    finds_turn {n'} {l'} {r'} {c'} h f = pick F.fuel refl
      where
        g : Takes (successors A B (pair_at F.found i)) n l r c n' l' r' c'
        g = subst⁻¹ (λ (ps : List Pair). Takes ps n l r c n' l' r' c') (pair_follows h) f

        pick : (k : ℕ) → F.fuel ≡ k → Finds A B a b l₀ r₀ c₀ (i + 1) n' l' r' c'
        pick zero e = absurd (let z = F.enough in omega arith)
        pick (suc k) e =
            let z = F.enough in
            let w = F.noted.count_is in
            record {
              found = follow A B F.found i;
              fuel = k;
              noted = g a b F.found l₀ r₀ c₀ (let d = RB.few in omega arith) (successors_of_lem a b A B Ra.sound RB.sound (pair_at F.found i) (pair_reads h).2) F.noted;
              enough = omega arith;
              comes = ap (λ (j : ℕ). explore A B k j (follow A B F.found i)) (add-one i) ∙ sym (explore_on A B k i F.found (omega arith)) ∙ ap (λ (j : ℕ). explore A B j i F.found) (sym e) ∙ F.comes;
            }

  module _ (l₀ r₀ c₀ : List ℕ) (i n : ℕ) (l r c : List ℕ) (F : Finds A B a b l₀ r₀ c₀ i n l r c) where
    -- all are found, or too many
    pub finds_end : n ≤ i → Noted a b (pairs A B) l₀ r₀ c₀ n l r c
    finds_end h = let k = F.noted.count_is in subst (λ (ps : List Pair). Noted a b ps l₀ r₀ c₀ n l r c) (sym (explore_end A B F.fuel i F.found (omega arith)) ∙ F.comes) F.noted

    pub finds_full : most < n → Noted a b (pairs A B) l₀ r₀ c₀ n l r c
    finds_full h = let k = F.noted.count_is in subst (λ (ps : List Pair). Noted a b ps l₀ r₀ c₀ n l r c) (sym (explore_full A B F.fuel i F.found (omega arith)) ∙ F.comes) F.noted

-- ---- the loop

reads_row_lem : (n : ℕ) (A : Chain) (O T : List ℕ) (x : ℕ) → Reads n A O T → x < n → Rowed O T x
reads_row_lem n A O T x R h = record { ends = (let k = R.offsets_long in omega arith); rises = R.rise x h; within = R.targets_long x h }

pub discovers_start : (O T P U l r c : List ℕ) → Discovers O T P U l r c 0 1 l r c
discovers_start O T P U l r c A B a b l₀ r₀ c₀ Ra RB F = F

module _ {O T P U l r c : List ℕ} {i n : ℕ} {l' r' c' : List ℕ} (D : Discovers O T P U l r c i n l' r' c') where
  pub turn_rows : n ≤ most → i < n → (x y : ℕ) → x ≡ get_or l' i 0 → y ≡ get_or r' i 0 → Explorable O T P U l r c → (Rowed O T x) × (Rowed P U y)
  turn_rows few h x y ex ey (A, B, a, b, l₀, r₀, c₀, Ra, RB, F) =
      let (p, q) = pair_in_lem A B a b O T P U Ra RB l₀ r₀ c₀ i n l' r' c' (D A B a b l₀ r₀ c₀ Ra RB F) few h in
      (reads_row_lem a A O T x Ra (omega arith), reads_row_lem b B P U y RB (omega arith))

  -- states x and y were followed
  pub turn : n ≤ most → i < n → (x y : ℕ) → x ≡ get_or l' i 0 → y ≡ get_or r' i 0 → {n₁ : ℕ} {l₁ r₁ c₁ : List ℕ} → Takes (crossing (row_in O T x) (row_in P U y)) n l' r' c' n₁ l₁ r₁ c₁ → Discovers O T P U l r c (i + 1) n₁ l₁ r₁ c₁
  turn few h x y ex ey {n₁} {l₁} {r₁} {c₁} k A B a b l₀ r₀ c₀ Ra RB F =
      finds_turn A B a b O T P U Ra RB l₀ r₀ c₀ i n l' r' c' (D A B a b l₀ r₀ c₀ Ra RB F) few h
      (subst (λ (ps : List Pair). Takes ps n l' r' c' n₁ l₁ r₁ c₁) (ap₂ crossing (ap (row_in O T) ex) (ap (row_in P U) ey)) k)

  pub discovers_full : most < n → Explores O T P U l r c n l' r' c'
  discovers_full h A B a b l₀ r₀ c₀ Ra RB F = finds_full A B a b O T P U Ra RB l₀ r₀ c₀ i n l' r' c' (D A B a b l₀ r₀ c₀ Ra RB F) h

  pub discovers_end : n ≤ i → Explores O T P U l r c n l' r' c'
  discovers_end h A B a b l₀ r₀ c₀ Ra RB F = finds_end A B a b O T P U Ra RB l₀ r₀ c₀ i n l' r' c' (D A B a b l₀ r₀ c₀ Ra RB F) h

-- 17 is handed on
pub explored : {O T P U l r c : List ℕ} {i : ℕ} {l' r' c' : List ℕ} (a : Result (Unit {0}) Refusal) (e : Refusal) (Q : PairsMut) → IsErrAnd a (λ d. d ≡ e) → Over (Err e) Q → Discovers O T P U l r c i (suc most) l' r' c' → Over a Q × Explores O T P U l r c (counted a Q.count) l' r' c'
explored (Ok u) e Q h f D = absurd h
explored (Err s) e Q h (f, k) D = ((ap number h ∙ f, k), discovers_full D (omega arith))

-- ---- the whole

pub noted_listed : {a b : ℕ} {found : List Pair} {l₀ r₀ c₀ : List ℕ} {n : ℕ} {l r c : List ℕ} → Noted a b found l₀ r₀ c₀ n l r c → discovered n l r c ≡ listed found l₀ r₀ c₀
noted_listed N = rw (N.count_is, N.lefts_are, N.rights_are, N.codes_are)

-- columns as check 4 wants them are read so
pub shaped_reads : (H : ChainShape) (C : ChainColumns) → H.states ≤ 2000 → misshapen H C ≡ false → Reads H.states (chain_of H C) C.offsets C.targets
unfolding chain_of
shaped_reads H C h e =
    let S = shaped H C e in
    record {
      few = h;
      sound = chain_sound H C S;
      offsets_long = S.rows.offsets_long;
      rise = S.rows.rise;
      targets_long = λ s k. let u = starts_up C.offsets H.states S.rows.rise (s + 1) H.states (omega arith) (omega arith) in let t = S.rows.targets_long in omega arith;
      rows = λ s k.
          let u = starts_up C.offsets H.states S.rows.rise (s + 1) H.states (omega arith) (omega arith) in
          let t = S.rows.targets_long in let p = S.rows.probabilities_long in
          ap targets (row_at H C s k) ∙ jumps_targets (slice (begins C s) (begins C (s + 1)) C.targets) (slice (begins C s) (begins C (s + 1)) C.probabilities)
          (length-slice (begins C s) (begins C (s + 1)) C.targets (omega arith) ∙ sym (length-slice (begins C s) (begins C (s + 1)) C.probabilities (omega arith)));
    }

pub roomy : (l r c : ℕ) → long l r c ≡ true → (most ≤ l) × (most ≤ r) × (most ≤ c)
roomy l r c e =
    let (a₁, a₂) = and_t (leb most l) _ e in
    let (a₃, a₄) = and_t (leb most r) _ a₂ in
    (leb-true most l a₁, leb-true most r a₃, leb-true most c a₄)

module _ (HL : ChainShape) (CL : ChainColumns) (HR : ChainShape) (CR : ChainColumns) (l r c : List ℕ) where
  module _ (h : discoverable HL CL HR CR l r c ≡ true) where
    rooms : long (length l) (length r) (length c) ≡ true
    rooms = (and_t (long (length l) (length r) (length c)) _ h).0

    pub has_rooms : (most ≤ length l) × (most ≤ length r) × (most ≤ length c)
    has_rooms = roomy (length l) (length r) (length c) rooms

    reads_left : Reads HL.states (chain_of HL CL) CL.offsets CL.targets
    reads_left = let (a, b) = and_t (leb HL.states 2000) _ (and_t (readable HL CL) _ (and_t (long (length l) (length r) (length c)) _ h).1).0 in shaped_reads HL CL (leb-true HL.states 2000 a) (not-true (misshapen HL CL) b)

    reads_right : Reads HR.states (chain_of HR CR) CR.offsets CR.targets
    reads_right = let (a, b) = and_t (leb HR.states 2000) _ (and_t (readable HL CL) _ (and_t (long (length l) (length r) (length c)) _ h).1).1 in shaped_reads HR CR (leb-true HR.states 2000 a) (not-true (misshapen HR CR) b)

    module _ (x y k : ℕ) (ex : HL.initial.0 ≡ x) (ey : HR.initial.0 ≡ y) (ek : k ≡ code (pair x y) 0) where
      -- the initial pair is noted
      started : Finds (chain_of HL CL) (chain_of HR CR) HL.states HR.states l r c 0 1 (set l 0 x) (set r 0 y) (set c 0 k)
      unfolding chain_of
      started = let (i, j, n) = has_rooms in subst⁻¹ (λ (z : ℕ). Finds (chain_of HL CL) (chain_of HR CR) HL.states HR.states l r c 0 1 (set l 0 x) (set r 0 y) (set c 0 z)) ek
          (finds_start (chain_of HL CL) (chain_of HR CR) HL.states HR.states CL.offsets CL.targets CR.offsets CR.targets reads_left reads_right x y ex ey l r c i j n)

      pub startable : Explorable CL.offsets CL.targets CR.offsets CR.targets (set l 0 x) (set r 0 y) (set c 0 k)
      startable = (chain_of HL CL, chain_of HR CR, HL.states, HR.states, l, r, c, reads_left, reads_right, started)

      pub all_discovered : {n : ℕ} {l₁ r₁ c₁ : List ℕ} → Explores CL.offsets CL.targets CR.offsets CR.targets (set l 0 x) (set r 0 y) (set c 0 k) n l₁ r₁ c₁ → discovered n l₁ r₁ c₁ ≡ discover HL CL HR CR l r c
      all_discovered {n} {l₁} {r₁} {c₁} f =
          noted_listed (f (chain_of HL CL) (chain_of HR CR) HL.states HR.states l r c reads_left reads_right started)
          ∙ ap (λ (b : Bool). listed_if b (pairs (chain_of HL CL) (chain_of HR CR)) l r c) (sym h)

  -- how many there are, or 17
  module _ (h : discoverable HL CL HR CR l r c ≡ true) {n : ℕ} {l₁ r₁ c₁ : List ℕ} (e : discovered n l₁ r₁ c₁ ≡ discover HL CL HR CR l r c) where
    some_found : 0 < n
    some_found = let a = pairs_some (chain_of HL CL) (chain_of HR CR) in let b = ap (λ (D : Discovery). D.count) e ∙ ap (λ (b : Bool). (listed_if b (pairs (chain_of HL CL) (chain_of HR CR)) l r c).count) h in omega arith

    with_refusal : (k : ℕ) → found_refusal n ≡ k → found (answered k n) l₁ r₁ c₁ ≡ found_in (discover HL CL HR CR l r c)
    with_refusal k f = ap (λ (j : ℕ). found (answered j n) l₁ r₁ c₁) (sym f) ∙ ap found_in e

    pub found_few : n ≤ most → found (Ok n) l₁ r₁ c₁ ≡ found_in (discover HL CL HR CR l r c)
    found_few k = let s = some_found in with_refusal 0 (check_skip 4 (eqb n 0) _ 0 (ne_eqb n 0 (λ q. absurd (omega arith))) (check_skip 17 (ltb most n) 0 0 (le-ltb most n k) refl))
