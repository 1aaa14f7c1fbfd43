-- The turns of `join_runs`: the run under way goes on, or it ends and another begins. `Joining` says that the edges made, and after them those still to come, are those of all keys.
use mathlib.Core.Path.{◌≡◌, refl, sym, subst, ap, ◌∙◌}
use mathlib.Core.Logic.{◌≢◌}
use mathlib.Core.Bool.{Bool, true, false, ◌&&◌, true≢false, false≢true}
use Prim.Native.Nat.{ℕ, suc, ◌+◌, ◌/◌, ◌%◌, ◌≤◌, ◌<◌}
use mathlib.Core.List.{List, [], ◌∷◌, ◌++◌, map, map-append, append_assoc, append-nil}
use native.Mathlib.Omega.{arith}
use native.Mathlib.Numerals.{add-one}
use native.Mathlib.Nat.{le_of_suc-le-suc, not-suc-le-zero}
use lib.Dec.{eqb}
use lib.Ieee.{Float, nan, binary64, add}
use lib.ListN.{length, get_or, drop, set, length-append, length-map, length-drop}
use lib.Seq.{drop-cons}
use Rattle.std.proofs.lemmas.List.{drop_all}
use borrow.Author.Tests.{eq-eqb, eqb-true}
use Rattle.numbers.specs.Lists.{over}
use Rattle.numbers.specs.Real.{is_zero}
use Rattle.numbers.proofs.Bools.{and_t}
use Rattle.bisim_core.specs.Data.{Edge}
use Rattle.build_theory.specs.Edges.{same, taken, ended, runs, join, keep, nonzero}
use Rattle.build_theory.proofs.Orders.{whole}
use Rattle.build_theory.proofs.Plan.{weight_of}
use Rattle.build_theory.proofs.Steps.{edge_in, edge_of, rank, stored, grown, Pushed, joined, Joined}

-- ---- triples

pub same_of : (q : ℕ) (v w : Float) → same (edge_in q v) (edge_in q w) ≡ true
same_of q v w = rw (eq-eqb (q / 524288) (q / 524288) refl, eq-eqb ((q / 2048) % 256) ((q / 2048) % 256) refl, eq-eqb (q % 2048) (q % 2048) refl)

twice : (p : ℕ) → p / 524288 ≡ p / 2048 / 256
twice p = omega arith

eq_256 : (x y : ℕ) → x / 256 ≡ y / 256 → x % 256 ≡ y % 256 → x ≡ y
eq_256 x y a b = omega arith

eq_2048 : (x y : ℕ) → x / 2048 ≡ y / 2048 → x % 2048 ≡ y % 2048 → x ≡ y
eq_2048 x y a b = omega arith

pub parts : (p q : ℕ) → p / 524288 ≡ q / 524288 → (p / 2048) % 256 ≡ (q / 2048) % 256 → p % 2048 ≡ q % 2048 → p ≡ q
parts p q a b c = eq_2048 p q (eq_256 (p / 2048) (q / 2048) (sym (twice p) ∙ a ∙ twice q) b) c

pub same_ne : (p q : ℕ) (v w : Float) → p ≢ q → same (edge_in p v) (edge_in q w) ≡ false
same_ne p q v w h = pick (same (edge_in p v) (edge_in q w)) refl
  where
    pick : (b : Bool) → same (edge_in p v) (edge_in q w) ≡ b → b ≡ false
    pick true e =
        let (x, yz) = and_t (eqb (p / 524288) (q / 524288)) (eqb ((p / 2048) % 256) ((q / 2048) % 256) && eqb (p % 2048) (q % 2048)) e in
        let (y, z) = and_t (eqb ((p / 2048) % 256) ((q / 2048) % 256)) (eqb (p % 2048) (q % 2048)) yz in
        absurd (h (parts p q (eqb-true _ _ x) (eqb-true _ _ y) (eqb-true _ _ z)))
    pick false e = refl

-- ---- the edges stored

-- a run that ends is not stored, if its sum is zero; else it is one more
pub not_pushed : (T : List ℕ) (W : List Float) (m q : ℕ) (w : Float) → is_zero w ≡ true → Pushed T W m q w T W m
not_pushed T W m q w z = record {
  triples = ap (λ b. stored b T m q) (sym z);
  sums = ap (λ b. stored b W m w) (sym z);
  count = ap (λ b. grown b m) (sym z);
}

pub one_pushed : (T : List ℕ) (W : List Float) (m q : ℕ) (w : Float) → is_zero w ≡ false → (T' : List ℕ) → T' ≡ set T m q → (W' : List Float) → W' ≡ set W m w → Pushed T W m q w T' W' (m + 1)
one_pushed T W m q w z T' t W' u = record {
  triples = t ∙ ap (λ b. stored b T m q) (sym z);
  sums = u ∙ ap (λ b. stored b W m w) (sym z);
  count = ap (λ b. grown b m) (sym z);
}

-- one more entry over the front of a list
over_snoc : {A : Type 0} (l d : List A) (x : A) → length l < length d → set (over l d) (length l) x ≡ over (l ++ (x ∷ [])) d
over_snoc l [] x h = absurd (not-suc-le-zero h)
over_snoc [] (y ∷ d) x h = refl
over_snoc (a ∷ l) (y ∷ d) x h = ap (λ r. a ∷ r) (over_snoc l d x (le_of_suc-le-suc h))

over_size : {A : Type 0} (l d : List A) → length l ≤ length d → length (over l d) ≡ length d
over_size l d h = let a = length-append l (drop (length l) d) in let b = length-drop (length l) d in omega arith

-- m edges over the front of two lists
pub record Holds (T₀ : List ℕ) (U₀ : List Float) (T : List ℕ) (U : List Float) (E : List Edge) (m : ℕ) : Type 0 where
  pub triples : T ≡ over (map rank E) T₀
  pub sums : U ≡ over (map weight_of E) U₀
  pub count : m ≡ length E

module _ {T₀ : List ℕ} {U₀ : List Float} {T : List ℕ} {U : List Float} {E : List Edge} {m : ℕ} (H : Holds T₀ U₀ T U E m) where
  holds_t : m ≤ length T₀ → length T ≡ length T₀
  holds_t h = ap length H.triples ∙ over_size (map rank E) T₀ (let a = length-map E rank in let b = H.count in omega arith)

  holds_u : m ≤ length U₀ → length U ≡ length U₀
  holds_u h = ap length H.sums ∙ over_size (map weight_of E) U₀ (let a = length-map E weight_of in let b = H.count in omega arith)

  module _ (h : m < length T₀) (k : m < length U₀) (q : ℕ) (w : Float) where
    one_more : Holds T₀ U₀ (set T m q) (set U m w) (E ++ (edge_in q w ∷ [])) (m + 1)
    one_more = record {
      triples = next rank T₀ T q (whole q) H.triples h;
      sums = next weight_of U₀ U w refl H.sums k;
      count = let a = length-append E (edge_in q w ∷ []) in let b = H.count in omega arith;
    }
      where
        next : {A : Type 0} (f : Edge → A) (d l : List A) (x : A) → f (edge_in q w) ≡ x → l ≡ over (map f E) d → m < length d → set l m x ≡ over (map f (E ++ (edge_in q w ∷ []))) d
        next f d l x e g h =
            let n = length-map E f in
            let z : m ≡ length (map f E) = H.count ∙ sym n in
            ap (λ y. set y m x) g ∙ ap (λ y. set (over (map f E) d) y x) z ∙ over_snoc (map f E) d x (omega arith)
            ∙ ap (λ y. over (map f E ++ (y ∷ [])) d) (sym e) ∙ ap (λ y. over y d) (sym (map-append f E (edge_in q w ∷ [])))

    -- a run that ends
    pub pushed : (T' : List ℕ) (U' : List Float) (r : ℕ) → Pushed T U m q w T' U' r → Holds T₀ U₀ T' U' (E ++ keep (is_zero w) (edge_in q w) []) r
    pushed T' U' r P = rw (P.triples, P.sums, P.count) (pick (is_zero w))
      where
        pick : (b : Bool) → Holds T₀ U₀ (stored b T m q) (stored b U m w) (E ++ keep b (edge_in q w) []) (grown b m)
        pick true = subst (λ (l : List Edge). Holds T₀ U₀ T U l m) (sym (append-nil E)) H
        pick false = one_more

-- it stands before what is still to come
kept_before : (E : List Edge) (b : Bool) (a : Edge) (rest : List Edge) → (E ++ keep b a []) ++ rest ≡ E ++ keep b a rest
kept_before E true a rest = ap (λ (l : List Edge). l ++ rest) (append-nil E)
kept_before E false a rest = append_assoc E (a ∷ []) rest

-- ---- the loop

-- a key behind the first
pub behind : (x : ℕ) (l : List ℕ) (i : ℕ) → get_or l i 0 ≡ get_or (x ∷ l) (i + 1) 0
behind x l i = rw (add-one i) refl

pub record Joining (K : List ℕ) (W : List Float) (T₀ : List ℕ) (U₀ : List Float) (T : List ℕ) (U : List Float) (run : ℕ) (sum : Float) (m i : ℕ) : Type 0 where
  pub i_in : i ≤ length K
  pub m_low : m < i
  pub made : List Edge
  pub holds : Holds T₀ U₀ T U made m
  pub same_edges : made ++ nonzero (runs (edge_in run sum) (map (edge_of W) (drop i K))) ≡ joined K W

pub joining : (x : ℕ) (l : List ℕ) (W : List Float) (T₀ : List ℕ) (U₀ : List Float) (run at m : ℕ) → run ≡ x / 4096 → at ≡ x % 4096 → m ≡ 0 → Joining (x ∷ l) W T₀ U₀ T₀ U₀ run (get_or W at nan) m 1
unfolding join
joining x l W T₀ U₀ run at m p q r = rw (p, q, r) (record {
  i_in = omega arith;
  m_low = omega arith;
  made = [];
  holds = record { triples = refl; sums = refl; count = refl };
  same_edges = refl;
})

module _ (K : List ℕ) (W : List Float) (T₀ : List ℕ) (U₀ : List Float) where
  module _ (t-in : length K ≤ length T₀) (u-in : length K ≤ length U₀) {T : List ℕ} {U : List Float} {run : ℕ} {sum : Float} {m i : ℕ} (I : Joining K W T₀ U₀ T U run sum m i) where
    m_t : m < length T₀
    m_t = let a = I.m_low in let b = I.i_in in omega arith

    m_u : m < length U₀
    m_u = let a = I.m_low in let b = I.i_in in omega arith

    pub t_size : length T ≡ length T₀
    t_size = let h = m_t in holds_t I.holds (omega arith)

    pub u_size : length U ≡ length U₀
    u_size = let h = m_u in holds_u I.holds (omega arith)

    pub room : (m < length T) × (m < length U)
    room = let a = t_size in let b = u_size in let h = m_t in let k = m_u in (omega arith, omega arith)

    grown_low : (b : Bool) → grown b m ≤ i
    grown_low true = let a = I.m_low in omega arith
    grown_low false = let a = I.m_low in omega arith

    module _ (h : i < length K) where
      abbrev k : ℕ
      k = get_or K i 0

      abbrev q : ℕ
      q = k / 4096

      abbrev w : Float
      w = get_or W (k % 4096) nan

      cut : drop i K ≡ k ∷ drop (suc i) K
      cut = drop-cons K i 0 h

      -- the run goes on
      pub goes_on : q ≡ run → (T' : List ℕ) (U' : List Float) (run' : ℕ) (sum' : Float) (m' : ℕ) → T' ≡ T → U' ≡ U → run' ≡ run → sum' ≡ add binary64 sum w → m' ≡ m
          → Joining K W T₀ U₀ T' U' run' sum' m' (i + 1)
      unfolding runs
      goes_on e T' U' run' sum' m' eT eU er es em = rw (eT, eU, er, es, em) (record {
        i_in = omega arith;
        m_low = let a = I.m_low in omega arith;
        made = I.made;
        holds = I.holds;
        same_edges = rw (add-one i) (ap (λ (l : List Edge). I.made ++ nonzero l) (sym step) ∙ I.same_edges);
      })
        where
          pick : (b : Bool) → same (edge_in run sum) (edge_in q w) ≡ b → b ≡ true
              → ended b (edge_in run sum) (runs (taken b (edge_in run sum) (edge_in q w)) (map (edge_of W) (drop (suc i) K))) ≡ runs (edge_in run (add binary64 sum w)) (map (edge_of W) (drop (suc i) K))
          pick true e t = refl
          pick false e t = absurd (false≢true t)

          step : runs (edge_in run sum) (map (edge_of W) (drop i K)) ≡ runs (edge_in run (add binary64 sum w)) (map (edge_of W) (drop (suc i) K))
          step = ap (λ (l : List ℕ). runs (edge_in run sum) (map (edge_of W) l)) cut
              ∙ pick (same (edge_in run sum) (edge_in q w)) refl (subst (λ (x : ℕ). same (edge_in run sum) (edge_in x w) ≡ true) (sym e) (same_of run sum w))

      -- the run ends, and another begins
      pub begins : q ≢ run → (T' : List ℕ) (U' : List Float) (m' : ℕ) → Pushed T U m run sum T' U' m'
          → (T'' : List ℕ) (U'' : List Float) (run'' : ℕ) (sum'' : Float) (m'' : ℕ) → T'' ≡ T' → U'' ≡ U' → run'' ≡ q → sum'' ≡ w → m'' ≡ m'
          → Joining K W T₀ U₀ T'' U'' run'' sum'' m'' (i + 1)
      unfolding runs nonzero
      begins e T' U' m' P T'' U'' run'' sum'' m'' eT eU er es em = rw (eT, eU, er, es, em) (record {
        i_in = omega arith;
        m_low = let a = subst (λ (x : ℕ). x ≤ i) (sym P.count) (grown_low (is_zero sum)) in omega arith;
        made = I.made ++ keep (is_zero sum) (edge_in run sum) [];
        holds = pushed I.holds m_t m_u run sum T' U' m' P;
        same_edges = rw (add-one i) (kept_before I.made (is_zero sum) (edge_in run sum) (nonzero (runs (edge_in q w) (map (edge_of W) (drop (suc i) K))))
            ∙ ap (λ (l : List Edge). I.made ++ nonzero l) (sym step) ∙ I.same_edges);
      })
        where
          pick : (b : Bool) → same (edge_in run sum) (edge_in q w) ≡ b → b ≡ false
              → ended b (edge_in run sum) (runs (taken b (edge_in run sum) (edge_in q w)) (map (edge_of W) (drop (suc i) K))) ≡ edge_in run sum ∷ runs (edge_in q w) (map (edge_of W) (drop (suc i) K))
          pick true e t = absurd (true≢false t)
          pick false e t = refl

          step : runs (edge_in run sum) (map (edge_of W) (drop i K)) ≡ edge_in run sum ∷ runs (edge_in q w) (map (edge_of W) (drop (suc i) K))
          step = ap (λ (l : List ℕ). runs (edge_in run sum) (map (edge_of W) l)) cut
              ∙ pick (same (edge_in run sum) (edge_in q w)) refl (same_ne run q sum w (λ z. e (sym z)))

    -- the end: the last run is pushed
    pub all_joined : length K ≤ i → (T' : List ℕ) (U' : List Float) (r : ℕ) → Pushed T U m run sum T' U' r → Joined K W T₀ U₀ T' U' r
    unfolding runs nonzero
    all_joined h T' U' r P = record {
      triples = H.triples ∙ ap (λ (l : List Edge). over (map rank l) T₀) all;
      sums = H.sums ∙ ap (λ (l : List Edge). over (map weight_of l) U₀) all;
      count = H.count ∙ ap length all;
    }
      where
        H : Holds T₀ U₀ T' U' (I.made ++ keep (is_zero sum) (edge_in run sum) []) r
        H = pushed I.holds m_t m_u run sum T' U' r P

        step : runs (edge_in run sum) (map (edge_of W) (drop i K)) ≡ edge_in run sum ∷ []
        step = ap (λ (l : List ℕ). runs (edge_in run sum) (map (edge_of W) l)) (drop_all i K h)

        all : I.made ++ keep (is_zero sum) (edge_in run sum) [] ≡ joined K W
        all = ap (λ (l : List Edge). I.made ++ nonzero l) (sym step) ∙ I.same_edges

pub joined_none : (K : List ℕ) (W : List Float) (T₀ : List ℕ) (U₀ : List Float) → length K ≡ 0 → Joined K W T₀ U₀ T₀ U₀ 0
unfolding join nonzero
joined_none [] W T₀ U₀ e = record { triples = refl; sums = refl; count = refl }
joined_none (x ∷ K) W T₀ U₀ e = absurd (omega arith)
