-- The theorem of every flow run: on an accepted network it keeps `FlowClaim`.
-- Node lists that adding the links in order gives hold each link once, at the node that it leaves, so an accepted network is well formed, and its run is one of Runs.antt.
use mathlib.Core.Path.{◌≡◌, refl, sym, subst, subst⁻¹, ap, ◌∙◌}
use Prim.Native.Nat.{ℕ, zero, suc, ◌≤◌, ◌<◌, ◌+◌}
use mathlib.Core.Bool.{Bool, true, false}
use mathlib.Core.Logic.{◌≢◌, ◌⊎◌, inl, inr}
use mathlib.Core.List.{List, [], ◌∷◌, ◌++◌}
use native.Mathlib.Omega.{arith}
use native.Mathlib.Nat.{not-suc-le-zero}
use lib.Dec.{ltb, lit<}
use lib.ListN.{length, get_or, replicate, length-set, length-replicate}
use lib.Seq.{get_or-set_same, get_or-set_other, set_out}
use lib.Ieee.{Float, inf, of_bits}
use Rattle.flow_theory.specs.Network.{rev, Net, nodes, links, head, tail, out, left, enter, node_lists}
use Rattle.flow_theory.specs.Levels.{unset}
use Rattle.flow_theory.specs.Run.{max_flow}
use borrow.Author.Tests.{ltb-false, ltb-true}
use Rattle.numbers.proofs.Bools.{eq_or_ne}
use Rattle.flow_theory.proofs.Links.{rev_in, WellFormed, Caps}
use Rattle.numbers.specs.Lists.{In}
use Rattle.numbers.proofs.Members.{in_last, in_left, in_snoc}
use Rattle.numbers.proofs.Floats.{Low}
use Rattle.flow_theory.proofs.Runs.{claimed}
use Rattle.flow_theory.specs.Claim.{FlowClaim}
use Rattle.flow_theory.proofs.Accepted.{Accepted}

abbrev pub row : List (List ℕ) → ℕ → List ℕ
row ls u = get_or ls u []

pub empty : (n u : ℕ) → row (replicate n []) u ≡ []
empty zero u = refl
empty (suc n) zero = refl
empty (suc n) (suc u) = empty n u

pub enter_length : (ls : List (List ℕ)) (t e : ℕ) → length (enter ls t e) ≡ length ls
unfolding enter
enter_length ls t e = length-set ls t (row ls t ++ (e ∷ []))

pub enter_in : (ls : List (List ℕ)) (t e : ℕ) → t < length ls → row (enter ls t e) t ≡ row ls t ++ (e ∷ [])
unfolding enter
enter_in ls t e h = get_or-set_same ls t (row ls t ++ (e ∷ [])) [] h

pub enter_other : (ls : List (List ℕ)) (t e u : ℕ) → u ≢ t → row (enter ls t e) u ≡ row ls u
unfolding enter
enter_other ls t e u n = get_or-set_other ls t u (row ls t ++ (e ∷ [])) [] n

pub enter_off : (ls : List (List ℕ)) (t e u : ℕ) → length ls ≤ t → row (enter ls t e) u ≡ row ls u
unfolding enter
enter_off ls t e u h = ap (λ (l : List (List ℕ)). row l u) (set_out ls t (row ls t ++ (e ∷ [])) h)

-- what is in a list after one more link
appended : (ls : List (List ℕ)) (t e u a : ℕ) → In a (row (enter ls t e) u) → In a (row ls u) ⊎ ((a ≡ e) × (u ≡ t))
appended ls t e u a i = pick (eq_or_ne u t) (ltb t (length ls)) refl
  where
    last : u ≡ t → In a (row ls t) ⊎ (a ≡ e) → In a (row ls u) ⊎ ((a ≡ e) × (u ≡ t))
    last p (inl j) = inl (rw p j)
    last p (inr q) = inr (q, p)

    pick : (u ≡ t) ⊎ (u ≢ t) → (b : Bool) → ltb t (length ls) ≡ b → In a (row ls u) ⊎ ((a ≡ e) × (u ≡ t))
    pick (inl p) true h = last p (in_snoc a e (row ls t) (subst (In a) (ap (row (enter ls t e)) p ∙ enter_in ls t e ((ltb-true _ _) h)) i))
    pick (inl p) false h = inl (subst (In a) (enter_off ls t e u ((ltb-false _ _) h)) i)
    pick (inr n) b h = inl (subst (In a) (enter_other ls t e u n) i)

kept : (ls : List (List ℕ)) (t e u a : ℕ) → In a (row ls u) → In a (row (enter ls t e) u)
kept ls t e u a i = pick (eq_or_ne u t) (ltb t (length ls)) refl
  where
    pick : (u ≡ t) ⊎ (u ≢ t) → (b : Bool) → ltb t (length ls) ≡ b → In a (row (enter ls t e) u)
    pick (inl p) true h = subst⁻¹ (In a) (ap (row (enter ls t e)) p ∙ enter_in ls t e ((ltb-true _ _) h)) (in_left a (row ls t) (e ∷ []) (subst (λ (x : ℕ). In a (row ls x)) p i))
    pick (inl p) false h = subst⁻¹ (In a) (enter_off ls t e u ((ltb-false _ _) h)) i
    pick (inr n) b h = subst⁻¹ (In a) (enter_other ls t e u n) i

module _ (H : List ℕ) (n : ℕ) where
  abbrev from : ℕ → ℕ
  from e = get_or H (rev e) 0

  pub node_lists_length : (k : ℕ) → length (node_lists H n k) ≡ n
  unfolding node_lists
  node_lists_length zero = length-replicate n []
  node_lists_length (suc e) = enter_length (node_lists H n e) (from e) e ∙ node_lists_length e

  pub enlisted : (k u a : ℕ) → In a (row (node_lists H n k) u) → (a < k) × (from a ≡ u)
  unfolding node_lists
  enlisted zero u a i = absurd (subst (In a) (empty n u) i)
  enlisted (suc e) u a i = pick (enlisted e u a) (appended (node_lists H n e) (from e) e u a i)
    where
      pick : (In a (row (node_lists H n e) u) → (a < e) × (from a ≡ u)) → In a (row (node_lists H n e) u) ⊎ ((a ≡ e) × (u ≡ from e)) → (a < suc e) × (from a ≡ u)
      pick r (inl j) = let (l, f) = r j in (omega arith, f)
      pick r (inr (q, p)) = (omega arith, ap from q ∙ sym p)

  enlists : (k a : ℕ) → a < k → from a < n → In a (row (node_lists H n k) (from a))
  unfolding node_lists
  enlists zero a l f = absurd (not-suc-le-zero l)
  enlists (suc e) a l f = pick (λ m. enlists e a m f) (eq_or_ne a e)
    where
      pick : (a < e → In a (row (node_lists H n e) (from a))) → (a ≡ e) ⊎ (a ≢ e) → In a (row (enter (node_lists H n e) (from e) e) (from a))
      pick r (inl q) =
          subst⁻¹ (λ (x : ℕ). In x (row (enter (node_lists H n e) (from e) e) (from x))) q
          (subst⁻¹ (In e) (enter_in (node_lists H n e) (from e) e (rw (node_lists_length e) (subst (λ (x : ℕ). from x < n) q f))) (in_last e (row (node_lists H n e) (from e))))
      pick r (inr m) = kept (node_lists H n e) (from e) e (from a) a (r (omega arith))

pub made : (N : Net) (added : ℕ) → links N ≡ added + added → nodes N < unset → ((e : ℕ) → e < links N → head N e < nodes N) → N.source < nodes N → N.source ≢ N.sink
    → N.lists ≡ node_lists N.heads (nodes N) (links N) → WellFormed N
unfolding head out
made N added pairs few heads s-in ends lists = record {
  added = added;
  pairs = pairs;
  few = few;
  heads_in = heads;
  source_in = s-in;
  ends = ends;
  listed = λ u e i. enlisted N.heads (nodes N) (links N) u e (subst (λ (ls : List (List ℕ)). In e (row ls u)) lists i);
  lists_all = λ e l. subst⁻¹ (λ (ls : List (List ℕ)). In e (row ls (tail N e))) lists
      (enlists N.heads (nodes N) (links N) e l (heads (rev e) (rw pairs (rev_in e added (rw (← pairs) l)))));
}

far_off : 66 < unset
unfolding unset
far_off = lit< tt

-- what an accepted network gives to the run
pub accepted_good : (N : Net) (c : List Float) (added : ℕ) → Accepted N c added → WellFormed N
accepted_good N c added A = made N added A.pairs (let f = A.few in let u = far_off in omega arith) A.heads_in A.source_in A.ends A.lists

pub accepted_caps : (N : Net) (c : List Float) (added : ℕ) → Accepted N c added → Caps N c
unfolding of_bits
accepted_caps N c added A = record { size = A.size; low = λ e l f. pick e l f (A.range e l).1 }
  where
    pick : (e : ℕ) → e < links N → tail N e ≡ N.source → Low (left c e) ⊎ (left c e ≡ inf false) → Low (left c e)
    pick e l f (inl t) = t
    pick e l f (inr q) = absurd (A.finite e l f q)

-- every flow run on an accepted network, of any number of nodes and links
pub flow_run : (N : Net) (c : List Float) (added : ℕ) → Accepted N c added → FlowClaim N c added (max_flow N c)
unfolding accepted_good made
flow_run N c added A = claimed N (accepted_good N c added A) c (accepted_caps N c added A)
