-- A push along a path of links to the next level: no link to the next level becomes residual, and one of the path is residual no more.
-- The least capacity x is that of some link of the path, and x - x is 0; the reverse of each link leads one level down.
use mathlib.Core.Path.{◌≡◌, refl, sym, subst, ap, ◌∙◌}
use Prim.Native.Nat.{ℕ, suc, ◌≤◌, ◌<◌}
use mathlib.Core.Bool.{Bool, true, false, false≢true}
use mathlib.Core.Logic.{◌≢◌, ◌⊎◌, inl, inr}
use mathlib.Core.List.{List, [], ◌∷◌, ◌++◌, reverse, reverse-cons}
use native.Mathlib.Omega.{arith}
use lib.ListN.{length, set, length-set}
use lib.Seq.{get_or-set_same, get_or-set_other}
use lib.Ieee.{Float, nan, inf, fin, binary64, lt, sub}
use Rattle.flow_theory.specs.Network.{rev, Net, links, head, tail, left, residual}
use Rattle.flow_theory.specs.Levels.{level_of}
use Rattle.flow_theory.specs.Augment.{least, push_link, push_path}
use Rattle.numbers.specs.Real.{eps}
use Rattle.numbers.specs.Choice.{choose, smaller}
use Rattle.numbers.proofs.Bools.{eq_or_ne}
use Rattle.numbers.proofs.Floats.{Plain, Low}
use Rattle.flow_theory.proofs.Floats.{above_low, sub_self, sub_low}
use Rattle.numbers.proofs.Comparisons.{above_eps, above_cases}
use Rattle.flow_theory.proofs.Links.{rev_rev, rev_ne, residual_in, WellFormed, Caps}
use Rattle.numbers.specs.Lists.{In}
use Rattle.numbers.proofs.Members.{in_reverse, Apart, apart_reverse, apart_ne}
use Rattle.flow_theory.proofs.Paths.{Path}

-- ---- stores

residual_same : (c d : List Float) (e : ℕ) → left d e ≡ left c e → residual d e ≡ residual c e
unfolding residual
residual_same c d e p = ap (lt eps) p

pub residual_lt : (c : List Float) (e : ℕ) → residual c e ≡ true → lt eps (left c e) ≡ true
unfolding residual
residual_lt c e h = h

pub push_link_length : (x : Float) (e : ℕ) (c : List Float) → length (push_link x e c) ≡ length c
unfolding push_link
push_link_length x e c = length-set (set c e (sub binary64 (left c e) x)) (rev e) _ ∙ length-set c e _

pub push_link_same : (x : Float) (e : ℕ) (c : List Float) → e < length c → left (push_link x e c) e ≡ sub binary64 (left c e) x
unfolding push_link
push_link_same x e c h = get_or-set_other (set c e (sub binary64 (left c e) x)) (rev e) e _ nan (λ p. rev_ne e (sym p)) ∙ get_or-set_same c e (sub binary64 (left c e) x) nan h

pub push_link_other : (x : Float) (e : ℕ) (c : List Float) (y : ℕ) → y ≢ e → y ≢ rev e → left (push_link x e c) y ≡ left c y
unfolding push_link
push_link_other x e c y n m = get_or-set_other (set c e (sub binary64 (left c e) x)) (rev e) y _ nan m ∙ get_or-set_other c e y _ nan n

pub push_path_length : (x : Float) (ps : List ℕ) (c : List Float) → length (push_path x ps c) ≡ length c
unfolding push_path
push_path_length x [] c = refl
push_path_length x (e ∷ es) c = push_path_length x es (push_link x e c) ∙ push_link_length x e c

push_path_cases : (x : Float) (ps : List ℕ) (c : List Float) (y : ℕ) → (left (push_path x ps c) y ≡ left c y) ⊎ (In y ps ⊎ In (rev y) ps)
unfolding push_path
push_path_cases x [] c y = inl refl
push_path_cases x (e ∷ es) c y = pick (eq_or_ne y e) (eq_or_ne y (rev e)) (push_path_cases x es (push_link x e c) y)
  where
    pick : (y ≡ e) ⊎ (y ≢ e) → (y ≡ rev e) ⊎ (y ≢ rev e) → (left (push_path x es (push_link x e c)) y ≡ left (push_link x e c) y) ⊎ (In y es ⊎ In (rev y) es)
        → (left (push_path x es (push_link x e c)) y ≡ left c y) ⊎ (In y (e ∷ es) ⊎ In (rev y) (e ∷ es))
    pick (inl p) b r = inr (inl (inl p))
    pick (inr n) (inl p) r = inr (inr (inl (ap rev p ∙ rev_rev e)))
    pick (inr n) (inr m) (inl q) = inl (q ∙ push_link_other x e c y n m)
    pick (inr n) (inr m) (inr (inl i)) = inr (inl (inr i))
    pick (inr n) (inr m) (inr (inr i)) = inr (inr (inr i))

pub push_path_other : (x : Float) (ps : List ℕ) (c : List Float) (y : ℕ) → ((e : ℕ) → In e ps → (y ≢ e) × (y ≢ rev e)) → left (push_path x ps c) y ≡ left c y
unfolding push_path
push_path_other x [] c y h = refl
push_path_other x (e ∷ es) c y h = let o = h e (inl refl) in push_path_other x es (push_link x e c) y (λ a i. h a (inr i)) ∙ push_link_other x e c y o.0 o.1

pub push_path_hit : (x : Float) (ps : List ℕ) (c : List Float) (y : ℕ) → In y ps → Apart ps → ((e : ℕ) → In e ps → y ≢ rev e) → y < length c
    → left (push_path x ps c) y ≡ sub binary64 (left c y) x
unfolding push_path
push_path_hit x (e ∷ es) c y (inl p) a h l =
    push_path_other x es (push_link x e c) y (λ b i. ((λ q. apart_ne e b es a i (sym q ∙ p)), h b (inr i))) ∙ rw p (push_link_same x e c (rw (← p) l))
push_path_hit x (e ∷ es) c y (inr i) a h l =
    push_path_hit x es (push_link x e c) y i a.1 (λ b j. h b (inr j)) (rw (push_link_length x e c) l)
    ∙ ap (λ (z : Float). sub binary64 z x) (push_link_other x e c y (apart_ne e y es a i) (h e (inl refl)))
push_path_hit x [] c y x5 a h l = elim x5 [ ]

-- ---- the least capacity on a path

-- it is that of a link of the path
record Least (c : List Float) (ps : List ℕ) (x : Float) : Type 0 where
  at : ℕ
  on_path : In at ps
  equal : left c at ≡ x
  plain : Plain x

pub plain_next : (y x : Float) → lt eps y ≡ true → Plain x → lt y x ≡ true → Plain y
plain_next y x h p l = pick (above_cases y (above_eps y h)) x p l
  where
    pick : Plain y ⊎ (y ≡ inf false) → (z : Float) → Plain z → lt y z ≡ true → Plain y
    pick (inl q) z p l = q
    pick (inr e) (fin false m k) p l = absurd (false≢true (unfold lt in (rw e at l)))
    pick (inr e) (fin true m k) p l = absurd p
    pick (inr e) (inf s) p l = absurd p
    pick (inr e) nan p l = absurd p

least_from_lem : (c : List Float) (ps qs : List ℕ) (x : Float) → ((e : ℕ) → In e ps → In e qs) → ((e : ℕ) → In e ps → residual c e ≡ true) → Least c qs x → Least c qs (least c x ps)
unfolding least smaller
least_from_lem c [] qs x sub-list on B = B
least_from_lem c (e ∷ es) qs x sub-list on B =
    least_from_lem c es qs (smaller x (left c e)) (λ a i. sub-list a (inr i)) (λ a i. on a (inr i)) (pick (lt (left c e) x) refl)
  where
    pick : (b : Bool) → lt (left c e) x ≡ b → Least c qs (choose b (left c e) x)
    pick true t = record { at = e; on_path = sub-list e (inl refl); equal = refl; plain = plain_next (left c e) x (residual_lt c e (on e (inl refl))) B.plain t }
    pick false f = B

pub plain_below : (x : Float) → Plain x → lt x (inf false) ≡ true
unfolding lt
plain_below (fin false m e) p = refl
plain_below (fin true m e) p = absurd p
plain_below (inf s) p = absurd p
plain_below nan p = absurd p

least_ok : (c : List Float) (e : ℕ) (es : List ℕ) → ((a : ℕ) → In a (e ∷ es) → residual c a ≡ true) → Plain (left c e) → Least c (e ∷ es) (least c (inf false) (e ∷ es))
unfolding least
least_ok c e es on p =
    rw (plain_below (left c e) p) (least_from_lem c es (e ∷ es) (left c e) (λ a i. inr i) (λ a i. on a (inr i)) (record { at = e; on_path = inl refl; equal = refl; plain = p }))

-- ---- the path

-- the link leads to the next level
abbrev pub Up : Net → List ℕ → ℕ → Type 0
Up N L e = level_of L (head N e) ≡ suc (level_of L (tail N e))

pub up_rev : (N : Net) (L : List ℕ) (e : ℕ) → Up N L (rev e) → suc (level_of L (head N e)) ≡ level_of L (tail N e)
up_rev N L e u = sym (u ∙ ap (λ (x : ℕ). suc (level_of L (head N x))) (rev_rev e))

module _ (N : Net) (c : List Float) (L nx : List ℕ) where
  path_links : (p : List ℕ) (u : ℕ) → Path N c L nx p u → (e : ℕ) → In e p → (residual c e ≡ true) × Up N L e
  path_links (a ∷ p) u P e (inl q) = rw q (P.0.on, ap (level_of L) P.0.to ∙ P.0.higher)
  path_links (a ∷ p) u P e (inr i) = path_links p (tail N a) P.1 e i
  path_links [] u P e x'' = elim x'' [ ]

  path_below : (p : List ℕ) (u : ℕ) → Path N c L nx p u → (e : ℕ) → In e p → level_of L (head N e) ≤ level_of L u
  path_below (a ∷ p) u P e (inl q) = let t : level_of L (head N e) ≡ level_of L u = ap (λ (x : ℕ). level_of L (head N x)) q ∙ ap (level_of L) P.0.to in omega arith
  path_below (a ∷ p) u P e (inr i) = let r = path_below p (tail N a) P.1 e i in let h = P.0.higher in omega arith
  path_below [] u P e x'' = elim x'' [ ]

  path_apart : (p : List ℕ) (u : ℕ) → Path N c L nx p u → Apart p
  path_apart [] u P = tt
  path_apart (a ∷ p) u P =
      (λ i. below a i refl, path_apart p (tail N a) P.1)
    where
      below : (y : ℕ) → In y p → y ≡ a → ⊥
      below y i q =
          let r = path_below p (tail N a) P.1 y i in
          let t : level_of L (head N y) ≡ level_of L u = ap (λ (x : ℕ). level_of L (head N x)) q ∙ ap (level_of L) P.0.to in
          let h = P.0.higher in
          omega arith

  -- the path begins at the source
  path_first : (a : ℕ) (p : List ℕ) (u : ℕ) → Path N c L nx (a ∷ p) u → (e : ℕ) × (r : List ℕ) × (reverse (a ∷ p) ≡ e ∷ r) × (tail N e ≡ N.source)
  path_first a [] u P = (a, [], refl, P.1)
  path_first a (b ∷ p) u P =
      let (e, r, q, s) = path_first b p (tail N a) P.1 in
      (e, r ++ (a ∷ []), reverse-cons a (b ∷ p) ∙ ap (λ (l : List ℕ). l ++ (a ∷ [])) q, s)

-- ---- what a push does

pub record Pushes (N : Net) (L : List ℕ) (c d : List Float) (x : Float) : Type 0 where
  pub caps : Caps N d
  pub shrinks : (e : ℕ) → Up N L e → residual d e ≡ true → residual c e ≡ true
  pub valid : (e : ℕ) → residual d e ≡ true → (residual c e ≡ true) ⊎ (suc (level_of L (head N e)) ≡ level_of L (tail N e))
  pub dies : (b : ℕ) × (residual c b ≡ true) × Up N L b × (residual d b ≡ false)
  pub amount : lt eps x ≡ true

module _ (N : Net) (G : WellFormed N) (c : List Float) (C : Caps N c) (L : List ℕ) (zero-source : level_of L N.source ≡ 0) where
  module _ (ps : List ℕ) (x : Float) (all : (e : ℕ) → In e ps → (residual c e ≡ true) × Up N L e) (sep : Apart ps) (B : Least c ps x) where
    abbrev d : List Float
    d = push_path x ps c

    no_rev : (y : ℕ) → In y ps → (e : ℕ) → In e ps → y ≢ rev e
    no_rev y i e j q = let a = (all y i).1 in let b = up_rev N L e (subst (Up N L) q a) in let h = (all e j).1 in omega arith

    hit : (y : ℕ) → In y ps → left d y ≡ sub binary64 (left c y) x
    hit y i = push_path_hit x ps c y i sep (no_rev y i) (residual_in c y (all y i).0)

    pushes : Pushes N L c d x
    unfolding residual
    pushes = record {
      caps = record { size = push_path_length x ps c ∙ C.size; low = λ e l f. low' e l f (push_path_cases x ps c e) };
      shrinks = λ e u l. shrinks' e u l (push_path_cases x ps c e);
      valid = λ e l. valid' e l (push_path_cases x ps c e);
      dies = (B.at, (all B.at B.on_path).0, (all B.at B.on_path).1, dead);
      amount = rw (← B.equal) (residual_lt c B.at (all B.at B.on_path).0);
    }
      where
        low' : (e : ℕ) → e < links N → tail N e ≡ N.source → (left d e ≡ left c e) ⊎ (In e ps ⊎ In (rev e) ps) → Low (left d e)
        low' e l f (inl q) = rw q (C.low e l f)
        low' e l f (inr (inl i)) =
            rw (hit e i) (sub_low (left c e) x (above_low (left c e) (residual_lt c e (all e i).0) (C.low e l f)) B.plain (C.low e l f))
        low' e l f (inr (inr i)) = let u = (all (rev e) i).1 in let z = zero-source in let q = ap (level_of L) f in absurd (omega arith)

        shrinks' : (e : ℕ) → Up N L e → residual d e ≡ true → (left d e ≡ left c e) ⊎ (In e ps ⊎ In (rev e) ps) → residual c e ≡ true
        shrinks' e u l (inl q) = sym (residual_same c d e q) ∙ l
        shrinks' e u l (inr (inl i)) = (all e i).0
        shrinks' e u l (inr (inr i)) = let r = up_rev N L e (all (rev e) i).1 in absurd (omega arith)

        valid' : (e : ℕ) → residual d e ≡ true → (left d e ≡ left c e) ⊎ (In e ps ⊎ In (rev e) ps) → (residual c e ≡ true) ⊎ (suc (level_of L (head N e)) ≡ level_of L (tail N e))
        valid' e l (inl q) = inl (sym (residual_same c d e q) ∙ l)
        valid' e l (inr (inl i)) = inl (all e i).0
        valid' e l (inr (inr i)) = inr (up_rev N L e (all (rev e) i).1)

        dead : residual d B.at ≡ false
        dead = ap (lt eps) (hit B.at B.on_path ∙ ap (λ (z : Float). sub binary64 z x) B.equal) ∙ sub_self x B.plain

  -- along a path to the sink that a walk found
  pub path_push : (nx p : List ℕ) → Path N c L nx p N.sink → Pushes N L c (push_path (least c (inf false) (reverse p)) (reverse p) c) (least c (inf false) (reverse p))
  path_push nx [] P = absurd (G.ends (sym P))
  path_push nx (a ∷ p) P =
      let (e, r, q, s) = path_first N c L nx a p N.sink P in
      let all : (y : ℕ) → In y (reverse (a ∷ p)) → (residual c y ≡ true) × Up N L y = λ y i. path_links N c L nx (a ∷ p) N.sink P y (in_reverse y (a ∷ p) i) in
      pushes (reverse (a ∷ p)) (least c (inf false) (reverse (a ∷ p))) all (apart_reverse (a ∷ p) (path_apart N c L nx (a ∷ p) N.sink P)) (found (reverse (a ∷ p)) e r q s all)
    where
      found : (ps : List ℕ) (e : ℕ) (r : List ℕ) → ps ≡ e ∷ r → tail N e ≡ N.source → ((y : ℕ) → In y ps → (residual c y ≡ true) × Up N L y) → Least c ps (least c (inf false) ps)
      found ps e r q s all =
          let on : (y : ℕ) → In y (e ∷ r) → residual c y ≡ true = λ y i. (all y (rw q i)).0 in
          let l : residual c e ≡ true = on e (inl refl) in
          let inn : e < links N = rw (← C.size) (residual_in c e l) in
          rw q (least_ok c e r on (above_low (left c e) (residual_lt c e l) (C.low e inn s)))
