-- The loops of the search over rows: one link is one `relax` of the definition, one node one `leave`, one pass one `whole_pass`.
use mathlib.Core.Path.{◌≡◌, refl, sym, ap, ap₂, subst, ◌∙◌}
use mathlib.Core.Bool.{Bool, true, false, ◌&&◌, true≢false}
use mathlib.Core.Logic.{◌⊎◌, inl, inr}
use Prim.Native.Nat.{ℕ, suc, ◌+◌, ◌-◌, ◌≤◌, ◌<◌}
use mathlib.Core.List.{List}
use native.Mathlib.Omega.{arith}
use native.Mathlib.Numerals.{add-one}
use lib.ListN.{length, get_or, set, take, drop, length-set, drop_of_length-le}
use lib.Seq.{slice, drop-cons}
use lib.Ieee.{Float, binary64, nan, inf, fin, lt, eq, add, sub}
use Rattle.std.specs.Float.{float_is_infinite}
use Rattle.numbers.specs.Real.{margin, eps}
use Rattle.flow_theory.specs.Network.{nodes, links, head, out, residual, left}
use Rattle.std.proofs.lemmas.List.{drop-take}
use Rattle.numbers.specs.Lists.{In}
use Rattle.numbers.proofs.Members.{in_at}
use Rattle.transport_theory.specs.Links.{Roads}
use Rattle.transport_theory.specs.Shortest.{infinite, Tree, far, shorten, along, relax, relax_all, leave, pass, whole_pass, search}
use Rattle.transport_theory.proofs.SearchRows.{tree, Relaxable, Relaxed, InRoads, Passable, Passed, Searched}

-- ---- the links of a node

-- how far it is over u along e, and whether that is nearer to v by more than the margin, as rows have it
abbrev pub way : List Float → List Float → ℕ → ℕ → Float
way p d u e = add binary64 (get_or d u nan) (get_or p e nan)

abbrev pub nearer : List Float → List Float → ℕ → ℕ → ℕ → Bool
nearer p d u e v = lt (way p d u e) (sub binary64 (get_or d v nan) margin)

relax_is : (R : Roads) (c : List Float) (u e : ℕ) (t : Tree) (H : List ℕ) (p : List Float) → R.net.heads ≡ H → R.cost ≡ p
    → relax R c u e t ≡ shorten (residual c e && nearer p t.dist u e (get_or H e 0)) (get_or H e 0) e (way p t.dist u e) t
unfolding relax along head
relax_is R c u e t H p x y =
    ap₂ (λ (h : List ℕ) (q : List Float). shorten (residual c e && nearer q t.dist u e (get_or h e 0)) (get_or h e 0) e (way q t.dist u e) t) x y

relax_step : (R : Roads) (c : List Float) (u j : ℕ) (out : List ℕ) (t : Tree) → j < length out
    → relax_all R c u (drop j out) t ≡ relax_all R c u (drop (suc j) out) (relax R c u (get_or out j 0) t)
unfolding relax_all
relax_step R c u j out t lt = ap (λ (es : List ℕ). relax_all R c u es t) (drop-cons out j 0 lt)

-- what is still to come of the links leads from this tree to the last one
pub record Relaxing (H out : List ℕ) (c p : List Float) (u : ℕ) (d₀ : List Float) (w₀ : List ℕ) (ch₀ : Bool) (d : List Float) (w : List ℕ) (ch : Bool) (j : ℕ) : Type 0 where
  pub ends : j ≤ length out
  pub dist_length : length d ≡ length d₀
  pub via_length : length w ≡ length w₀
  pub same : (R : Roads) → R.net.heads ≡ H → R.cost ≡ p → relax_all R c u (drop j out) (tree d w ch) ≡ relax_all R c u out (tree d₀ w₀ ch₀)

module _ {H out : List ℕ} {c p : List Float} {u : ℕ} {d₀ : List Float} {w₀ : List ℕ} {ch₀ : Bool} (S : Relaxable H out c p u d₀ w₀) where
  module _ {d : List Float} {w : List ℕ} {ch : Bool} {j : ℕ} (I : Relaxing H out c p u d₀ w₀ ch₀ d w ch j) where
    module _ (more : j < length out) where
      abbrev e : ℕ
      e = get_or out j 0

      abbrev v : ℕ
      v = get_or H e 0

      pub e_in : e < length H
      e_in = S.links_in j more

      -- the tree after this link
      turned : (s : Bool) → (residual c e && nearer p d u e v) ≡ s → (d' : List Float) (w' : List ℕ) (ch' : Bool)
          → length d' ≡ length d → length w' ≡ length w → tree d' w' ch' ≡ shorten s v e (way p d u e) (tree d w ch)
          → Relaxing H out c p u d₀ w₀ ch₀ d' w' ch' (j + 1)
      turned t z d' w' ch' l m q = record {
        ends = omega arith;
        dist_length = l ∙ I.dist_length;
        via_length = m ∙ I.via_length;
        same = λ R x y. rw (add-one j)
            (ap (relax_all R c u (drop (suc j) out)) (q ∙ ap (λ (s : Bool). shorten s v e (way p d u e) (tree d w ch)) (sym z) ∙ sym (relax_is R c u e (tree d w ch) H p x y))
            ∙ sym (relax_step R c u j out (tree d w ch) more) ∙ I.same R x y);
      }

      pub relax_shorter : lt eps (get_or c e nan) ≡ true → nearer p d u e v ≡ true → (d' : List Float) (w' : List ℕ) (ch' : Bool)
          → d' ≡ set d v (way p d u e) → w' ≡ set w v e → ch' ≡ true → Relaxing H out c p u d₀ w₀ ch₀ d' w' ch' (j + 1)
      unfolding shorten residual left
      relax_shorter o n d' w' ch' x y z =
          turned true (rw (o, n)) d' w' ch' (ap length x ∙ length-set d v (way p d u e)) (ap length y ∙ length-set w v e) (rw (x, y, z))

      pub relax_kept : (lt eps (get_or c e nan) ≡ false) ⊎ (nearer p d u e v ≡ false) → (d' : List Float) (w' : List ℕ) (ch' : Bool)
          → d' ≡ d → w' ≡ w → ch' ≡ ch → Relaxing H out c p u d₀ w₀ ch₀ d' w' ch' (j + 1)
      unfolding shorten residual left
      relax_kept f d' w' ch' x y z = turned false (no (lt eps (get_or c e nan)) (nearer p d u e v) f) d' w' ch' (ap length x) (ap length y) (rw (x, y, z))
        where
          no : (s t : Bool) → (s ≡ false) ⊎ (t ≡ false) → (s && t) ≡ false
          no true t (inl q) = absurd (true≢false q)
          no true t (inr q) = q
          no false t q = refl

    pub relax_ends : length out ≤ j → Relaxed H out c p u d₀ w₀ ch₀ d w ch
    unfolding relax_all
    relax_ends le R x y = ap (λ (es : List ℕ). relax_all R c u es (tree d w ch)) (sym (drop_of_length-le out le)) ∙ I.same R x y

-- std's test for an infinity is the definition's
pub infinite_is : (x : Float) → float_is_infinite x ≡ infinite x
unfolding float_is_infinite eq
infinite_is nan = refl
infinite_is (inf true) = refl
infinite_is (inf false) = refl
infinite_is (fin s m e) = refl

-- ---- the nodes of a pass

-- the nodes that are still to come lead from this tree to the last one
pub record Passing (H list starts : List ℕ) (c p d₀ : List Float) (w₀ : List ℕ) (d : List Float) (w : List ℕ) (ch : Bool) (u : ℕ) : Type 0 where
  pub ends : u ≤ length d₀
  pub dist_length : length d ≡ length d₀
  pub via_length : length w ≡ length w₀
  pub same : (R : Roads) → InRoads R H list starts p → length d₀ ≡ nodes R.net → pass R c (length d₀ - u) u (tree d w ch) ≡ whole_pass R c (tree d₀ w₀ false)

pass_step : (R : Roads) (c : List Float) (n u : ℕ) (t : Tree) → u < n → pass R c (n - u) u t ≡ pass R c (n - (u + 1)) (u + 1) (leave R c (infinite (far t u)) u t)
unfolding pass
pass_step R c n u t h =
    let q : n - u ≡ suc (n - (u + 1)) = omega arith in
    ap (λ (k : ℕ). pass R c k u t) q ∙ ap (λ (x : ℕ). pass R c (n - (u + 1)) x (leave R c (infinite (far t u)) u t)) (sym (add-one u))

module _ {H list starts : List ℕ} {c p d₀ : List Float} {w₀ : List ℕ} (S : Passable H list starts c p d₀ w₀) where
  pub pass_starts : Passing H list starts c p d₀ w₀ d₀ w₀ false 0
  unfolding whole_pass
  pass_starts = record { ends = omega arith; dist_length = refl; via_length = refl; same = λ R L n. ap (λ (k : ℕ). pass R c k 0 (tree d₀ w₀ false)) (let q : length d₀ - 0 ≡ nodes R.net = omega arith in q) }

  pub nodes_few : length d₀ ≤ 66
  nodes_few = rw S.dist_size S.laid.laid.places

  links_are : links S.roads.net ≡ length H
  links_are = ap length S.laid.laid.heads

  module _ {d : List Float} {w : List ℕ} {ch : Bool} {u : ℕ} (I : Passing H list starts c p d₀ w₀ d w ch u) where
    module _ (more : u < length d) where
      pub node_low : u < 66
      node_low = let a = I.dist_length in let f = nodes_few in omega arith

      node_in : u < nodes S.roads.net
      node_in = let a = I.dist_length in let f = S.dist_size in omega arith

      pub ordered : (get_or starts u 0 ≤ get_or starts (u + 1) 0) × (get_or starts (u + 1) 0 ≤ length list)
      ordered = rw (add-one u) (S.laid.laid.ordered u node_in)

      -- the links that leave it
      abbrev outs : List ℕ
      outs = take (get_or starts (u + 1) 0 - get_or starts u 0) (drop (get_or starts u 0) list)

      part_is : (a b : ℕ) → a ≤ b → take (b - a) (drop a list) ≡ slice a b list
      part_is a b h = sym (drop-take a (b - a) list) ∙ ap (λ (n : ℕ). drop a (take n list)) (let q : a + (b - a) ≡ b = omega arith in q)

      outs_are : (R : Roads) → InRoads R H list starts p → u < nodes R.net → outs ≡ out R.net u
      outs_are R L inn = part_is (get_or starts u 0) (get_or starts (u + 1) 0) ordered.0 ∙ ap (λ (x : ℕ). slice (get_or starts u 0) (get_or starts x 0) list) (add-one u) ∙ sym (L.laid.rows u inn)

      pub relaxable : Relaxable H outs c p u d w
      unfolding head
      relaxable = record {
        links_in = λ j a. rw (← links_are) (S.laid.good.listed u (get_or outs j 0) (subst (In (get_or outs j 0)) (outs_are S.roads S.laid node_in) (in_at outs j 0 a))).0;
        heads_in = λ e h. heads e h;
        caps_size = S.caps_size;
        costs_size = S.costs_size;
        here = more;
        via_size = I.via_length ∙ S.via_size ∙ sym I.dist_length;
      }
        where
          heads : (e : ℕ) → e < length H → get_or H e 0 < length d
          heads e h =
              let k = S.laid.good.heads_in e (rw links_are h) in
              let a = I.dist_length in
              let f = S.dist_size in
              let g : get_or S.roads.net.heads e 0 ≡ get_or H e 0 = ap (λ (l : List ℕ). get_or l e 0) S.laid.laid.heads in
              omega arith

      -- a node that is not reached is passed over
      pub pass_over : infinite (get_or d u nan) ≡ true → (d' : List Float) (w' : List ℕ) (ch' : Bool) → d' ≡ d → w' ≡ w → ch' ≡ ch → Passing H list starts c p d₀ w₀ d' w' ch' (u + 1)
      unfolding leave
      pass_over f d' w' ch' x y z = rw (x, y, z) (record {
        ends = let a = I.dist_length in omega arith;
        dist_length = I.dist_length;
        via_length = I.via_length;
        same = λ R L n.
            sym (pass_step R c (length d₀) u (tree d w ch) (let a = I.dist_length in omega arith) ∙ ap (λ (s : Bool). pass R c (length d₀ - (u + 1)) (u + 1) (leave R c s u (tree d w ch))) f)
            ∙ I.same R L n;
      })

      -- the links of a node that is reached were tried
      pub pass_through : infinite (get_or d u nan) ≡ false → {d' : List Float} {w' : List ℕ} {ch' : Bool} → length d' ≡ length d → length w' ≡ length w
          → Relaxed H outs c p u d w ch d' w' ch'
          → (d'' : List Float) (w'' : List ℕ) (ch'' : Bool) → d'' ≡ d' → w'' ≡ w' → ch'' ≡ ch' → Passing H list starts c p d₀ w₀ d'' w'' ch'' (u + 1)
      unfolding leave
      pass_through f {d'} {w'} {ch'} l m X d'' w'' ch'' x y z = rw (x, y, z) (record {
        ends = let a = I.dist_length in omega arith;
        dist_length = l ∙ I.dist_length;
        via_length = m ∙ I.via_length;
        same = λ R L n.
            let inn : u < nodes R.net = let a = I.dist_length in omega arith in
            let q : outs ≡ out R.net u = outs_are R L inn in
            ap (pass R c (length d₀ - (u + 1)) (u + 1)) (X R L.laid.heads L.cost ∙ ap (λ (es : List ℕ). relax_all R c u es (tree d w ch)) q)
            ∙ sym (pass_step R c (length d₀) u (tree d w ch) (let a = I.dist_length in omega arith) ∙ ap (λ (s : Bool). pass R c (length d₀ - (u + 1)) (u + 1) (leave R c s u (tree d w ch))) f)
            ∙ I.same R L n;
      })

    pub pass_ends : length d ≤ u → Passed H list starts c p d₀ w₀ d w ch
    unfolding pass
    pass_ends le R L n = ap (λ (k : ℕ). pass R c k u (tree d w ch)) (let q : 0 ≡ length d₀ - u = let a = I.dist_length in omega arith in q) ∙ I.same R L n

-- ---- the passes

-- the passes that are still to come lead from this tree to the last one
pub record Searching (H list starts : List ℕ) (c p d₀ : List Float) (w₀ : List ℕ) (d : List Float) (w : List ℕ) (k : ℕ) : Type 0 where
  pub ends : k ≤ length d₀
  pub dist_length : length d ≡ length d₀
  pub via_length : length w ≡ length w₀
  pub flag : Bool
  pub same : (R : Roads) → InRoads R H list starts p → length d₀ ≡ nodes R.net → search R c (length d₀ - k) (tree d w flag) ≡ search R c (nodes R.net) (tree d₀ w₀ false)

search_step : (R : Roads) (c : List Float) (n k : ℕ) (d : List Float) (w : List ℕ) (f : Bool) (t : Tree) (b : Bool) → k < n → t ≡ whole_pass R c (tree d w false) → t.changed ≡ b
    → search R c (n - k) (tree d w f) ≡ elim b as (λ z. Tree) [ true ↦ search R c (n - (k + 1)) t | false ↦ t ]
unfolding search whole_pass
search_step R c n k d w f t b h e g =
    let q : n - k ≡ suc (n - (k + 1)) = omega arith in
    ap (λ (j : ℕ). search R c j (tree d w f)) q
    ∙ ap (λ (x : Tree). elim x.changed as (λ z. Tree) [ true ↦ search R c (n - (k + 1)) x | false ↦ x ]) (sym e)
    ∙ ap (λ (s : Bool). elim s as (λ z. Tree) [ true ↦ search R c (n - (k + 1)) t | false ↦ t ]) g

module _ {H list starts : List ℕ} {c p d₀ : List Float} {w₀ : List ℕ} (S : Passable H list starts c p d₀ w₀) where
  module _ {d : List Float} {w : List ℕ} {k : ℕ} (I : Searching H list starts c p d₀ w₀ d w k) where
    module _ (more : k < length d) {d' : List Float} {w' : List ℕ} {ch' : Bool} (l : length d' ≡ length d) (m : length w' ≡ length w) (P : Passed H list starts c p d w d' w' ch') where
      after : (b : Bool) → ch' ≡ b → (R : Roads) → InRoads R H list starts p → length d₀ ≡ nodes R.net
          → elim b as (λ z. Tree) [ true ↦ search R c (length d₀ - (k + 1)) (tree d' w' ch') | false ↦ tree d' w' ch' ] ≡ search R c (nodes R.net) (tree d₀ w₀ false)
      after b z R L n =
          sym (search_step R c (length d₀) k d w I.flag (tree d' w' ch') b (let a = I.dist_length in omega arith) (P R L (I.dist_length ∙ n)) z) ∙ I.same R L n

      pub search_on : ch' ≡ true → Searching H list starts c p d₀ w₀ d' w' (k + 1)
      search_on z = record {
        ends = let a = I.dist_length in omega arith;
        dist_length = l ∙ I.dist_length;
        via_length = m ∙ I.via_length;
        flag = ch';
        same = after true z;
      }

      pub search_settles : ch' ≡ false → Searched H list starts c p d₀ w₀ d' w'
      search_settles z R L n = let q = after false z R L n in record { dist_is = ap (λ (t : Tree). t.dist) q; via_is = ap (λ (t : Tree). t.via) q }

    pub search_ends : length d ≤ k → Searched H list starts c p d₀ w₀ d w
    unfolding search
    search_ends le R L n =
        let q : tree d w I.flag ≡ search R c (nodes R.net) (tree d₀ w₀ false)
        = ap (λ (j : ℕ). search R c j (tree d w I.flag)) (let x : 0 ≡ length d₀ - k = let a = I.dist_length in omega arith in x) ∙ I.same R L n in
        record { dist_is = ap (λ (t : Tree). t.dist) q; via_is = ap (λ (t : Tree). t.via) q }
