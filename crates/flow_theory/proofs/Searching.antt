-- The loop of `levels`: one node of the queue is one turn of the definition's `bfs`.
use mathlib.Core.Path.{◌≡◌, refl, sym, ap, subst, subst⁻¹, ◌∙◌}
use mathlib.Core.Logic.{◌≢◌, inl}
use Prim.Native.Nat.{ℕ, zero, suc, ◌+◌, ◌≤◌, ◌<◌}
use mathlib.Core.List.{List, [], ◌∷◌}
use native.Mathlib.Omega.{arith}
use native.Mathlib.Numerals.{add-one}
use lib.ListN.{length, get_or, set, replicate, length-set, length-replicate}
use lib.Seq.{slice, slice_empty, slice-cons, get_or-set_same}
use lib.Ieee.{Float}
use Rattle.numbers.proofs.Members.{in_at}
use Rattle.flow_theory.specs.Network.{Net, nodes, links, head, out}
use Rattle.flow_theory.specs.Levels.{Search, scan, bfs, levels, unset, level_of}
use Rattle.flow_theory.proofs.Links.{WellFormed, HasLevel, level_in}
use Rattle.flow_theory.proofs.Levels.{count, count_set, count_replicate, level_replicate, Rest, turned, begun}
use Rattle.flow_theory.proofs.LevelRows.{Scannable, Scanned, InRows, Searchable}

-- from here the definition comes to the levels
pub record Searches (N : Net) (c : List Float) (L q : List ℕ) (head tail : ℕ) : Type 0 where
  pub fuel : ℕ
  pub rest : Rest N c L (slice head tail q) fuel
  pub same : bfs N c fuel L (slice head tail q) ≡ levels N c

abbrev pub Fits : Net → List ℕ → List ℕ → List ℕ → ℕ → List ℕ → List Float → Type 0
Fits N H list starts source L₀ c = WellFormed N × InRows N H list starts source × (L₀ ≡ set (replicate (nodes N) unset) source 0) × (length c ≡ links N)

pub record Outer (H list starts : List ℕ) (c : List Float) (source : ℕ) (L₀ q₀ L q : List ℕ) (head tail : ℕ) : Type 0 where
  pub ordered : head ≤ tail
  pub level_length : length L ≡ length L₀
  pub queue_length : length q ≡ length q₀
  pub room : tail + count L ≤ length q
  pub search_on : (N : Net) → Fits N H list starts source L₀ c → Searches N c L q head tail

module _ (N : Net) (G : WellFormed N) (c : List Float) (size : length c ≡ links N) (L q : List ℕ) (head tail : ℕ) (S : Searches N c L q head tail) (more : head < tail)
    (within : tail ≤ length q) where
  abbrev u : ℕ
  u = get_or q head 0

  abbrev later : List ℕ
  later = slice (suc head) tail q

  taken : slice head tail q ≡ u ∷ later
  taken = slice-cons head tail q 0 more within

  -- there is fuel, since the queue is not empty
  spare : (k : ℕ) × Rest N c L (u ∷ later) (suc k) × (bfs N c (suc k) L (u ∷ later) ≡ levels N c)
  spare = pick S.fuel (subst (λ (l : List ℕ). Rest N c L l S.fuel) taken S.rest) (ap (bfs N c S.fuel L) (sym taken) ∙ S.same)
    where
      pick : (k : ℕ) → Rest N c L (u ∷ later) k → bfs N c k L (u ∷ later) ≡ levels N c → (j : ℕ) × Rest N c L (u ∷ later) (suc j) × (bfs N c (suc j) L (u ∷ later) ≡ levels N c)
      pick zero R e = let f = R.base.fuel in absurd (omega arith)
      pick (suc j) R e = (j, R, e)

  pub u_set : HasLevel L u
  u_set = spare.1.base.inq u (inl refl)

  pub u_in : u < nodes N
  u_in = rw (← spare.1.base.len) (level_in L u u_set)

  pub u_low : level_of L u < nodes N
  u_low = let b = spare.1.base.bnd u u_set in omega arith

  pub searched : (L' q' : List ℕ) (t' : ℕ) → ◌≡◌ {A = Search} (record { level = L'; queue = slice (suc head) t' q' }) (scan N c u (out N u) (record { level = L; queue = later }))
      → Searches N c L' q' (suc head) t'
  unfolding bfs
  searched L' q' t' e =
      let (k, R, s) = spare in
      record {
        fuel = k;
        rest = subst⁻¹ (λ (w : Search). Rest N c w.level w.queue k) e (turned N G c size L later u k R);
        same = ap (λ (w : Search). bfs N c k w.level w.queue) e ∙ s;
      }

links_of_lem : (N : Net) (H list starts : List ℕ) (source : ℕ) → InRows N H list starts source → links N ≡ length H
links_of_lem N H list starts source D = ap length D.heads

module _ {H list starts : List ℕ} {c : List Float} {source : ℕ} {L q : List ℕ} (R : Searchable H list starts c source L q) where
  size' : length c ≡ length H
  size' = R.size ∙ links_of_lem R.net H list starts source R.laid

  pub source_in : source < length L
  source_in = rw (R.fresh, length-replicate (nodes R.net) unset, ← R.laid.from) R.good.source_in

  pub queue_in : 0 < length q
  queue_in = let r = R.room in let s = R.good.source_in in omega arith

  begins : (N : Net) → WellFormed N → InRows N H list starts source → Searches N c (set (replicate (nodes N) unset) source 0) (set q 0 source) 0 1
  unfolding levels
  begins N G D =
      let l : slice 0 1 (set q 0 source) ≡ N.source ∷ [] = rw D.from (slice-cons 0 1 (set q 0 source) 0 (omega arith) (rw (length-set q 0 source) queue_in)
      ∙ ap (λ (x : ℕ). x ∷ slice 1 1 (set q 0 source)) (get_or-set_same q 0 source 0 queue_in) ∙ ap (λ (r : List ℕ). source ∷ r) (slice_empty 1 (set q 0 source))) in
      let m : set (replicate (nodes N) unset) source 0 ≡ set (replicate (nodes N) unset) N.source 0 = ap (λ (x : ℕ). set (replicate (nodes N) unset) x 0) (sym D.from) in
      record {
        fuel = nodes N;
        rest = subst⁻¹ (λ (x : List ℕ). Rest N c x (slice 0 1 (set q 0 source)) (nodes N)) m
            (subst⁻¹ (λ (x : List ℕ). Rest N c (set (replicate (nodes N) unset) N.source 0) x (nodes N)) l (begun N G c));
        same = ap (λ (x : List ℕ). bfs N c (nodes N) x (slice 0 1 (set q 0 source))) m ∙ ap (bfs N c (nodes N) (set (replicate (nodes N) unset) N.source 0)) l;
      }

  pub starts_outer : Outer H list starts c source (set L source 0) (set q 0 source) (set L source 0) (set q 0 source) 0 1
  starts_outer = record {
    ordered = omega arith;
    level_length = refl;
    queue_length = refl;
    room = rw (length-set q 0 source) (let r = R.room in let n = counted in omega arith);
    search_on = λ N F. subst⁻¹ (λ (x : List ℕ). Searches N c x (set q 0 source) 0 1) F.2 (begins N F.0 F.1);
  }
    where
      some_unset : 0 ≢ unset
      some_unset = let f = R.good.few in omega arith

      counted : suc (count (set L source 0)) ≡ nodes R.net
      counted = count_set L source 0 source_in (ap (λ (l : List ℕ). level_of l source) R.fresh ∙ level_replicate (nodes R.net) source) some_unset
          ∙ ap count R.fresh ∙ count_replicate (nodes R.net)

  fits_net : Fits R.net H list starts source (set L source 0) c
  fits_net = (R.good, R.laid, ap (λ (l : List ℕ). set l source 0) R.fresh, R.size)

  module _ {L₁ q₁ : List ℕ} {head tail : ℕ} (O : Outer H list starts c source (set L source 0) (set q 0 source) L₁ q₁ head tail) where
    level_is : length L₁ ≡ nodes R.net
    level_is = O.level_length ∙ length-set L source 0 ∙ ap length R.fresh ∙ length-replicate (nodes R.net) unset

    tail_in : tail ≤ length q₁
    tail_in = let r = O.room in omega arith

    module _ (more : head < tail) where
      pub node_in : get_or q₁ head 0 < nodes R.net
      node_in = u_in R.net R.good c R.size L₁ q₁ head tail (O.search_on R.net fits_net) more tail_in

      pub node_low : get_or q₁ head 0 < 66
      node_low = let n = node_in in let p = R.laid.places in omega arith

      abbrev row : List ℕ
      row = out R.net (get_or q₁ head 0)

      linked : (j : ℕ) → j < length row → get_or row j 0 < links R.net
      linked j h = (R.good.listed (get_or q₁ head 0) (get_or row j 0) (in_at row j 0 h)).0

      pub scannable : Scannable H row c (get_or q₁ head 0) L₁ q₁ tail
      scannable =
          let low = u_low R.net R.good c R.size L₁ q₁ head tail (O.search_on R.net fits_net) more tail_in in
          let few = R.good.few in
          record {
            links_in = λ j h. let i = linked j h in (rw (← links_of_lem R.net H list starts source R.laid) i, rw R.size i);
            heads_in = λ e l. rw (level_is, ← R.laid.heads) (unfold head in (R.good.heads_in e (rw (ap length R.laid.heads) l)));
            here = rw level_is node_in;
            low = omega arith;
            room = O.room;
          }

      pub outer_again : {L₂ q₂ : List ℕ} {t' : ℕ}
          → Scanned H row c (get_or q₁ head 0) L₁ q₁ L₂ q₂ tail t'
          → Outer H list starts c source (set L source 0) (set q 0 source) L₂ q₂ (head + 1) t'
      outer_again {L₂} {q₂} {t'} S = record {
        ordered = let l = S.longer in omega arith;
        level_length = S.level_length ∙ O.level_length;
        queue_length = S.queue_length ∙ O.queue_length;
        room = S.room;
        search_on = on;
      }
        where
          on : (N : Net) → Fits N H list starts source (set L source 0) c → Searches N c L₂ q₂ (head + 1) t'
          on N F =
              let inn = u_in N F.0 c F.3 L₁ q₁ head tail (O.search_on N F) more tail_in in
              rw (add-one head) (searched N F.0 c F.3 L₁ q₁ head tail (O.search_on N F) more tail_in L₂ q₂ t'
              (S.same N (suc head) F.1.heads more ∙ ap (λ (es : List ℕ). scan N c (get_or q₁ head 0) es (record { level = L₁; queue = slice (suc head) tail q₁ }))
              (R.laid.rows (get_or q₁ head 0) node_in ∙ sym (F.1.rows (get_or q₁ head 0) inn))))

    bfs_nil : (N : Net) (k : ℕ) → bfs N c k L₁ [] ≡ L₁
    unfolding bfs
    bfs_nil N zero = refl
    bfs_nil N (suc k) = refl

    pub outer_ends : tail ≤ head → (N : Net) → WellFormed N → InRows N H list starts source → L ≡ replicate (nodes N) unset → L₁ ≡ levels N c
    outer_ends le N G D fresh =
        let o = O.ordered in
        let z : head ≡ tail = omega arith in
        let S = O.search_on N (G, D, ap (λ (l : List ℕ). set l source 0) fresh, size' ∙ sym (links_of_lem N H list starts source D)) in
        sym (bfs_nil N S.fuel) ∙ ap (bfs N c S.fuel L₁) (sym (slice_empty tail q₁) ∙ ap (λ (x : ℕ). slice x tail q₁) (sym z)) ∙ S.same
