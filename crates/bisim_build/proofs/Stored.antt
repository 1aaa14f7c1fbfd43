-- Edges stored as triples and weights over the front of two lists: read back they are the edges, and the triples rise where the edges do.
use mathlib.Core.Path.{◌≡◌, ap, ◌∙◌}
use Prim.Native.Nat.{ℕ, zero, suc, ◌+◌, ◌*◌, ◌/◌, ◌%◌, ◌<◌}
use mathlib.Core.List.{List, [], ◌∷◌, map}
use native.Mathlib.Omega.{arith}
use native.Mathlib.Nat.{le_of_suc-le-suc, not-suc-le-zero}
use lib.Ieee.{Float, nan}
use lib.ListN.{length, get_or, drop, length-map, get_or-append}
use lib.Seq.{ext_get_or}
use Rattle.numbers.specs.Lists.{over}
use Rattle.bisim_core.specs.Data.{Edge}
use Rattle.build_theory.proofs.Plan.{weight_of}
use Rattle.build_theory.proofs.Steps.{edge_in, edges_in, rank, Rising}
use Rattle.build_theory.proofs.Rows.{edges_length, edges_at}
use Rattle.build_theory.proofs.Ranks.{AllE, Small, Strict}

pub all_at : (P : Edge → Type 0) (l : List Edge) (d : Edge) → AllE P l → (i : ℕ) → i < length l → P (get_or l i d)
all_at P [] d h i k = absurd (not-suc-le-zero k)
all_at P (a ∷ l) d (p, h) zero k = p
all_at P (a ∷ l) d (p, h) (suc i) k = all_at P l d h i (le_of_suc-le-suc k)

pub column : {A : Type 0} (f : Edge → A) (E : List Edge) (i : ℕ) (z : A) (d : Edge) → i < length E → get_or (map f E) i z ≡ f (get_or E i d)
column f [] i z d h = absurd (not-suc-le-zero h)
column f (a ∷ E) zero z d h = ap f (let e : a ≡ a = cc in e)
column f (a ∷ E) (suc i) z d h = column f E i z d (le_of_suc-le-suc h)

pub over_at : {A : Type 0} (new old : List A) (i : ℕ) (d : A) → i < length new → get_or (over new old) i d ≡ get_or new i d
over_at new old i d h = get_or-append new (drop (length new) old) d i h

nil : Edge
nil = record { source = 0; label = 0; target = 0; weight = nan }

unranked : (a : Edge) → Small a → edge_in (rank a) a.weight ≡ a
unranked a (l, t) = same a.source a.label a.target a.weight l t
  where
    parts : (s l t : ℕ) (w : Float) (s' l' t' : ℕ) → s' ≡ s → l' ≡ l → t' ≡ t
        → ◌≡◌ {A = Edge} (record { source = s'; label = l'; target = t'; weight = w }) (record { source = s; label = l; target = t; weight = w })
    parts s l t w s' l' t' a b c = cc

    same : (s l t : ℕ) (w : Float) → l < 256 → t < 2048 → edge_in (s * 524288 + l * 2048 + t) w ≡ record { source = s; label = l; target = t; weight = w }
    same s l t w hl ht =
        parts s l t w ((s * 524288 + l * 2048 + t) / 524288) (((s * 524288 + l * 2048 + t) / 2048) % 256) ((s * 524288 + l * 2048 + t) % 2048) (omega arith) (omega arith) (omega arith)

module _ (E : List Edge) where
  rank_at : (i : ℕ) → i < length E → get_or (map rank E) i 0 ≡ rank (get_or E i nil)
  rank_at i h = column rank E i 0 nil h

  pub stored_edges : (U : List Float) → AllE Small E → edges_in (map rank E) (over (map weight_of E) U) ≡ E
  stored_edges U s = ext_get_or nil (edges_in T' U') E l (λ i h.
      let k : i < length E = (let z = l in omega arith) in
      edges_at T' U' (length T') i nil (let r = length-map E rank in omega arith) ∙ ap (λ (q : ℕ). edge_in q (get_or U' i nan)) (rank_at i k)
      ∙ ap (edge_in (rank (get_or E i nil))) (over_at (map weight_of E) U i nan (let m = length-map E weight_of in omega arith) ∙ column weight_of E i nan nil k)
      ∙ unranked (get_or E i nil) (all_at Small E nil s i k))
    where
      T' : List ℕ
      T' = map rank E

      U' : List Float
      U' = over (map weight_of E) U

      l : length (edges_in T' U') ≡ length E
      l = edges_length T' U' (length T') ∙ length-map E rank

  pub stored_rising : Strict E → Rising (map rank E)
  stored_rising s i j h k =
      let l = length-map E rank in
      let a = rank_at i (omega arith) in
      let b = rank_at j (omega arith) in
      let r = rises E s i j h (omega arith) in
      omega arith
    where
      rises : (l : List Edge) → Strict l → (i j : ℕ) → i < j → j < length l → rank (get_or l i nil) < rank (get_or l j nil)
      rises [] s i j h k = absurd (not-suc-le-zero k)
      rises (a ∷ l) (p, s) i zero h k = absurd (omega arith)
      rises (a ∷ l) (p, s) zero (suc j) h k = all_at (λ b. rank a < rank b) l nil p j (le_of_suc-le-suc k)
      rises (a ∷ l) (p, s) (suc i) (suc j) h k = rises l s i j (le_of_suc-le-suc h) (le_of_suc-le-suc k)
