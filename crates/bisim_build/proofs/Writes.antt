-- The turns of `write_edges`: one more entry in each of the two columns; and what `find` finds for `first_from`.
use mathlib.Core.Path.{◌≡◌, refl, sym, ◌∙◌}
use Prim.Native.Nat.{ℕ, ◌+◌, ◌*◌, ◌/◌, ◌%◌, ◌≤◌, ◌<◌}
use mathlib.Core.List.{List, map}
use native.Mathlib.Omega.{arith}
use lib.Ieee.{Float}
use lib.ListN.{length, get_or, set, length-set}
use Rattle.std.specs.Prelude.{Option, Some, None, unwrap_or}
use Rattle.std.specs.Option.{MatchOption}
use Rattle.numbers.proofs.Over.{over, over_next, over_done}
use Rattle.bisim_core.specs.Data.{Edge}
use Rattle.build_theory.proofs.Steps.{edges_in, FirstFrom, Writable, Written}
use Rattle.build_theory.proofs.Rows.{column_length, column_at}

abbrev label_of : Edge → ℕ
label_of a = a.label

abbrev target_of : Edge → ℕ
target_of a = a.target

pub record Writing (T L₀ G₀ L G : List ℕ) (i : ℕ) : Type 0 where
  pub i_in : i ≤ length T
  pub l_size : length L ≡ length L₀
  pub g_size : length G ≡ length G₀
  pub labels : (U : List Float) → L ≡ over (map label_of (edges_in T U)) i L₀
  pub targets : (U : List Float) → G ≡ over (map target_of (edges_in T U)) i G₀

pub writing : (T L G : List ℕ) → Writing T L G L G 0
writing T L G = record { i_in = omega arith; l_size = refl; g_size = refl; labels = λ U. refl; targets = λ U. refl }

module _ {T L₀ G₀ L G : List ℕ} {i : ℕ} (P : Writable T L₀ G₀) (I : Writing T L₀ G₀ L G i) where
  pub writes : i < length T → Writing T L₀ G₀ (set L i ((get_or T i 0 / 2048) % 256)) (set G i (get_or T i 0 % 2048)) (i + 1)
  writes h =
      let a = P.l_room in let b = P.g_room in
      record {
        i_in = omega arith;
        l_size = length-set L i ((get_or T i 0 / 2048) % 256) ∙ I.l_size;
        g_size = length-set G i (get_or T i 0 % 2048) ∙ I.g_size;
        labels = λ U. over_next (map label_of (edges_in T U)) L₀ L i 0 _ (I.labels U) (column_at label_of T U (length T) i h) (let l = column_length label_of T U (length T) in omega arith) (omega arith);
        targets = λ U. over_next (map target_of (edges_in T U)) G₀ G i 0 _ (I.targets U) (column_at target_of T U (length T) i h) (let l = column_length target_of T U (length T) in omega arith) (omega arith);
      }

  pub written : length T ≤ i → Written T L₀ G₀ L G
  written h =
      let a = I.i_in in
      let e : i ≡ length T = omega arith in
      record {
        labels = λ U. over_done (map label_of (edges_in T U)) L₀ L i (I.labels U) (e ∙ sym (column_length label_of T U (length T)));
        targets = λ U. over_done (map target_of (edges_in T U)) G₀ G i (I.targets U) (e ∙ sym (column_length target_of T U (length T)));
      }

-- ---- the first triple from p on whose source is not below s

pub first : (T : List ℕ) (m p s : ℕ) → length T ≡ m → p ≤ m → (r : Option ℕ)
    → MatchOption r ((k : ℕ) → p ≤ k → k < m → get_or T k 0 / 524288 < s) (λ i. (p ≤ i) × (i < m) × (s ≤ get_or T i 0 / 524288) × ((k : ℕ) → p ≤ k → k < i → get_or T k 0 / 524288 < s))
    → FirstFrom T p (s * 524288) (unwrap_or r m)
first T m p s e h (Some i) (a, b, y, before) = record { from = a; within = omega arith; low = λ j x z. let l = before j x z in omega arith; high = λ z. omega arith }
first T m p s e h None t = record { from = h; within = omega arith; low = λ j x z. let l = t j x z in omega arith; high = λ z. absurd (omega arith) }
