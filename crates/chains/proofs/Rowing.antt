-- The rows of a model's states made one after the other, and where each begins noted (`Rowing`): a turn makes the row of the next state behind those before.
use mathlib.Core.Path.{◌≡◌, refl, sym, ap, ◌∙◌}
use Prim.Native.Nat.{ℕ, ◌+◌, ◌≤◌, ◌<◌}
use mathlib.Core.List.{List, [], ◌∷◌, ◌++◌}
use native.Mathlib.Omega.{arith}
use lib.Ieee.{Float}
use lib.ListN.{length, get_or, set, length-set}
use lib.Seq.{drop-set-lt}
use Rattle.numbers.specs.Lists as lists
use Rattle.numbers.proofs.Over.{over, over_next, over_done}
use Rattle.bisim_core.specs.Data.{Columns}
use Rattle.bisim_core.specs.Model.{begins, row, model}
use Rattle.bisim_core.specs.declared.wlts.Shape.{Shape}
use Rattle.bisim_core.proofs.Accepted.{Accepted}
use Rattle.epsdelta_theory.specs.Jumps.{Jump, targets, rates}
use Rattle.epsdelta_theory.proofs.Rows.{model_length, model_at}
use Rattle.epsdelta_theory.proofs.RowsIn.{LaidJumps}
use Rattle.parts.specs.Jumping.{degree}
use Rattle.parts.proofs.Lent.{part, back, part_length, back_length}
use Rattle.chain_theory.specs.Chain.{chain_row, chain_rows}
use Rattle.chain_theory.specs.Columns.{ChainColumns, chain_columns, starts_from}
use Rattle.chain_theory.proofs.Chains.{rows_length, rows_at}
use Rattle.chains.specs.Outcome.{RowsLaid}
use Rattle.chains.proofs.Exits.{edges_in}
use Rattle.chains.proofs.RowsLaid.{RowsTo, rows_none, rows_next, rows_all, starts_length, starts_at}

-- the rows of the chain
abbrev pub Made : Shape → Columns → Float → List (List Jump)
Made S M q = chain_rows q 0 (model S M)

pub made_length : (S : Shape) (M : Columns) (q : Float) → length (Made S M q) ≡ S.states
made_length S M q = rows_length q 0 (model S M) ∙ model_length S M

made_at : (S : Shape) (M : Columns) (q : Float) (s : ℕ) → s < S.states → get_or (Made S M q) s [] ≡ chain_row q s (row M s)
made_at S M q s h = rows_at q (model S M) s (let l = model_length S M in omega arith) ∙ ap (chain_row q s) (model_at S M s h)

pub equal_columns : {O O' T T' : List ℕ} {P P' W W' : List Float} → O ≡ O' → T ≡ T' → P ≡ P' → W ≡ W' → chain_columns O T P W ≡ chain_columns O' T' P' W'
equal_columns o t p w = rw (o, t, p, w)

-- s states are done; their entries end at place `end`
pub record Rowing (S : Shape) (M : Columns) (q : Float) (C D : ChainColumns) (end s : ℕ) : Type 0 where
  pub low : s ≤ S.states
  pub room : end ≤ begins M s + s
  pub o_size : length D.offsets ≡ length C.offsets
  pub t_size : length D.targets ≡ length C.targets
  pub p_size : length D.probabilities ≡ length C.probabilities
  pub rows : RowsTo (Made S M q) s end C.targets C.probabilities D.targets D.probabilities
  pub starts : D.offsets ≡ over (starts_from 0 (Made S M q)) (s + 1) C.offsets
  pub seen : D.observations ≡ C.observations

first_start : (R : List (List Jump)) (O : List ℕ) → 0 < length O → set O 0 0 ≡ over (starts_from 0 R) (0 + 1) (set O 0 0)
unfolding starts_from
first_start R [] h = absurd (omega arith)
first_start [] (x ∷ O) h = refl
first_start (r ∷ R) (x ∷ O) h = refl

-- the first start is noted
abbrev pub Begun : ChainColumns → ChainColumns
Begun C = chain_columns (set C.offsets 0 0) C.targets C.probabilities C.observations

pub rowing : (S : Shape) (M : Columns) (q : Float) (C : ChainColumns) → 0 < length C.offsets → Rowing S M q (Begun C) (Begun C) 0 0
rowing S M q C h = record { low = omega arith; room = omega arith; o_size = refl; t_size = refl; p_size = refl; rows = rows_none (Made S M q) C.targets C.probabilities; starts = first_start (Made S M q) C.offsets h; seen = refl }

-- the lists are as long as is asked
abbrev pub Long : Shape → ChainColumns → Type 0
Long S C = (S.states < length C.offsets) × (S.edges + S.states ≤ length C.targets) × (S.edges + S.states ≤ length C.probabilities)

module _ {S : Shape} {M : Columns} {q : Float} (C : ChainColumns) {D : ChainColumns} {end s : ℕ} (A : Accepted S M) (G : Long S C) (I : Rowing S M q (Begun C) D end s) (h : s < S.states) where
  -- the places in the lists
  pub near : (end < length D.targets) × (end < length D.probabilities)
  near = let u = edges_in A h in let r = A.begins_rise s h in let m = I.room in let v = I.t_size in let w = I.p_size in let x = G.1 in let y = G.2 in (omega arith, omega arith)

  -- what `make_row` asks for
  pub makeable : (degree M s < length (part end D.targets)) × (degree M s < length (part end D.probabilities))
  makeable =
      let u = edges_in A h in
      let z = A.begins_rise s h in
      let m = I.room in
      let v = I.t_size in
      let w = I.p_size in
      let k = part_length end D.targets in
      let l = part_length end D.probabilities in
      ((let g = G.1 in omega arith), (let g = G.2 in omega arith))

  module _ (m : ℕ) (l : m ≤ degree M s + 1) where
    -- where the entries end is a small number
    pub within : end + m ≤ 6096
    within = let o = A.begins_rise s h in let u = edges_in A h in let k = I.room in let c = A.edges_few in let d = A.states_few in omega arith

    pub turn : (T' : List ℕ) (P' : List Float) → LaidJumps (chain_row q s (row M s)) m (part end D.targets) (part end D.probabilities) T' P'
        → length T' ≡ length (part end D.targets) → length P' ≡ length (part end D.probabilities)
        → Rowing S M q (Begun C) (chain_columns (set D.offsets (s + 1) (end + m)) (back end D.targets T') (back end D.probabilities P') D.observations) (end + m) (s + 1)
    turn T' P' Z t w =
        let R = Made S M q in
        let o = A.begins_rise s h in
        let k = I.room in
        let (x, y) = near in
        let size = made_length S M q in
        let is : chain_row q s (row M s) ≡ get_or R s [] = sym (made_at S M q s h) in
        let N = rows_next I.rows (omega arith) m T' P' (Z.count ∙ ap length is) (Z.in_targets ∙ ap (λ (js : List Jump). lists.over (targets js) (part end D.targets)) is) (Z.in_rates ∙ ap (λ (js : List Jump). lists.over (rates js) (part end D.probabilities)) is) in
        let n' = starts_length 0 R in
        let v = starts_at 0 R (s + 1) (omega arith) in
        let d = N.ends in
        let z : end + m ≡ get_or (starts_from 0 R) (s + 1) 0 = omega arith in
        record {
          low = omega arith;
          room = omega arith;
          o_size = length-set D.offsets (s + 1) (end + m) ∙ I.o_size;
          t_size = back_length end D.targets T' (omega arith) t ∙ I.t_size;
          p_size = back_length end D.probabilities P' (omega arith) w ∙ I.p_size;
          rows = N;
          starts = over_next (starts_from 0 R) (set C.offsets 0 0) D.offsets (s + 1) 0 (end + m) I.starts z (omega arith) (let g = G.0 in let i = length-set C.offsets 0 0 in omega arith);
          seen = I.seen;
        }

pub rowed : {S : Shape} {M : Columns} {q : Float} (C : ChainColumns) {D : ChainColumns} {end s : ℕ} → Rowing S M q (Begun C) D end s → s ≡ S.states → RowsLaid (Made S M q) end C D
rowed {S} {M} {q} C {D} {end} {s} I z =
    let R = Made S M q in
    let size = made_length S M q in
    let (a, t, p) = rows_all I.rows (omega arith) in
    let l = starts_length 0 R in
    let u : 0 < length (starts_from 0 R) = omega arith in
    let o = over_done (starts_from 0 R) (set C.offsets 0 0) D.offsets (s + 1) I.starts (omega arith) ∙ ap (λ (r : List ℕ). starts_from 0 R ++ r) (drop-set-lt (length (starts_from 0 R)) C.offsets 0 0 u) in
    record { count = a; lists_are = equal_columns o t p I.seen }
