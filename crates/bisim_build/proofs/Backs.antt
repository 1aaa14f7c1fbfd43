-- What `build` wrote, read back: the offsets say how many edges have a lower source, the edges are in order of their sources, so the rows of the states, one after the other, are the edges.
use mathlib.Core.Path.{◌≡◌, refl, sym, ap, ◌∙◌}
use mathlib.Core.Logic.{◌⊎◌, inl, inr}
use mathlib.Core.Bool.{Bool, true, false}
use Prim.Native.Nat.{ℕ, zero, suc, ◌+◌, ◌-◌, ◌*◌, ◌≤◌, ◌<◌}
use mathlib.Core.List.{List, [], ◌∷◌, ◌++◌, map}
use native.Mathlib.Omega.{arith}
use native.Mathlib.Nat.{le_of_suc-le-suc, not-suc-le-zero}
use lib.Dec.{ltb}
use lib.Ieee.{nan}
use lib.ListN.{length, get_or, take, drop, take-append-drop}
use lib.Seq.{slice, slice-cons, slice_empty, take-length, take-take}
use borrow.Author.Tests.{lt-ltb, le-ltb, eq-eqb}
use Rattle.numbers.proofs.Bools.{lt_or_ge}
use Rattle.bisim_core.specs.Data.{Edge, Columns}
use Rattle.build_theory.specs.Edges.{one, below}
use Rattle.numbers.specs.Lists.{span}
use Rattle.bisim_core.specs.Model.{begins, edge_at, row, rows, follows, rises}
use Rattle.build_theory.proofs.Steps.{rank}
use Rattle.build_theory.proofs.Ranks.{AllE, all_map, Small, Strict}

-- ---- how many edges have a source below s

below_none : (s : ℕ) (l : List Edge) → AllE (λ a. s ≤ a.source) l → below s l ≡ 0
unfolding below
below_none s [] h = refl
below_none s (a ∷ l) h = let e : one (ltb a.source s) ≡ 0 = ap one (le-ltb a.source s h.0) in let f = below_none s l h.1 in omega arith

pub below_all : (s : ℕ) (l : List Edge) → AllE (λ a. a.source < s) l → below s l ≡ length l
unfolding below
below_all s [] h = refl
below_all s (a ∷ l) h = let e : one (ltb a.source s) ≡ 1 = ap one (lt-ltb a.source s h.0) in let f = below_all s l h.1 in omega arith

one_le : (b : Bool) → one b ≤ 1
one_le true = omega arith
one_le false = omega arith

pub below_le : (s : ℕ) (l : List Edge) → below s l ≤ length l
unfolding below
below_le s [] = omega arith
below_le s (a ∷ l) = let e = one_le (ltb a.source s) in let f = below_le s l in omega arith

pub below_mono : (s t : ℕ) (l : List Edge) → s ≤ t → below s l ≤ below t l
unfolding below
below_mono s t [] h = omega arith
below_mono s t (a ∷ l) h = pick (below_mono s t l h) (lt_or_ge a.source s)
  where
    pick : below s l ≤ below t l → (a.source < s) ⊎ (s ≤ a.source) → one (ltb a.source s) + below s l ≤ one (ltb a.source t) + below t l
    pick ih (inl k) =
        let e : one (ltb a.source s) ≡ 1 = ap one (lt-ltb a.source s k) in
        let f : one (ltb a.source t) ≡ 1 = ap one (lt-ltb a.source t (omega arith)) in
        omega arith
    pick ih (inr k) = let e : one (ltb a.source s) ≡ 0 = ap one (le-ltb a.source s k) in omega arith

-- the sources do not fall
abbrev pub Ordered : List Edge → Type 0
Ordered [] = Unit {0}
Ordered (a ∷ l) = AllE (λ b. a.source ≤ b.source) l × Ordered l

pub strict_ordered : (l : List Edge) → AllE Small l → Strict l → Ordered l
strict_ordered [] h s = tt
strict_ordered (a ∷ l) h s = (later (rank a) l h.1 s.0, strict_ordered l h.1 s.1)
  where
    bound : (x l t y m u : ℕ) → m < 256 → u < 2048 → x * 524288 + l * 2048 + t < y * 524288 + m * 2048 + u → x ≤ y
    bound x l t y m u h k e = omega arith

    later : (r : ℕ) (m : List Edge) → AllE Small m → AllE (λ b. rank a < rank b) m → AllE (λ b. a.source ≤ b.source) m
    later r [] h k = tt
    later r (b ∷ m) h k = (bound a.source a.label a.target b.source b.label b.target h.0.0 h.0.1 k.0, later r m h.1 k.1)

-- an edge stands below below s exactly where its source is below s
pub split_at : (s : ℕ) (l : List Edge) (d : Edge) → Ordered l → (i : ℕ) → i < length l → (i < below s l → (get_or l i d).source < s) × (below s l ≤ i → s ≤ (get_or l i d).source)
unfolding below
split_at s [] d o i h = absurd (not-suc-le-zero h)
split_at s (a ∷ l) d o zero h = pick (lt_or_ge a.source s)
  where
    pick : (a.source < s) ⊎ (s ≤ a.source) → (0 < one (ltb a.source s) + below s l → a.source < s) × (one (ltb a.source s) + below s l ≤ 0 → s ≤ a.source)
    pick (inl k) = let e : one (ltb a.source s) ≡ 1 = ap one (lt-ltb a.source s k) in (λ g. k, λ g. absurd (omega arith))
    pick (inr k) =
        let e : one (ltb a.source s) ≡ 0 = ap one (le-ltb a.source s k) in
        let z = below_none s l (all_map (λ b. a.source ≤ b.source) (λ b. s ≤ b.source) (λ b g. omega arith) l o.0) in
        (λ g. absurd (omega arith), λ g. k)
split_at s (a ∷ l) d o (suc i) h = pick (split_at s l d o.1 i (le_of_suc-le-suc h)) (lt_or_ge a.source s)
  where
    pick : (i < below s l → (get_or l i d).source < s) × (below s l ≤ i → s ≤ (get_or l i d).source) → (a.source < s) ⊎ (s ≤ a.source)
        → (suc i < one (ltb a.source s) + below s l → (get_or l i d).source < s) × (one (ltb a.source s) + below s l ≤ suc i → s ≤ (get_or l i d).source)
    pick ih (inl k) = let e : one (ltb a.source s) ≡ 1 = ap one (lt-ltb a.source s k) in (λ g. ih.0 (omega arith), λ g. ih.1 (omega arith))
    pick ih (inr k) =
        let e : one (ltb a.source s) ≡ 0 = ap one (le-ltb a.source s k) in
        let z = below_none s l (all_map (λ b. a.source ≤ b.source) (λ b. s ≤ b.source) (λ b g. omega arith) l o.0) in
        (λ g. absurd (omega arith), λ g. ih.1 (omega arith))

-- ---- rows

pub map_is_slice : (f : ℕ → Edge) (E : List Edge) (d : Edge) (i k n : ℕ) → i + k ≡ n → n ≤ length E → ((j : ℕ) → i ≤ j → j < n → f j ≡ get_or E j d) → map f (span i k) ≡ slice i n E
unfolding span
map_is_slice f E d i zero n z h e = sym (ap (λ (x : ℕ). slice x n E) (let y : i ≡ n = omega arith in y) ∙ slice_empty n E)
map_is_slice f E d i (suc k) n z h e =
    ap (λ (a : Edge). a ∷ map f (span (suc i) k)) (e i (omega arith) (omega arith))
    ∙ ap (λ (l : List Edge). get_or E i d ∷ l) (map_is_slice f E d (suc i) k n (omega arith) h (λ j a b. e j (omega arith) b))
    ∙ sym (slice-cons i n E d (omega arith) h)

slice_join : (a b c : ℕ) (E : List Edge) → a ≤ b → b ≤ c → slice a b E ++ slice b c E ≡ slice a c E
slice_join a b c E h k = ap (λ (l : List Edge). drop a l ++ slice b c E) (sym (take-take b c E k)) ∙ dropped a b (take c E) h
  where
    dropped : (a b : ℕ) (l : List Edge) → a ≤ b → drop a (take b l) ++ drop b l ≡ drop a l
    dropped zero b l h = take-append-drop b l
    dropped (suc a) zero l h = absurd (omega arith)
    dropped (suc a) (suc b) [] h = refl
    dropped (suc a) (suc b) (x ∷ l) h = dropped a b l (le_of_suc-le-suc h)

-- the columns holds the edges E of so many states
pub record Holds (M : Columns) (E : List Edge) (states : ℕ) : Type 0 where
  pub starts : (s : ℕ) → s ≤ states → begins M s ≡ below s E
  pub at : (s i : ℕ) (d : Edge) → i < length E → (get_or E i d).source ≡ s → edge_at M s i ≡ get_or E i d

nil : Edge
nil = record { source = 0; label = 0; target = 0; weight = nan }

module _ (M : Columns) (E : List Edge) (states : ℕ) (H : Holds M E states) (O : Ordered E) where
  pub row_is : (s : ℕ) → s < states → row M s ≡ slice (below s E) (below (s + 1) E) E
  unfolding row
  row_is s h =
      let p = H.starts s (omega arith) in
      let q = H.starts (s + 1) (omega arith) in
      let m = below_mono s (s + 1) E (omega arith) in
      let t = below_le (s + 1) E in
      ap (λ (x : ℕ). map (edge_at M s) (span x (begins M (s + 1) - x))) p ∙ ap (λ (x : ℕ). map (edge_at M s) (span (below s E) (x - below s E))) q
      ∙ map_is_slice (edge_at M s) E nil (below s E) (below (s + 1) E - below s E) (below (s + 1) E) (omega arith) t
      (λ j a b. H.at s j nil (omega arith) (let u = (split_at s E nil O j (omega arith)).1 a in let w = (split_at (s + 1) E nil O j (omega arith)).0 b in omega arith))

  pub rows_are : (k s : ℕ) → s + k ≤ states → rows M s k ≡ slice (below s E) (below (s + k) E) E
  unfolding rows
  rows_are zero s h = sym (ap (λ (x : ℕ). slice (below s E) (below x E) E) (let z : s + 0 ≡ s = omega arith in z) ∙ slice_empty (below s E) E)
  rows_are (suc k) s h =
      ap (λ (l : List Edge). l ++ rows M (s + 1) k) (row_is s (omega arith))
      ∙ ap (λ (l : List Edge). slice (below s E) (below (s + 1) E) E ++ l) (rows_are k (s + 1) (omega arith))
      ∙ slice_join (below s E) (below (s + 1) E) (below (s + 1 + k) E) E (below_mono s (s + 1) E (omega arith)) (below_mono (s + 1) (s + 1 + k) E (omega arith))
      ∙ ap (λ (x : ℕ). slice (below s E) (below x E) E) (let z : s + 1 + k ≡ s + suc k = omega arith in z)

  -- the rows of all states are the edges
  pub rows_all : AllE (λ a. a.source < states) E → rows M 0 states ≡ E
  rows_all h =
      rows_are states 0 (omega arith) ∙ ap (λ (x : ℕ). slice x (below (0 + states) E) E) (none E)
      ∙ ap (λ (x : ℕ). take x E) (ap (λ (x : ℕ). below x E) (let z : 0 + states ≡ states = omega arith in z) ∙ below_all states E h) ∙ take-length E
    where
      none : (l : List Edge) → below 0 l ≡ 0
      none l = below_none 0 l (zeros l)
        where
          zeros : (l : List Edge) → AllE (λ a. 0 ≤ a.source) l
          zeros [] = tt
          zeros (a ∷ l) = (omega arith, zeros l)

-- ---- a row rises by label id, then target

pub strict_drop : (n : ℕ) (l : List Edge) → Strict l → Strict (drop n l)
strict_drop zero l s = s
strict_drop (suc n) [] s = tt
strict_drop (suc n) (a ∷ l) s = strict_drop n l s.1

all_take : (P : Edge → Type 0) (n : ℕ) (l : List Edge) → AllE P l → AllE P (take n l)
all_take P zero l h = tt
all_take P (suc n) [] h = tt
all_take P (suc n) (a ∷ l) h = (h.0, all_take P n l h.1)

all_drop : (P : Edge → Type 0) (n : ℕ) (l : List Edge) → AllE P l → AllE P (drop n l)
all_drop P zero l h = h
all_drop P (suc n) [] h = tt
all_drop P (suc n) (a ∷ l) h = all_drop P n l h.1

pub all_part : (P : Edge → Type 0) (i n : ℕ) (l : List Edge) → AllE P l → AllE P (slice i n l)
all_part P i n l h = all_drop P i (take n l) (all_take P n l h)

strict_take : (n : ℕ) (l : List Edge) → Strict l → Strict (take n l)
strict_take zero l s = tt
strict_take (suc n) [] s = tt
strict_take (suc n) (a ∷ l) s = (all_take (λ b. rank a < rank b) n l s.0, strict_take n l s.1)

pub strict_part : (i n : ℕ) (l : List Edge) → Strict l → Strict (slice i n l)
strict_part i n l s = strict_drop i (take n l) (strict_take n l s)

-- what holds at each place holds of all
pub all_of : (P : Edge → Type 0) (l : List Edge) (d : Edge) → ((i : ℕ) → i < length l → P (get_or l i d)) → AllE P l
all_of P [] d h = tt
all_of P (a ∷ l) d h = (h 0 (omega arith), all_of P l d (λ i k. h (suc i) (omega arith)))

follow : (a b : Edge) (s : ℕ) → a.source ≡ s → b.source ≡ s → Small a → Small b → rank a < rank b → follows a b ≡ true
follow a b s e f h k r = pick (lt_or_ge a.label b.label)
  where
    pick : (a.label < b.label) ⊎ (b.label ≤ a.label) → follows a b ≡ true
    pick (inl g) = rw (lt-ltb a.label b.label g)
    pick (inr g) =
        let (u, w) = parts a.source a.label a.target b.source b.label b.target s e f h.1 k.1 r g in
        rw (le-ltb a.label b.label g, eq-eqb a.label b.label u, lt-ltb a.target b.target w)
      where
        parts : (x l t y m u s : ℕ) → x ≡ s → y ≡ s → t < 2048 → u < 2048 → x * 524288 + l * 2048 + t < y * 524288 + m * 2048 + u → m ≤ l → (l ≡ m) × (t < u)
        parts x l t y m u s e f h k r g = (omega arith, omega arith)

pub rises_of : (l : List Edge) (s : ℕ) → AllE (λ a. a.source ≡ s) l → AllE Small l → Strict l → rises l ≡ true
unfolding rises
rises_of [] s e h k = refl
rises_of (a ∷ []) s e h k = refl
rises_of (a ∷ (b ∷ l)) s e h k = rw (follow a b s e.0 e.1.0 h.0 h.1.0 k.0.0) (rises_of (b ∷ l) s e.1 h.1 k.1)
