-- Flow tests that need no run. A test reads of the relation only the entries of targets of one state with targets of the other, so a pair that passed passes again if none of them was cleared since.
-- Code notes strikes as bits of words: bit v % 64 of word 2 u of a list is set after a strike of u and v in this sweep, that of word 2 u + 1 after one in the sweep before; states v that are 64 apart share it. Word 2 n, of n states, is 0 in the first sweep alone.
-- A strike of u and v comes in the turns of the lower of them, so one with a state below a came before every turn of a in its sweep.
use mathlib.Core.Path.{◌≡◌, refl, sym, ap, subst, subst⁻¹, ◌∙◌}
use Prim.Native.Nat.{ℕ, suc, ◌≤◌, ◌<◌, ◌+◌, ◌*◌, ◌/◌, ◌%◌, ◌^◌, max}
use mathlib.Core.Bool.{Bool, true, false, true≢false}
use mathlib.Core.Logic.{◌≢◌, ◌⊎◌, inl, inr}
use mathlib.Core.List.{List, [], ◌∷◌, ◌++◌}
use native.Mathlib.Omega.{arith}
use native.Mathlib.Nat.{one-mul, mod-eq_of_lt, div_self, max-le, le-max_left, le-max_right}
use lib.Ieee.{Float, nan, le}
use lib.Bits.{bit_or, bit_and, or_step, or_shr, and_mask}
use lib.Pow.{pow-lt, pow_pos}
use lib.ListN.{length, get_or, set, take, length-set}
use lib.Seq.{slice, length-slice, get_or-take, get_or-drop, get_or-set_same, get_or-set_other}
use Rattle.numbers.specs.Real.{is_zero}
use Rattle.numbers.specs.Bits.{packed, bit_at, cleared}
use Rattle.numbers.proofs.Bools.{eq_or_ne}
use Rattle.flow_theory.specs.Rows.{network}
use Rattle.flow_theory.specs.Run.{max_flow}
use Rattle.epsdelta_theory.specs.Jumps.{jumps_of}
use Rattle.epsdelta_theory.specs.Relation.{holds, clear}
use Rattle.epsdelta_theory.specs.FlowTest.{Link, source_links, sink_links, link_if, cross_links, all_cross_links, links_of, heads, caps}
use Rattle.epsdelta_theory.proofs.Pairs.{packed_holds, packed_cleared, clear_within, clear_other, clear_there, pair_cases}
use Rattle.epsdelta_theory.proofs.TasksIn.{row_in, RowsFit, test_in}

-- ---- a flow test reads only the entries of its targets

module _ (n : ℕ) (R R' : List Bool) where
  cross_same : (u i k : ℕ) (us : List ℕ) (ws : List Float) → ((j : ℕ) → j < length us → holds n R u (get_or us j 0) ≡ holds n R' u (get_or us j 0))
      → cross_links n R u i k (jumps_of us ws) ≡ cross_links n R' u i k (jumps_of us ws)
  unfolding cross_links jumps_of
  cross_same u i k [] ws h = refl
  cross_same u i k (v ∷ us) [] h = refl
  cross_same u i k (v ∷ us) (w ∷ ws) h =
      ap (λ (b : Bool). link_if b i k (cross_links n R u i (suc k) (jumps_of us ws))) (h 0 (omega arith))
      ∙ ap (λ (l : List Link). link_if (holds n R' u v) i k l) (cross_same u i (suc k) us ws (λ j l. h (suc j) (omega arith)))

  all_cross_same : (i k : ℕ) (ts : List ℕ) (vs : List Float) (us : List ℕ) (ws : List Float)
      → ((j m : ℕ) → j < length ts → m < length us → holds n R (get_or ts j 0) (get_or us m 0) ≡ holds n R' (get_or ts j 0) (get_or us m 0))
      → all_cross_links n R i k (jumps_of ts vs) (jumps_of us ws) ≡ all_cross_links n R' i k (jumps_of ts vs) (jumps_of us ws)
  unfolding all_cross_links jumps_of
  all_cross_same i k [] vs us ws h = refl
  all_cross_same i k (t ∷ ts) [] us ws h = refl
  all_cross_same i k (t ∷ ts) (v ∷ vs) us ws h =
      ap (λ (l : List Link). l ++ all_cross_links n R (suc i) k (jumps_of ts vs) (jumps_of us ws)) (cross_same t i k us ws (λ m l. h 0 m (omega arith) l))
      ∙ ap (λ (l : List Link). cross_links n R' t i k (jumps_of us ws) ++ l) (all_cross_same (suc i) k ts vs us ws (λ j m p q. h (suc j) m (omega arith) q))

  links_same : (ts : List ℕ) (vs : List Float) (us : List ℕ) (ws : List Float)
      → ((j m : ℕ) → j < length ts → m < length us → holds n R (get_or ts j 0) (get_or us m 0) ≡ holds n R' (get_or ts j 0) (get_or us m 0))
      → links_of n R (jumps_of ts vs) (jumps_of us ws) ≡ links_of n R' (jumps_of ts vs) (jumps_of us ws)
  unfolding links_of
  links_same ts vs us ws h =
      let ps = jumps_of ts vs in
      let pt = jumps_of us ws in
      ap (λ (l : List Link). source_links (length ps + length pt) 0 ps ++ (sink_links (suc (length ps + length pt)) (length ps) pt ++ l)) (all_cross_same 0 (length ps) ts vs us ws h)

  slice_at : (f t : ℕ) (l : List ℕ) (j : ℕ) → f + j < t → get_or (slice f t l) j 0 ≡ get_or l (f + j) 0
  slice_at f t l j h = get_or-drop f (take t l) j 0 ∙ get_or-take t l (f + j) 0 h

  pub test_same : (S T : List ℕ) (P : List Float) (need : Float) (a b : ℕ) → get_or S (a + 1) 0 ≤ length T → get_or S (b + 1) 0 ≤ length T
      → ((i k : ℕ) → get_or S a 0 ≤ i → i < get_or S (a + 1) 0 → get_or S b 0 ≤ k → k < get_or S (b + 1) 0 → holds n R (get_or T i 0) (get_or T k 0) ≡ holds n R' (get_or T i 0) (get_or T k 0))
      → test_in n S T P need R a b ≡ test_in n S T P need R' a b
  test_same S T P need a b la lb h =
      let ts = slice (get_or S a 0) (get_or S (a + 1) 0) T in
      let us = slice (get_or S b 0) (get_or S (b + 1) 0) T in
      let za = length-slice (get_or S a 0) (get_or S (a + 1) 0) T la in
      let zb = length-slice (get_or S b 0) (get_or S (b + 1) 0) T lb in
      let source = length (row_in S T P a) + length (row_in S T P b) in
      ap (λ (ls : List Link). le need (max_flow (network (heads ls) (source + 2) source (suc source)) (caps ls)).total)
      (links_same ts (slice (get_or S a 0) (get_or S (a + 1) 0) P) us (slice (get_or S b 0) (get_or S (b + 1) 0) P) (λ j m p q. same j m (omega arith) (omega arith)))
    where
      same : (j m : ℕ) → get_or S a 0 + j < get_or S (a + 1) 0 → get_or S b 0 + m < get_or S (b + 1) 0
          → holds n R (get_or (slice (get_or S a 0) (get_or S (a + 1) 0) T) j 0) (get_or (slice (get_or S b 0) (get_or S (b + 1) 0) T) m 0) ≡ holds n R' (get_or (slice (get_or S a 0) (get_or S (a + 1) 0) T) j 0) (get_or (slice (get_or S b 0) (get_or S (b + 1) 0) T) m 0)
      same j m p q =
          let x = slice_at (get_or S a 0) (get_or S (a + 1) 0) T j p in
          let y = slice_at (get_or S b 0) (get_or S (b + 1) 0) T m q in
          ap (λ (u : ℕ). holds n R u (get_or (slice (get_or S b 0) (get_or S (b + 1) 0) T) m 0)) x ∙ ap (λ (v : ℕ). holds n R (get_or T (get_or S a 0 + j) 0) v) y
          ∙ h (get_or S a 0 + j) (get_or S b 0 + m) (omega arith) p (omega arith) q
          ∙ sym (ap (λ (u : ℕ). holds n R' u (get_or (slice (get_or S b 0) (get_or S (b + 1) 0) T) m 0)) x ∙ ap (λ (v : ℕ). holds n R' (get_or T (get_or S a 0 + j) 0) v) y)

  -- relations of the same bytes hold the same pairs
  bytes_same : packed R ≡ packed R' → (u v : ℕ) → holds n R u v ≡ holds n R' u v
  bytes_same e u v = sym (packed_holds n R u v) ∙ ap (λ (l : List ℕ). bit_at l (u * n + v)) e ∙ packed_holds n R' u v

-- ---- the words of the contracts

-- bit q of a word is not set
abbrev pub Off : ℕ → ℕ → Type 0
Off x q = x / 2 ^ q % 2 ≡ 0

-- before the turn of a pair of a: no strike of u and v is noted since its turn in the sweep before, and there was one
abbrev pub QuietAt : ℕ → List ℕ → ℕ → ℕ → ℕ → Type 0
QuietAt n C a u v = (u < n) × (v < n) × (0 < get_or C (2 * n) 0) × Off (get_or C (2 * u) 0) (v % 64) × (a ≤ u → a ≤ v → Off (get_or C (2 * u + 1) 0) (v % 64))

-- after it: none is noted since its turn in this sweep
abbrev pub StillAt : ℕ → List ℕ → ℕ → ℕ → ℕ → Type 0
StillAt n C a u v = (u < n) × (v < n) × (a ≤ u → a ≤ v → Off (get_or C (2 * u) 0) (v % 64))

-- the word of v alone
abbrev pub mark : ℕ → ℕ
mark v = 1 * 2 ^ (v % 64) % 18446744073709551616

-- v marked in word e
abbrev pub marked : List ℕ → ℕ → ℕ → List ℕ
marked C e v = set C e (bit_or (get_or C e 0) (mark v))

-- the words after a strike of s and t
abbrev pub noted : List ℕ → ℕ → ℕ → List ℕ
noted C s t = marked (marked C (2 * s) t) (2 * t) s

-- X holds of any entry that the tests of a and b read, and they read some
pub record Quiet (S T : List ℕ) (X : ℕ → ℕ → Type 0) (a b : ℕ) : Type 0 where
  pub some : get_or S a 0 < get_or S (a + 1) 0
  pub more : get_or S b 0 < get_or S (b + 1) 0
  pub at : (i k : ℕ) → get_or S a 0 ≤ i → i < get_or S (a + 1) 0 → get_or S b 0 ≤ k → k < get_or S (b + 1) 0 → X (get_or T i 0) (get_or T k 0)

-- both tests of a pair pass, if it stands and its lower state has an exit
abbrev pub Passes : ℕ → List Float → List ℕ → List ℕ → List Float → Float → List Bool → ℕ → ℕ → Type 0
Passes n E S T P need R a b = is_zero (get_or E a nan) ≡ false → holds n R a b ≡ true → (test_in n S T P need R a b ≡ true) × (test_in n S T P need R b a ≡ true)

-- both tests of a pair pass against the stored relation, if they read nothing that is noted
abbrev pub Settled : ℕ → List ℕ → List ℕ → List Float → Float → List ℕ → List ℕ → ℕ → ℕ → Type 0
Settled n S T P need store C a b = (R : List Bool) → store ≡ packed R → Quiet S T (QuietAt n C a) a b → (test_in n S T P need R a b ≡ true) × (test_in n S T P need R b a ≡ true)

-- what the levels C say before the turn of (s, t): a pair that reads nothing noted since its turn in the sweep before passes, and one that had its turn in this sweep and reads nothing noted since
pub record Noted (n : ℕ) (E : List Float) (S T : List ℕ) (P : List Float) (need : Float) (store C : List ℕ) (s t : ℕ) : Type 0 where
  pub relation : List Bool
  pub bytes : store ≡ packed relation
  pub long : 2 * n < length C
  pub earlier : (a b : ℕ) → a < b → b < n → Quiet S T (QuietAt n C a) a b → Passes n E S T P need relation a b
  pub swept : (a b : ℕ) → a < b → b < n → a ≤ s → (a ≡ s → b < t) → Quiet S T (StillAt n C a) a b → Passes n E S T P need relation a b

-- ---- their laws

pub quiet_map : {S T : List ℕ} {X Y : ℕ → ℕ → Type 0} {a b : ℕ} → ((u v : ℕ) → X u v → Y u v) → Quiet S T X a b → Quiet S T Y a b
quiet_map {T = T} f Q = record { some = Q.some; more = Q.more; at = λ i k x y z w. f (get_or T i 0) (get_or T k 0) (Q.at i k x y z w) }

-- a bit that is not set in one of two words joined is set in neither
pub off_or : (x y q : ℕ) → Off (bit_or x y) q → Off x q × Off y q
off_or x y q h =
    let e = ap (λ (z : ℕ). z % 2) (or_shr x y q) in
    let X = x / 2 ^ q in
    let Y = y / 2 ^ q in
    let f = or_step X Y in
    let a : X % 2 ≤ max (X % 2) (Y % 2) = le-max_left (X % 2) (Y % 2) in
    let b : Y % 2 ≤ max (X % 2) (Y % 2) = le-max_right (X % 2) (Y % 2) in
    let c : max (X % 2) (Y % 2) ≤ 1 = max-le (omega arith) (omega arith) in
    let g : bit_or X Y % 2 ≡ 0 = sym e ∙ h in
    (omega arith, omega arith)

-- what the words `now` and `before` say of u, of n states: a bit that is not set in them is not set in the words of u, those of the sweep before where u is not below a
abbrev pub Told : ℕ → List ℕ → ℕ → ℕ → ℕ → ℕ → Type 0
Told n C a u now before = (u < n) × ((q : ℕ) → Off now q → Off (get_or C (2 * u) 0) q) × ((q : ℕ) → a ≤ u → Off before q → Off (get_or C (2 * u + 1) 0) q)

-- v is in none of them, in those of the sweep before where it is not below a
abbrev pub Missed : ℕ → ℕ → ℕ → ℕ → ℕ → Type 0
Missed n a v now before = (v < n) × Off now (v % 64) × (a ≤ v → Off before (v % 64))

pub told_more : (n : ℕ) (C : List ℕ) (a u now before x y : ℕ) → Told n C a u now before → Told n C a u (bit_or now x) (bit_or before y)
told_more n C a u now before x y (h, f, g) = (h, λ q o. f q (off_or now x q o).0, λ q l o. g q l (off_or before y q o).0)

pub told_this : (n : ℕ) (C : List ℕ) (a u now before y : ℕ) → u < n → (a ≤ u → y ≡ get_or C (2 * u + 1) 0) → Told n C a u (bit_or now (get_or C (2 * u) 0)) (bit_or before y)
told_this n C a u now before y h f = (h, λ q o. (off_or now (get_or C (2 * u) 0) q o).1, λ q l o. subst (λ (z : ℕ). Off z q) (f l) (off_or before y q o).1)

pub told_missed : (n : ℕ) (C : List ℕ) (a u v now before : ℕ) → 0 < get_or C (2 * n) 0 → Told n C a u now before → Missed n a v now before → QuietAt n C a u v
told_missed n C a u v now before z (x, f, g) (y, o, p) = (x, y, z, f (v % 64) o, λ i j. g (v % 64) i (p j))

-- a bit that is read as not set
pub reads_off : (x q : ℕ) → (bit_and (x / 2 ^ q) 1 ≡ 1 → ⊥) → Off x q
reads_off x q h = pick (eq_or_ne (x / 2 ^ q % 2) 1)
  where
    pick : (x / 2 ^ q % 2 ≡ 1) ⊎ (x / 2 ^ q % 2 ≢ 1) → Off x q
    pick (inl z) = absurd (h (and_mask (x / 2 ^ q) 1 ∙ z))
    pick (inr z) = omega arith

-- v's own bit is set in its word
off_mark : (v q : ℕ) → Off (mark v) q → q ≢ v % 64
off_mark v q h e =
    let l : 2 ^ (v % 64) < 2 ^ 64 = pow-lt {i = v % 64} {j = 64} (omega arith) in
    let m : mark v ≡ 2 ^ (v % 64) = ap (λ (y : ℕ). y % 18446744073709551616) (one-mul (2 ^ (v % 64))) ∙ mod-eq_of_lt l in
    let d : mark v / 2 ^ q % 2 ≡ 1 = ap (λ (y : ℕ). y / 2 ^ q % 2) m ∙ ap (λ (y : ℕ). 2 ^ (v % 64) / 2 ^ y % 2) e ∙ ap (λ (y : ℕ). y % 2) (div_self (pow_pos (v % 64))) in
    absurd (omega arith)

-- a bit of a word that is off after a mark was off before, and is not the mark's
off_marked : (C : List ℕ) (e v x q : ℕ) → e < length C → Off (get_or (marked C e v) x 0) q → Off (get_or C x 0) q × (x ≡ e → q ≢ v % 64)
off_marked C e v x q h o = pick (eq_or_ne x e)
  where
    pick : (x ≡ e) ⊎ (x ≢ e) → Off (get_or C x 0) q × (x ≡ e → q ≢ v % 64)
    pick (inl z) =
        let g : get_or (marked C e v) x 0 ≡ bit_or (get_or C e 0) (mark v) = ap (λ (y : ℕ). get_or (marked C e v) y 0) z ∙ get_or-set_same C e (bit_or (get_or C e 0) (mark v)) 0 h in
        let (a, b) = off_or (get_or C e 0) (mark v) q (subst (λ (y : ℕ). Off y q) g o) in
        (subst⁻¹ (λ (y : ℕ). Off (get_or C y 0) q) z a, λ _. off_mark v q b)
    pick (inr d) = (subst (λ (y : ℕ). Off y q) (get_or-set_other C e x (bit_or (get_or C e 0) (mark v)) 0 d) o, λ z. absurd (d z))

-- a pair of row s up to t, but not (s, t), is before it
not_last : (a b s t : ℕ) → a ≡ s → b < t + 1 → ((a ≡ s) → (b ≡ t) → ⊥) → b < t
not_last a b s t x g d = pick (eq_or_ne b t)
  where
    pick : (b ≡ t) ⊎ (b ≢ t) → b < t
    pick (inl y) = absurd (d x y)
    pick (inr y) = omega arith

-- u and v are states, and not s and t
abbrev Apart : ℕ → ℕ → ℕ → ℕ → ℕ → Type 0
Apart n s t u v = (u < n) × (v < n) × (u ≡ s → v ≡ t → ⊥) × (u ≡ t → v ≡ s → ⊥)

-- a strike of s and t leaves what reads nothing noted as it was
module _ (n : ℕ) (C : List ℕ) (long : 2 * n < length C) {s t : ℕ} (hs : s < n) (ht : t < n) where
  off_noted : (x q : ℕ) → Off (get_or (noted C s t) x 0) q → Off (get_or C x 0) q × (x ≡ 2 * s → q ≢ t % 64) × (x ≡ 2 * t → q ≢ s % 64)
  off_noted x q o =
      let z : length (marked C (2 * s) t) ≡ length C = length-set C (2 * s) (bit_or (get_or C (2 * s) 0) (mark t)) in
      let (a, b) = off_marked (marked C (2 * s) t) (2 * t) s x q (omega arith) o in
      let (c, d) = off_marked C (2 * s) t x q (omega arith) a in
      (c, d, b)

  other : (x : ℕ) → x ≢ 2 * s → x ≢ 2 * t → get_or (noted C s t) x 0 ≡ get_or C x 0
  other x d e = get_or-set_other (marked C (2 * s) t) (2 * t) x (bit_or (get_or (marked C (2 * s) t) (2 * t) 0) (mark s)) 0 e ∙ get_or-set_other C (2 * s) x (bit_or (get_or C (2 * s) 0) (mark t)) 0 d

  not_st : (u v : ℕ) → Off (get_or (noted C s t) (2 * u) 0) (v % 64) → u ≡ s → v ≡ t → ⊥
  not_st u v h a b = (off_noted (2 * u) (v % 64) h).1 (ap (λ (i : ℕ). 2 * i) a) (ap (λ (i : ℕ). i % 64) b)

  not_ts : (u v : ℕ) → Off (get_or (noted C s t) (2 * u) 0) (v % 64) → u ≡ t → v ≡ s → ⊥
  not_ts u v h a b = (off_noted (2 * u) (v % 64) h).2 (ap (λ (i : ℕ). 2 * i) a) (ap (λ (i : ℕ). i % 64) b)

  quiet_before : (a u v : ℕ) → QuietAt n (noted C s t) a u v → QuietAt n C a u v
  quiet_before a u v (x, y, w, l, f) =
      (x, y, subst (λ (z : ℕ). 0 < z) (other (2 * n) (omega arith) (omega arith)) w, (off_noted (2 * u) (v % 64) l).0, λ i j. (off_noted (2 * u + 1) (v % 64) (f i j)).0)

  quiet_apart : (a u v : ℕ) → QuietAt n (noted C s t) a u v → Apart n s t u v
  quiet_apart a u v (x, y, w, l, f) = (x, y, not_st u v l, not_ts u v l)

  still_before : (a u v : ℕ) → StillAt n (noted C s t) a u v → StillAt n C a u v
  still_before a u v (x, y, f) = (x, y, λ i j. (off_noted (2 * u) (v % 64) (f i j)).0)

  still_apart : (a u v : ℕ) → a ≤ s → s < t → StillAt n (noted C s t) a u v → Apart n s t u v
  still_apart a u v l m (x, y, f) = (x, y, λ i j. not_st u v (f (omega arith) (omega arith)) i j, λ i j. not_ts u v (f (omega arith) (omega arith)) i j)

module _ {n : ℕ} {S T : List ℕ} {P : List Float} (F : RowsFit n S T P) {s t : ℕ} (hs : s < n) (ht : t < n) (R : List Bool) where
  same : (u v : ℕ) → Apart n s t u v → (holds n (clear n R s t) u v ≡ holds n R u v) × (holds n (clear n R s t) v u ≡ holds n R v u)
  same u v (x, y, f, g) = (clear_other n R s t u v hs ht y f g, clear_other n R s t v u hs ht x (λ a b. g b a) (λ a b. f b a))

  kept : (E : List Float) (need : Float) (a b : ℕ) → a < b → b < n → Quiet S T (Apart n s t) a b → Passes n E S T P need R a b → Passes n E S T P need (clear n R s t) a b
  kept E need a b l h Q g z e =
      let (x, y) = g z (clear_within n R s t a b e) in
      let la = F.targets_long a (omega arith) in
      let lb = F.targets_long b h in (
        test_same n (clear n R s t) R S T P need a b la lb (λ i j u v w r. (same (get_or T i 0) (get_or T j 0) (Q.at i j u v w r)).0) ∙ x,
        test_same n (clear n R s t) R S T P need b a lb la (λ i j u v w r. (same (get_or T j 0) (get_or T i 0) (Q.at j i w r u v)).1) ∙ y,
      )

module _ {n : ℕ} {E : List Float} {S T : List ℕ} {P : List Float} {need : Float} (F : RowsFit n S T P) {store C : List ℕ} {s t : ℕ} where
  -- a pair that stands, has an exit and reads nothing noted passes, against whatever relation the bytes are
  pub still_passes : Noted n E S T P need store C s t → (a b : ℕ) → a < b → b < n → is_zero (get_or E a nan) ≡ false → bit_at store (a * n + b) ≡ true
      → Settled n S T P need store C a b
  still_passes N a b l h z k R e Q =
      let R' = N.relation in
      let same = bytes_same n R R' (sym e ∙ N.bytes) in
      let p = N.earlier a b l h Q z (sym (packed_holds n R' a b) ∙ ap (λ (x : List ℕ). bit_at x (a * n + b)) (sym N.bytes) ∙ k) in
      let la = F.targets_long a (omega arith) in
      let lb = F.targets_long b h in (
        test_same n R R' S T P need a b la lb (λ i k _ _ _ _. same (get_or T i 0) (get_or T k 0)) ∙ p.0,
        test_same n R R' S T P need b a lb la (λ i k _ _ _ _. same (get_or T i 0) (get_or T k 0)) ∙ p.1,
      )

  -- the pair whose turn it is passes, or is passed over
  pub noted_next : (N : Noted n E S T P need store C s t) → Passes n E S T P need N.relation s t → Noted n E S T P need store C s (t + 1)
  noted_next N p = record {
    relation = N.relation;
    bytes = N.bytes;
    long = N.long;
    earlier = N.earlier;
    swept = λ a b l h k f Q. pick a b l h k f Q (pair_cases a b s t);
  }
    where
      pick : (a b : ℕ) → a < b → b < n → a ≤ s → (a ≡ s → b < t + 1) → Quiet S T (StillAt n C a) a b → ((a ≡ s) × (b ≡ t)) ⊎ ((a ≡ s) → (b ≡ t) → ⊥) → Passes n E S T P need N.relation a b
      pick a b l h k f Q (inl (x, y)) = subst (λ (u : ℕ). Passes n E S T P need N.relation u b) (sym x) (subst (λ (v : ℕ). Passes n E S T P need N.relation s v) (sym y) p)
      pick a b l h k f Q (inr d) = N.swept a b l h k (λ x. not_last a b s t x (f x) d) Q

  -- it is struck, and the strike noted
  pub noted_strike : Noted n E S T P need store C s t → s < n → t < n → s < t → Noted n E S T P need (cleared (cleared store (s * n + t)) (t * n + s)) (noted C s t) s (t + 1)
  noted_strike N hs ht hst = record {
    relation = clear n N.relation s t;
    bytes = ap (λ (l : List ℕ). cleared (cleared l (s * n + t)) (t * n + s)) N.bytes ∙ packed_cleared n N.relation s t;
    long = (let z : length (noted C s t) ≡ length C = length-set (marked C (2 * s) t) (2 * t) (bit_or (get_or (marked C (2 * s) t) (2 * t) 0) (mark s)) ∙ length-set C (2 * s) (bit_or (get_or C (2 * s) 0) (mark t)) in let l = N.long in omega arith);
    earlier = λ a b l h Q. kept F hs ht N.relation E need a b l h (quiet_map (quiet_apart n C N.long hs ht a) Q) (N.earlier a b l h (quiet_map (quiet_before n C N.long hs ht a) Q));
    swept = λ a b l h k f Q. pick a b l h k f Q (pair_cases a b s t);
  }
    where
      pick : (a b : ℕ) → a < b → b < n → a ≤ s → (a ≡ s → b < t + 1) → Quiet S T (StillAt n (noted C s t) a) a b → ((a ≡ s) × (b ≡ t)) ⊎ ((a ≡ s) → (b ≡ t) → ⊥) → Passes n E S T P need (clear n N.relation s t) a b
      pick a b l h k f Q (inl (x, y)) = λ z e. absurd (true≢false (sym e ∙ ap (λ (u : ℕ). holds n (clear n N.relation s t) u b) x ∙ ap (λ (v : ℕ). holds n (clear n N.relation s t) s v) y ∙ clear_there n N.relation s t))
      pick a b l h k f Q (inr d) = kept F hs ht N.relation E need a b l h (quiet_map (λ u v. still_apart n C N.long hs ht a u v k hst) Q) (N.swept a b l h k (λ x. not_last a b s t x (f x) d) (quiet_map (still_before n C N.long hs ht a) Q))

  -- from the end of a row to the next
  pub noted_row : Noted n E S T P need store C s t → n ≤ t → Noted n E S T P need store C (s + 1) (s + 1 + 1)
  noted_row N e = record {
    relation = N.relation;
    bytes = N.bytes;
    long = N.long;
    earlier = N.earlier;
    swept = λ a b l h k f Q. N.swept a b l h (above a b l k f (eq_or_ne a (s + 1))) (λ x. omega arith) Q;
  }
    where
      above : (a b : ℕ) → a < b → a ≤ s + 1 → (a ≡ s + 1 → b < s + 1 + 1) → (a ≡ s + 1) ⊎ (a ≢ s + 1) → a ≤ s
      above a b l k f (inl x) = let g = f x in absurd (omega arith)
      above a b l k f (inr x) = omega arith

  -- from the end of a sweep to the next: its strikes are those of the sweep before
  pub noted_again : Noted n E S T P need store C s t → n ≤ s → (C' : List ℕ) → length C' ≡ length C → ((u : ℕ) → u < n → get_or C' (2 * u + 1) 0 ≡ get_or C (2 * u) 0) → Noted n E S T P need store C' 0 1
  noted_again N e C' z f = record {
    relation = N.relation;
    bytes = N.bytes;
    long = (let l = N.long in omega arith);
    earlier = λ a b l h Q. N.swept a b l h (omega arith) (λ x. absurd (omega arith))
        (quiet_map (λ u v g. (g.0, g.1, λ p q. subst (λ (y : ℕ). Off y (v % 64)) (f u g.0) (g.4 p q))) Q);
    swept = λ a b l h k g Q. let w : a ≡ 0 = omega arith in let r = g w in absurd (omega arith);
  }

-- before the first sweep nothing is passed over
pub noted_start : {n : ℕ} {E : List Float} {S T : List ℕ} {P : List Float} {need : Float} {store C : List ℕ}
    → (R : List Bool) → store ≡ packed R → 2 * n < length C → get_or C (2 * n) 0 ≡ 0 → Noted n E S T P need store C 0 1
noted_start {n} {E} {S} {T} {P} {need} {store} {C} R e l f = record {
  relation = R;
  bytes = e;
  long = l;
  earlier = λ a b x h Q.
      let (u, v, w, _, _) = Q.at (get_or S a 0) (get_or S b 0) (omega arith) Q.some (omega arith) Q.more in
      absurd (omega arith);
  swept = λ a b x h k g Q. let w : a ≡ 0 = omega arith in let r = g w in absurd (omega arith);
}
