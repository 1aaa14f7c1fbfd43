-- Two rows that fit a flow test: what the checks say, that their links have room, and what stands in both rows once they are written.
use mathlib.Core.Path.{◌≡◌, sym, ap, ◌∙◌}
use Prim.Native.Nat.{ℕ, ◌+◌, ◌-◌, ◌*◌, ◌≤◌}
use mathlib.Core.Bool.{Bool, true, ◌&&◌, cond}
use mathlib.Core.List.{List, ◌++◌}
use native.Mathlib.Omega.{arith}
use native.Mathlib.Nat.{mul-le-mul, mul_comm}
use lib.Dec.{eqb, leb, leb→le}
use lib.ListN.{length, take, drop, length-append, length-drop, take-append-drop}
use lib.Seq.{take-append_seam}
use lib.Ieee.{Float}
use borrow.Author.Tests.{eqb-true, le-leb}
use Rattle.std.specs.Prelude.{Option, Some, is_some}
use Rattle.numbers.specs.Lists.{all, over}
use Rattle.numbers.proofs.Bools.{t_of, and_t}
use Rattle.epsdelta_theory.specs.Jumps.{jumps_of}
use Rattle.epsdelta_theory.specs.Relation.{relation_of}
use Rattle.epsdelta_theory.specs.FlowTest.{Link, links_of, heads, caps}
use Rattle.epsdelta_theory.proofs.FlowTests.{heads_length, caps_length}
use Rattle.epsdelta_theory.proofs.LinkRows.{Added, Free, has_room, row_links}
use Rattle.flow_links.specs.declared.rows.Test.{Test}
use Rattle.flow_links.specs.Fits.{rate_fits, row_fits, fits}
use Rattle.flow_links.specs.Lent.{places_if}
use Rattle.flow_links.proofs.LinkWrites.{links_are, links_most}

-- ---- what the checks say

pub record RowFit (ts : List ℕ) (ws : List Float) : Type 0 where
  pub few : length ts ≤ 31
  pub rates : length ws ≡ length ts
  pub range : all rate_fits ws ≡ true

row_fit : (ts : List ℕ) (ws : List Float) → row_fits ts ws ≡ true → RowFit ts ws
row_fit ts ws f =
    let (a, r) = and_t (leb (length ts) 31) (eqb (length ws) (length ts) && all rate_fits ws) f in
    let (b, d) = and_t (eqb (length ws) (length ts)) (all rate_fits ws) r in
    record { few = leb→le (length ts) 31 (t_of a); rates = eqb-true (length ws) (length ts) b; range = d }

pub record Fit (us : List ℕ) (vs : List Float) (ts : List ℕ) (ws : List Float) (n : ℕ) : Type 0 where
  pub states : n ≤ 2000
  pub left : RowFit us vs
  pub right : RowFit ts ws

pub fit : (us : List ℕ) (vs : List Float) (ts : List ℕ) (ws : List Float) (n : ℕ) → fits us vs ts ws n ≡ true → Fit us vs ts ws n
fit us vs ts ws n f =
    let (a, r) = and_t (leb n 2000) (row_fits us vs && row_fits ts ws) f in
    let (b, d) = and_t (row_fits us vs) (row_fits ts ws) r in
    record { states = leb→le n 2000 (t_of a); left = row_fit us vs b; right = row_fit ts ws d }

-- how the checks end
module _ (us : List ℕ) (vs : List Float) (ts : List ℕ) (ws : List Float) (n : ℕ) where
  pub all_fit : n ≤ 2000 → row_fits us vs ≡ true → {b : Bool} → row_fits ts ws ≡ b → fits us vs ts ws n ≡ b
  all_fit states a d = ap (λ (b : Bool). b && (row_fits us vs && row_fits ts ws)) (le-leb n 2000 states) ∙ ap (λ (b : Bool). b && row_fits ts ws) a ∙ d

-- of a test that is lent
abbrev pub TestFit : Test → Type 0
TestFit T = Fit T.left.targets.now T.left.rates.now T.right.targets.now T.right.rates.now T.states

-- ---- room

-- at most 1,023 links
pub few_links : (a b : ℕ) → a ≤ 31 → b ≤ 31 → 2 * (a + b + a * b) ≤ 2046
few_links a b h k = let m = mul-le-mul h k in omega arith

module _ {us : List ℕ} {vs : List Float} {ts : List ℕ} {ws : List Float} {n : ℕ} (F : Fit us vs ts ws n) where
  most : (store : List ℕ) → length (row_links store n us vs ts ws) ≤ length us + length ts + length us * length ts
  most store =
      let l = links_most store n (length ts) us vs ts ws (omega arith) in
      let p = F.left.rates in
      let q = F.right.rates in
      let m = mul_comm (length us) (length ts) in
      omega arith

  pub room : (store h : List ℕ) (c : List Float) → has_room (length us) (length ts) (length h) ≡ true → has_room (length us) (length ts) (length c) ≡ true → Free h c 0 (length (row_links store n us vs ts ws))
  room store h c x y =
      let k = 2 * (length us + length ts + length us * length ts) in
      let a = leb→le k (length h) (t_of x) in
      let b = leb→le k (length c) (t_of y) in
      let l = most store in
      let s = few_links (length us) (length ts) F.left.few F.right.few in
      record { heads_room = omega arith; caps_room = omega arith; small = omega arith }

-- ---- what is written

-- is there room in both rows
abbrev rooms : List ℕ → List ℕ → List ℕ → List Float → Bool
rooms us ts h c = has_room (length us) (length ts) (length h) && has_room (length us) (length ts) (length c)

-- what `write_links` says: how many places the links take, if they were written, and both rows then
abbrev pub Written : List ℕ → List Float → List ℕ → List Float → ℕ → List Bool → List ℕ → List Float → Option ℕ → List ℕ → List Float → Type 0
Written us vs ts ws n R h c o h' c' =
    let ls = links_of n R (jumps_of us vs) (jumps_of ts ws) in
    (o ≡ places_if (fits us vs ts ws n && rooms us ts h c) (heads ls)) × (h' ≡ cond (is_some o) (over (heads ls) h) h) × (c' ≡ cond (is_some o) (over (caps ls) c) c)

laid_over : {A : Type 0} (new old l : List A) (k : ℕ) → k ≡ length new → take k l ≡ new → drop k l ≡ drop k old → l ≡ over new old
laid_over {A} new old l k z a b = sym (take-append-drop k l) ∙ ap (λ (x : List A). x ++ drop k l) a ∙ ap (λ (x : List A). new ++ x) (b ∙ ap (λ (i : ℕ). drop i old) z)

-- rows that fit have their links written where there is room
pub done_is : (us : List ℕ) (vs : List Float) (ts : List ℕ) (ws : List Float) (n : ℕ) → fits us vs ts ws n ≡ true → (store h : List ℕ) (c : List Float) → has_room (length us) (length ts) (length h) ≡ true → has_room (length us) (length ts) (length c) ≡ true
    → {k : ℕ} {h' : List ℕ} {c' : List Float} → Added (row_links store n us vs ts ws) h c 0 h' c' k → Written us vs ts ws n (relation_of store) h c (Some k) h' c'
done_is us vs ts ws n f store h c x y {k} {h'} {c'} A =
    let e : rooms us ts h c ≡ true = ap (λ (b : Bool). b && has_room (length us) (length ts) (length c)) x ∙ y in
    let F = fit us vs ts ws n f in
    let ls = links_of n (relation_of store) (jumps_of us vs) (jumps_of ts ws) in
    let z : row_links store n us vs ts ws ≡ ls = links_are n store us vs ts ws F.left.rates F.right.rates in
    let p : k ≡ length (heads ls) = A.count ∙ ap (λ (l : List Link). 0 + (length l + length l)) z ∙ let q = heads_length ls in omega arith in (
      ap (λ (x : ℕ). Some x) p ∙ ap (λ (b : Bool). places_if b (heads ls)) (sym (ap (λ (b : Bool). b && rooms us ts h c) f ∙ e)),
      laid_over (heads ls) h h' k p (A.heads_is ∙ ap heads z) A.heads_rest,
      laid_over (caps ls) c c' k (p ∙ sym (caps_length ls)) (A.caps_is ∙ ap caps z) A.caps_rest,
    )

-- ---- what the rows are for whoever asked

-- the links were written: the rows fit, and the links stand in front
pub record Laid (us : List ℕ) (vs : List Float) (ts : List ℕ) (ws : List Float) (n : ℕ) (R : List Bool) (h : List ℕ) (k : ℕ) (h' : List ℕ) (c' : List Float) : Type 0 where
  pub fitting : fits us vs ts ws n ≡ true
  pub heads_is : take k h' ≡ heads (links_of n R (jumps_of us vs) (jumps_of ts ws))
  pub caps_is : take k c' ≡ caps (links_of n R (jumps_of us vs) (jumps_of ts ws))
  pub heads_in : k ≤ length h'
  pub caps_in : k ≤ length c'
  pub heads_size : length h' ≡ length h

module _ (us : List ℕ) (vs : List Float) (ts : List ℕ) (ws : List Float) (n : ℕ) (store h : List ℕ) (c : List Float) where
  abbrev links : List Link
  links = links_of n (relation_of store) (jumps_of us vs) (jumps_of ts ws)

  pub laid : {o : Option ℕ} {h' : List ℕ} {c' : List Float} → Written us vs ts ws n (relation_of store) h c o h' c' → fits us vs ts ws n ≡ true → rooms us ts h c ≡ true → (o ≡ Some (length (heads links))) × Laid us vs ts ws n (relation_of store) h (length (heads links)) h' c'
  laid {o} {h'} {c'} w f r =
      let F = fit us vs ts ws n f in
      let (x, y) = and_t (has_room (length us) (length ts) (length h)) (has_room (length us) (length ts) (length c)) r in
      let free = (room F store h c x y).heads_room in
      let more = (room F store h c x y).caps_room in
      let m = ap length (links_are n store us vs ts ws F.left.rates F.right.rates) in
      let l = heads_length links in
      let q = caps_length links in
      let d : o ≡ Some (length (heads links)) = w.0 ∙ ap (λ (b : Bool). places_if (b && rooms us ts h c) (heads links)) f ∙ ap (λ (b : Bool). places_if b (heads links)) r in
      let hs : h' ≡ over (heads links) h = w.1 ∙ ap (λ (x : Option ℕ). cond (is_some x) (over (heads links) h) h) d in
      let cs : c' ≡ over (caps links) c = w.2 ∙ ap (λ (x : Option ℕ). cond (is_some x) (over (caps links) c) c) d in
      let i : length h' ≡ length (heads links) + (length h - length (heads links)) = ap length hs ∙ length-append (heads links) (drop (length (heads links)) h) ∙ ap (λ (x : ℕ). length (heads links) + x) (length-drop (length (heads links)) h) in
      let j = ap length cs ∙ length-append (caps links) (drop (length (caps links)) c) in (
        d,
        record {
          fitting = f;
          heads_is = ap (take (length (heads links))) hs ∙ take-append_seam (heads links) (drop (length (heads links)) h);
          caps_is = ap (λ (x : ℕ). take x c') (sym q) ∙ ap (take (length (caps links))) cs ∙ take-append_seam (caps links) (drop (length (caps links)) c);
          heads_in = omega arith;
          caps_in = omega arith;
          heads_size = omega arith;
        },
      )
