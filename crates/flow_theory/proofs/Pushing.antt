-- One turn of the loops along a path: the least capacity, and the push.
use mathlib.Core.Path.{◌≡◌, sym, ap, ◌∙◌}
use Prim.Native.Nat.{ℕ, ◌+◌, ◌≤◌, ◌<◌}
use mathlib.Core.List.{List}
use native.Mathlib.Omega.{arith}
use native.Mathlib.Numerals.{add-one}
use lib.ListN.{length, get_or, set, drop, length-set, drop_of_length-le}
use lib.Seq.{drop-cons}
use Rattle.std.proofs.lemmas.List.{get_or_past}
use lib.Ieee.{Float, binary64, nan, lt, add, sub}
use Rattle.numbers.specs.Choice.{smaller}
use Rattle.flow_theory.specs.Network.{rev, left}
use Rattle.flow_theory.specs.Augment.{least, push_link, push_path}

-- what is still to come of the path leads from x to the least
pub record Least (x₀ : Float) (c : List Float) (p : List ℕ) (i : ℕ) (x : Float) : Type 0 where
  pub ends : i ≤ length p
  pub same : least c x (drop i p) ≡ least c x₀ p

module _ {x₀ : Float} {c : List Float} {p : List ℕ} where
  module _ {i : ℕ} {x : Float} (I : Least x₀ c p i x) (more : i < length p) where
    pub lower : (y : Float) → y ≡ smaller x (get_or c (get_or p i 0) nan) → Least x₀ c p (i + 1) y
    unfolding least left
    lower y q = record { ends = omega arith; same = rw (add-one i, q) (ap (least c x) (sym (drop-cons p i 0 more)) ∙ I.same) }

  pub least_ends : {i : ℕ} {x : Float} → Least x₀ c p i x → length p ≤ i → x ≡ least c x₀ p
  unfolding least
  least_ends {i} {x} I le =
      let e = I.ends in
      ap (least c x) (sym (drop_of_length-le p (omega arith))) ∙ I.same

-- a link without a capacity is never less
pub none_smaller : (c : List Float) (e : ℕ) (x : Float) → length c ≤ e → x ≡ smaller x (get_or c e nan)
unfolding smaller lt
none_smaller c e x h = sym (ap (smaller x) (get_or_past c e nan h))

-- what is still to come of the path leads from these capacities to the last ones
pub record PushesOn (x : Float) (c₀ : List Float) (p : List ℕ) (i : ℕ) (c : List Float) : Type 0 where
  pub ends : i ≤ length p
  pub size : length c ≡ length c₀
  pub same : push_path x (drop i p) c ≡ push_path x p c₀

module _ {c₀ : List Float} {p : List ℕ} {x : Float} where
  module _ {i : ℕ} {c : List Float} (I : PushesOn x c₀ p i c) (more : i < length p) where
    abbrev e : ℕ
    e = get_or p i 0

    abbrev once : List Float
    once = set c e (sub binary64 (get_or c e nan) x)

    -- what the link and its reverse have then
    pub pushed_on : (back : ℕ) (d b : List Float) → back ≡ rev e → d ≡ once → b ≡ set d back (add binary64 (get_or d back nan) x) → PushesOn x c₀ p (i + 1) b
    unfolding push_path push_link left
    pushed_on back d b z q r = record {
      ends = omega arith;
      size = rw (r, q) ((simp length-set) ∙ I.size);
      same = rw (r, q, add-one i, z) (ap (λ (es : List ℕ). push_path x es c) (sym (drop-cons p i 0 more)) ∙ I.same);
    }

  pub push_ends : {i : ℕ} {c : List Float} → PushesOn x c₀ p i c → length p ≤ i → c ≡ push_path x p c₀
  unfolding push_path
  push_ends {i} {c} I le =
      let e = I.ends in
      ap (λ (es : List ℕ). push_path x es c) (sym (drop_of_length-le p (omega arith))) ∙ I.same
