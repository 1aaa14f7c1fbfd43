-- Links written one after the other: each stands at its two places of the three rows.
use mathlib.Core.Path.{◌≡◌, refl, sym, ap, ◌∙◌}
use Prim.Native.Nat.{ℕ, zero, suc, ◌+◌, ◌-◌, ◌*◌, ◌/◌, ◌%◌, ◌≤◌, ◌<◌}
use mathlib.Core.Bool.{false}
use mathlib.Core.List.{List, [], ◌∷◌, ◌++◌}
use native.Mathlib.Omega.{arith}
use native.Mathlib.Nat.{le_of_suc-le-suc, not-suc-le-zero, div-lt_iff_lt-mul, mod-lt}
use lib.ListN.{length, get_or, set, get_or-append}
use lib.Seq.{get_or-append-add, get_or-take, length-take-le}
use lib.Ieee.{Float, nan, inf, neg}
use Rattle.numbers.specs.Real.{nought}
use Rattle.numbers.specs.Lists
use Rattle.numbers.proofs.Over.{over, over_next, over_done, over_length}
use Rattle.transport_theory.specs.Links.{Link, supplies, demands, crossings, cells, links, heads, caps, prices}
use Rattle.transport_theory.proofs.LinkRows.{link_at, Space, Put, Writable, Wrote}
use Rattle.transport_theory.proofs.Networks.{columns_some, cells_few, supplies_length, demands_length, links_length, heads_length, caps_length, prices_length}

-- ---- which link is the k-th

supplies_at : (s i : ℕ) (a : List Float) (j : ℕ) → j < length a → link_at (supplies s i a) j ≡ record { from = s; to = i + j; cap = get_or a j nan; cost = nought }
unfolding supplies
supplies_at s i [] j h = absurd (not-suc-le-zero h)
supplies_at s i (x ∷ a) zero h = ap (λ (t : ℕ). record { from = s; to = t; cap = x; cost = nought }) (let q : i ≡ i + 0 = omega arith in q)
supplies_at s i (x ∷ a) (suc j) h =
    supplies_at s (suc i) a j (le_of_suc-le-suc h) ∙ ap (λ (t : ℕ). record { from = s; to = t; cap = get_or a j nan; cost = nought }) (let q : suc i + j ≡ i + suc j = omega arith in q)

demands_at : (s i : ℕ) (b : List Float) (j : ℕ) → j < length b → link_at (demands s i b) j ≡ record { from = i + j; to = s; cap = get_or b j nan; cost = nought }
unfolding demands
demands_at s i [] j h = absurd (not-suc-le-zero h)
demands_at s i (x ∷ b) zero h = ap (λ (t : ℕ). record { from = t; to = s; cap = x; cost = nought }) (let q : i ≡ i + 0 = omega arith in q)
demands_at s i (x ∷ b) (suc j) h =
    demands_at s (suc i) b j (le_of_suc-le-suc h) ∙ ap (λ (t : ℕ). record { from = t; to = s; cap = get_or b j nan; cost = nought }) (let q : suc i + j ≡ i + suc j = omega arith in q)

crossings_at : (m n k : ℕ) (ps : List Float) (j : ℕ) → j < length ps → link_at (crossings m n k ps) j ≡ record { from = (k + j) / n; to = m + (k + j) % n; cap = inf false; cost = get_or ps j nan }
unfolding crossings
crossings_at m n k [] j h = absurd (not-suc-le-zero h)
crossings_at m n k (p ∷ ps) zero h = ap (λ (t : ℕ). record { from = t / n; to = m + t % n; cap = inf false; cost = p }) (let q : k ≡ k + 0 = omega arith in q)
crossings_at m n k (p ∷ ps) (suc j) h =
    crossings_at m n (suc k) ps j (le_of_suc-le-suc h) ∙ ap (λ (t : ℕ). record { from = t / n; to = m + t % n; cap = inf false; cost = get_or ps j nan }) (let q : suc k + j ≡ k + suc j = omega arith in q)

module _ (a b costs : List Float) where
  abbrev m : ℕ
  m = length a

  abbrev n : ℕ
  n = length b

  abbrev xs : List Link
  xs = supplies (m + n) 0 a

  abbrev ys : List Link
  ys = demands (suc (m + n)) m b

  abbrev zs : List Link
  zs = crossings m n 0 (cells m n costs)

  pub links_supply : (k : ℕ) → k < m → link_at (links a b costs) k ≡ record { from = m + n; to = k; cap = get_or a k nan; cost = nought }
  unfolding links
  links_supply k h = get_or-append xs (ys ++ zs) (record { from = 0; to = 0; cap = nan; cost = nan }) k (rw (supplies_length (m + n) 0 a) h) ∙ supplies_at (m + n) 0 a k h ∙ ap (λ (t : ℕ). record { from = m + n; to = t; cap = get_or a k nan; cost = nought }) (let q : 0 + k ≡ k = omega arith in q)

  later : (k : ℕ) → m ≤ k → link_at (links a b costs) k ≡ link_at (ys ++ zs) (k - m)
  unfolding links
  later k h =
      let l = supplies_length (m + n) 0 a in
      ap (link_at (xs ++ (ys ++ zs))) (let q : k ≡ length xs + (k - m) = omega arith in q) ∙ get_or-append-add xs (ys ++ zs) (k - m) (record { from = 0; to = 0; cap = nan; cost = nan })

  pub links_demand : (k : ℕ) → m ≤ k → k < m + n → link_at (links a b costs) k ≡ record { from = k; to = m + n + 1; cap = get_or b (k - m) nan; cost = nought }
  links_demand k h g =
      let l = demands_length (suc (m + n)) m b in
      later k h ∙ get_or-append ys zs (record { from = 0; to = 0; cap = nan; cost = nan }) (k - m) (omega arith) ∙ demands_at (suc (m + n)) m b (k - m) (omega arith)
      ∙ rw (let q : m + (k - m) ≡ k = omega arith in q, let q : suc (m + n) ≡ m + n + 1 = omega arith in q)

  pub links_crossing : (k : ℕ) → m + n ≤ k → k < m + n + m * n → m * n ≤ length costs
      → link_at (links a b costs) k ≡ record { from = (k - (m + n)) / n; to = m + (k - (m + n)) % n; cap = inf false; cost = get_or costs (k - (m + n)) nan }
  links_crossing k h g e =
      let l = demands_length (suc (m + n)) m b in
      let j = k - (m + n) in
      later k (omega arith) ∙ ap (link_at (ys ++ zs)) (let q : k - m ≡ length ys + (k - (m + n)) = omega arith in q) ∙ get_or-append-add ys zs (k - (m + n)) (record { from = 0; to = 0; cap = nan; cost = nan })
      ∙ crossings_at m n 0 (cells m n costs) (k - (m + n)) (let t = length-take-le (m * n) costs e in omega arith)
      ∙ rw (let q : 0 + (k - (m + n)) ≡ k - (m + n) = omega arith in q, get_or-take (m * n) costs (k - (m + n)) nan (omega arith))

-- ---- the places of the k-th link in the rows

two : (k : ℕ) → suc k + suc k ≡ suc (suc (k + k))
two k = omega arith

heads_at : (ls : List Link) (k : ℕ) → k < length ls → (get_or (heads ls) (k + k) 0 ≡ (link_at ls k).to) × (get_or (heads ls) (k + k + 1) 0 ≡ (link_at ls k).from)
unfolding heads
heads_at [] k h = absurd (not-suc-le-zero h)
heads_at (l ∷ ls) zero h = (refl, refl)
heads_at (l ∷ ls) (suc k) h = let r = heads_at ls k (le_of_suc-le-suc h) in
    (ap (λ (i : ℕ). get_or (heads (l ∷ ls)) i 0) (two k) ∙ r.0, ap (λ (i : ℕ). get_or (heads (l ∷ ls)) i 0) (let q : suc k + suc k + 1 ≡ suc (suc (k + k + 1)) = omega arith in q) ∙ r.1)

caps_at : (ls : List Link) (k : ℕ) → k < length ls → (get_or (caps ls) (k + k) nan ≡ (link_at ls k).cap) × (get_or (caps ls) (k + k + 1) nan ≡ nought)
unfolding caps
caps_at [] k h = absurd (not-suc-le-zero h)
caps_at (l ∷ ls) zero h = (refl, refl)
caps_at (l ∷ ls) (suc k) h = let r = caps_at ls k (le_of_suc-le-suc h) in
    (ap (λ (i : ℕ). get_or (caps (l ∷ ls)) i nan) (two k) ∙ r.0, ap (λ (i : ℕ). get_or (caps (l ∷ ls)) i nan) (let q : suc k + suc k + 1 ≡ suc (suc (k + k + 1)) = omega arith in q) ∙ r.1)

prices_at : (ls : List Link) (k : ℕ) → k < length ls → (get_or (prices ls) (k + k) nan ≡ (link_at ls k).cost) × (get_or (prices ls) (k + k + 1) nan ≡ neg (link_at ls k).cost)
unfolding prices
prices_at [] k h = absurd (not-suc-le-zero h)
prices_at (l ∷ ls) zero h = (refl, refl)
prices_at (l ∷ ls) (suc k) h = let r = prices_at ls k (le_of_suc-le-suc h) in
    (ap (λ (i : ℕ). get_or (prices (l ∷ ls)) i nan) (two k) ∙ r.0, ap (λ (i : ℕ). get_or (prices (l ∷ ls)) i nan) (let q : suc k + suc k + 1 ≡ suc (suc (k + k + 1)) = omega arith in q) ∙ r.1)

-- two entries more
pair_next : {A : Type 0} (l d out : List A) (k : ℕ) (z x y : A) → out ≡ over l (k + k) d → get_or l (k + k) z ≡ x → get_or l (k + k + 1) z ≡ y
    → k + k + 2 ≤ length l → k + k + 2 ≤ length d → set (set out (k + k) x) (k + k + 1) y ≡ over l (k + 1 + (k + 1)) d
pair_next l d out k z x y e p q h g =
    over_next l d (set out (k + k) x) (k + k + 1) z y (over_next l d out (k + k) z x e (sym p) (omega arith) (omega arith)) (sym q) (omega arith) (omega arith)
    ∙ ap (λ (i : ℕ). over l i d) (let s : k + k + 1 + 1 ≡ k + 1 + (k + 1) = omega arith in s)

-- ---- the loop

module _ {a b costs : List Float} {h₀ : List ℕ} {c₀ p₀ : List Float} (S : Writable a b costs h₀ c₀ p₀) where
  abbrev ls : List Link
  ls = links a b costs

  pub count_is : length ls ≡ length a + length b + length a * length b
  count_is = let l = links_length a b costs S.enough in omega arith

  pub count_few : length ls ≤ 1088
  count_few = let l = count_is in let f = S.few_a in let g = S.few_b in let m = cells_few (length a) (length b) f g in omega arith

  module _ {k : ℕ} {h : List ℕ} {c p : List Float} (W : Wrote ls h₀ c₀ p₀ k h c p) where
    pub heads_size : length h ≡ length h₀
    heads_size = ap length W.heads_is ∙ over_length (heads ls) h₀ (k + k) (let l = heads_length ls in let u = W.upto in omega arith) (let r = S.heads_room in let u = W.upto in omega arith)

    pub caps_size : length c ≡ length c₀
    caps_size = ap length W.caps_is ∙ over_length (caps ls) c₀ (k + k) (let l = caps_length ls in let u = W.upto in omega arith) (let r = S.caps_room in let u = W.upto in omega arith)

    pub prices_size : length p ≡ length p₀
    prices_size = ap length W.prices_is ∙ over_length (prices ls) p₀ (k + k) (let l = prices_length ls in let u = W.upto in omega arith) (let r = S.prices_room in let u = W.upto in omega arith)

    module _ (more : k < length ls) where
      pub writable_on : Writable a b costs h c p
      writable_on = record { few_a = S.few_a; few_b = S.few_b; enough = S.enough; heads_room = rw heads_size S.heads_room; caps_room = rw caps_size S.caps_room; prices_room = rw prices_size S.prices_room }

      pub wrote_next : {h' : List ℕ} {c' p' : List Float} → Put (link_at ls k) h c p (k + k) h' c' p' → Wrote ls h₀ c₀ p₀ (k + 1) h' c' p'
      wrote_next P =
          let lh = heads_length ls in let lc = caps_length ls in let lp = prices_length ls in
          let rh = S.heads_room in let rc = S.caps_room in let rp = S.prices_room in
          let H = heads_at ls k more in let C = caps_at ls k more in let Q = prices_at ls k more in
          record {
            upto = omega arith;
            heads_is = P.heads_is ∙ pair_next (heads ls) h₀ h k 0 _ _ W.heads_is H.0 H.1 (omega arith) (omega arith);
            caps_is = P.caps_is ∙ pair_next (caps ls) c₀ c k nan _ _ W.caps_is C.0 C.1 (omega arith) (omega arith);
            prices_is = P.prices_is ∙ pair_next (prices ls) p₀ p k nan _ _ W.prices_is Q.0 Q.1 (omega arith) (omega arith);
          }

    -- all links stand in the rows
    pub wrote_all : length ls ≤ k → (h ≡ Lists.over (heads ls) h₀) × (c ≡ Lists.over (caps ls) c₀) × (p ≡ Lists.over (prices ls) p₀)
    wrote_all le =
        let u = W.upto in (
          over_done (heads ls) h₀ h (k + k) W.heads_is (let l = heads_length ls in omega arith),
          over_done (caps ls) c₀ c (k + k) W.caps_is (let l = caps_length ls in omega arith),
          over_done (prices ls) p₀ p (k + k) W.prices_is (let l = prices_length ls in omega arith),
        )

-- ---- one link

module _ {a b costs : List Float} {h : List ℕ} {c p : List Float} (S : Writable a b costs h c p) (k : ℕ) (more : k < length (links a b costs)) where
  pub space : Space h c p (k + k)
  space =
      let n = count_few S in let rh = S.heads_room in let rc = S.caps_room in let rp = S.prices_room in
      record { heads_room = omega arith; caps_room = omega arith; prices_room = omega arith; small = omega arith }

-- a link between two masses is that of a cell
module _ (a b costs : List Float) (enough : length a * length b ≤ length costs) (k : ℕ) (more : k < length (links a b costs)) (h : length a + length b ≤ k) where
  pub cell_few : k - (length a + length b) < length a * length b
  cell_few = let l = links_length a b costs enough in omega arith

  pub cell_some : (0 < length b) × (k - (length a + length b) < length costs)
      × ((k - (length a + length b)) / length b < length a) × ((k - (length a + length b)) % length b < length b)
  cell_some =
      let f = cell_few in
      let z = columns_some (length a) (length b) (k - (length a + length b)) f in
      (z, omega arith, (div-lt_iff_lt-mul z).1 f, mod-lt (k - (length a + length b)) z)

  pub cell_link : {y : Float} → y ≡ inf false → record { from = (k - (length a + length b)) / length b; to = length a + (k - (length a + length b)) % length b; cap = y; cost = get_or costs (k - (length a + length b)) nan } ≡ link_at (links a b costs) k
  cell_link z = let f = cell_few in rw (links_crossing a b costs k h (omega arith) enough, z) refl
