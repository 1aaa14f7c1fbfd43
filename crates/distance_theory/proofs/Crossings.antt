-- Each entry of one row with each of another: how many there are, which stands where, and what holds of all. And the same of a list that is mapped.
use mathlib.Core.Path.{◌≡◌, refl, subst⁻¹, ap, ◌∙◌}
use mathlib.Core.Logic.{◌⊎◌, inl, inr}
use Prim.Native.Nat.{ℕ, zero, suc, ◌<◌, ◌+◌, ◌*◌}
use mathlib.Core.List.{List, [], ◌∷◌, ◌++◌, map}
use native.Mathlib.Omega.{arith}
use native.Mathlib.Nat.{le_of_suc-le-suc, not-suc-le-zero}
use lib.ListN.{length, get_or, length-append, length-map, get_or-append}
use lib.Seq.{get_or-append-add}
use Rattle.numbers.specs.Lists.{In}
use Rattle.numbers.proofs.Members.{in_left, in_right, in_append}
use Rattle.epsdelta_theory.specs.Jumps.{Jump}
use Rattle.distance_theory.specs.Pairs.{cross}

-- ---- a list that is mapped

module _ {A B : Type 0} (f : A → B) where
  pub map_at : (l : List A) (j : ℕ) (z : B) (d : A) → j < length l → get_or (map f l) j z ≡ f (get_or l j d)
  map_at [] j z d h = absurd (not-suc-le-zero h)
  map_at (x ∷ l) zero z d h = refl
  map_at (x ∷ l) (suc j) z d h = map_at l j z d (le_of_suc-le-suc h)

  pub map_in : (x : A) (l : List A) → In x l → In (f x) (map f l)
  map_in x (y ∷ l) (inl e) = inl (ap f e)
  map_in x (y ∷ l) (inr i) = inr (map_in x l i)
  map_in x [] x'' = elim x'' [ ]

  -- what holds of each holds of all
  pub map_all : (P : B → Type 0) (l : List A) → ((x : A) → In x l → P (f x)) → (y : B) → In y (map f l) → P y
  map_all P (x ∷ l) h y (inl q) = subst⁻¹ P q (h x (inl refl))
  map_all P (x ∷ l) h y (inr i) = map_all P l (λ w j. h w (inr j)) y i
  map_all P [] h y x'' = elim x'' [ ]

-- ---- rows

-- place j of row i is one of m × n
pub cell_in : (m n i j : ℕ) → i < m → j < n → i * n + j < m * n
cell_in zero n i j h k = absurd (not-suc-le-zero h)
cell_in (suc m) n zero j h k = omega arith
cell_in (suc m) n (suc i) j h k = let r = cell_in m n i j (le_of_suc-le-suc h) k in omega arith

module _ {A : Type 0} (f : Jump → Jump → A) where
  pub cross_length : (es fs : List Jump) → length (cross f es fs) ≡ length es * length fs
  unfolding cross
  cross_length [] fs = omega arith
  cross_length (e ∷ es) fs = let a = length-append (map (f e) fs) (cross f es fs) in let b = length-map fs (f e) in let c = cross_length es fs in omega arith

  -- entry i of one row with entry j of the other
  pub cross_at : (es fs : List Jump) (i j : ℕ) (z : A) (d : Jump) → i < length es → j < length fs → get_or (cross f es fs) (i * length fs + j) z ≡ f (get_or es i d) (get_or fs j d)
  unfolding cross
  cross_at [] fs i j z d h k = absurd (not-suc-le-zero h)
  cross_at (e ∷ es) fs zero j z d h k =
      let q : 0 * length fs + j ≡ j = omega arith in
      let l : length (map (f e) fs) ≡ length fs = length-map fs (f e) in
      ap (λ (n : ℕ). get_or (map (f e) fs ++ cross f es fs) n z) q ∙ get_or-append (map (f e) fs) (cross f es fs) z j (omega arith) ∙ map_at (f e) fs j z d k
  cross_at (e ∷ es) fs (suc i) j z d h k =
      let l : length (map (f e) fs) ≡ length fs = length-map fs (f e) in
      let q : suc i * length fs + j ≡ length (map (f e) fs) + (i * length fs + j) = omega arith in
      ap (λ (n : ℕ). get_or (map (f e) fs ++ cross f es fs) n z) q ∙ get_or-append-add (map (f e) fs) (cross f es fs) (i * length fs + j) z ∙ cross_at es fs i j z d (le_of_suc-le-suc h) k

  pub cross_in : (e y : Jump) (es fs : List Jump) → In e es → In y fs → In (f e y) (cross f es fs)
  unfolding cross
  cross_in e y (d ∷ es) fs (inl q) k = subst⁻¹ (λ (x : Jump). In (f x y) (map (f d) fs ++ cross f es fs)) q (in_left (f d y) (map (f d) fs) (cross f es fs) (map_in (f d) y fs k))
  cross_in e y (d ∷ es) fs (inr i) k = in_right (f e y) (map (f d) fs) (cross f es fs) (cross_in e y es fs i k)
  cross_in e y [] fs x'' k = elim x'' [ ]

  -- what holds of each holds of all
  pub cross_all : (P : A → Type 0) (es fs : List Jump) → ((e y : Jump) → In e es → In y fs → P (f e y)) → (x : A) → In x (cross f es fs) → P x
  unfolding cross
  cross_all P (e ∷ es) fs h x i = pick (cross_all P es fs (λ d y j k. h d y (inr j) k) x) (in_append x (map (f e) fs) (cross f es fs) i)
    where
      pick : (In x (cross f es fs) → P x) → In x (map (f e) fs) ⊎ In x (cross f es fs) → P x
      pick r (inl j) = map_all (f e) P fs (λ y k. h e y (inl refl) k) x j
      pick r (inr j) = r j
  cross_all P [] fs h x i = elim i [ ]
