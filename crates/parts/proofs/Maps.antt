-- A list whose entries are mapped in their places, one after the other.
use mathlib.Core.Path.{◌≡◌, sym, ap, ◌∙◌}
use Prim.Native.Nat.{ℕ, ◌+◌, ◌≤◌, ◌<◌}
use mathlib.Core.List.{List, ◌++◌, map}
use native.Mathlib.Omega.{arith}
use lib.ListN.{length, get_or, take, drop, set, length-map, get_or-map}
use lib.Seq.{get_or-drop, length-take-le, get_or-append-add}
use Rattle.numbers.specs.Lists as lists
use Rattle.numbers.proofs.Over.{over, over_next}

-- a turn that maps the next entry in its place
pub map_next : {A : Type 0} (f : A → A) (d out : List A) (i : ℕ) (z : A) → i < length d → out ≡ over (map f d) i d → set out i (f (get_or out i z)) ≡ over (map f d) (i + 1) d
map_next {A} f d out i z h e =
    over_next (map f d) d out i (f z) (f (get_or out i z)) e
    (ap f (ap (λ (o : List A). get_or o i z) e ∙ at) ∙ sym (get_or-map f d i z))
    (let n = length-map d f in omega arith) h
  where
    at : get_or (over (map f d) i d) i z ≡ get_or d i z
    at =
        let q = take i (map f d) in
        let n : length q ≡ i = length-take-le i (map f d) (let l = length-map d f in omega arith) in
        let k : length q + 0 ≡ i = omega arith in
        let y : i + 0 ≡ i = omega arith in
        ap (λ (j : ℕ). get_or (q ++ drop i d) j z) (sym k) ∙ get_or-append-add q (drop i d) 0 z ∙ get_or-drop i d 0 z ∙ ap (λ (j : ℕ). get_or d j z) y

-- the first n entries lent, mapped and put back
pub map_front : {A : Type 0} (f : A → A) (n : ℕ) (d y : List A) → n ≤ length d → y ≡ map f (take n d) → y ++ drop n d ≡ lists.over (map f (take n d)) d
map_front {A} f n d y h e =
    let z : n ≡ length (map f (take n d)) = sym (length-take-le n d h) ∙ sym (length-map (take n d) f) in
    ap (λ (l : List A). l ++ drop n d) e ∙ ap (λ (j : ℕ). map f (take n d) ++ drop j d) z
