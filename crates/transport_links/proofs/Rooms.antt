-- What the checks of room decide, and what is written.
use mathlib.Core.Path.{◌≡◌, sym, ap, ◌∙◌}
use Prim.Native.Nat.{ℕ, ◌+◌, ◌*◌, ◌≤◌}
use mathlib.Core.Bool.{Bool, true, ◌&&◌}
use mathlib.Core.List.{List}
use native.Mathlib.Omega.{arith}
use lib.Dec.{leb}
use lib.ListN.{length}
use lib.Ieee.{Float}
use borrow.Author.Tests.{leb-true}
use Rattle.std.specs.Prelude.{Some}
use Rattle.numbers.specs.Lists.{over}
use Rattle.numbers.proofs.Bools.{and_t}
use Rattle.transport_theory.specs.Lent.{places_of}
use Rattle.transport_theory.specs.Links.{links, heads, caps, prices}
use Rattle.transport_theory.proofs.LinkRows.{Writable}
use Rattle.transport_theory.proofs.Networks.{links_length, heads_length}
use Rattle.transport_theory.proofs.Places.{few_both, places_some}
use Rattle.transport_theory.proofs.Writing.{room_for, has_room, wrote, write_if, write}

module _ (a b costs : List Float) (h : List ℕ) (c p : List Float) where
  abbrev m : ℕ
  m = length a

  abbrev n : ℕ
  n = length b

  abbrev roomed : ℕ → Bool
  roomed most = room_for most m n (length costs) (length h) (length c) (length p)

  module _ {most : ℕ} (e : Some most ≡ places_of m n) where
    room_is : roomed most ≡ has_room m n (length costs) (length h) (length c) (length p)
    room_is =
        let (f, x) = places_some m n e in
        ap roomed x ∙ ap (λ (t : Bool). t && roomed (2 * (m + n + m * n))) (sym f)

    module _ (r : roomed most ≡ true) where
      pub writable : Writable a b costs h c p
      writable =
          let (f, x) = places_some m n e in
          let (u, v) = few_both m n f in
          let (x₃, r₃) = and_t (leb (m * n) (length costs)) _ r in
          let (x₄, r₄) = and_t (leb most (length h)) _ r₃ in
          let (x₅, x₆) = and_t (leb most (length c)) _ r₄ in
          let e : m * n ≤ length costs = leb-true (m * n) (length costs) x₃ in
          let l : length (links a b costs) ≡ m + (n + m * n) = links_length a b costs e in
          let y₄ : most ≤ length h = leb-true most (length h) x₄ in
          let y₅ : most ≤ length c = leb-true most (length c) x₅ in
          let y₆ : most ≤ length p = leb-true most (length p) x₆ in
          record { few_a = u; few_b = v; enough = e; heads_room = omega arith; caps_room = omega arith; prices_room = omega arith }

      pub written_all : {h' : List ℕ} {c' p' : List Float} → h' ≡ over (heads (links a b costs)) h → c' ≡ over (caps (links a b costs)) c → p' ≡ over (prices (links a b costs)) p → wrote (Some most) h' c' p' ≡ write a b costs h c p
      written_all H C P =
          let l = links_length a b costs writable.enough in
          let k = heads_length (links a b costs) in
          let x = (places_some m n e).1 in
          let s : most ≡ length (heads (links a b costs)) = omega arith in
          rw (H, C, P, s) (ap (λ (t : Bool). write_if t (links a b costs) h c p) (sym r ∙ room_is))
