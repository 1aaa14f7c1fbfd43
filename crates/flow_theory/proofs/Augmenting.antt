-- What `walk` leaves to the push: the links of the path are there, and path and push together are the definition's `augment`.
use mathlib.Core.Path.{◌≡◌, sym, ap, subst, ◌∙◌}
use Prim.Native.Nat.{ℕ, ◌<◌}
use mathlib.Core.Bool.{true, false}
use mathlib.Core.Logic.{inl, inr}
use mathlib.Core.List.{List, [], ◌∷◌, reverse, reverse-reverse}
use lib.ListN.{length, take}
use Rattle.std.specs.Prelude.{Some}
use lib.Ieee.{Float, of_bits, binary64, inf}
use Rattle.flow_theory.specs.Network.{Net, tail, residual}
use Rattle.flow_theory.specs.Augment.{reached, blocked, Pushed, push, least, push_path, augment, walk_fuel}
use Rattle.numbers.specs.Lists.{In}
use Rattle.flow_theory.proofs.Links.{residual_in}
use Rattle.flow_theory.proofs.Paths.{Path, Ended, walk_ok}
use Rattle.flow_theory.proofs.PathRows.{Walkable, Routed}
use Rattle.flow_theory.proofs.Walking.{ending, walk_starts}

-- the links of a path have capacity left, so they are there
on_path : (N : Net) (c : List Float) (L nx p : List ℕ) (u e : ℕ) → Path N c L nx p u → In e p → e < length c
on_path N c L nx [] u e P i = absurd i
on_path N c L nx (x ∷ p) u e P (inl q) = residual_in c e (subst (λ (y : ℕ). residual c y ≡ true) (sym q) P.0.on)
on_path N c L nx (x ∷ p) u e P (inr i) = on_path N c L nx p (tail N x) e P.1 i

module _ {N : Net} {starts list : List ℕ} {c : List Float} {L nx : List ℕ} (W : Walkable N starts list c L nx) where
  ended : Ended N c L (ending N c L nx)
  ended = walk_ok N W.good c W.began L W.levels (walk_fuel N) (record { at = N.source; path = []; next = nx }) (walk_starts W)

  pub blocked_push : {nx' : List ℕ} → blocked nx' ≡ ending N c L nx → ◌≡◌ {A = Pushed} (record { amount = of_bits binary64 0; cap = c; next = nx' }) (augment N c L nx)
  unfolding augment push of_bits
  blocked_push e = ap (push c) e

  module _ {n : ℕ} (p : List ℕ) {nx' : List ℕ} (R : Routed (Some n) p nx' (ending N c L nx)) where
    same : reached (reverse (take n p)) nx' ≡ ending N c L nx
    same = R.1

    path : Path N c L nx' (reverse (take n p)) N.sink
    path = (subst (Ended N c L) (sym same) ended).2

    pub reached_push : (x : Float) (d : List Float) → x ≡ least c (inf false) (take n p) → d ≡ push_path x (take n p) c
        → ◌≡◌ {A = Pushed} (record { amount = x; cap = d; next = nx' }) (augment N c L nx)
    unfolding augment push
    reached_push x d a b =
        let q = reverse-reverse (take n p) in
        ap (λ (e : List Float). record { amount = x; cap = e; next = nx' }) b
        ∙ ap (λ (y : Float). record { amount = y; cap = push_path y (take n p) c; next = nx' }) a
        ∙ ap (λ (es : List ℕ). record { amount = least c (inf false) es; cap = push_path (least c (inf false) es) es c; next = nx' }) (sym q)
        ∙ ap (push c) same
