-- The loop of `walk`: each arm of a turn is one `step` of the definition, and the path's array holds its links, the last last.
use mathlib.Core.Path.{◌≡◌, refl, sym, ap, subst, ◌∙◌}
use mathlib.Core.Logic.{◌≢◌, inl, inr}
use mathlib.Core.Bool.{Bool, true, false, ◌&&◌, and-false}
use Prim.Native.Nat.{ℕ, zero, suc, ◌+◌, ◌-◌, ◌≤◌, ◌<◌}
use mathlib.Core.List.{List, [], ◌∷◌, ◌++◌, reverse, reverse_aux-append}
use native.Mathlib.Omega.{arith}
use native.Mathlib.Numerals.{add-one}
use native.Mathlib.Nat.{not-suc-le-zero}
use borrow.Author.Tests.{lt-ltb, le-ltb, ne_eqb, eq-eqb}
use lib.Dec.{eqb}
use lib.ListN.{length, get_or, set, take, length-set}
use lib.Seq.{take-suc, take-suc-set}
use lib.Ieee.{Float}
use Rattle.flow_theory.specs.Network.{Net, rev, nodes, links, head, tail, out, residual}
use Rattle.flow_theory.specs.Levels.{level_of}
use Rattle.flow_theory.specs.Augment.{mark, pass_link, admissible, Walk, Walked, reached, blocked, go, stop, step, arrive, look, advance, retreat, walk, walk_fuel}
use Rattle.flow_theory.proofs.Links.{HasLevel, level_in, residual_in, rev_in}
use Rattle.flow_theory.proofs.Paths.{Walks, Path, gauge, walk_go, walk_stop, step_on, step_falls, rests_le}
use Rattle.flow_theory.proofs.PathRows.{Walkable, Leads, Idle}
use Rattle.numbers.specs.Lists.{In}
use Rattle.numbers.proofs.Members.{in_at}
use Rattle.flow_theory.proofs.Outs.{out_length}
use Rattle.flow_theory.proofs.Scanning.{level_at}

-- ---- the definition's step, by its cases

module _ (N : Net) (c : List Float) (L : List ℕ) (w : Walk) where
  pub step_reached : w.at ≡ N.sink → step N c L w ≡ stop (reached w.path w.next)
  unfolding step arrive
  step_reached h = rw ((eq-eqb _ _) h)

  module _ (off : w.at ≢ N.sink) where
    abbrev e : ℕ
    e = get_or (out N w.at) (mark w.next w.at) 0

    pub step_taken : mark w.next w.at < length (out N w.at) → admissible N c L w.at e ≡ true
        → step N c L w ≡ go (record { at = head N e; path = e ∷ w.path; next = w.next })
    unfolding step arrive look advance
    step_taken more f = rw ((ne_eqb _ _) off, lt-ltb _ _ more, f)

    pub step_skipped : mark w.next w.at < length (out N w.at) → admissible N c L w.at e ≡ false
        → step N c L w ≡ go (record { at = w.at; path = w.path; next = pass_link w.next w.at })
    unfolding step arrive look advance
    step_skipped more f = rw ((ne_eqb _ _) off, lt-ltb _ _ more, f)

    pub step_back : length (out N w.at) ≤ mark w.next w.at → step N c L w ≡ retreat N w.path w.next
    unfolding step arrive look
    step_back none = rw ((ne_eqb _ _) off, le-ltb _ _ none)

fits_is : (N : Net) (c : List Float) (L : List ℕ) (u e : ℕ) (b : Bool) → (residual c e && eqb (level_of L (get_or N.heads e 0)) (suc (level_of L u))) ≡ b → admissible N c L u e ≡ b
unfolding admissible head
fits_is N c L u e b h = h

-- ---- a walk on its way to the definition's end

pub record Going (N : Net) (c : List Float) (L : List ℕ) (w : Walk) (end : Walked) : Type 0 where
  pub fuel : ℕ
  pub walks : Walks N c L w fuel
  pub same : walk N c L fuel w ≡ end

module _ {N : Net} {starts list : List ℕ} {c : List Float} {L nx₀ : List ℕ} (W : Walkable N starts list c L nx₀) {w : Walk} {end : Walked} (I : Going N c L w end) where
  spare : (k : ℕ) × Walks N c L w (suc k) × (walk N c L (suc k) w ≡ end)
  spare = pick I.fuel I.walks I.same
    where
      pick : (k : ℕ) → Walks N c L w k → walk N c L k w ≡ end → (j : ℕ) × Walks N c L w (suc j) × (walk N c L (suc j) w ≡ end)
      pick zero J e = absurd (not-suc-le-zero J.fuel)
      pick (suc k) J e = (k, J, e)

  pub goes : (v : Walk) → step N c L w ≡ go v → Going N c L v end
  goes v s =
      let (k, J, e) = spare in
      record { fuel = k; walks = step_on N W.good c W.began L W.levels k w v J s; same = sym (walk_go N c L k w v s) ∙ e }

  pub falls : (v : Walk) → step N c L w ≡ go v → gauge N L v < gauge N L w
  falls v s = let (k, J, e) = spare in step_falls N W.good c W.began L W.levels (suc k) w v J s

  pub stops : (r : Walked) → step N c L w ≡ stop r → r ≡ end
  stops r s = let (k, J, e) = spare in sym (walk_stop N c L k w r s) ∙ e

-- ---- the state of the code: the path is the first `len` places, the last link last

abbrev pub standing : ℕ → ℕ → List ℕ → List ℕ → Walk
standing u len p nx = record { at = u; path = reverse (take len p); next = nx }

abbrev pub ending : Net → List Float → List ℕ → List ℕ → Walked
ending N c L nx = walk N c L (walk_fuel N) (record { at = N.source; path = []; next = nx })

pub record Walking (N : Net) (c : List Float) (L nx₀ p₀ : List ℕ) (u len : ℕ) (p nx : List ℕ) : Type 0 where
  pub going : Going N c L (standing u len p nx) (ending N c L nx₀)
  pub room : length nx₀ ≤ length p₀
  pub depth : level_of L u ≡ len
  pub path_length : length p ≡ length p₀
  pub next_length : length nx ≡ length nx₀

snoc_reverse : (xs : List ℕ) (x : ℕ) → reverse (xs ++ (x ∷ [])) ≡ x ∷ reverse xs
snoc_reverse xs x = reverse_aux-append xs (x ∷ []) []

longer : (p : List ℕ) (len e : ℕ) → len < length p → reverse (take (suc len) (set p len e)) ≡ e ∷ reverse (take len p)
longer p len e h = ap reverse (take-suc-set p len e h) ∙ snoc_reverse (take len p) e

shorter : (p : List ℕ) (len : ℕ) → len < length p → reverse (take (suc len) p) ≡ get_or p len 0 ∷ reverse (take len p)
shorter p len h = ap reverse (take-suc p len 0 h) ∙ snoc_reverse (take len p) (get_or p len 0)

pub walk_starts : {N : Net} {starts list : List ℕ} {c : List Float} {L nx : List ℕ} → Walkable N starts list c L nx
    → Walks N c L (record { at = N.source; path = []; next = nx }) (walk_fuel N)
unfolding walk_fuel
walk_starts {N = N} {nx = nx} W =
    let z = W.levels.src in
    let few = W.good.few in
    let r = rests_le N.lists nx in
    record { size = W.size; path = refl; low = omega arith; dead = W.dead; fuel = omega arith }

module _ {N : Net} {starts list : List ℕ} {c : List Float} {L nx₀ p₀ : List ℕ} (W : Walkable N starts list c L nx₀) where
  pub walk_begins : length nx₀ ≤ length p₀ → Walking N c L nx₀ p₀ N.source 0 p₀ nx₀
  walk_begins room = record {
    going = record { fuel = walk_fuel N; walks = walk_starts W; same = refl };
    room = room;
    depth = W.levels.src;
    path_length = refl;
    next_length = refl;
  }

  module _ {u len : ℕ} {p nx : List ℕ} (I : Walking N c L nx₀ p₀ u len p nx) where
    low : HasLevel L u
    low = I.going.walks.low

    pub u_in : u < nodes N
    u_in = rw (← W.levels.len) (level_in L u low)

    pub u_low : u < 66
    u_low = let i = u_in in let f = W.laid.places in omega arith

    pub u_next : u < length nx
    u_next = let i = u_in in let l = I.next_length in let s = W.size in omega arith

    pub depth_low : len < nodes N
    depth_low = let b = W.levels.bnd u low in let d = I.depth in omega arith

    pub path_room : len < length p
    path_room = let d = depth_low in let l = I.path_length in let r = I.room in let s = W.size in omega arith

    module _ (off : u ≢ N.sink) where
      -- es are the links of u, and the mark stands at one of them
      module _ {es : List ℕ} (is : es ≡ out N u) (more : get_or nx u 0 < length es) where
        abbrev at : ℕ
        at = get_or es (get_or nx u 0) 0

        left_in : mark nx u < length (out N u)
        unfolding mark
        left_in = rw (← is) more

        mark_at : get_or (out N u) (mark nx u) 0 ≡ at
        unfolding mark
        mark_at = ap (λ (xs : List ℕ). get_or xs (get_or nx u 0) 0) (sym is)

        pub link_known : (at < links N) × (tail N at ≡ u)
        link_known = W.good.listed u at (subst (In at) is (in_at es (get_or nx u 0) 0 more))

        pub head_in : get_or N.heads at 0 < nodes N
        unfolding head
        head_in = W.good.heads_in at link_known.0

        pub head_level : get_or N.heads at 0 < length L
        head_level = rw W.levels.len head_in

        module _ (leads : Leads N.heads c L (len + 1) at) where
          up : level_of L (get_or N.heads at 0) ≡ suc (level_of L u)
          up = sym (level_at L _ head_level) ∙ leads.1 ∙ add-one len ∙ ap suc (sym I.depth)

          next : Walk
          next = record { at = get_or N.heads at 0; path = at ∷ reverse (take len p); next = nx }

          onto : step N c L (standing u len p nx) ≡ go next
          unfolding head next
          onto =
              let ok = fits_is N c L u at true (rw (leads.0, (eq-eqb _ _) up)) in
              step_taken N c L (standing u len p nx) off left_in (rw mark_at ok) ∙ ap (λ (x : ℕ). go (record { at = head N x; path = x ∷ reverse (take len p); next = nx })) mark_at

          pub took : Walking N c L nx₀ p₀ (get_or N.heads at 0) (len + 1) (set p len at) nx
          unfolding next
          took = record {
            going = rw (add-one len, longer p len at path_room) (goes W I.going next onto);
            room = I.room;
            depth = up ∙ ap suc I.depth ∙ sym (add-one len);
            path_length = length-set p len at ∙ I.path_length;
            next_length = I.next_length;
          }

          pub took_less : gauge N L (standing (get_or N.heads at 0) (len + 1) (set p len at) nx) < gauge N L (standing u len p nx)
          unfolding next
          took_less = falls W I.going next onto

        module _ (idle : Idle N.heads c L (len + 1) at) where
          unfit : (residual c at && eqb (level_of L (get_or N.heads at 0)) (suc (level_of L u))) ≡ false
          unfit = pick idle
            where
              pick : Idle N.heads c L (len + 1) at → (residual c at && eqb (level_of L (get_or N.heads at 0)) (suc (level_of L u))) ≡ false
              pick (inl l) = rw l
              pick (inr g) = rw (ne_eqb (level_of L (get_or N.heads at 0)) (suc (level_of L u)) (λ q. g (level_at L _ head_level ∙ q ∙ ap suc I.depth ∙ sym (add-one len)))) (and-false (residual c at))

          aside : step N c L (standing u len p nx) ≡ go (standing u len p (set nx u (get_or nx u 0 + 1)))
          unfolding head pass_link mark
          aside = rw (add-one (get_or nx u 0)) (step_skipped N c L (standing u len p nx) off left_in (rw mark_at (fits_is N c L u at false unfit)))

          pub skipped : Walking N c L nx₀ p₀ u len p (set nx u (get_or nx u 0 + 1))
          skipped = record {
            going = goes W I.going (standing u len p (set nx u (get_or nx u 0 + 1))) aside;
            room = I.room;
            depth = I.depth;
            path_length = I.path_length;
            next_length = length-set nx u (get_or nx u 0 + 1) ∙ I.next_length;
          }

          pub skipped_less : gauge N L (standing u len p (set nx u (get_or nx u 0 + 1))) < gauge N L (standing u len p nx)
          skipped_less = falls W I.going (standing u len p (set nx u (get_or nx u 0 + 1))) aside

      -- no link is left
      module _ {es : List ℕ} (is : es ≡ out N u) (none : length es ≤ get_or nx u 0) where
        spent : length (out N u) ≤ mark nx u
        unfolding mark
        spent = rw (← is) none

        pub blocked_ends : len ≡ 0 → blocked nx ≡ ending N c L nx₀
        unfolding retreat
        blocked_ends z = stops W I.going (blocked nx) (step_back N c L (standing u len p nx) off spent ∙ ap (λ (n : ℕ). retreat N (reverse (take n p)) nx) z)

        module _ (some : len ≢ 0) where
          abbrev last : ℕ
          last = get_or p (len - 1) 0

          path_is : reverse (take len p) ≡ last ∷ reverse (take (len - 1) p)
          path_is =
              let r = path_room in
              let s : suc (len - 1) ≡ len = omega arith in
              ap (λ (n : ℕ). reverse (take n p)) (sym s) ∙ shorter p (len - 1) (omega arith)

          leg : Path N c L nx (last ∷ reverse (take (len - 1) p)) u
          leg = subst (λ (q : List ℕ). Path N c L nx q u) path_is I.going.walks.path

          pub last_in : last < links N
          last_in = rw (← W.caps.size) (residual_in c last leg.0.on)

          pub back_in : rev last < links N
          back_in = let q = W.good.pairs in rw q (rev_in last W.good.added (rw (← q) last_in))

          abbrev from : ℕ
          from = get_or N.heads (rev last) 0

          from_at : tail N last ≡ from
          unfolding head
          from_at = refl

          pub from_in : from < nodes N
          unfolding head
          from_in = W.good.heads_in (rev last) back_in

          pub from_next : from < length nx
          from_next = let i = from_in in let l = I.next_length in let s = W.size in omega arith

          pub from_mark : get_or nx from 0 < length list
          unfolding mark
          from_mark =
              let r : get_or nx from 0 < length (out N from) = subst (λ (x : ℕ). get_or nx x 0 < length (out N x)) from_at leg.0.room in
              let s = out_length W.laid from from_in in
              let o = W.laid.ordered from from_in in
              omega arith

          homeward : step N c L (standing u len p nx) ≡ go (standing from (len - 1) p (set nx from (get_or nx from 0 + 1)))
          unfolding retreat pass_link mark
          homeward =
              step_back N c L (standing u len p nx) off spent ∙ ap (λ (q : List ℕ). retreat N q nx) path_is
              ∙ ap (λ (x : ℕ). go (record { at = x; path = reverse (take (len - 1) p); next = set nx x (suc (get_or nx x 0)) })) from_at
              ∙ ap (λ (m : ℕ). go (record { at = from; path = reverse (take (len - 1) p); next = set nx from m })) (sym (add-one (get_or nx from 0)))

          pub back : Walking N c L nx₀ p₀ from (len - 1) p (set nx from (get_or nx from 0 + 1))
          back = record {
            going = goes W I.going (standing from (len - 1) p (set nx from (get_or nx from 0 + 1))) homeward;
            room = I.room;
            depth = let h = leg.0.higher in let d = I.depth in let q = ap (level_of L) from_at in omega arith;
            path_length = I.path_length;
            next_length = length-set nx from (get_or nx from 0 + 1) ∙ I.next_length;
          }

          pub back_less : gauge N L (standing from (len - 1) p (set nx from (get_or nx from 0 + 1))) < gauge N L (standing u len p nx)
          back_less = falls W I.going (standing from (len - 1) p (set nx from (get_or nx from 0 + 1))) homeward

    pub reached_ends : u ≡ N.sink → reached (reverse (take len p)) nx ≡ ending N c L nx₀
    reached_ends h = stops W I.going (reached (reverse (take len p)) nx) (step_reached N c L (standing u len p nx) h)
