-- One turn of each loop over places: the definition on what is still to come from place k is the definition on what comes from k + 1, with item k taken in.
use mathlib.Core.Path.{◌≡◌, sym, ap, ◌∙◌}
use Prim.Native.Nat.{ℕ, ◌<◌, ◌≤◌, ◌+◌, ◌*◌}
use mathlib.Core.List.{List, [], ◌∷◌}
use native.Mathlib.Numerals.{add-one}
use lib.ListN.{length, get_or, drop, drop_of_length-le}
use lib.Seq.{drop-cons}
use lib.Ieee.{Float, nan, lt}
use Rattle.numbers.specs.Real.{nought, is_zero}
use Rattle.transport_theory.specs.Transport.{keep}
use Rattle.distance_theory.specs.Pairs.{Pair, pair, pair_at}
use Rattle.distance_theory.specs.Couplings.{Share, share, Metric, row_l, row_r, room}
use Rattle.distance_theory.specs.Rounds.{Values, update, sweep, Improvement, improve, improve_all}
use Rattle.distance_theory.specs.Contributions.{Stay, stay, stay_all, contribution, contributions}
use Rattle.distance_theory.specs.declared.PairContribution.{PairContribution}

abbrev pub share_at : List Share → ℕ → Share
share_at cs i = get_or cs i (share 0 nan)

abbrev pub coupling_at : List (List Share) → ℕ → List Share
coupling_at policy k = get_or policy k []

-- any loop over a list: item k is next, or none is left
module _ {A B : Type 0} (f : List A → B) (l : List A) (k : ℕ) where
  pub next_item : (d : A) → k < length l → f (drop k l) ≡ f (get_or l k d ∷ drop (k + 1) l)
  next_item d h = rw (add-one k) (ap f (drop-cons l k d h))

  pub no_item : length l ≤ k → f (drop k l) ≡ f []
  no_item h = ap f (drop_of_length-le l h)

module _ (G : Metric) where
  pub sweep_next : (policy : List (List Share)) (k : ℕ) (w : Values) → k < length policy → sweep G k (drop k policy) w ≡ sweep G (k + 1) (drop (k + 1) policy) (update G k (coupling_at policy k) w)
  unfolding sweep
  sweep_next policy k w h = next_item (λ (x : List (List Share)). sweep G k x w) policy k [] h ∙ ap (λ (j : ℕ). sweep G j (drop (k + 1) policy) (update G k (coupling_at policy k) w)) (sym (add-one k))

  pub improve_next : (v : List Float) (ps : List Pair) (k : ℕ) (r : Improvement) → k < length ps
      → improve_all G v k (drop k ps) r ≡ improve_all G v (k + 1) (drop (k + 1) ps) (improve G v k (pair_at ps k) r)
  unfolding improve_all
  improve_next v ps k r h = next_item (λ (x : List Pair). improve_all G v k x r) ps k (pair 0 0) h ∙ ap (λ (j : ℕ). improve_all G v j (drop (k + 1) ps) (improve G v k (pair_at ps k) r)) (sym (add-one k))

  pub contributions_next : (spent : List Float) (ps : List Pair) (k : ℕ) → k < length ps → (c : PairContribution) → c ≡ contribution G (pair_at ps k) (get_or spent k nan)
      → contributions G spent k (drop k ps) ≡ keep (lt nought c.contribution) c (contributions G spent (k + 1) (drop (k + 1) ps))
  unfolding contributions
  contributions_next spent ps k h c e = rw e (next_item (λ (x : List Pair). contributions G spent k x) ps k (pair 0 0) h
      ∙ ap (λ (j : ℕ). keep (lt nought (contribution G (pair_at ps k) (get_or spent k nan)).contribution) (contribution G (pair_at ps k) (get_or spent k nan)) (contributions G spent j (drop (k + 1) ps))) (sym (add-one k)))

  pub room_next : (ps : List Pair) (k : ℕ) → k < length ps → room G (drop k ps) ≡ length (row_l G (pair_at ps k)) * length (row_r G (pair_at ps k)) + room G (drop (k + 1) ps)
  unfolding room
  room_next ps k h = next_item (room G) ps k (pair 0 0) h

pub stay_next : (γ : Float) (now : List Float) (policy : List (List Share)) (k : ℕ) (w : Stay) → k < length policy
    → stay_all γ now k (drop k policy) w ≡ stay_all γ now (k + 1) (drop (k + 1) policy) (stay (is_zero (get_or now k nan)) γ (get_or now k nan) k (coupling_at policy k) w)
unfolding stay_all
stay_next γ now policy k w h = next_item (λ (x : List (List Share)). stay_all γ now k x w) policy k [] h
    ∙ ap (λ (j : ℕ). stay_all γ now j (drop (k + 1) policy) (stay (is_zero (get_or now k nan)) γ (get_or now k nan) k (coupling_at policy k) w)) (sym (add-one k))
