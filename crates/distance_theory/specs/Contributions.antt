-- How the distance arises (kantorovich.rs): the discounted time that the couplings spend in each pair, and the pairs that contribute most.
use Rattle.std.specs.Prelude.{ℕ, zero, suc, Bool, true, false, List, [], ◌∷◌, length, get_or, set, take, replicate, Float}
use Rattle.std.specs.Float.{nan, binary64}
use Rattle.std.specs.Float.Ieee.{add, sub, mul, lt}
use Rattle.numbers.specs.Real.{nought, one, eps, is_zero, sum}
use Rattle.numbers.specs.Choice.{apart}
use Rattle.transport_theory.specs.Transport.{keep}
use Rattle.distance_theory.specs.Pairs.{Pair}
use Rattle.distance_theory.specs.Couplings.{Share, Metric, gap}
use Rattle.distance_theory.specs.Rounds.{many}
use Rattle.distance_theory.specs.declared.MetricOptions.{MetricOptions}
use Rattle.distance_theory.specs.declared.PairContribution.{PairContribution}

-- ---- `occupancy`

-- the time spent in each pair so far, the mass that is now in each, and the sum of that
pub record Visits : Type 0 where
  pub spent : List Float
  pub now : List Float
  pub mass : Float

-- x × mass more for each pair that follows
unfoldable pub pour : Float → List Share → List Float → List Float
unfolding add mul
pour x [] next = next
pour x (c ∷ cs) next = pour x cs (set next c.at (add binary64 (get_or next c.at nan) (mul binary64 x c.mass)))

-- the time spent, and the mass of the next round, while a round is made
pub record Stay : Type 0 where
  pub spent : List Float
  pub next : List Float

-- pair k holds p; one without mass is passed over
unfoldable pub stay : Bool → Float → Float → ℕ → List Share → Stay → Stay
unfolding pour add mul
stay true γ p k cs w = w
stay false γ p k cs w = record { spent = set w.spent k (add binary64 (get_or w.spent k nan) p); next = pour (mul binary64 γ p) cs w.next }

-- the pairs from k on, with their couplings
unfoldable pub stay_all : Float → List Float → ℕ → List (List Share) → Stay → Stay
unfolding stay
stay_all γ now k [] w = w
stay_all γ now k (cs ∷ policy) w = let p = get_or now k nan in stay_all γ now (suc k) policy (stay (is_zero p) γ p k cs w)

-- a round
unfoldable pub onward : Float → List (List Share) → Visits → Visits
unfolding stay_all sum
onward γ policy w =
    let r = stay_all γ w.now 0 policy (record { spent = w.spent; next = replicate (length w.now) nought }) in
    record { spent = r.spent; now = r.next; mass = sum r.next }

-- at most k rounds, while the mass is above 1e-12
unfoldable pub visits : Float → List (List Share) → ℕ → Visits → Visits
unfolding onward lt
visits γ policy zero w = w
visits γ policy (suc k) w = elim (lt eps w.mass) [ true ↦ visits γ policy k (onward γ policy w) | false ↦ w ]

-- n pairs, a mass of 1 - γ in the first
abbrev pub depart : Float → ℕ → Visits
depart γ n = let p = sub binary64 one γ in record { spent = replicate n nought; now = set (replicate n nought) 0 p; mass = p }

unfoldable pub occupancy : Float → ℕ → List (List Share) → Visits
unfolding visits sub
occupancy γ n policy = visits γ policy many (depart γ n)

-- ---- contributions

abbrev pub contribution : Metric → Pair → Float → PairContribution
contribution G p o =
    let g = gap G.left G.right p in
    record { left = record { 0 = p.left }; right = record { 0 = p.right }; gap = g; occupancy = o; contribution = mul binary64 o g }

-- those above 0 of the pairs from k on
unfoldable pub contributions : Metric → List Float → ℕ → List Pair → List PairContribution
unfolding keep apart mul lt
contributions G spent k [] = []
contributions G spent k (p ∷ ps) = let c = contribution G p (get_or spent k nan) in keep (lt nought c.contribution) c (contributions G spent (suc k) ps)

-- behind all that are not less
unfoldable pub insert : PairContribution → List PairContribution → List PairContribution
unfolding lt
insert c [] = c ∷ []
insert c (d ∷ ds) = elim (lt d.contribution c.contribution) [ true ↦ c ∷ d ∷ ds | false ↦ d ∷ insert c ds ]

-- one after the other
unfoldable pub rank_into : List PairContribution → List PairContribution → List PairContribution
unfolding insert
rank_into rs [] = rs
rank_into rs (c ∷ cs) = rank_into (insert c rs) cs

-- largest first, equal ones in discovery order, `top` of them
unfoldable pub listed : Metric → MetricOptions → List Float → List PairContribution
unfolding contributions rank_into
listed G o spent = take o.top (rank_into [] (contributions G spent 0 G.found))
