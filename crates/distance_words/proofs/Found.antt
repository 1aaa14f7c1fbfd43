-- What a run of pairs that were found answers, from lists of their states.
use Prim.Native.Nat.{ℕ, zero, suc}
use mathlib.Core.Bool.{Bool, true, false}
use mathlib.Core.List.{List, ◌++◌}
use lib.Dec.{ltb}
use lib.ListN.{get_or, take, drop, replicate}
use lib.Ieee.{Float, nan, binary64, sub, div, lt}
use Rattle.numbers.specs.Real.{nought, one, eps}
use Rattle.chain_theory.specs.Columns.{ChainColumns}
use Rattle.distance_theory.specs.Pairs.{most}
use Rattle.distance_theory.specs.declared.MetricOptions.{MetricOptions}
use Rattle.distance_theory.specs.Rounds.{many}
use Rattle.distance_words.proofs.Costs.{pricing}
use Rattle.std.specs.Prelude.{Result, Ok, Err}
use Rattle.distance_words.specs.Told.{Told}
use Rattle.distance_words.proofs.Valuing.{visited}
use Rattle.distance_words.proofs.Listing.{listed_of}
use Rattle.distance_words.proofs.Solve.{Solving, solve_of}
use Rattle.distance_words.specs.declared.told.Accounted.{Accounted}
use Rattle.distance_words.specs.declared.told.Listed.{Listed}

-- the mass that is left, and what is listed; a refusal is handed on
abbrev pub account_with : Float → Result Listed ℕ → Result Accounted ℕ
account_with x (Ok l) = Ok (record { mass = x; listed = l })
account_with x (Err r) = Err r

-- this, unless it is refused
abbrev pub account_if : ℕ → Result Accounted ℕ → Result Accounted ℕ
account_if zero a = a
account_if (suc r) a = Err (suc r)

-- how the distance arises, for couplings in the store: the mass that is left in `occupancy`, and the contributions; of n pairs by lists of their states, the observations, and the store
abbrev pub account_of : ℕ → List ℕ → List ℕ → List Float → List Float → List ℕ → List ℕ → List ℕ → List Float → Float → MetricOptions → Result Accounted ℕ
account_of n lefts rights seenL seenR starts lengths places masses γ o =
    let w = visited many starts lengths places masses γ (take n (replicate most nought)) n in
    account_if w.refusal (account_with w.mass (listed_of n lefts rights seenL seenR w.spent o))

-- 19, or the distance x of n pairs, values off by y, after k rounds
abbrev pub tell_if : Bool → ℕ → Float → Float → Float → ℕ → Accounted → Told
tell_if true n x γ y k a = Err 19
tell_if false n x γ y k a =
    Ok (record { distance = record { value = x; error_bound = div binary64 y (sub binary64 one γ); gamma = γ; pairs_explored = n; contributions = a.listed.count; rounds = k }; records = a.listed.records })

abbrev pub tell_of : ℕ → Float → Float → Float → ℕ → Accounted → Told
tell_of n x γ y k a = tell_if (lt eps a.mass) n x γ y k a

-- a refusal is handed on
abbrev pub tell_from : ℕ → Float → Float → Float → ℕ → Result Accounted ℕ → Told
tell_from n x γ y k (Ok a) = tell_of n x γ y k a
tell_from n x γ y k (Err r) = Err r

-- ---- n pairs in lists

abbrev pub go_on : ℕ → Told → Told
go_on zero t = t
go_on (suc r) t = Err (suc r)

-- once their couplings are solved
abbrev pub found_from : ℕ → List ℕ → List ℕ → List Float → List Float → Float → MetricOptions → Solving → Told
found_from n lefts rights seenL seenR γ o w =
    go_on w.refusal (tell_from n (get_or (w.values ++ drop n (replicate most nought)) 0 nan) γ w.residual w.rounds (account_of n lefts rights seenL seenR w.starts w.lengths w.places w.masses γ o))

abbrev pub found_if : Bool → Told → Told
found_if true t = Err 17
found_if false t = t

abbrev pub found_of : ℕ → List ℕ → List ℕ → List ℕ → ChainColumns → ChainColumns → List Float → List Float → Float → MetricOptions → List ℕ → List Float → Told
found_of n lefts rights codes C D seenL seenR γ o p m =
    found_if (ltb most n) (found_from n lefts rights seenL seenR γ o
    (solve_of n lefts rights codes C D (pricing n lefts rights seenL seenR γ (replicate most nought)).cost γ o (replicate most 0) (replicate most 0) p m (take n (replicate most nought))))
