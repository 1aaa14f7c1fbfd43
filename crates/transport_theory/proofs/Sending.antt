-- The rounds of `transport` on links that stand in rows. Words of contracts.
use Rattle.std.specs.Prelude.{ℕ, ◌+◌, Bool, true, false, ◌&&◌, List, length, eqb, ltb, leb, Float, Option, Some, None}
use Rattle.numbers.specs.Real.{sum}
use Rattle.numbers.specs.Choice.{smaller}
use Rattle.numbers.specs.Lists.{over, all}
use Rattle.flow_theory.specs.Rows.{network, starts_of, list_of}
use Rattle.flow_check.specs.Refusal
use Rattle.transport_theory.specs.Lent.{few}
use Rattle.transport_theory.specs.Transport.{Shipment, rounds, round_cap, crumbs}

-- at most 32 masses on a side, and a capacity and a cost for each link
abbrev pub sizes_fit : ℕ → ℕ → ℕ → ℕ → ℕ → Bool
sizes_fit m n heads caps prices = few m n && (eqb caps heads && eqb prices heads)

-- the links can be listed by node: few enough, each between two of n nodes, and room for the lists and their starts
abbrev pub listable : List ℕ → ℕ → ℕ → ℕ → Bool
listable H n starts room = Refusal.few n (length H) && (leb (length H) room && (ltb n starts && all (λ v. ltb v n) H))

-- the sizes fit, and the links can be listed
abbrev pub sendable : List Float → List Float → List ℕ → List Float → List Float → ℕ → Bool
sendable a b H c p room = sizes_fit (length a) (length b) (length H) (length c) (length p) && listable H (length a + length b + 2) 67 room

-- the rounds between masses a and b on links with these heads, capacities and costs
abbrev pub rows_shipped : List Float → List Float → List ℕ → List Float → List Float → Shipment
rows_shipped a b H c p =
    let s = length a + length b in
    rounds (record { net = network H (s + 2) s (s + 1); cost = p }) (crumbs (sum a)) (round_cap (length a) (length b)) (record { cap = c; remaining = smaller (sum a) (sum b); rounds = 0 })

-- what remains if the rounds were made, the capacities left, and the starts and the list of the nodes' links
pub record Sent : Type 0 where
  pub remaining : Option Float
  pub caps : List Float
  pub starts : List ℕ
  pub list : List ℕ

abbrev pub sent : Option Float → List Float → List ℕ → List ℕ → Sent
sent x c s l = record { remaining = x; caps = c; starts = s; list = l }

abbrev pub send_if : Bool → List Float → List Float → List ℕ → List Float → List Float → List ℕ → List ℕ → Sent
send_if true a b H c p s l =
    let n = length a + length b + 2 in let r = rows_shipped a b H c p in sent (Some r.remaining) r.cap (over (starts_of H n) s) (over (list_of H n) l)
send_if false a b H c p s l = sent None c s l

-- the rounds on links that fit; else nothing changes
abbrev pub send : List Float → List Float → List ℕ → List Float → List Float → List ℕ → List ℕ → Sent
send a b H c p s l = send_if (sendable a b H c p (length l)) a b H c p s l
