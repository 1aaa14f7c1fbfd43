use mathlib.Core.Path.{refl, ap}
use Prim.Native.Nat.{ℕ, ◌+◌}
use native.Mathlib.Nat.{add-zero}
use mathlib.Core.List.{[], ◌∷◌}
use lib.ListN.{get_or, drop}
use lib.Ieee.{nan}
use Rattle.std.proofs.Common.{rules}
use Rattle.epsdelta_theory.proofs.LinkRows.{sink_row}
use Rattle.flow_links.proofs.LinkWrites.{adding_start, adding_on, adding_end, free_next, sink_next, sink_end}
use Rattle.flow_links.proofs.links.add_sinks.Goals as goal

pub loop-i-init : goal.loop-i-init
loop-i-init c = (adding_start _ _ _ (ap (λ (k : ℕ). sink_row c.args.sink k c.args.rates.now) (add-zero c.args.first)), (refl, refl))

pub put-requires-clause-free : goal.put-requires-clause-free
put-requires-clause-free c = free_next (record { from = c.args.first + c.loop-i.i; to = c.args.sink; cap = get_or c.args.rates.now c.loop-i.i nan } ∷ []) (sink_row c.args.sink (c.args.first + (c.loop-i.i + 1)) (drop (c.loop-i.i + 1) c.args.rates.now)) (sink_next c.args.sink c.args.first c.loop-i.i c.args.rates.now c.loop-i-test.true) c.requires.free c.loop-i.invariant.0

pub loop-i-preserved : goal.loop-i-preserved
loop-i-preserved c = (adding_on (record { from = c.args.first + c.loop-i.i; to = c.args.sink; cap = get_or c.args.rates.now c.loop-i.i nan } ∷ []) (sink_row c.args.sink (c.args.first + (c.loop-i.i + 1)) (drop (c.loop-i.i + 1) c.args.rates.now)) (sink_next c.args.sink c.args.first c.loop-i.i c.args.rates.now c.loop-i-test.true) c.loop-i.invariant.0 c.put.ensures.added, search rules)

pub returns-clause-added : goal.returns-clause-added
returns-clause-added c = adding_end (sink_end c.args.sink (c.args.first + c.loop-i.i) c.loop-i.i c.args.rates.now c.loop-i-test.false) c.loop-i.invariant.0
