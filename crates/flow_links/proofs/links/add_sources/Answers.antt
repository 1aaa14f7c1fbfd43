use mathlib.Core.Path.{refl}
use Prim.Native.Nat.{◌+◌}
use mathlib.Core.List.{[], ◌∷◌}
use lib.ListN.{get_or, drop}
use lib.Ieee.{nan}
use Rattle.std.proofs.Common.{rules}
use Rattle.epsdelta_theory.proofs.LinkRows.{source_row}
use Rattle.flow_links.proofs.LinkWrites.{adding_start, adding_on, adding_end, free_next, source_next, source_end}
use Rattle.flow_links.proofs.links.add_sources.Goals as goal

pub loop-i-init : goal.loop-i-init
loop-i-init c = (adding_start _ _ _ refl, (refl, refl))

pub put-requires-clause-free : goal.put-requires-clause-free
put-requires-clause-free c = free_next (record { from = c.args.source; to = c.loop-i.i; cap = get_or c.args.rates.now c.loop-i.i nan } ∷ []) (source_row c.args.source (c.loop-i.i + 1) (drop (c.loop-i.i + 1) c.args.rates.now)) (source_next c.args.source c.loop-i.i c.args.rates.now c.loop-i-test.true) c.requires.free c.loop-i.invariant.0

pub loop-i-preserved : goal.loop-i-preserved
loop-i-preserved c = (adding_on (record { from = c.args.source; to = c.loop-i.i; cap = get_or c.args.rates.now c.loop-i.i nan } ∷ []) (source_row c.args.source (c.loop-i.i + 1) (drop (c.loop-i.i + 1) c.args.rates.now)) (source_next c.args.source c.loop-i.i c.args.rates.now c.loop-i-test.true) c.loop-i.invariant.0 c.put.ensures.added, search rules)

pub returns-clause-added : goal.returns-clause-added
returns-clause-added c = adding_end (source_end c.args.source c.loop-i.i c.loop-i.i c.args.rates.now c.loop-i-test.false) c.loop-i.invariant.0
