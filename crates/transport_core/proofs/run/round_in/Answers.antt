-- `run::round_in` meets its contract: the search and the push are the parts of a `turn` (Turns).
use mathlib.Core.Path.{sym, ◌∙◌}
use Rattle.transport_theory.proofs.Turns.{round_passable, sink_dist, round_lost, round_movable, round_moved}
use Rattle.transport_theory.proofs.Searches.{infinite_is}
use Rattle.transport_core.proofs.run.round_in.Goals as goal

pub search-requires : goal.search-requires
search-requires c = round_passable c.requires

pub bounds-tree-course-2 : goal.bounds-tree-course-2
bounds-tree-course-2 c = sink_dist c.requires c.search.ensures

pub returns-then-is_infinite : goal.returns-then-is_infinite
returns-then-is_infinite c = round_lost c.requires c.search.ensures (sym (c.is_infinite.ensures.value ∙ infinite_is _) ∙ c.if-is_infinite.true) c.args.remaining

pub push_back-requires : goal.push_back-requires
push_back-requires c = round_movable c.requires c.search.ensures (sym (c.is_infinite.ensures.value ∙ infinite_is _) ∙ c.if-is_infinite.false)

pub returns : goal.returns
returns c = round_moved c.requires c.search.ensures (sym (c.is_infinite.ensures.value ∙ infinite_is _) ∙ c.if-is_infinite.false) c.args.remaining c.push_back.result c.push_back.new.caps c.push_back.ensures
