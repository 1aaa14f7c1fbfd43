-- By where t stands: among the targets seen, or not; and then by whether there is room for one more.
use Rattle.std.proofs.Common.{refl, sym, ◌∙◌, arith}
use Rattle.bisim_edges.proofs.Notes.{note_old, note_new, note_full}
use Rattle.bisim_edges.proofs.crowd.Seen.add.Goals as goal

pub returns-then-is_some-clause-added : goal.returns-then-is_some-clause-added
returns-then-is_some-clause-added c _ = note_old _ _ _ c.requires c.seek.ensures (sym c.is_some.ensures ∙ c.if-is_some.true)

pub returns-then-self-eq31-clause-full : goal.returns-then-self-eq31-clause-full
returns-then-self-eq31-clause-full c _ = note_full _ _ _ c.requires c.seek.ensures (sym c.is_some.ensures ∙ c.if-is_some.false) (omega arith)

pub returns-clause-added : goal.returns-clause-added
returns-clause-added c _ = note_new _ _ _ c.requires c.seek.ensures (sym c.is_some.ensures ∙ c.if-is_some.false) (omega arith) _ refl
