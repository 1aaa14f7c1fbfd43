-- `fill` writes the mark into each entry.
use mathlib.Core.Path.{ap, sym, subst, ◌∙◌}
use lib.ListN.{replicate, length}
use Rattle.replay_measures.proofs.scratch.marked.Goals as goal

pub returns : goal.returns
returns g c =
    c.fill.ensures.after (λ y e. c.requires.exact y (subst (λ x. g.T.Clone.is_clone x y) c.mark.ensures e) ∙ sym c.mark.ensures) ∙ ap (replicate (length c.args.xs.now)) c.mark.ensures
