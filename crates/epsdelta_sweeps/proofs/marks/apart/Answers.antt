use lib.ListN.{length, get_or}
use Rattle.epsdelta_sweeps.proofs.Marking.{not_among, apart_byte}
use Rattle.epsdelta_sweeps.proofs.marks.apart.Goals as goal

pub returns : goal.returns
returns c =
    let a = c.args in
    λ e Q M. apart_byte Q (length a.of.now.classes.now) a.s a.t M c.requires.0 c.requires.1 (not_among a.of.now.classes.now (get_or a.of.now.classes.now a.s 0) a.t c.contains.ensures.value e c.requires.1)
