use Rattle.std.proofs.Common.{sym, refl, ap, ◌∙◌, get_or, subst, ℕ, below_more}
use lib.Bits.{bit_or}
use Rattle.epsdelta_theory.proofs.Unchanged.{Told, told_more, told_this}
use Rattle.epsdelta_sweeps.specs.declared.changes.Strikes.{Strikes}
use Rattle.epsdelta_sweeps.specs.Place.{count, words_of}
use Rattle.epsdelta_sweeps.specs.Place.{none}
use Rattle.epsdelta_sweeps.proofs.Words.{recent_at, before_at}
use Rattle.epsdelta_sweeps.proofs.changes.strikes_of.Goals as goal

pub loop-u-preserved : goal.loop-u-preserved
loop-u-preserved c =
    let a = c.args in
    let l = c.loop-u in
    let (_, _, _, at, _) = c.in_ok-strikes.ensures.lookup in
    let n = count a.memory.now in
    let W = words_of n a.memory.now in
    let u = get_or a.row.now l.u-index 0 in
    let x = c.in_ok-strikes.strikes.now in
    let y = recent_at n a.memory.now.strikes.now a.memory.now.again u at.0 refl ∙ sym (ap (λ (s : Strikes). s.recent) (at.1 none)) in
    let z = before_at n a.memory.now.strikes.now a.memory.now.again u at.0 refl ∙ sym (ap (λ (s : Strikes). s.before) (at.1 none)) in
    let w = c.not_below-before.result in
    below_more (λ j. Told n W a.s (get_or a.row.now j 0) (bit_or l.recent x.recent) (bit_or l.before w)) l.u-index
    (λ j k. told_more n W a.s (get_or a.row.now j 0) l.recent l.before x.recent w (l.invariant j k))
    (subst (λ (r : ℕ). Told n W a.s u (bit_or l.recent r) (bit_or l.before w)) y (told_this n W a.s u l.recent l.before w at.0 (λ k. c.not_below-before.ensures k ∙ sym z)))
