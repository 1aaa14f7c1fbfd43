-- `sweeps::turn` meets its contract, test by test (Resuming).
use Rattle.std.proofs.Common.{rules}
use mathlib.Core.Path.{refl, sym, ◌∙◌}
use mathlib.Core.Bool.{true, false, false≢true}
use native.Mathlib.Omega.{arith}
use Rattle.numbers.proofs.Bools.{and_t}
use Rattle.epsdelta_theory.proofs.Unchanged.{still_passes}
use Rattle.epsdelta_sweeps.proofs.Words.{words_long}
use Rattle.epsdelta_sweeps.proofs.Resuming.{turn_no_exit, turn_quiet, turn_waits, turn_fails}
use Rattle.epsdelta_sweeps.proofs.sweeps.turn.Goals as goal
use Rattle.epsdelta_sweeps.proofs.sweeps.turn.Goals.{then-terms-s-via-then-terms-s, then-terms-s-via-else-terms-s+then-unchanged}

pub unchanged-requires : goal.unchanged-requires
unchanged-requires c =
    let p = c.requires in
    let l = p.1 in
    let k = p.2 in
    ((p.0, omega arith, k), words_long _ _ _ p.3.noted.long)

pub strike-requires : goal.strike-requires
strike-requires c =
    let p = c.requires in
    let e = words_long _ _ _ p.3.noted.long in
    let f = p.0.few in
    let l = p.1 in
    let k = p.2 in
    (omega arith, omega arith, omega arith)

pub returns-then-terms-s : goal.returns-then-terms-s
returns-then-terms-s c =
    let p = c.requires in
    let l = p.1 in
    let k = p.2 in
    let b = rw (words_long _ _ _ p.3.noted.long) at p.4 in
    elim c.then-terms-s.branch [
      | then-terms-s-via-then-terms-s w ↦ (turn_no_exit p.0 c.args.at.struck (omega arith) k p.3 w.if-terms-s.true, refl)
      | then-terms-s-via-else-terms-s+then-unchanged w ↦
          let z = w.if-terms-s.false in
          (turn_quiet p.0 c.args.at.struck l k p.3 z b (λ R e. still_passes p.0 p.3.noted c.args.at.s c.args.at.t l k z b R e (w.unchanged.ensures w.if-unchanged.true)), refl)
    ]

pub returns-in-Plenty : goal.returns-in-Plenty
returns-in-Plenty c =
    let p = c.requires in
    let b = rw (words_long _ _ _ p.3.noted.long) at p.4 in
    (turn_quiet p.0 c.args.at.struck p.1 p.2 p.3 c.if-terms-s.false b c.in-Plenty.ensures, refl)

pub returns-in-Plenty-2 : goal.returns-in-Plenty-2
returns-in-Plenty-2 c =
    let p = c.requires in
    let b = rw (words_long _ _ _ p.3.noted.long) at p.4 in
    (turn_quiet p.0 c.args.at.struck p.1 p.2 p.3 c.if-terms-s.false b (λ R e. and_t _ _ (c.in-Plenty.ensures R e ∙ search rules)), refl)

pub returns-in-Forth : goal.returns-in-Forth
returns-in-Forth c =
    let p = c.requires in
    let b = rw (words_long _ _ _ p.3.noted.long) at p.4 in
    (rw c.ask.ensures (turn_waits p.0 c.args.at.struck p.1 p.2 p.3 c.if-terms-s.false b true (λ _. c.in-Forth.ensures)), refl)

pub returns-in-Unknown : goal.returns-in-Unknown
returns-in-Unknown c =
    let p = c.requires in
    let b = rw (words_long _ _ _ p.3.noted.long) at p.4 in
    (rw c.ask-in-Unknown.ensures (turn_waits p.0 c.args.at.struck p.1 p.2 p.3 c.if-terms-s.false b false (λ q. absurd (false≢true q))), refl)

pub returns-in-Both-false : goal.returns-in-Both-false
returns-in-Both-false c =
    let p = c.requires in
    let e = words_long _ _ _ p.3.noted.long in
    let b = rw e at p.4 in
    let S = rw e at c.strike.ensures in
    (turn_fails p.0 c.args.at.struck p.1 p.2 p.3 c.if-terms-s.false b (λ R q. c.in-Both-false.ensures R q ∙ c.in-Both-false.field-0-test) S.0 S.1, S.2)
