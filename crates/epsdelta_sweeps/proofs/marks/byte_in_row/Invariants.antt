-- The invariant: the byte is the number of the entries of row s from i on, and has room for those before it, j of the eight.
use Rattle.std.proofs.Common.{◌≡◌, ◌+◌, ◌-◌, ◌*◌, ◌^◌, ◌≤◌, length, take, drop}
use Rattle.numbers.specs.Bits.{bits}
use Rattle.epsdelta_theory.specs.Sweeps.{Task, marks}
use Rattle.epsdelta_sweeps.specs.Marked.{MarksOf}
use Rattle.epsdelta_sweeps.proofs.marks.byte_in_row.Given as goal

abbrev pub invariant-loop-i : goal.invariant-loop-i
invariant-loop-i l =
    let j = l.i - l.t in
    (l.t ≤ l.i) × (l.i ≤ l.t + 8) × ((l.byte + 1) * 2 ^ j ≤ 256) × ((Q : Task) → MarksOf Q l.of → l.byte ≡ bits (drop j (take 8 (drop (l.s * length l.of.classes.now + l.t) (marks Q)))))
