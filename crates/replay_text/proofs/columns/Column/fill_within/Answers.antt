use Rattle.std.proofs.Common.{rules, ◌≡◌, ◌≤◌, ap, ◌∙◌, ℕ, length, min}
use native.Mathlib.Omega.{arith}
use lib.Seq.{length-take-le}
use Rattle.replay_text.specs.Words.{values, behind, next_field_size}
use Rattle.replay_text.proofs.Words.{values_length, take_front}
use Rattle.replay_text.proofs.columns.Column.fill_within.Goals as goal

pub returns-clause-read : goal.returns-clause-read
returns-clause-read g c =
    let e : length c.args.self.now.entries ≡ g.row.N = search rules in
    let u = c.next_size_field-n.new.self.rest.now in
    let t = c.args.r.now.rest.now in
    let read = c.next_size_field-n.ensures.read in
    let n = read.0 ∙ ap (λ (k : ℕ). next_field_size k t) c.min.ensures in
    let h : c.next_size_field-n.result ≤ length c.args.self.now.entries = omega (arith, c.next_size_field-n.ensures.room, c.min.ensures, e) in
    let size = length-take-le c.next_size_field-n.result c.args.self.now.entries h in
    (n, c.next_each.ensures.read.1 ∙ ap (λ (k : ℕ). behind g.T.NextEntry.past k u) (size ∙ n) ∙ ap (behind g.T.NextEntry.past (next_field_size (min c.args.room g.row.N) t)) read.1)

pub returns-clause-entries : goal.returns-clause-entries
returns-clause-entries g c =
    let e : length c.args.self.now.entries ≡ g.row.N = search rules in
    let u = c.next_size_field-n.new.self.rest.now in
    let t = c.args.r.now.rest.now in
    let read = c.next_size_field-n.ensures.read in
    let n = read.0 ∙ ap (λ (k : ℕ). next_field_size k t) c.min.ensures in
    let value = g.T.NextEntry.said in
    let next = g.T.NextEntry.past in
    let h : c.next_size_field-n.result ≤ length c.args.self.now.entries = omega (arith, c.next_size_field-n.ensures.room, c.min.ensures, e) in
    let size = length-take-le c.next_size_field-n.result c.args.self.now.entries h in
    take_front _ c.next_each.new.list _ (ap length c.next_each.ensures.read.0 ∙ values_length _ _ _ _ ∙ size)
    ∙ c.next_each.ensures.read.0 ∙ ap (λ (k : ℕ). values value next k u) (size ∙ n) ∙ ap (values value next (next_field_size (min c.args.room g.row.N) t)) read.1
