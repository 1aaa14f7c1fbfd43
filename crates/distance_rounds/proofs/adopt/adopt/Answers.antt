-- By the cases of the tests (Steps).
use mathlib.Core.Path.{◌≡◌}
use Rattle.std.proofs.Common.{rules}
use Rattle.distance_rounds.proofs.Steps.{no_gain, no_places, no_masses, adopts}
use Rattle.distance_rounds.proofs.adopt.adopt.Goals as goal
use Rattle.distance_rounds.proofs.adopt.adopt.Goals.{then-from-n-via-then-from-n, then-from-n-via-else-from-n+then-from-n-2}

pub returns-then-not-value-current-clause-adopted : goal.returns-then-not-value-current-clause-adopted
returns-then-not-value-current-clause-adopted c =
    let a = c.args in
    no_gain a.value a.shares.now a.values.now a.k a.starts.now a.store.now c.read.result c.read.ensures c.shares.result c.shares.ensures _ c.expected-current.ensures c.if-not-value-current.true

pub returns-then-from-n-clause-adopted : goal.returns-then-from-n-clause-adopted
returns-then-from-n-clause-adopted c =
    let a = c.args in
    elim c.then-from-n.branch [
      | then-from-n-via-then-from-n w ↦ no_places a.value a.shares.now a.values.now a.k a.starts.now a.store.now c.read.result c.read.ensures c.shares.result c.shares.ensures _ c.expected-current.ensures c.if-not-value-current.false w.if-from-n.true
      | then-from-n-via-else-from-n+then-from-n-2 w ↦
          no_masses a.value a.shares.now a.values.now a.k a.starts.now a.store.now c.read.result c.read.ensures c.shares.result c.shares.ensures _ c.expected-current.ensures c.if-not-value-current.false w.if-from-n.false w.if-from-n-2.true
    ]

pub returns-clause-adopted : goal.returns-clause-adopted
returns-clause-adopted c =
    let a = c.args in
    let u : c.copy_from_slice.new.self ≡ a.shares.now.places.now = search rules in
    let w : c.copy_from_slice-2.new.self ≡ a.shares.now.masses.now = search rules in
    adopts a.value a.shares.now a.values.now a.k a.starts.now a.store.now c.read.result c.read.ensures c.shares.result c.shares.ensures _ c.expected-current.ensures c.if-not-value-current.false c.if-from-n.false c.if-from-n-2.false c.requires.2 _ _ u w
