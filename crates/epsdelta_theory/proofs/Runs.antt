-- What holds of every run of sweeps, whatever its test of a pair, if its rate test holds of a state with itself: the final relation, standing and missing pairs, strikes.
-- The strikes lead from the marks, which are symmetric, to the final relation (Strikes), and the run ends with a sweep in which every pair passes (Sweeps).
use mathlib.Core.Path.{◌≡◌, refl, sym, subst, ap, ◌∙◌}
use Prim.Native.Nat.{ℕ, ◌<◌, ◌+◌, ◌*◌, ◌/◌}
use mathlib.Core.Bool.{Bool, true, false}
use mathlib.Core.List.{List}
use lib.ListN.{length}
use Rattle.numbers.specs.Bits.{packed}
use Rattle.numbers.specs.Lists.{In}
use Rattle.numbers.proofs.Packed.{packed_length}
use Rattle.epsdelta_theory.specs.Relation.{holds, relation_bytes}
use Rattle.epsdelta_theory.specs.Sweeps.{Task, Strike, run}
use Rattle.epsdelta_theory.specs.Claim.{Symmetric, Reflexive, Stands, Struck, Trail, Ended}
use Rattle.epsdelta_theory.proofs.Marks.{marks_below, marks_symmetric, marks_self, marked_known, marked_of}
use Rattle.epsdelta_theory.proofs.Sweeps.{Justified, finished}
use Rattle.epsdelta_theory.proofs.Strikes.{trail_within, trail_length, trail_marks, trail_justified, trail_gone, trail_self, trail_symmetric}

module _ (Q : Task) where
  abbrev n : ℕ
  n = Q.states

  abbrev relation : List Bool
  relation = (run Q).relation

  abbrev strikes : List Strike
  strikes = (run Q).strikes

  pub run_trail : Trail Q (run Q).strikes (run Q).relation
  run_trail = (finished Q).kept.trail

  pub run_length : length (run Q).relation ≡ Q.states * Q.states
  run_length = trail_length Q strikes relation run_trail

  -- the bytes that the relation takes
  pub run_bytes : length (packed (run Q).relation) ≡ relation_bytes Q.states
  run_bytes = packed_length (run Q).relation ∙ ap (λ (m : ℕ). (m + 7) / 8) run_length

  pub run_ended : Ended Q (run Q)
  run_ended = (finished Q).ended

  pub run_symmetric : Symmetric Q.states (run Q).relation
  run_symmetric = trail_symmetric Q strikes relation run_trail (finished Q).kept.justified (marks_symmetric Q)

  pub run_reflexive : ((s : ℕ) → s < Q.states → Q.rates_pass s s ≡ true) → Reflexive Q.states (run Q).relation
  run_reflexive self s h = trail_self Q strikes relation run_trail (finished Q).kept.justified s h (marks_self Q s h (self s h))

  pub run_standing : (s t : ℕ) → s < t → t < Q.states → holds Q.states (run Q).relation s t ≡ true → Stands Q (run Q).relation s t
  run_standing s t l h p =
      let m = marked_known Q s t (sym (marks_below Q s t l h) ∙ trail_marks Q strikes relation run_trail s t p) in
      record { classes = m.0; rates = m.1; forth = λ z. ((finished Q).passing s t l h p z).0; back = λ z. ((finished Q).passing s t l h p z).1 }

  -- every strike was made for a reason
  pub run_justified : (k : Strike) → In k (run Q).strikes → Justified Q k
  run_justified k i = trail_justified Q strikes (finished Q).kept.justified k i

  pub run_struck : (k : Strike) → In k (run Q).strikes → (k.low < k.high) × (k.high < Q.states) × Struck Q (run Q) k.low k.high k
  run_struck k i =
      let a : Justified Q k = run_justified k i in
      (a.apart, a.inside, record { listed = i; low = refl; high = refl; stood = a.stood; exits = a.exits; forth = a.forth; failed = a.failed; within = trail_within Q strikes relation run_trail k i })

  pub run_missing : (s t : ℕ) → s < t → t < Q.states → Q.class s ≡ Q.class t → Q.rates_pass s t ≡ true → holds Q.states (run Q).relation s t ≡ false
      → (k : Strike) × Struck Q (run Q) s t k
  run_missing s t l h c r g =
      let (k, i, p, q) = trail_gone Q strikes relation run_trail (finished Q).kept.justified s t l h (marks_below Q s t l h ∙ marked_of Q s t c r) g in
      let a : Justified Q k = run_justified k i in (
        k,
        record {
          listed = i;
          low = p;
          high = q;
          stood = subst (λ (x : ℕ). holds n k.before s x ≡ true) q (subst (λ (x : ℕ). holds n k.before x k.high ≡ true) p a.stood);
          exits = subst (λ (x : ℕ). Q.no_exit x ≡ false) p a.exits;
          forth = λ b. subst (λ (x : ℕ). Q.test k.before s x ≡ true) q (subst (λ (x : ℕ). Q.test k.before x k.high ≡ true) p (a.forth b));
          within = trail_within Q strikes relation run_trail k i;
          failed = a.failed;
        },
      )
