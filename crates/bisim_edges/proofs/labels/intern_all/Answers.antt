use mathlib.Core.Path.{refl, sym, ◌∙◌}
use Rattle.bisim_edges.proofs.Interns.{old_at, new_at, turn_old, turn_new, full, interned}
use borrow.Author.Rules.{rules}
use Rattle.bisim_edges.proofs.labels.intern_all.Goals.{in-Some, in-None+else-new-store}
use Rattle.bisim_edges.proofs.labels.intern_all.Goals as goal

pub returns-then-new-store : goal.returns-then-new-store
returns-then-new-store c =
    let I = c.loop-i.invariant.0 in
    let h = c.loop-i-test.true in
    full I h _ (new_at I h (sym c.in-None.is ∙ c.place.ensures)) refl (c.if-new-store.true ∙ I.store_size)

pub loop-i-preserved : goal.loop-i-preserved
loop-i-preserved c =
    let h = c.loop-i-test.true in
    let I = c.loop-i.invariant.0 in
    let r = c.requires.0 in (
      elim c.match-place.branch [
        | in-None+else-new-store v ↦ turn_new I h _ (v.k-is ∙ new_at I h (sym v.in-None.is ∙ c.place.ensures)) v.k-is r (λ e. v.if-new-store.false (e ∙ sym I.store_size)) _ _ v.store-is v.count-is
        | in-Some v ↦ let p = old_at I h v.in-Some.at (sym v.in-Some.is ∙ c.place.ensures) in turn_old I h _ r (v.k-is ∙ p.0) (λ q. p.1 (sym v.k-is ∙ q)) _ _ v.store-is v.count-is
      ],
      (let g = c.loop-i.invariant.1 in search rules),
    )

pub returns : goal.returns
returns c = interned c.loop-i.invariant.0 c.loop-i-test.false
