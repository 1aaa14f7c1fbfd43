-- What lasts while what is left and the labels change: the test, and the lists' lengths.
use mathlib.Core.Path.{◌≡◌, sym, ap, subst, ◌∙◌}
use Prim.Native.Nat.{ℕ, ◌*◌, ◌<◌, ◌≤◌}
use mathlib.Core.Bool.{Bool}
use mathlib.Core.List.{List}
use native.Mathlib.Omega.{arith}
use lib.ListN.{length, get_or}
use lib.Ieee.{Float, nan}
use Rattle.std.specs.Prelude.{Option}
use Rattle.std.specs.declared.ops.ControlFlow.TheVariants.{Continue}
use Rattle.flow_links.specs.declared.rows.Test.{Test}
use Rattle.flow_links.proofs.Fitting.{TestFit}
use Rattle.flow_routes.specs.declared.Reached.{Reached}
use Rattle.flow_routes.proofs.Coding as coding
use Rattle.flow_routes.proofs.Pathing as pathing
use Rattle.flow_routes.proofs.Reaching as reaching
use Rattle.flow_direct.specs.declared.search.Search.{Search}
use Rattle.flow_direct.specs.Lent.{Tried, Settling}

-- what is left at first is as long as the rates that it is a copy of, and has their entries
pub room_first : (T : Test) {A B F : List Float} → TestFit T → length T.left.targets.now * length T.right.targets.now ≤ length F → A ≡ T.left.rates.now → B ≡ T.right.rates.now → coding.Room T.left.targets.now T.right.targets.now T.states A B F
room_first T f m a b = record { states = f.states; lefts = f.left.few; rights = f.right.few; size_a = ap length a ∙ f.left.rates; size_b = ap length b ∙ f.right.rates; room_f = m }

pub entries_first : {A B : List Float} {n : ℕ} → A ≡ B → (i : ℕ) → i < n → get_or A i nan ≡ get_or B i nan
entries_first e i h = ap (λ (l : List Float). get_or l i nan) e

-- room for a test is room for it under another name, in lists that are as long
pub room_of : {T₀ T : Test} {A₀ B₀ F₀ A B F : List Float} → coding.Room T₀.left.targets.now T₀.right.targets.now T₀.states A₀ B₀ F₀ → T ≡ T₀ → coding.Sized A₀ B₀ F₀ A B F → coding.Room T.left.targets.now T.right.targets.now T.states A B F
room_of {A = A} {B = B} {F = F} r e z =
    subst (λ (T : Test). coding.Room T.left.targets.now T.right.targets.now T.states A B F) (sym e)
    (record { states = r.states; lefts = r.lefts; rights = r.rights; size_a = z.size_a ∙ r.size_a; size_b = z.size_b ∙ r.size_b; room_f = let f = r.room_f in let g = z.size_f in omega arith })

-- the turns of one row follow those before
pub given_joins : {T₀ T₁ T : Test} {A₀ B₀ F₀ A₁ B₁ F₁ A B F : List Float} {t₀ t₁ t : Float} {i₀ i₁ i : ℕ} → T₁ ≡ T₀ → coding.Giving T₀.left.targets.now T₀.right.targets.now T₀.states T₀.relation.now A₀ B₀ F₀ t₀ i₀ A₁ B₁ F₁ t₁ i₁ 0
    → (T ≡ T₁) × coding.Giving T₁.left.targets.now T₁.right.targets.now T₁.states T₁.relation.now A₁ B₁ F₁ t₁ i₁ A B F t i 0
    → (T ≡ T₀) × coding.Giving T₀.left.targets.now T₀.right.targets.now T₀.states T₀.relation.now A₀ B₀ F₀ t₀ i₀ A B F t i 0
given_joins {A₁ = A₁} {B₁ = B₁} {F₁ = F₁} {A = A} {B = B} {F = F} {t₁ = t₁} {t = t} {i₁ = i₁} {i = i} e I (d, J) = (
  d ∙ e,
  coding.giving_joins I (subst (λ (T : Test). coding.Giving T.left.targets.now T.right.targets.now T.states T.relation.now A₁ B₁ F₁ t₁ i₁ A B F t i 0) e J),
)

module _ (need : Float) (S₀ : Search) (t₀ : Float) (S : Search) (c : Reached) where
  -- a try leads on
  pub tried_on : Settling need S₀ t₀ S c → (S' : Search) (c' : Reached) → Tried need S c S' (Continue c') → Settling need S₀ t₀ S' c'
  tried_on (e, I) S' c' (d, Q) = (
    d ∙ e,
    subst (λ (T : Test). reaching.Tried T.left.targets.now T.right.targets.now T.states T.relation.now need S.rest.lefts.now S.rest.rights.now S.rest.flows.now S.labels.lefts.now S.labels.rights.now c.label c.flow S'.rest.lefts.now S'.rest.rights.now S'.rest.flows.now S'.labels.lefts.now S'.labels.rights.now (Continue c')) e Q _ _ _ _ _ _ I,
  )

-- what is known at the end of the tries is known of the search from the first labels
pub searched_from : {T₀ T : Test} (need t : Float) (A B F : List Float) (l r : List ℕ) (known : Option Bool) → T ≡ T₀ → length T₀.left.targets.now ≤ length l → length T₀.right.targets.now ≤ length r
    → ((i : ℕ) → i < length T₀.left.targets.now → get_or l i 0 ≡ reaching.label_of 2 1 (get_or A i nan)) → ((k : ℕ) → k < length T₀.right.targets.now → get_or r k 0 ≡ reaching.label_of 1 2 (get_or B k nan))
    → pathing.Settled T.left.targets.now T.right.targets.now T.states T.relation.now need A B F l r t known → reaching.Searched T₀.left.targets.now T₀.right.targets.now T₀.states T₀.relation.now need A B F t known
searched_from need t A B F l r known e hl hr one two D =
    reaching.searched _ _ _ _ need A B F l r t known hl hr one two (subst (λ (T : Test). pathing.Settled T.left.targets.now T.right.targets.now T.states T.relation.now need A B F l r t known) e D)
