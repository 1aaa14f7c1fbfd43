-- Words of private contracts: a whole path by labels, the least that is left on it, the push along it, and one step of the search for a flow that is enough.
use mathlib.Core.Path.{◌≡◌, refl, sym, ap, subst, subst⁻¹, ◌∙◌}
use Prim.Native.Nat.{ℕ, suc, ◌≤◌, ◌<◌, ◌+◌, ◌-◌, ◌*◌}
use mathlib.Core.Bool.{Bool, true, false}
use mathlib.Core.Logic.{◌≢◌, ◌⊎◌, inl, inr}
use mathlib.Core.List.{List}
use native.Mathlib.Omega.{arith}
use lib.ListN.{length, get_or, set, length-set}
use lib.Ieee.{Float, nan, inf, binary64, lt, le, add, sub}
use Rattle.std.specs.Prelude.{Option, Some, IfSome}
use Rattle.numbers.specs.Real.{eps}
use Rattle.numbers.specs.Bits.{bit_at}
use Rattle.numbers.specs.Choice.{smaller}
use Rattle.numbers.proofs.Bools.{eq_or_ne}
use Rattle.numbers.proofs.Floats.{Plain}
use Rattle.flow_theory.specs.Augment.{least}
use Rattle.flow_routes.specs.declared.Stop.{Stop}
use Rattle.flow_routes.specs.declared.Stop.TheVariants as stops
use Rattle.flow_routes.specs.declared.Step.{Step}
use Rattle.flow_routes.specs.declared.Step.TheVariants as steps
use Rattle.flow_routes.proofs.Standing.{Rows, flow_of, Standing, Labelled, enough, smaller_above, smaller_plain, raise_left, raise_right, raise_source}
use Rattle.flow_routes.proofs.Ways.{Trace, way, whole_way, least_begins, least_falls, least_ends, Sending, Sent, plus, minus, sends_source, sends_hop, sends_last, sent_stands, gap_ends}
use Rattle.flow_routes.proofs.Coding.{Reads, Sized, StartsAt, Walking}

-- ---- a whole path

pub record Onway (G : Rows) (b : ℕ) (A B F : List Float) (l r : List ℕ) (s : ℕ) (Ls Rs : List ℕ) (t : Float) : Type 0 where
  pub width : length G.pt ≡ b
  pub standing : Standing G A B F t
  pub labelled : Labelled G A B F l r s
  pub trace : Trace G A F l r s Ls Rs 1 0
  pub spare : lt eps (get_or B (get_or Rs 1 0) nan) ≡ true

-- the least that is left on it is what is left of x from label g on
abbrev pub LeastOn : ℕ → List Float → List Float → List Float → ℕ → List ℕ → List ℕ → ℕ → Float → Type 0
LeastOn b A B F s Ls Rs g x = (G : Rows) (l r : List ℕ) (t : Float) (O : Onway G b A B F l r s Ls Rs t)
    → (Plain x) × (lt eps x ≡ true) × (least O.standing.caps x (way G Ls Rs g) ≡ least O.standing.caps (inf false) (whole_way G Ls Rs s))

-- x is the least that is left on it
abbrev pub LeastIs : ℕ → List Float → List Float → List Float → ℕ → List ℕ → List ℕ → Float → Type 0
LeastIs b A B F s Ls Rs x = (G : Rows) (l r : List ℕ) (t : Float) (O : Onway G b A B F l r s Ls Rs t)
    → (Plain x) × (lt eps x ≡ true) × (x ≡ least O.standing.caps (inf false) (whole_way G Ls Rs s))

module _ (b : ℕ) (A B F : List Float) (s : ℕ) (Ls Rs : List ℕ) where
  pub least_starts : LeastOn b A B F s Ls Rs s (get_or A (get_or Ls s 0) nan)
  least_starts G l r t O = let (p, e) = least_begins O.standing O.labelled O.trace O.spare in (p, O.trace.on, sym e)

  pub least_turns : (g : ℕ) (x : Float) → LeastOn b A B F s Ls Rs g x → 1 < g → g ≤ s → (e : ℕ) (y : Float) → e ≡ get_or Ls (g - 1) 0 * b + get_or Rs g 0 → y ≡ smaller x (get_or F e nan) → LeastOn b A B F s Ls Rs (g - 1) y
  least_turns g x I lo hi e y ee ey G l r t O =
      let (p, o, z) = I G l r t O in
      let (q, u, w) = least_falls O.standing O.labelled O.trace O.spare g (g - 1) (omega arith) (omega arith) hi x p o in
      let k : y ≡ smaller x (get_or F (get_or Ls (g - 1) 0 * length G.pt + get_or Rs g 0) nan)
      = ey ∙ ap (λ (v : ℕ). smaller x (get_or F v nan)) ee ∙ ap (λ (v : ℕ). smaller x (get_or F (get_or Ls (g - 1) 0 * v + get_or Rs g 0) nan)) (sym O.width) in
      rw k (q, u, sym w ∙ z)

  pub least_done : 1 ≤ s → (g : ℕ) (x : Float) → LeastOn b A B F s Ls Rs g x → g ≡ 1 → (y : Float) → y ≡ smaller x (get_or B (get_or Rs 1 0) nan) → LeastIs b A B F s Ls Rs y
  least_done hi g x I e y ey G l r t O =
      let (p, o, z) = I G l r t O in
      let w : least O.standing.caps x (way G Ls Rs 1) ≡ least O.standing.caps (inf false) (whole_way G Ls Rs s) = ap (λ (v : ℕ). least O.standing.caps x (way G Ls Rs v)) (sym e) ∙ z in
      rw ey (
        smaller_plain x (get_or B (get_or Rs 1 0) nan) p O.spare,
        smaller_above x (get_or B (get_or Rs 1 0) nan) o O.spare,
        sym (least_ends O.standing O.labelled O.trace O.spare hi x p) ∙ w,
      )

-- ---- the push of the least along it

-- x was pushed as far as label g
abbrev pub SendsOn : ℕ → List Float → List Float → List Float → ℕ → List ℕ → List ℕ → Float → ℕ → List Float → List Float → List Float → Type 0
SendsOn b A₀ B₀ F₀ s Ls Rs x g A B F = LeastIs b A₀ B₀ F₀ s Ls Rs x → (G : Rows) (l r : List ℕ) (t : Float) (O : Onway G b A₀ B₀ F₀ l r s Ls Rs t) → Sending G O.standing.caps x A B F l r s Ls Rs g

-- the whole push is one step of the run, and the labels stay bounds
abbrev pub SendsAll : ℕ → List Float → List Float → List Float → ℕ → List ℕ → List ℕ → Float → List Float → List Float → List Float → Type 0
SendsAll b A₀ B₀ F₀ s Ls Rs x A B F = LeastIs b A₀ B₀ F₀ s Ls Rs x → (G : Rows) (l r : List ℕ) (t : Float) → Onway G b A₀ B₀ F₀ l r s Ls Rs t → Standing G A B F (add binary64 t x) × Labelled G A B F l r s

module _ (b : ℕ) (A₀ B₀ F₀ : List Float) (s : ℕ) (Ls Rs : List ℕ) (x : Float) where
  pub sends_first : SendsOn b A₀ B₀ F₀ s Ls Rs x s (set A₀ (get_or Ls s 0) (sub binary64 (get_or A₀ (get_or Ls s 0) nan) x)) B₀ F₀
  sends_first L G l r t O = sends_source O.trace (L G l r t O).0 O.standing.mapped O.labelled

  pub sends_turns : (g : ℕ) (A B F : List Float) → SendsOn b A₀ B₀ F₀ s Ls Rs x g A B F → 1 < g → g ≤ s → (e f : ℕ) (F₁ F₂ : List Float) → e ≡ get_or Ls g 0 * b + get_or Rs g 0 → F₁ ≡ plus x F e
      → f ≡ get_or Ls (g - 1) 0 * b + get_or Rs g 0 → F₂ ≡ minus x F₁ f → SendsOn b A₀ B₀ F₀ s Ls Rs x (g - 1) A B F₂
  sends_turns g A B F I lo hi e f F₁ F₂ ee e₁ ef e₂ L G l r t O =
      let k : F₂ ≡ minus x (plus x F (get_or Ls g 0 * length G.pt + get_or Rs g 0)) (get_or Ls (g - 1) 0 * length G.pt + get_or Rs g 0)
      = e₂ ∙ ap (λ (v : List Float). minus x v f) (e₁ ∙ ap (plus x F) ee) ∙ ap (minus x (plus x F (get_or Ls g 0 * b + get_or Rs g 0))) ef
      ∙ ap (λ (v : ℕ). minus x (plus x F (get_or Ls g 0 * v + get_or Rs g 0)) (get_or Ls (g - 1) 0 * v + get_or Rs g 0)) (sym O.width) in
      rw k (sends_hop O.trace (L G l r t O).0 g (g - 1) (omega arith) (omega arith) hi (I L G l r t O))

  pub sends_done : 1 ≤ s → (g : ℕ) (A B F : List Float) → SendsOn b A₀ B₀ F₀ s Ls Rs x g A B F → g ≡ 1 → (e : ℕ) (A' B' F' : List Float) → e ≡ get_or Ls 1 0 * b + get_or Rs 1 0 → F' ≡ plus x F e → A' ≡ A → B' ≡ minus x B (get_or Rs 1 0)
      → SendsAll b A₀ B₀ F₀ s Ls Rs x A' B' F'
  sends_done hi g A B F I z e A' B' F' ee ef ea eb L G l r t O =
      let (p, o, q) = L G l r t O in
      let J : Sending G O.standing.caps x A B F l r s Ls Rs 1 = subst (Sending G O.standing.caps x A B F l r s Ls Rs) z (I L G l r t O) in
      let k : F' ≡ plus x F (get_or Ls 1 0 * length G.pt + get_or Rs 1 0) = ef ∙ ap (plus x F) ee ∙ ap (λ (v : ℕ). plus x F (get_or Ls 1 0 * v + get_or Rs 1 0)) (sym O.width) in
      let Q : Sent G O.standing.caps x A' B' F' l r s Ls Rs = rw (k, ea, eb) (sends_last O.trace p hi J) in
      (sent_stands O.standing O.labelled O.trace O.spare q o Q, Q.labelled)

-- the lists after the push are as long as before
pub sends_sized : (A₀ B₀ F₀ : List Float) (x : Float) (i k e : ℕ) (A B F F' : List Float) → A ≡ minus x A₀ i → B ≡ minus x B₀ k → length F ≡ length F₀ → F' ≡ plus x F e → Sized A₀ B₀ F₀ A B F'
sends_sized A₀ B₀ F₀ x i k e A B F F' ea eb z ef = record { size_a = ap length ea ∙ length-set A₀ i _; size_b = ap length eb ∙ length-set B₀ k _; size_f = ap length ef ∙ length-set F e _ ∙ z }

pub turn_sized : (x : Float) (n e f : ℕ) (F F₁ F₂ : List Float) → length F ≡ n → F₁ ≡ plus x F e → F₂ ≡ minus x F₁ f → length F₂ ≡ n
turn_sized x n e f F F₁ F₂ z e₁ e₂ = ap length e₂ ∙ length-set F₁ f _ ∙ ap length e₁ ∙ length-set F e _ ∙ z

-- ---- where a walk ends

-- at a target of s or of t from where no link falls, or at a target of t with label 1
abbrev pub Stopped : List ℕ → List ℕ → ℕ → List ℕ → List Float → List ℕ → List ℕ → ℕ → ℕ → List ℕ → List ℕ → Stop → Type 0
Stopped us ts n store F l r s start Ls Rs (stops.Left g) = Walking us ts n store F l r s start Ls Rs g g × ((k : ℕ) → k < length ts → (get_or r k 0 ≡ g) × (bit_at store (get_or us (get_or Ls g 0) 0 * n + get_or ts k 0) ≡ true) → ⊥)
Stopped us ts n store F l r s start Ls Rs (stops.Right g) = Walking us ts n store F l r s start Ls Rs g (g - 1) × (1 < g) × ((i : ℕ) → i < length us → (get_or l i 0 ≡ g - 1) × (lt eps (get_or F (i * length ts + get_or Rs g 0) nan) ≡ true) → ⊥)
Stopped us ts n store F l r s start Ls Rs stops.Sink = Walking us ts n store F l r s start Ls Rs 1 0

module _ {us ts : List ℕ} {n : ℕ} {store : List ℕ} {F : List Float} {l r : List ℕ} {s start : ℕ} {Ls Rs : List ℕ} {g : ℕ} where
  pub stops_right : Walking us ts n store F l r s start Ls Rs g (g - 1) → g ≢ 1 → ((i : ℕ) → i < length us → (get_or l i 0 ≡ g - 1) × (lt eps (get_or F (i * length ts + get_or Rs g 0) nan) ≡ true) → ⊥)
      → Stopped us ts n store F l r s start Ls Rs (stops.Right g)
  stops_right W d none = (W, (let o = W.placed.some in omega arith), none)

  pub stops_sink : Walking us ts n store F l r s start Ls Rs g (g - 1) → g ≡ 1 → Stopped us ts n store F l r s start Ls Rs stops.Sink
  stops_sink W e = subst (λ (y : ℕ). Walking us ts n store F l r s start Ls Rs y (y - 1)) e W

-- ---- one step: a label rises, or a push is made

-- what a step leaves of a flow test: its flow is t + x after a push of x, and t otherwise; after a cut t is the flow of the whole run
abbrev pub After : Rows → List Float → List Float → List Float → List ℕ → List ℕ → ℕ → Float → Step → Type 0
After G A B F l r s t (steps.Pushed x) = Standing G A B F (add binary64 t x) × Labelled G A B F l r s
After G A B F l r s t steps.Risen = Standing G A B F t × Labelled G A B F l r s
After G A B F l r s t steps.Cut = Standing G A B F t × Labelled G A B F l r s × (t ≡ flow_of G)

-- of every flow test that the lists are of
pub record Stepped (us ts : List ℕ) (n : ℕ) (store : List ℕ) (A₀ B₀ F₀ : List Float) (l₀ r₀ : List ℕ) (s start : ℕ) (A B F : List Float) (l r : List ℕ) (step : Step) : Type 0 where
  pub sized : Sized A₀ B₀ F₀ A B F
  pub size_l : length l ≡ length l₀
  pub size_r : length r ≡ length r₀
  pub after : (G : Rows) → Reads G us ts n store → (t : Float) → Standing G A₀ B₀ F₀ t → Labelled G A₀ B₀ F₀ l₀ r₀ s → StartsAt A₀ l₀ s (length us) start → After G A B F l r s t step

module _ {us ts : List ℕ} {n : ℕ} {store : List ℕ} {A B F : List Float} {l r : List ℕ} {s start : ℕ} {Ls Rs : List ℕ} where
  -- the label of a target of s rises; where none has the old one, there is a cut
  module _ {g : ℕ} (W : Walking us ts n store F l r s start Ls Rs g g) (none : (k : ℕ) → k < length ts → (get_or r k 0 ≡ g) × (bit_at store (get_or us (get_or Ls g 0) 0 * n + get_or ts k 0) ≡ true) → ⊥) (room : length us ≤ length l) {l' : List ℕ} (e : l' ≡ set l (get_or Ls g 0) (g + 1)) where
    raised_left : (G : Rows) → Reads G us ts n store → (t : Float) → Standing G A B F t → Labelled G A B F l r s → StartsAt A l s (length us) start → Labelled G A B F l' r s
    raised_left G R t S J I =
        let T = W.traced G R A B t S I in
        let u = W.placed.upto in
        let q = (T.left g (omega arith) u).label in
        let k = W.placed.lefts g (omega arith) u in
        subst⁻¹ (λ (y : List ℕ). Labelled G A B F y r s) (e ∙ ap (λ (y : ℕ). set l (get_or Ls g 0) (y + 1)) (sym q))
        (raise_left J (get_or Ls g 0) (omega arith) (omega arith) (λ j h v z. none j (rw (← R.rights) h) (z ∙ q, R.bit (get_or Ls g 0) j ∙ v)))

    pub steps_left : Stepped us ts n store A B F l r s start A B F l' r steps.Risen
    steps_left = record { sized = record { size_a = refl; size_b = refl; size_f = refl }; size_l = ap length e ∙ length-set l (get_or Ls g 0) (g + 1); size_r = refl; after = λ G R t S J I. (S, raised_left G R t S J I) }

    pub steps_cut : ((j : ℕ) → j < length us → get_or l' j 0 ≢ g) → Stepped us ts n store A B F l r s start A B F l' r steps.Cut
    steps_cut c = record {
      sized = record { size_a = refl; size_b = refl; size_f = refl };
      size_l = ap length e ∙ length-set l (get_or Ls g 0) (g + 1);
      size_r = refl;
      after = λ G R t S J I. (S, raised_left G R t S J I, gap_ends S (raised_left G R t S J I) g W.placed.some W.placed.upto (λ i h. c i (rw (← R.lefts) h)));
    }

  -- the label of a target of t rises: at label 1 nothing is left of it to the sink, above it no target of s with the label below takes back from it
  pub steps_right : {g : ℕ} → Walking us ts n store F l r s start Ls Rs g (g - 1) → (g ≡ 1 → lt eps (get_or B (get_or Rs g 0) nan) ≡ false)
      → (g ≢ 1 → (i : ℕ) → i < length us → (get_or l i 0 ≡ g - 1) × (lt eps (get_or F (i * length ts + get_or Rs g 0) nan) ≡ true) → ⊥)
      → length ts ≤ length r → {r' : List ℕ} → r' ≡ set r (get_or Rs g 0) (g + 1) → Stepped us ts n store A B F l r s start A B F l r' steps.Risen
  steps_right {g} W off none room {r'} e = record {
    sized = record { size_a = refl; size_b = refl; size_f = refl };
    size_l = refl;
    size_r = ap length e ∙ length-set r (get_or Rs g 0) (g + 1);
    after = λ G R t S J I. (S, raised G R t S J I);
  }
    where
      shut : (G : Rows) → Labelled G A B F l r s → get_or Rs g 0 < length G.pt → get_or r (get_or Rs g 0) 0 ≡ g → (b : Bool) → lt eps (get_or B (get_or Rs g 0) nan) ≡ b → (g ≡ 1) ⊎ (g ≢ 1) → b ≡ false
      shut G J h q false o w = refl
      shut G J h q true o (inl z) = sym o ∙ off z
      shut G J h q true o (inr d) = let k = J.labels.sink (get_or Rs g 0) h o in let y = W.placed.some in absurd (omega arith)

      none_back : (G : Rows) → Reads G us ts n store → Labelled G A B F l r s → get_or r (get_or Rs g 0) 0 ≡ g → (i : ℕ) → i < length G.ps → lt eps (get_or F (i * length G.pt + get_or Rs g 0) nan) ≡ true → suc (get_or l i 0) ≡ get_or r (get_or Rs g 0) 0
          → (g ≡ 1) ⊎ (g ≢ 1) → ⊥
      none_back G R J q i h o z (inl y) = let k = J.labels.least i h in omega arith
      none_back G R J q i h o z (inr d) = none d i (rw (← R.lefts) h) (omega arith, ap (λ (y : ℕ). lt eps (get_or F (i * y + get_or Rs g 0) nan)) (sym R.rights) ∙ o)

      raised : (G : Rows) → Reads G us ts n store → (t : Float) → Standing G A B F t → Labelled G A B F l r s → StartsAt A l s (length us) start → Labelled G A B F l r' s
      raised G R t S J I =
          let T = W.traced G R A B t S I in
          let u = W.placed.upto in
          let o = W.placed.some in
          let Y = T.forth g (omega arith) u in
          let q = Y.label in
          let k = W.placed.rights g (omega arith) u in
          subst⁻¹ (λ (y : List ℕ). Labelled G A B F l y s) (e ∙ ap (λ (y : ℕ). set r (get_or Rs g 0) (y + 1)) (sym q))
          (raise_right J (get_or Rs g 0) (omega arith) (shut G J Y.low q (lt eps (get_or B (get_or Rs g 0) nan)) refl (eq_or_ne g 1)) (λ i h v w z. none_back G R J q i h w z (eq_or_ne g 1)))

  -- a push along a whole path
  pub steps_push : Walking us ts n store F l r s start Ls Rs 1 0 → lt eps (get_or B (get_or Rs 1 0) nan) ≡ true → {x : Float} → LeastIs (length ts) A B F s Ls Rs x → {A' B' F' : List Float} → Sized A B F A' B' F'
      → SendsAll (length ts) A B F s Ls Rs x A' B' F' → Stepped us ts n store A B F l r s start A' B' F' l r (steps.Pushed x)
  steps_push W on {x} L Z Q = record {
    sized = Z;
    size_l = refl;
    size_r = refl;
    after = λ G R t S J I. Q L G l r t (record { width = R.rights; standing = S; labelled = J; trace = W.traced G R A B t S I; spare = on });
  }

-- ---- the search for a flow that is enough

-- on its way: of every flow test that the lists are of, the flow is t so far, and not enough
pub record Settling (us ts : List ℕ) (n : ℕ) (store : List ℕ) (need : Float) (A₀ B₀ F₀ : List Float) (l₀ r₀ : List ℕ) (t₀ : Float) (A B F : List Float) (l r : List ℕ) (s : ℕ) (t : Float) : Type 0 where
  pub sized : Sized A₀ B₀ F₀ A B F
  pub size_l : length l ≡ length l₀
  pub size_r : length r ≡ length r₀
  pub some : 1 ≤ s
  pub few : s ≤ 8
  pub short : le need t₀ ≡ false → le need t ≡ false
  pub state : (G : Rows) → Reads G us ts n store → Standing G A₀ B₀ F₀ t₀ → Labelled G A₀ B₀ F₀ l₀ r₀ 2 → Standing G A B F t × Labelled G A B F l r s

-- what is known at its end, if anything is
abbrev pub Settled : List ℕ → List ℕ → ℕ → List ℕ → Float → List Float → List Float → List Float → List ℕ → List ℕ → Float → Option Bool → Type 0
Settled us ts n store need A₀ B₀ F₀ l₀ r₀ t₀ known =
    IfSome known (λ passes. le need t₀ ≡ false → (G : Rows) → Reads G us ts n store → Standing G A₀ B₀ F₀ t₀ → Labelled G A₀ B₀ F₀ l₀ r₀ 2 → passes ≡ le need (flow_of G))

module _ {us ts : List ℕ} {n : ℕ} {store : List ℕ} {need : Float} {A₀ B₀ F₀ : List Float} {l₀ r₀ : List ℕ} {t₀ : Float} {A B F : List Float} {l r : List ℕ} {s : ℕ} {t : Float} (I : Settling us ts n store need A₀ B₀ F₀ l₀ r₀ t₀ A B F l r s t) where
  -- the source's label rises
  pub settling_rises : s < 8 → {start : ℕ} → StartsAt A l s (length us) start → start ≡ length us → Settling us ts n store need A₀ B₀ F₀ l₀ r₀ t₀ A B F l r (s + 1) t
  settling_rises h Q e = record {
    sized = I.sized;
    size_l = I.size_l;
    size_r = I.size_r;
    some = omega arith;
    few = omega arith;
    short = I.short;
    state = λ G R S J. let (X, Y) = I.state G R S J in (X, raise_source Y (λ i g o z. Q.none i (let a = R.lefts in omega arith) (o, z)));
  }

  -- a step: what it keeps
  module _ {start : ℕ} {A' B' F' : List Float} {l' r' : List ℕ} {step : Step} (Q : Stepped us ts n store A B F l r s start A' B' F' l' r' step) where
    next : {x : Float} → (le need t₀ ≡ false → le need x ≡ false) → ((G : Rows) → Reads G us ts n store → Standing G A₀ B₀ F₀ t₀ → Labelled G A₀ B₀ F₀ l₀ r₀ 2 → Standing G A' B' F' x × Labelled G A' B' F' l' r' s)
        → Settling us ts n store need A₀ B₀ F₀ l₀ r₀ t₀ A' B' F' l' r' s x
    next short state = record {
      sized = record { size_a = Q.sized.size_a ∙ I.sized.size_a; size_b = Q.sized.size_b ∙ I.sized.size_b; size_f = Q.sized.size_f ∙ I.sized.size_f };
      size_l = Q.size_l ∙ I.size_l;
      size_r = Q.size_r ∙ I.size_r;
      some = I.some;
      few = I.few;
      short = short;
      state = state;
    }

  module _ {start : ℕ} {A' B' F' : List Float} {l' r' : List ℕ} (P : StartsAt A l s (length us) start) where
    -- without a push
    pub settling_stays : Stepped us ts n store A B F l r s start A' B' F' l' r' steps.Risen → Settling us ts n store need A₀ B₀ F₀ l₀ r₀ t₀ A' B' F' l' r' s t
    settling_stays Q = next Q I.short (λ G R S J. let (X, Y) = I.state G R S J in Q.after G R t X Y P)

    -- a push that is not enough yet
    pub settling_pushes : {x : Float} → Stepped us ts n store A B F l r s start A' B' F' l' r' (steps.Pushed x) → le need (add binary64 t x) ≡ false → Settling us ts n store need A₀ B₀ F₀ l₀ r₀ t₀ A' B' F' l' r' s (add binary64 t x)
    settling_pushes Q d = next Q (λ _. d) (λ G R S J. let (X, Y) = I.state G R S J in Q.after G R t X Y P)

    -- a push that is
    pub settled_yes : {x : Float} → Stepped us ts n store A B F l r s start A' B' F' l' r' (steps.Pushed x) → le need (add binary64 t x) ≡ true → Settled us ts n store need A₀ B₀ F₀ l₀ r₀ t₀ (Some true)
    settled_yes Q d _ G R S J = let (X, Y) = I.state G R S J in sym (enough (Q.after G R t X Y P).0 need d)

    -- a cut: the flow is that of the whole run
    pub settled_no : Stepped us ts n store A B F l r s start A' B' F' l' r' steps.Cut → Settled us ts n store need A₀ B₀ F₀ l₀ r₀ t₀ (Some false)
    settled_no Q h G R S J = let (X, Y) = I.state G R S J in sym (ap (le need) (sym (Q.after G R t X Y P).2) ∙ I.short h)
