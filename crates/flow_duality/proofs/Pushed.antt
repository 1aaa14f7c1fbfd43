-- One push of a run: for every set of nodes with the source and without the sink, out of which no infinite link leads, the flow so far and what the links out of the set have left stay
-- together what the links had at the start, up to 2^-49 for each link of the path and for the total. So all numbers stay below 32.
use mathlib.Core.Path.{◌≡◌, refl, subst, ap, ◌∙◌}
use mathlib.Core.Logic.{◌≢◌, ◌⊎◌, inl, inr}
use mathlib.Core.Bool.{Bool, true, false}
use Prim.Native.Nat.{ℕ, suc, ◌≤◌, ◌<◌, ◌+◌, ◌*◌, ◌-◌, ◌^◌}
use mathlib.Core.List.{List, [], ◌∷◌}
use native.Mathlib.Omega.{arith}
use native.Mathlib.Nat.{mul-le-mul_right, suc-mul}
use lib.Dec.{eqb}
use lib.ListN.{length}
use lib.Ieee.{Float, nan, inf, fin, binary64, lt, add, sub}
use Rattle.numbers.specs.Real.{eps}
use Rattle.numbers.specs.Lists.{In}
use Rattle.numbers.proofs.Bools.{eq_or_ne}
use Rattle.numbers.proofs.Comparisons.{fin_inf}
use Rattle.numbers.proofs.Members.{Apart}
use Rattle.flow_theory.specs.Network.{rev, Net, links, tail, left, residual}
use Rattle.flow_theory.specs.Augment.{least, push_path}
use Rattle.flow_theory.proofs.Links.{rev_rev, rev_in, WellFormed}
use Rattle.flow_theory.proofs.Pushes.{residual_lt, push_path_length, push_path_hit, push_path_other}
use Rattle.flow_duality.specs.Spare.{row_most}
use Rattle.flow_duality.proofs.Wholes.{ulp, ulp_pos, val, Whole, Near, add_near, sub_near}
use Rattle.flow_duality.proofs.Cuts.{leads, out_of, Ready, Ends, Chain, path_out}
use Rattle.flow_duality.proofs.Least.{Capacity, Within, least_of, push_path_back, sub_inf, add_inf}

-- ---- how much there can be

abbrev pub nodes_most : ℕ
nodes_most = 2 * row_most + 2

abbrev pub added_most : ℕ
added_most = row_most * row_most + 2 * row_most

-- as many phases as nodes but one, and as many pushes in each as links were added
abbrev pub pushes_most : ℕ
pushes_most = (2 * row_most + 1) * added_most

-- ---- what a push leaves of a link

in_or_not : (y : ℕ) (ps : List ℕ) → In y ps ⊎ ((e : ℕ) → In e ps → y ≢ e)
in_or_not y [] = inr (λ e i. absurd i)
in_or_not y (a ∷ ps) = pick (eq_or_ne y a) (in_or_not y ps)
  where
    pick : (y ≡ a) ⊎ (y ≢ a) → In y ps ⊎ ((e : ℕ) → In e ps → y ≢ e) → In y (a ∷ ps) ⊎ ((e : ℕ) → In e (a ∷ ps) → y ≢ e)
    pick (inl q) r = inl (inl q)
    pick (inr n) (inl i) = inl (inr i)
    pick (inr n) (inr m) = inr (λ e i. other e i)
      where
        other : (e : ℕ) → In e (a ∷ ps) → y ≢ e
        other e (inl q) = λ r. n (r ∙ q)
        other e (inr i) = m e i

-- the same, less x on the path, more x where the reverse is on it
abbrev Left : Float → List ℕ → List Float → ℕ → Type 0
Left x ps c y = (left (push_path x ps c) y ≡ left c y) ⊎ ((In y ps × (left (push_path x ps c) y ≡ sub binary64 (left c y) x)) ⊎ (left (push_path x ps c) y ≡ add binary64 (left c y) x))

left_of_lem : (x : Float) (ps : List ℕ) (c : List Float) (y : ℕ) → Apart ps → ((a : ℕ) → In a ps → (e : ℕ) → In e ps → a ≢ rev e) → y < length c → Left x ps c y
left_of_lem x ps c y A R l = pick (in_or_not y ps) (in_or_not (rev y) ps)
  where
    pick : In y ps ⊎ ((e : ℕ) → In e ps → y ≢ e) → In (rev y) ps ⊎ ((e : ℕ) → In e ps → rev y ≢ e) → Left x ps c y
    pick (inl i) b = inr (inl (i, push_path_hit x ps c y i A (R y i) l))
    pick (inr n) (inl j) = inr (inr (push_path_back x ps c y j A n l))
    pick (inr n) (inr m) = inl (push_path_other x ps c y (λ e i. (n e i, λ q. m e i (ap rev q ∙ rev_rev e))))

-- ---- a run on its way

-- the source is in, the sink is not, and no infinite link leads out
pub record Allowed (N : Net) (c₀ : List Float) (S : ℕ → Bool) : Type 0 where
  pub source_in : S N.source ≡ true
  pub sink_out : S N.sink ≡ false
  pub finite : (e : ℕ) → e < links N → leads N S e ≡ true → left c₀ e ≢ inf false

-- a link stays infinite, or stays finite and at most 1 and the flow
abbrev pub Fine : List Float → ℕ → Float → List Float → ℕ → Type 0
Fine c₀ n t c e = ((left c₀ e ≡ inf false) × (left c e ≡ inf false)) ⊎ ((left c₀ e ≢ inf false) × Whole (left c e) × (val (left c e) ≤ 2 ^ 49 * ulp + val t + 2 * (n * ulp)))

-- after n pushes from capacities c₀
pub record Flowing (N : Net) (c₀ : List Float) (n : ℕ) (t : Float) (c : List Float) : Type 0 where
  pub size : length c ≡ links N
  pub total : Whole t
  pub fine : (e : ℕ) → e < links N → Fine c₀ n t c e
  pub balance : (S : ℕ → Bool) → Allowed N c₀ S → (val t + out_of N S c ≤ out_of N S c₀ + nodes_most * (n * ulp)) × (out_of N S c₀ ≤ val t + out_of N S c + nodes_most * (n * ulp))

-- the source alone
abbrev pub alone : Net → ℕ → Bool
alone N v = eqb v N.source

-- what a run starts from: each link is infinite or has 1 at most; the source's links are finite, and have one for each jump of a row at most
pub record Begins (N : Net) (c₀ : List Float) : Type 0 where
  pub size : length c₀ ≡ links N
  pub each : (e : ℕ) → e < links N → (left c₀ e ≡ inf false) ⊎ ((left c₀ e ≢ inf false) × Whole (left c₀ e) × (val (left c₀ e) ≤ 2 ^ 49 * ulp))
  pub first : (e : ℕ) → e < links N → tail N e ≡ N.source → left c₀ e ≢ inf false
  pub source : Allowed N c₀ (alone N)
  pub most : out_of N (alone N) c₀ ≤ row_most * (2 ^ 49 * ulp)

within_whole : (x y : Float) → Within x y → Whole y → val x ≤ val y
within_whole x nan h (p, f) = absurd p
within_whole x (inf s) h (p, f) = absurd p
within_whole x (fin true m e) h (p, f) = absurd p
within_whole x (fin false m e) (inr (w, l)) v = l
within_whole x (fin false m e) (inl q) v = absurd (fin_inf false m e q)

module _ (N : Net) (G : WellFormed N) (c₀ : List Float) (B : Begins N c₀) (n : ℕ) (few : n ≤ pushes_most) (t : Float) (c : List Float) (F : Flowing N c₀ n t c) where
  pub bound : n * ulp ≤ pushes_most * ulp
  bound = mul-le-mul_right ulp few

  pub total_low : val t ≤ row_most * (2 ^ 49 * ulp) + nodes_most * (n * ulp)
  total_low = let h = (F.balance (alone N) B.source).0 in let m = B.most in omega arith

  capacity : (e : ℕ) → e < links N → Capacity (left c e)
  capacity e l = pick (F.fine e l)
    where
      pick : Fine c₀ n t c e → Capacity (left c e)
      pick (inl (p, q)) = inl q
      pick (inr (o, w, h)) = inr w

  -- a finite link is as the invariant says
  pub finite : (e : ℕ) → e < links N → left c₀ e ≢ inf false → Whole (left c e) × (val (left c e) ≤ 2 ^ 49 * ulp + val t + 2 * (n * ulp))
  finite e l h = pick (F.fine e l)
    where
      pick : Fine c₀ n t c e → Whole (left c e) × (val (left c e) ≤ 2 ^ 49 * ulp + val t + 2 * (n * ulp))
      pick (inl (p, q)) = absurd (h p)
      pick (inr (o, w, b)) = (w, b)

  back_in : (e : ℕ) → e < links N → rev e < links N
  back_in e l = rw G.pairs (rev_in e G.added (rw (← G.pairs) l))

  module _ (ps : List ℕ) (x : Float) (W : Whole x) (low : val x ≤ 2 ^ 49 * ulp + val t + 2 * (n * ulp)) (within : (y : ℕ) → In y ps → Within x (left c y))
      (chain : Chain N N.source ps N.sink) (A : Apart ps) (R : (a : ℕ) → In a ps → (e : ℕ) → In e ps → a ≢ rev e) (known : (y : ℕ) → In y ps → y < links N) (short : length ps < nodes_most) where
    abbrev t' : Float
    t' = add binary64 t x

    more : Near t' (val t + val x)
    more = let h = total_low in let b = bound in let u = ulp_pos in add_near t x F.total W (omega arith)

    ready : (S : ℕ → Bool) → Allowed N c₀ S → (y : ℕ) → In y ps → Ready N S c x y
    ready S a y i = record {
      gives = λ h. let (w, l) = finite y (known y i) (a.finite y (known y i) h) in
          (w, within_whole x (left c y) (within y i) w, let k = total_low in let b = bound in let u = ulp_pos in omega arith);
      takes = λ h. let r = back_in y (known y i) in let (w, l) = finite (rev y) r (a.finite (rev y) r h) in
          (w, let k = total_low in let b = bound in let u = ulp_pos in omega arith);
    }

    balanced : (S : ℕ → Bool) → Allowed N c₀ S
        → (val t' + out_of N S (push_path x ps c) ≤ out_of N S c₀ + nodes_most * (suc n * ulp)) × (out_of N S c₀ ≤ val t' + out_of N S (push_path x ps c) + nodes_most * (suc n * ulp))
    balanced S a =
        let p : Ends (S N.source) (out_of N S c) (out_of N S (push_path x ps c)) (val x) (length ps * ulp)
        = path_out N S x W ps N.source N.sink c F.size a.sink_out chain A R (λ y i. (known y i, back_in y (known y i), ready S a y i)) in
        let (d, e) = subst (λ (b : Bool). Ends b (out_of N S c) (out_of N S (push_path x ps c)) (val x) (length ps * ulp)) a.source_in p in
        let (f, g) = F.balance S a in
        let (w, u, v) = more in
        let l : suc (length ps) * ulp ≤ nodes_most * ulp = mul-le-mul_right ulp short in
        let s : suc n * ulp ≡ n * ulp + ulp = suc-mul n ulp in
        (omega arith, omega arith)

    fine' : (e : ℕ) → e < links N → Fine c₀ (suc n) t' (push_path x ps c) e
    fine' e l = pick (left_of_lem x ps c e A R (rw F.size l)) (F.fine e l)
      where
        s : suc n * ulp ≡ n * ulp + ulp
        s = suc-mul n ulp

        pick : Left x ps c e → Fine c₀ n t c e → Fine c₀ (suc n) t' (push_path x ps c) e
        pick (inl q) (inl (a, b)) = inl (a, q ∙ b)
        pick (inl q) (inr (o, w, h)) = let (v, m, k) = more in let z = s in inr (o, rw q w, rw q (omega arith))
        pick (inr (inl (i, q))) (inl (a, b)) = inl (a, q ∙ sub_inf x (left c e) W.0 b)
        pick (inr (inl (i, q))) (inr (a, w, h)) =
            let (v, m, k) = more in
            let z = s in
            let g : val x ≤ val (left c e) = within_whole x (left c e) (within e i) w in
            let y = total_low in
            let b = bound in
            let u = ulp_pos in
            let (f, o, r) = sub_near (left c e) x (val (left c e) - val x) w W (omega arith) (omega arith) in
            inr (a, rw q f, rw q (omega arith))
        pick (inr (inr q)) (inl (a, b)) = inl (a, q ∙ add_inf x (left c e) W.0 b)
        pick (inr (inr q)) (inr (a, w, h)) =
            let (v, m, k) = more in
            let z = s in
            let y = total_low in
            let b = bound in
            let u = ulp_pos in
            let (f, o, r) = add_near (left c e) x w W (omega arith) in
            inr (a, rw q f, rw q (omega arith))

    moved : Flowing N c₀ (suc n) t' (push_path x ps c)
    moved = record { size = push_path_length x ps c ∙ F.size; total = more.0; fine = fine'; balance = balanced }

  -- one push along a path from the source to the sink
  pub pushed : (ps : List ℕ) → Chain N N.source ps N.sink → Apart ps → ((a : ℕ) → In a ps → (e : ℕ) → In e ps → a ≢ rev e)
      → ((y : ℕ) → In y ps → (y < links N) × (residual c y ≡ true)) → length ps < nodes_most
      → Flowing N c₀ (suc n) (add binary64 t (least c (inf false) ps)) (push_path (least c (inf false) ps) ps c) × (lt eps (least c (inf false) ps) ≡ true)
  pushed [] chain A R known short = absurd (G.ends chain)
  pushed (e ∷ es) chain A R known short =
      let l : e < links N = (known e (inl refl)).0 in
      let (v, h) = finite e l (B.first e l chain.0) in
      let (W, above, within) = least_of c e es v (λ y i. (capacity y (known y i).0, residual_lt c y (known y i).1)) in
      let g = within_whole (least c (inf false) (e ∷ es)) (left c e) (within e (inl refl)) v in
      (moved (e ∷ es) (least c (inf false) (e ∷ es)) W (omega arith) within chain A R (λ y i. (known y i).0) short, above)
