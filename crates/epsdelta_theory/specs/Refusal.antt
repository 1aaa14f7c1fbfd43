-- What the entries that make a relation turn back: checks 3 to 10 of document 01, each over both models.
use Rattle.std.specs.Option.{is_none}
use Rattle.std.specs.Prelude.{Option}
use Rattle.bisim_core.specs.declared.ids.StateId.{StateId}
use Rattle.std.specs.Prelude.{ℕ, ◌+◌, Bool, false, ◌&&◌, ◌||◌, not, List, length, ltb, Float}
use Rattle.std.specs.Float.Ieee.{lt, le}
use Rattle.numbers.specs.Refuse.{check}
use Rattle.numbers.specs.Lists.{span, every, all}
use Rattle.numbers.specs.Search.{seek}
use Rattle.numbers.specs.Real.{is_valid, one, greatest_factor}
use Rattle.bisim_core.specs.Data.{Columns}
use Rattle.bisim_core.specs.Ids.{intern}
use Rattle.bisim_core.specs.Edges.{others, crowded_in}
use Rattle.bisim_core.specs.declared.wlts.Shape.{Shape}
use Rattle.bisim_core.specs.Model.{row, rows, rises, large, unfit, weights_outside, crowded}
use Rattle.epsdelta_theory.specs.Relation.{relation_bytes}

-- 7: fewer classes than states, or too few bytes for the relation
abbrev pub short : ℕ → ℕ → ℕ → ℕ → ℕ → Bool
short left right leftClasses rightClasses bytes = ltb leftClasses left || (ltb rightClasses right || ltb bytes (relation_bytes (left + right)))

-- 8: there is no initial state
abbrev pub absent : Option StateId → Bool
absent i = is_none i

-- 9, of ρ: it is NaN, below 1 or above 2^20
abbrev pub factor_outside : Float → Bool
factor_outside ρ = not (le one ρ && le ρ greatest_factor)

-- 9: ε is NaN, infinite or negative, or ρ is outside
abbrev pub tolerances_outside : Float → Float → Bool
tolerances_outside ε ρ = not (is_valid ε) || factor_outside ρ

-- checks 3 to 6, each over both models, and what comes after them: the first check that fails, 0 if none does
unfoldable pub models_refusal : Shape → Columns → Shape → Columns → ℕ → ℕ
unfolding every all rises rows row span crowded_in others intern seek lt le
models_refusal SL ML SR MR later =
    check 3 (large SL || large SR)
    (check 4 (unfit SL ML || unfit SR MR)
    (check 5 (weights_outside SL ML || weights_outside SR MR)
    (check 6 (crowded SL ML || crowded SR MR)
    later)))

-- checks 7 to 10: whether 8 fails, whether 9 fails, so many left states and right ones, so many classes of each, and so many bytes for the relation
abbrev pub later_refusal : Bool → Bool → ℕ → ℕ → ℕ → ℕ → ℕ → ℕ
later_refusal fails8 fails9 left right leftClasses rightClasses bytes =
    check 7 (short left right leftClasses rightClasses bytes)
    (check 8 fails8
    (check 9 fails9
    (check 10 (ltb 2000 (left + right))
    0)))

-- whether 8 fails, whether 9 fails, two models, a list of classes for each, and how many bytes are lent for the relation
unfoldable pub relation_refusal : Bool → Bool → Shape → Columns → Shape → Columns → List ℕ → List ℕ → ℕ → ℕ
unfolding models_refusal
relation_refusal fails8 fails9 SL ML SR MR cl cr bytes = models_refusal SL ML SR MR (later_refusal fails8 fails9 SL.states SR.states (length cl) (length cr) bytes)

-- `epsdelta`, which asks for no initial state
unfoldable pub epsdelta_refusal : Shape → Columns → Shape → Columns → List ℕ → List ℕ → Float → Float → ℕ → ℕ
unfolding relation_refusal
epsdelta_refusal SL ML SR MR cl cr ε ρ bytes = relation_refusal false (tolerances_outside ε ρ) SL ML SR MR cl cr bytes

-- `epsdelta_bisimilar`
unfoldable pub bisimilar_refusal : Shape → Columns → Shape → Columns → List ℕ → List ℕ → Float → Float → ℕ → ℕ
unfolding relation_refusal
bisimilar_refusal SL ML SR MR cl cr ε ρ bytes = relation_refusal (absent SL.initial || absent SR.initial) (tolerances_outside ε ρ) SL ML SR MR cl cr bytes

-- `min_epsilon`, which is given no ε
unfoldable pub min_epsilon_refusal : Shape → Columns → Shape → Columns → List ℕ → List ℕ → Float → ℕ → ℕ
unfolding relation_refusal
min_epsilon_refusal SL ML SR MR cl cr ρ bytes = relation_refusal (absent SL.initial || absent SR.initial) (factor_outside ρ) SL ML SR MR cl cr bytes
