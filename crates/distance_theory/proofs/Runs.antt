-- Runs of `distance` that a wrong step would change, with the Rust's answers, bit for bit: the margin of improvement, ties, point masses, the order of rescaling.
use Rattle.std.specs.Prelude.{Ok}
use mathlib.Core.Path.{◌≡◌, refl}
use Prim.Native.Nat.{ℕ}
use mathlib.Core.Bool.{false}
use mathlib.Core.List.{List, [], ◌∷◌}
use lib.IntN.{pos, negsuc}
use lib.ListN.{length, take, replicate}
use lib.Ieee.{Float, fin, inf, of_bits}
use Rattle.numbers.specs.Real.{nought}
use Rattle.chain_theory.specs.Columns.{chain_columns}
use Rattle.chain_theory.specs.declared.ChainShape.{ChainShape}
use Rattle.distance_theory.specs.Outcome.{Lent, lent, Outcome, Measured, distance}
use Rattle.distance_theory.specs.declared.MetricOptions.{MetricOptions}
use Rattle.distance_theory.specs.declared.PairContribution.{PairContribution}

abbrev shape : ℕ → ℕ → ℕ → ChainShape
shape states entries initial = record { states = states; entries = entries; initial = record { 0 = initial } }

abbrev options : Float → ℕ → ℕ → MetricOptions
options tolerance rounds top = record { tolerance = tolerance; max_rounds = rounds; top = top }

abbrev item : ℕ → ℕ → Float → Float → Float → PairContribution
item x y gap occupancy contribution = record { left = record { 0 = x }; right = record { 0 = y }; gap = gap; occupancy = occupancy; contribution = contribution }

-- room for n shares
abbrev memory : ℕ → Lent
memory n = lent (replicate 4096 0 ∷ []) (replicate n 0) (replicate n nought) (replicate 64 (item 0 0 nought nought nought))

-- the answer, and the first n records
abbrev told : ℕ → Outcome → Measured × List PairContribution
told n x = (x.answer, take n x.lent.records)

abbrev reply : Float → Float → Float → ℕ → ℕ → List PairContribution → Measured × List PairContribution
reply value bound γ explored rounds cs = (Ok (record { value = value; error_bound = bound; gamma = γ; pairs_explored = explored; contributions = length cs; rounds = rounds }), cs)

pub run_1 : told 5 (distance (shape 2 3 1) (chain_columns (0 ∷ 2 ∷ 3 ∷ []) (0 ∷ 1 ∷ 0 ∷ []) ((fin false 2002118655481171 (negsuc 51)) ∷ (fin false 2501480971889325 (negsuc 51)) ∷ (fin false 1 (pos 0)) ∷ []) ((fin false 10826007071299 (negsuc 52)) ∷ (fin false 503439063711321 (negsuc 50)) ∷ [])) (shape 3 6 0) (chain_columns (0 ∷ 3 ∷ 4 ∷ 6 ∷ []) (0 ∷ 1 ∷ 2 ∷ 2 ∷ 0 ∷ 2 ∷ []) ((fin false 2568803931048797 (negsuc 52)) ∷ (fin false 2944493724556105 (negsuc 52)) ∷ (fin false 6987803198272179 (negsuc 53)) ∷ (fin false 1 (pos 0)) ∷ (fin false 510242468496909 (negsuc 48)) ∷ (fin false 3373279035161791 (negsuc 54)) ∷ []) ((fin false 8589960759886947 (negsuc 52)) ∷ (fin false 1166559193647913 (negsuc 50)) ∷ (fin false 5707974921029577 (negsuc 52)) ∷ [])) (fin false 3602879701896397 (negsuc 54)) (options (fin false 1 (negsuc 0)) 200 64) (memory 18))
    ≡ reply (fin false 6532084120846545 (negsuc 52)) (fin false 1690508303753671 (negsuc 63)) (fin false 3602879701896397 (negsuc 54)) 6 1 (item 1 0 (fin false 6576204505041663 (negsuc 52)) (fin false 1016503356603719 (negsuc 49)) (fin false 5937236438568893 (negsuc 52)) ∷ item 0 0 (fin false 268097961025489 (negsuc 47)) (fin false 7859736346026487 (negsuc 57)) (fin false 3743102341089661 (negsuc 56)) ∷ item 0 2 (fin false 2848574456979139 (negsuc 51)) (fin false 1335348995385219 (negsuc 54)) (fin false 1689244761585535 (negsuc 55)) ∷ item 0 1 (fin false 4655410767520353 (negsuc 52)) (fin false 8763805342520455 (negsuc 57)) (fin false 4529611547623671 (negsuc 57)) ∷ item 1 2 (fin false 3694218666184293 (negsuc 52)) (fin false 5593465673942135 (negsuc 60)) (fin false 4588215430109819 (negsuc 61)) ∷ [])
unfolding distance of_bits
run_1 = refl

pub run_4 : told 3 (distance (shape 2 3 0) (chain_columns (0 ∷ 2 ∷ 3 ∷ []) (0 ∷ 1 ∷ 0 ∷ []) ((fin false 1 (negsuc 0)) ∷ (fin false 1 (negsuc 0)) ∷ (fin false 1 (pos 0)) ∷ []) ((fin false 3602879701896397 (negsuc 54)) ∷ (fin false 0 (pos 0)) ∷ [])) (shape 4 9 1) (chain_columns (0 ∷ 3 ∷ 6 ∷ 8 ∷ 9 ∷ []) (0 ∷ 1 ∷ 3 ∷ 0 ∷ 1 ∷ 2 ∷ 0 ∷ 3 ∷ 0 ∷ []) ((fin false 2001599834386887 (negsuc 53)) ∷ (fin false 2501999792983609 (negsuc 51)) ∷ (fin false 6004799503160661 (negsuc 53)) ∷ (fin false 6004799503160661 (negsuc 52)) ∷ (fin false 6004799503160661 (negsuc 54)) ∷ (fin false 6004799503160661 (negsuc 54)) ∷ (fin false 1 (negsuc 0)) ∷ (fin false 1 (negsuc 0)) ∷ (fin false 1 (pos 0)) ∷ []) ((fin false 1 (pos 0)) ∷ (fin false 0 (pos 0)) ∷ (fin false 0 (pos 0)) ∷ (fin false 1 (pos 0)) ∷ [])) (fin false 8294860736974605 (negsuc 54)) (options (fin false 1 (negsuc 0)) 200 3) (memory 27))
    ≡ reply (fin false 1995673543597119 (negsuc 52)) (fin false 5392809920363545 (negsuc 58)) (fin false 8294860736974605 (negsuc 54)) 8 1 (item 0 0 (fin false 8106479329266893 (negsuc 52)) (fin false 3767439547412415 (negsuc 54)) (fin false 6781391185342347 (negsuc 55)) ∷ item 0 1 (fin false 3602879701896397 (negsuc 54)) (fin false 6996167382022171 (negsuc 52)) (fin false 5596933905617737 (negsuc 55)) ∷ item 1 0 (fin false 1 (pos 0)) (fin false 2262636155783947 (negsuc 55)) (fin false 2262636155783947 (negsuc 55)) ∷ [])
unfolding distance of_bits
run_4 = refl

pub run_5 : told 4 (distance (shape 2 3 1) (chain_columns (0 ∷ 2 ∷ 3 ∷ []) (0 ∷ 1 ∷ 0 ∷ []) ((fin false 1 (negsuc 0)) ∷ (fin false 1 (negsuc 0)) ∷ (fin false 1 (pos 0)) ∷ []) ((fin false 3602879701896397 (negsuc 53)) ∷ (fin false 1 (negsuc 0)) ∷ [])) (shape 2 3 0) (chain_columns (0 ∷ 1 ∷ 3 ∷ []) (1 ∷ 0 ∷ 1 ∷ []) ((fin false 1 (pos 0)) ∷ (fin false 5404319552844595 (negsuc 52)) ∷ (fin false 3602879701896397 (negsuc 52)) ∷ []) ((fin false 1 (pos 0)) ∷ (fin false 1 (pos 0)) ∷ [])) (fin false 4606176719237715 (negsuc 55)) (options (fin false 4835703278458517 (negsuc 81)) 200 10) (memory 9))
    ≡ reply (fin false 4670981435235531 (negsuc 52)) (fin false 294823586836181 (negsuc 91)) (fin false 4606176719237715 (negsuc 55)) 4 1 (item 1 0 (fin false 1 (negsuc 0)) (fin false 4220960089672159 (negsuc 51)) (fin false 4220960089672159 (negsuc 52)) ∷ item 0 1 (fin false 3602879701896397 (negsuc 51)) (fin false 4377318693264535 (negsuc 55)) (fin false 875463738652907 (negsuc 53)) ∷ item 0 0 (fin false 3602879701896397 (negsuc 51)) (fin false 2758277860687769 (negsuc 60)) (fin false 8826489154200861 (negsuc 62)) ∷ item 1 1 (fin false 1 (negsuc 0)) (fin false 1878967256227675 (negsuc 60)) (fin false 1878967256227675 (negsuc 61)) ∷ [])
unfolding distance of_bits
run_5 = refl

pub run_7 : told 4 (distance (shape 4 8 3) (chain_columns (0 ∷ 1 ∷ 2 ∷ 6 ∷ 8 ∷ []) (3 ∷ 1 ∷ 0 ∷ 1 ∷ 2 ∷ 3 ∷ 0 ∷ 1 ∷ []) ((fin false 1 (pos 0)) ∷ (fin false 1 (pos 0)) ∷ (fin false 4157168886803535 (negsuc 53)) ∷ (fin false 1385722962267845 (negsuc 51)) ∷ (fin false 1385722962267845 (negsuc 53)) ∷ (fin false 6928614811339225 (negsuc 53)) ∷ (fin false 5 (negsuc 2)) ∷ (fin false 3 (negsuc 2)) ∷ []) ((fin false 0 (pos 0)) ∷ (fin false 1 (pos 0)) ∷ (fin false 0 (pos 0)) ∷ (fin false 0 (pos 0)) ∷ [])) (shape 4 8 3) (chain_columns (0 ∷ 1 ∷ 2 ∷ 6 ∷ 8 ∷ []) (3 ∷ 1 ∷ 0 ∷ 1 ∷ 2 ∷ 3 ∷ 0 ∷ 1 ∷ []) ((fin false 1 (pos 0)) ∷ (fin false 1 (pos 0)) ∷ (fin false 4157168886803535 (negsuc 53)) ∷ (fin false 1385722962267845 (negsuc 51)) ∷ (fin false 1385722962267845 (negsuc 53)) ∷ (fin false 6928614811339225 (negsuc 53)) ∷ (fin false 5 (negsuc 2)) ∷ (fin false 3 (negsuc 2)) ∷ []) ((fin false 0 (pos 0)) ∷ (fin false 1 (pos 0)) ∷ (fin false 0 (pos 0)) ∷ (fin false 0 (pos 0)) ∷ [])) (fin false 2027829558990385 (negsuc 54)) (options (fin false 0 (pos 0)) 0 10) (memory 64))
    ≡ reply (fin false 0 (pos 0)) (inf false) (fin false 2027829558990385 (negsuc 54)) 7 0 (item 0 1 (fin false 1 (pos 0)) (fin false 7199505828162035 (negsuc 58)) (fin false 7199505828162035 (negsuc 58)) ∷ item 1 0 (fin false 1 (pos 0)) (fin false 7199505828162035 (negsuc 58)) (fin false 7199505828162035 (negsuc 58)) ∷ item 3 1 (fin false 1 (pos 0)) (fin false 3241711505437523 (negsuc 61)) (fin false 3241711505437523 (negsuc 61)) ∷ item 1 3 (fin false 1 (pos 0)) (fin false 3241711505437523 (negsuc 61)) (fin false 3241711505437523 (negsuc 61)) ∷ [])
unfolding distance of_bits
run_7 = refl

pub run_11 : told 6 (distance (shape 3 4 2) (chain_columns (0 ∷ 1 ∷ 3 ∷ 4 ∷ []) (1 ∷ 1 ∷ 2 ∷ 0 ∷ []) ((fin false 1 (pos 0)) ∷ (fin false 1 (negsuc 0)) ∷ (fin false 1 (negsuc 0)) ∷ (fin false 1 (pos 0)) ∷ []) ((fin false 3602879701896397 (negsuc 54)) ∷ (fin false 3602879701896397 (negsuc 51)) ∷ (fin false 3602879701896397 (negsuc 53)) ∷ [])) (shape 3 4 0) (chain_columns (0 ∷ 1 ∷ 3 ∷ 4 ∷ []) (1 ∷ 1 ∷ 2 ∷ 0 ∷ []) ((fin false 1 (pos 0)) ∷ (fin false 1 (negsuc 0)) ∷ (fin false 1 (negsuc 0)) ∷ (fin false 1 (pos 0)) ∷ []) ((fin false 3602879701896397 (negsuc 54)) ∷ (fin false 3602879701896397 (negsuc 51)) ∷ (fin false 3602879701896397 (negsuc 53)) ∷ [])) (fin false 2518968502283581 (negsuc 53)) (options (fin false 1 (negsuc 0)) 200 64) (memory 16))
    ≡ reply (fin false 789553133150181 (negsuc 51)) (fin false 6439065829423069 (negsuc 56)) (fin false 2518968502283581 (negsuc 53)) 9 1 (item 2 0 (fin false 3602879701896397 (negsuc 54)) (fin false 7753014442623401 (negsuc 52)) (fin false 6202411554098721 (negsuc 55)) ∷ item 0 1 (fin false 6305039478318695 (negsuc 52)) (fin false 4336545823007305 (negsuc 54)) (fin false 1517791038052557 (negsuc 53)) ∷ item 1 2 (fin false 1351079888211149 (negsuc 50)) (fin false 4851062812277673 (negsuc 58)) (fin false 727659421841651 (negsuc 56)) ∷ item 1 0 (fin false 6305039478318695 (negsuc 52)) (fin false 5430337285217769 (negsuc 62)) (fin false 7602472199304877 (negsuc 63)) ∷ item 2 1 (fin false 1351079888211149 (negsuc 50)) (fin false 6074629056091937 (negsuc 66)) (fin false 7289554867310325 (negsuc 67)) ∷ item 0 2 (fin false 3602879701896397 (negsuc 54)) (fin false 6795363931925721 (negsuc 70)) (fin false 5436291145540577 (negsuc 73)) ∷ [])
unfolding distance of_bits
run_11 = refl

pub run_13 : told 4 (distance (shape 2 3 1) (chain_columns (0 ∷ 1 ∷ 3 ∷ []) (1 ∷ 0 ∷ 1 ∷ []) ((fin false 1 (pos 0)) ∷ (fin false 3602879701896397 (negsuc 53)) ∷ (fin false 3602879701896397 (negsuc 51)) ∷ []) ((fin false 0 (pos 0)) ∷ (fin false 1 (pos 0)) ∷ [])) (shape 4 7 3) (chain_columns (0 ∷ 2 ∷ 3 ∷ 4 ∷ 7 ∷ []) (0 ∷ 2 ∷ 2 ∷ 2 ∷ 0 ∷ 2 ∷ 3 ∷ []) ((fin false 6708303442808519 (negsuc 52)) ∷ (fin false 1149447905966237 (negsuc 51)) ∷ (fin false 1 (pos 0)) ∷ (fin false 1 (pos 0)) ∷ (fin false 871004236741021 (negsuc 51)) ∷ (fin false 315039341844187 (negsuc 48)) ∷ (fin false 4449122623503917 (negsuc 53)) ∷ []) ((fin false 2124504066081497 (negsuc 50)) ∷ (fin false 8028457151365813 (negsuc 52)) ∷ (fin false 637257237659037 (negsuc 52)) ∷ (fin false 8438870318837555 (negsuc 52)) ∷ [])) (fin false 3473175362267091 (negsuc 54)) (options (fin false 4722366482869645 (negsuc 71)) 2 64) (memory 21))
    ≡ reply (fin false 6848445751089321 (negsuc 55)) (fin false 8182230287452321 (negsuc 80)) (fin false 3473175362267091 (negsuc 54)) 6 2 (item 1 3 (fin false 568328935903437 (negsuc 52)) (fin false 2084351583989891 (negsuc 50)) (fin false 263033443421183 (negsuc 51)) ∷ item 1 2 (fin false 8369942017081955 (negsuc 52)) (fin false 1327814462389693 (negsuc 54)) (fin false 2467743800337225 (negsuc 55)) ∷ item 0 2 (fin false 637257237659037 (negsuc 52)) (fin false 5451966682250163 (negsuc 57)) (fin false 1542901463364929 (negsuc 59)) ∷ item 1 0 (fin false 127295747603751 (negsuc 50)) (fin false 669861377431539 (negsuc 54)) (fin false 2423533511291287 (negsuc 60)) ∷ [])
unfolding distance of_bits
run_13 = refl
