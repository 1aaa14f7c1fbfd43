-- What `new` made, or a network of no nodes.
use Rattle.std.proofs.Common.{◌≡◌, refl, sym, ap, ◌∙◌, Bool, true, false, cond}
use Rattle.std.specs.Prelude.{Result, Ok, Err, leb}
use Rattle.numbers.specs.Refuse.{numbered}
use Rattle.flow.proofs.network.FlowNetwork.new_or_empty.Goals as goal

taken : {A E : Type 0} (b : Bool) (x y z : A) (k : E) → Ok x ≡ cond b (Ok y) (Err k) → x ≡ cond b y z
taken true x y z k e = cc
taken false x y z k e = cc

turned_back : {A E : Type 0} (b : Bool) (y z : A) (j k : E) → Err j ≡ cond b (Ok y) (Err k) → z ≡ cond b y z
turned_back true y z j k e = cc
turned_back false y z j k e = refl

pub returns-in-Ok : goal.returns-in-Ok
returns-in-Ok c = taken _ _ _ _ _ (ap numbered (sym c.in-Ok.is) ∙ c.new.ensures)

pub returns-in-Err : goal.returns-in-Err
returns-in-Err c = c.empty.ensures ∙ turned_back (leb c.args.nodes 66) _ _ _ _ (ap numbered (sym c.in-Err.is) ∙ c.new.ensures)
