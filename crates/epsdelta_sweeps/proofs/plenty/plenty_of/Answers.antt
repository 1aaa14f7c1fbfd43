use mathlib.Core.Path.{◌≡◌, refl}
use mathlib.Core.Bool.{Bool, true, false}
use Rattle.std.specs.Prelude.{Float, IfSome}
use Rattle.std.specs.Bool.{then_some}
use Rattle.flow_duality.proofs.Plenty.{Plenty, plenty_of}
use Rattle.flow_links.proofs.RowsRead.{states_of}
use Rattle.epsdelta_sweeps.proofs.plenty.plenty_of.Goals as goal

-- what holds of a value where it is given
where_given : (P : Float → Type 0) (b : Bool) (x : Float) → (b ≡ true → P x) → IfSome (then_some b x) P
where_given P true x f = f refl
where_given P false x f = tt

pub returns : goal.returns
returns c =
    let a = c.args in
    rw c.then_some.ensures (where_given (Plenty (states_of a.rows.now) a.rows.now.starts.now a.rows.now.targets.now a.rows.now.probs.now a.need) c.all_light.result _ (λ e. plenty_of c.requires.0 a.need c.requires.1 (c.all_light.ensures e)))
