-- `links::put` meets its contract: two places of each row are written.
use mathlib.Core.Path.{refl}
use Rattle.transport_links.proofs.links.put.Goals as goal

pub returns-clause-put : goal.returns-clause-put
returns-clause-put c = record { heads_is = refl; caps_is = refl; prices_is = refl }
