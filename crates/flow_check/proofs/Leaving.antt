-- The links that leave a node, cut out of the list.
use mathlib.Core.Path.{◌≡◌}
use Prim.Native.Nat.{ℕ, ◌+◌, ◌≤◌, ◌<◌}
use lib.ListN.{length, get_or}
use borrow.Author.Tests.{lt-ltb, le-leb}
use Rattle.std.specs.List.{slice_range}
use Rattle.flow_check.specs.declared.Network.{Network}
use Rattle.flow_check.specs.Lent.{leaving}

-- where there are such a node and such a part
pub leaving_is : (N : Network) (u : ℕ) → u < 66 → get_or N.starts.now u 0 ≤ get_or N.starts.now (u + 1) 0 → get_or N.starts.now (u + 1) 0 ≤ length N.list.now
    → leaving N u ≡ slice_range N.list.now (get_or N.starts.now u 0) (get_or N.starts.now (u + 1) 0)
leaving_is N u few a b = rw (lt-ltb _ _ few, le-leb _ _ a, le-leb _ _ b)
