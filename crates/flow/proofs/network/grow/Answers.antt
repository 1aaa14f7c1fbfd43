-- `network::grow` meets its contract: the heads are copied into the front of a row, and their node lists are made (Grows).
use borrow.Author.Rules.{rules}
use mathlib.Core.Path.{◌≡◌, ap, ◌∙◌}
use mathlib.Core.Bool.{true, false≢true}
use mathlib.Core.List.{List}
use Prim.Native.Nat.{ℕ, ◌+◌, ◌≤◌, ◌<◌}
use native.Mathlib.Omega.{arith}
use lib.ListN.{length}
use Rattle.flow.specs.Network.{heads_of, leaves}
use Rattle.flow_check.specs.Refusal.{listable}
use Rattle.flow_check.proofs.Relists.{listed}
use Rattle.flow.proofs.Grows.{front_is, grows}
use Rattle.flow.proofs.network.grow.Goals as goal

pub returns-in_err-node_lists : goal.returns-in_err-node_lists
returns-in_err-node_lists c =
    let N = c.args.net.now in
    let whole : length N.links ≡ 2176 = search rules in
    let there : N.count + 2 ≤ length N.links = let p = c.requires.0 in omega arith in
    let places : N.nodes < length N.starts = let p = c.requires.1 in
    let q : length N.starts ≡ 67 = search rules in
    omega arith in
    let room : length (heads_of (N.count + 2) N.links) ≤ length N.list = let p = c.requires.2.small in
    let q : length N.list ≡ 2176 = search rules in
    omega arith in
    let front = front_is N.links (N.count + 2) there c.unpack_heads.new.heads c.unpack_heads.ensures in
    absurd (false≢true (c.in_err-node_lists.ensures.value ∙ ap (λ (H : List ℕ). listable H N.nodes N.starts N.list) front ∙ listed c.requires.2 c.requires.1 N.starts N.list places room))

pub returns : goal.returns
returns c =
    let N = c.args.net.now in
    let whole : length N.links ≡ 2176 = search rules in
    let there : N.count + 2 ≤ length N.links = let p = c.requires.0 in omega arith in
    let places : N.nodes < length N.starts = let p = c.requires.1 in
    let q : length N.starts ≡ 67 = search rules in
    omega arith in
    let room : length (heads_of (N.count + 2) N.links) ≤ length N.list = let p = c.requires.2.small in
    let q : length N.list ≡ 2176 = search rules in
    omega arith in
    ap (leaves 0) (grows N N.links c.requires.1 c.requires.2 places room _ (front_is N.links (N.count + 2) there c.unpack_heads.new.heads c.unpack_heads.ensures) true _ _ (c.in_ok-node_lists.ensures.value, (c.in_ok-node_lists.ensures.new_starts_after, c.in_ok-node_lists.ensures.new_list_after)))
