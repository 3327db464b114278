use Rattle.std.proofs.Common.{◌≡◌, ℕ, ◌*◌, ◌<◌, length, sym, ap, ◌∙◌, subst, arith, map}
use Rattle.std.specs.Prelude.{All}
use Rattle.cg_mrrg.specs.Lists.{AreParts}
use Rattle.cg_mrrg.specs.Nodes.{out_of}
use Rattle.cg_mrrg.specs.Graph.{link_to}
use Rattle.cg_mrrg.proofs.Drivers.{listed_users, below}
use Rattle.cg_mrrg.proofs.Numbers.{out_is, no_nodes, node_added, resource_added}
use Rattle.cg_mrrg.proofs.graph.links_out.Goals as goal

pub loop-resource-init : goal.loop-resource-init
loop-resource-init c = let part = out_of c.args.arch.now c.args.interval in no_nodes part c.args.interval _ _ (c.in_ok-lists.ensures part)

pub add_users-requires-clause-users : goal.add_users-requires-clause-users
add_users-requires-clause-users c =
    let A = c.args.arch.now in
    let r : ℕ = c.loop-resource.resource in
    let each = c.in_ok-users.ensures.each in
    let within : r < length A.resources = omega arith in
    let listed = listed_users A c.in_ok-users.users.items c.as_slice.result.now c.index.result.now r within c.in_ok-users.ensures c.index.ensures c.as_slice.ensures in
    subst (All (λ z. z < length A.resources)) (sym listed) (below A r (length A.resources) (omega arith))

pub loop-slot-preserved : goal.loop-slot-preserved
loop-slot-preserved c =
    let A = c.args.arch.now in
    let ii : ℕ = c.args.interval in
    let r : ℕ = c.loop-resource.resource in
    let s : ℕ = c.loop-slot.slot in
    let each = c.in_ok-users.ensures.each in
    let within : r < length A.resources = omega arith in
    let listed = listed_users A c.in_ok-users.users.items c.as_slice.result.now c.index.result.now r within c.in_ok-users.ensures c.index.ensures c.as_slice.ensures in
    node_added (out_of A ii) ii r s c.loop-slot.lists.links.items c.add_users.new.lists.links.items (map (link_to A s ii) c.as_slice.result.now) c.loop-slot.lists.starts.items c.add_users.new.lists.starts.items
    (out_is A ii r s c.loop-slot-test.true ∙ ap (map (link_to A s ii)) (sym listed)) c.in_ok-add_users.ensures.links c.in_ok-add_users.ensures.starts c.loop-slot.invariant

pub loop-resource-preserved : goal.loop-resource-preserved
loop-resource-preserved c =
    resource_added (out_of c.args.arch.now c.args.interval) c.args.interval c.loop-resource.resource c.loop-slot.slot c.loop-slot.lists.links.items c.loop-slot.lists.starts.items (omega arith) c.loop-slot.invariant

pub returns : goal.returns
returns c =
    let each = c.in_ok-users.ensures.each in
    let e : c.loop-resource.resource ≡ length c.args.arch.now.resources = omega arith in
    subst (λ z. AreParts (out_of c.args.arch.now c.args.interval) (z * c.args.interval) c.loop-resource.lists.links.items c.loop-resource.lists.starts.items) e c.loop-resource.invariant
