use Rattle.std.proofs.Common.{[], length, subst, sym}
use Rattle.cg_c_order.specs.Marks.{IsSquare, IsTable}
use Rattle.cg_c_order.specs.Chains.{Leads}
use Rattle.cg_c_order.proofs.Joining.{joined_at, near_none, near_step}
use Rattle.cg_c_order.proofs.chains.near_rows.Goals as goal

pub loop-place-init : goal.loop-place-init
loop-place-init c = subst (IsTable c.args.size (Leads [])) (sym (c.in_ok-near.ensures)) (near_none c.args.size)

pub add_near-requires-clause-square : goal.add_near-requires-clause-square
add_near-requires-clause-square c = subst (λ z. IsSquare (length z) z) (sym c.deref_mut.ensures.value) (rw c.loop-place.invariant.square.long c.loop-place.invariant.square)

pub add_near-requires-clause-from : goal.add_near-requires-clause-from
add_near-requires-clause-from c =
    let h = (joined_at c.args.size c.args.edges.now c.loop-place.place (record { from = 0; to = 0; distance = 0 }) c.requires c.loop-place-test.true).0 in
    rw (c.deref_mut.ensures.value, c.loop-place.invariant.square.long) h

pub add_near-requires-clause-to : goal.add_near-requires-clause-to
add_near-requires-clause-to c =
    let h = (joined_at c.args.size c.args.edges.now c.loop-place.place (record { from = 0; to = 0; distance = 0 }) c.requires c.loop-place-test.true).1 in
    rw (c.deref_mut.ensures.value, c.loop-place.invariant.square.long) h

pub loop-place-preserved : goal.loop-place-preserved
loop-place-preserved c =
    near_step c.args.edges.now c.loop-place.place (record { from = 0; to = 0; distance = 0 }) c.loop-place-test.true c.loop-place.near.len c.loop-place.near.items c.deref_mut.result.now c.add_near.new.near
    c.deref_mut.ensures.value c.loop-place.near.ok.0 c.add_near.auto.near c.args.size c.loop-place.invariant c.in_ok-add_near.ensures
