use Rattle.std.proofs.Common.{◌<◌, length, subst, sym}
use Rattle.cg_model.specs.Kernel.{Kernel, size}
use Rattle.cg_model.specs.Limits.{most_order_edges}
use Rattle.cg_c_order.specs.Accesses.{kernel_with}
use Rattle.cg_c_order.proofs.Drafts.{closing_added}
use Rattle.cg_c_order.proofs.closing.Closing.add.Goals as goal

pub invariant_of-self-2 : goal.invariant_of-self-2
invariant_of-self-2 c =
    let K = kernel_with c.self.inside.nodes.items c.self.inside.order.items in
    let from : c.args.from < size K = subst (λ (z : Kernel). c.args.from < size z) (sym c.self.view_is) c.requires.from in
    let to : c.args.to < size K = subst (λ (z : Kernel). c.args.to < size z) (sym c.self.view_is) c.requires.to in
    let room : length K.order < most_order_edges = subst (λ (z : Kernel). length z.order < most_order_edges) (sym c.self.view_is) c.requires.room in
    closing_added K c.args.from c.args.to c.self.inside.near.items c.self.inside.next.items c.deref.result.now c.deref-2.result.now c.deref_mut.result.now c.self.invariant from to room
    c.deref.ensures.value c.deref-2.ensures.value c.deref_mut.ensures.value
    _ _ c.in_ok-sources.ensures c.in_ok-targets.ensures c.join_rows.new.rows c.join_rows.ensures c.self.inside.next.len c.self.inside.next.ok.0 c.push.new.self.items c.in_ok-push.ensures.items
