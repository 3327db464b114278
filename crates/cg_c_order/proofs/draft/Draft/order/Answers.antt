use Rattle.std.proofs.Common.{◌≡◌, ◌≤◌, ◌∙◌, ap, arith, false, length, subst, sym, true}
use Rattle.std.specs.Prelude.{[], ◌∷◌, slice_index_or}
use Rattle.cg_model.specs.Kernel.{Kernel}
use Rattle.cg_model.specs.Limits.{most_order_edges}
use Rattle.cg_c_order.specs.Accesses.{edge}
use Rattle.cg_c_order.specs.Choosing.{IsDraft, Takes}
use Rattle.cg_c_order.specs.Marks.{has}
use Rattle.cg_c_order.proofs.Choices.{exceeds_edge, takes_edge, takes_led}
use Rattle.cg_c_order.proofs.Drafts.{marked_near, unmarked_near}
use Rattle.cg_c_order.proofs.draft.Draft.order.Goals as goal

pub returns-then-has-clause-taken : goal.returns-then-has-clause-taken
returns-then-has-clause-taken c =
    let K = c.args.self.now in
    let near = c.self.inside.near.items in
    let u = c.args.from in
    let v = c.args.to in
    let d : IsDraft K near = subst (λ (z : Kernel). IsDraft z near) c.self.view_is c.self.invariant in
    let mark : has (slice_index_or near u c.index.result.now) v ≡ true = sym (ap (λ r. has r v) c.index.ensures) ∙ sym c.has.ensures ∙ c.if-has.true in
    takes_led K (edge u v 0) (marked_near K near d u v (let l = c.requires.forward in let k = c.requires.known in omega arith) c.requires.known c.index.result.now mark)

pub returns-then-len-ge-MOST_ORDER_EDGES-clause-many : goal.returns-then-len-ge-MOST_ORDER_EDGES-clause-many
returns-then-len-ge-MOST_ORDER_EDGES-clause-many c =
    let K = c.args.self.now in
    let near = c.self.inside.near.items in
    let u = c.args.from in
    let v = c.args.to in
    let d : IsDraft K near = subst (λ (z : Kernel). IsDraft z near) c.self.view_is c.self.invariant in
    let mark : has (slice_index_or near u c.index.result.now) v ≡ false = sym (ap (λ r. has r v) c.index.ensures) ∙ sym c.has.ensures ∙ c.if-has.false in
    let full : most_order_edges ≤ length c.self.inside.order.items = let e = c.self.inside.order.ok.0 in omega arith in
    λ e. exceeds_edge K (edge u v 0) (unmarked_near K near d u v (let l = c.requires.forward in let k = c.requires.known in omega arith) c.requires.known c.index.result.now mark)
    (subst (λ (z : Kernel). most_order_edges ≤ length z.order) c.self.view_is full)

pub returns-clause-taken : goal.returns-clause-taken
returns-clause-taken c =
    let K = c.args.self.now in
    let near = c.self.inside.near.items in
    let u = c.args.from in
    let v = c.args.to in
    let d : IsDraft K near = subst (λ (z : Kernel). IsDraft z near) c.self.view_is c.self.invariant in
    let mark : has (slice_index_or near u c.index.result.now) v ≡ false = sym (ap (λ r. has r v) c.index.ensures) ∙ sym c.has.ensures ∙ c.if-has.false in
    let t = takes_edge K (edge u v 0) (unmarked_near K near d u v (let l = c.requires.forward in let k = c.requires.known in omega arith) c.requires.known c.index.result.now mark) in
    subst (λ (z : Kernel). Takes K (edge u v 0 ∷ []) z) (sym c.in_ok-add.ensures) t
