use Rattle.std.proofs.Common.{◌≡◌, ◌≤◌, ◌∙◌, ap, arith, false, length, subst, sym, true}
use Rattle.std.specs.Prelude.{[], ◌∷◌, slice_index_or}
use Rattle.cg_model.specs.Kernel.{Kernel}
use Rattle.cg_model.specs.Limits.{most_order_edges}
use Rattle.cg_c_order.specs.Accesses.{edge}
use Rattle.cg_c_order.specs.Choosing.{IsClosing, Takes}
use Rattle.cg_c_order.specs.Marks.{has}
use Rattle.cg_c_order.proofs.Choices.{exceeds_edge, takes_edge, takes_led}
use Rattle.cg_c_order.proofs.Drafts.{marked_next, unmarked_next}
use Rattle.cg_c_order.proofs.closing.Closing.order.Goals as goal

pub returns-then-has-clause-taken : goal.returns-then-has-clause-taken
returns-then-has-clause-taken c =
    let K = c.args.self.now in
    let near = c.self.inside.near.items in
    let next = c.self.inside.next.items in
    let u = c.args.from in
    let v = c.args.to in
    let d : IsClosing K near next = subst (λ (z : Kernel). IsClosing z near next) c.self.view_is c.self.invariant in
    let mark : has (slice_index_or next u c.index.result.now) v ≡ true = sym (ap (λ r. has r v) c.index.ensures) ∙ sym c.has.ensures ∙ c.if-has.true in
    takes_led K (edge u v 1) (marked_next K near next d u v c.requires.from c.requires.to c.index.result.now mark)

pub returns-then-len-ge-MOST_ORDER_EDGES-clause-many : goal.returns-then-len-ge-MOST_ORDER_EDGES-clause-many
returns-then-len-ge-MOST_ORDER_EDGES-clause-many c =
    let K = c.args.self.now in
    let near = c.self.inside.near.items in
    let next = c.self.inside.next.items in
    let u = c.args.from in
    let v = c.args.to in
    let d : IsClosing K near next = subst (λ (z : Kernel). IsClosing z near next) c.self.view_is c.self.invariant in
    let mark : has (slice_index_or next u c.index.result.now) v ≡ false = sym (ap (λ r. has r v) c.index.ensures) ∙ sym c.has.ensures ∙ c.if-has.false in
    let full : most_order_edges ≤ length c.self.inside.order.items = let e = c.self.inside.order.ok.0 in omega arith in
    λ e. exceeds_edge K (edge u v 1) (unmarked_next K near next d u v c.requires.from c.requires.to c.index.result.now mark)
    (subst (λ (z : Kernel). most_order_edges ≤ length z.order) c.self.view_is full)

pub returns-clause-taken : goal.returns-clause-taken
returns-clause-taken c =
    let K = c.args.self.now in
    let near = c.self.inside.near.items in
    let next = c.self.inside.next.items in
    let u = c.args.from in
    let v = c.args.to in
    let d : IsClosing K near next = subst (λ (z : Kernel). IsClosing z near next) c.self.view_is c.self.invariant in
    let mark : has (slice_index_or next u c.index.result.now) v ≡ false = sym (ap (λ r. has r v) c.index.ensures) ∙ sym c.has.ensures ∙ c.if-has.false in
    let t = takes_edge K (edge u v 1) (unmarked_next K near next d u v c.requires.from c.requires.to c.index.result.now mark) in
    subst (λ (z : Kernel). Takes K (edge u v 1 ∷ []) z) (sym c.in_ok-add.ensures) t
