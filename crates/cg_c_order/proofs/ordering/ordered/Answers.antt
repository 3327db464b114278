use Rattle.std.proofs.Common.{◌≡◌, ◌∙◌, ap, arith, length, subst, sym}
use Rattle.std.specs.Prelude.{List}
use Rattle.std.proofs.lemmas.Result.{err_from_is_err_and}
use Rattle.cg_model.specs.declared.kernel.Node.{Node}
use Rattle.cg_model.specs.Kernel.{Kernel, size}
use Rattle.cg_c_order.specs.Accesses.{all_forth}
use Rattle.cg_c_order.specs.Choosing.{Exceeds}
use Rattle.cg_c_order.proofs.Wanted.{are_ordered, exceeds_forth, lent_exceeds, lent_few, lent_long, lent_ordered, lent_table}
use Rattle.cg_c_order.proofs.ordering.ordered.Goals as goal

pub order_forth-requires-clause-size : goal.order_forth-requires-clause-size
order_forth-requires-clause-size c =
    let n = length c.args.nodes.items in
    let len : c.len.result ≡ n = c.len.ensures ∙ c.args.nodes.ok.0 in
    let first = lent_table c.len.result n c.args.accesses.now c.in_ok-table.table.items c.deref.result.now len c.in_ok-table.ensures c.deref.ensures.value in
    lent_long n c.args.accesses.now c.deref.result.now first ∙ sym (ap (λ (z : Kernel). size z) c.in_ok-draft.ensures)

pub order_forth-requires-clause-few : goal.order_forth-requires-clause-few
order_forth-requires-clause-few c =
    let n = length c.args.nodes.items in
    let len : c.len.result ≡ n = c.len.ensures ∙ c.args.nodes.ok.0 in
    let first = lent_table c.len.result n c.args.accesses.now c.in_ok-table.table.items c.deref.result.now len c.in_ok-table.ensures c.deref.ensures.value in
    let long = lent_long n c.args.accesses.now c.deref.result.now first in
    let few = c.requires.kernel.few in
    omega arith

pub returns-in_err-order_forth-clause-many : goal.returns-in_err-order_forth-clause-many
returns-in_err-order_forth-clause-many c = λ e.
    let n = length c.args.nodes.items in
    let len : c.len.result ≡ n = c.len.ensures ∙ c.args.nodes.ok.0 in
    let first = lent_table c.len.result n c.args.accesses.now c.in_ok-table.table.items c.deref.result.now len c.in_ok-table.ensures c.deref.ensures.value in
    let p = err_from_is_err_and c.from_residual-in_err-order_forth.result c.from_residual-in_err-order_forth.ensures.1 in
    let x = c.in_err-order_forth.ensures.many (cc (p.1, p.2, e)) in
    exceeds_forth c.args.nodes.items c.args.accesses.now c.deref.result.now first c.in_ok-draft.draft (subst (λ (z : Kernel). Exceeds z (all_forth c.deref.result.now)) c.in_ok-draft.ensures x)

pub order_back-requires-clause-size : goal.order_back-requires-clause-size
order_back-requires-clause-size c =
    let n = length c.args.nodes.items in
    let len : c.len.result ≡ n = c.len.ensures ∙ c.args.nodes.ok.0 in
    let first = lent_table c.len.result n c.args.accesses.now c.in_ok-table.table.items c.deref.result.now len c.in_ok-table.ensures c.deref.ensures.value in
    let second = lent_table c.len.result n c.args.accesses.now c.in_ok-table.table.items c.deref-2.result.now len c.in_ok-table.ensures c.deref-2.ensures.value in
    let same = lent_few c.args.nodes.items c.args.accesses.now c.deref.result.now c.deref-2.result.now first second c.in_ok-draft.draft c.order_forth.new.draft c.in_ok-closing.closing c.in_ok-draft.ensures c.in_ok-order_forth.ensures.taken in
    lent_long n c.args.accesses.now c.deref-2.result.now second ∙ sym (ap (λ (z : List Node). length z) same) ∙ sym (ap (λ (z : Kernel). size z) c.in_ok-closing.ensures)

pub order_back-requires-clause-few : goal.order_back-requires-clause-few
order_back-requires-clause-few c =
    let n = length c.args.nodes.items in
    let len : c.len.result ≡ n = c.len.ensures ∙ c.args.nodes.ok.0 in
    let first = lent_table c.len.result n c.args.accesses.now c.in_ok-table.table.items c.deref.result.now len c.in_ok-table.ensures c.deref.ensures.value in
    let second = lent_table c.len.result n c.args.accesses.now c.in_ok-table.table.items c.deref-2.result.now len c.in_ok-table.ensures c.deref-2.ensures.value in
    let long = lent_long n c.args.accesses.now c.deref-2.result.now second in
    let few = c.requires.kernel.few in
    omega arith

pub returns-in_err-order_back-clause-many : goal.returns-in_err-order_back-clause-many
returns-in_err-order_back-clause-many c = λ e.
    let n = length c.args.nodes.items in
    let len : c.len.result ≡ n = c.len.ensures ∙ c.args.nodes.ok.0 in
    let first = lent_table c.len.result n c.args.accesses.now c.in_ok-table.table.items c.deref.result.now len c.in_ok-table.ensures c.deref.ensures.value in
    let second = lent_table c.len.result n c.args.accesses.now c.in_ok-table.table.items c.deref-2.result.now len c.in_ok-table.ensures c.deref-2.ensures.value in
    let p = err_from_is_err_and c.from_residual-in_err-order_back.result c.from_residual-in_err-order_back.ensures.1 in
    lent_exceeds c.args.nodes.items c.args.accesses.now c.deref.result.now c.deref-2.result.now first second c.in_ok-draft.draft c.order_forth.new.draft c.in_ok-closing.closing c.in_ok-draft.ensures c.in_ok-order_forth.ensures.taken c.in_ok-closing.ensures (c.in_err-order_back.ensures.many (cc (p.1, p.2, e)))

pub returns-clause-edges : goal.returns-clause-edges
returns-clause-edges c =
    let n = length c.args.nodes.items in
    let len : c.len.result ≡ n = c.len.ensures ∙ c.args.nodes.ok.0 in
    let first = lent_table c.len.result n c.args.accesses.now c.in_ok-table.table.items c.deref.result.now len c.in_ok-table.ensures c.deref.ensures.value in
    let second = lent_table c.len.result n c.args.accesses.now c.in_ok-table.table.items c.deref-2.result.now len c.in_ok-table.ensures c.deref-2.ensures.value in
    lent_ordered c.args.nodes.items c.args.accesses.now c.deref.result.now c.deref-2.result.now first second c.in_ok-draft.draft c.order_forth.new.draft c.in_ok-closing.closing c.in_ok-draft.ensures c.in_ok-order_forth.ensures.taken c.order_back.new.closing c.in_ok-closing.ensures c.in_ok-order_back.ensures.taken c.into_kernel.result c.into_kernel.ensures

pub returns-clause-ordered : goal.returns-clause-ordered
returns-clause-ordered c =
    let n = length c.args.nodes.items in
    let len : c.len.result ≡ n = c.len.ensures ∙ c.args.nodes.ok.0 in
    let first = lent_table c.len.result n c.args.accesses.now c.in_ok-table.table.items c.deref.result.now len c.in_ok-table.ensures c.deref.ensures.value in
    let second = lent_table c.len.result n c.args.accesses.now c.in_ok-table.table.items c.deref-2.result.now len c.in_ok-table.ensures c.deref-2.ensures.value in
    are_ordered c.args.nodes.items c.args.accesses.now c.into_kernel.result c.requires.accesses
    (lent_ordered c.args.nodes.items c.args.accesses.now c.deref.result.now c.deref-2.result.now first second c.in_ok-draft.draft c.order_forth.new.draft c.in_ok-closing.closing c.in_ok-draft.ensures c.in_ok-order_forth.ensures.taken c.order_back.new.closing c.in_ok-closing.ensures c.in_ok-order_back.ensures.taken c.into_kernel.result c.into_kernel.ensures)
