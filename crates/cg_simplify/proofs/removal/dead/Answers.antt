use Rattle.std.proofs.Common.{◌≤◌, Bool, List, length, sym, ap, ◌∙◌, subst, arith, ⊎_elim}
use Rattle.std.proofs.lemmas.Bool.{cases_lt, lt-ltb, true≢false}
use Rattle.cg_model.specs.declared.kernel.Node.{Node}
use Rattle.cg_model.specs.Kernel.{Kernel, size}
use Rattle.cg_simplify_draft.specs.Rewritten.{IsRewritten}
use Rattle.cg_simplify.proofs.Thinned.{IsThinned, same_nodes, thinned, thinned_kernel, thinned_rewritten}
use Rattle.cg_simplify.proofs.removal.dead.Goals as goal
use Rattle.cg_simplify.proofs.removal.dead.Goals.{After-new}

pub renumber-requires : goal.renumber-requires
renumber-requires c =
    let few = c.nodes-count.ensures.valid.few in
    let long = c.in_ok-marks.ensures.long in
    let e = ap (λ (xs : List Bool). length xs) c.deref.ensures.value in
    omega arith

abbrev made : After-new → Kernel
made c = record { nodes = c.in_ok-nodes.nodes.items; order = c.new.result.items }

made_thinned : (c : After-new) → IsThinned c.args.kernel.now (made c) c.in_ok-marks.marks.items c.in_ok-numbers.numbers.kept.items c.in_ok-numbers.numbers.numbers.items
made_thinned c =
    thinned c.args.kernel.now (made c) c.in_ok-marks.marks.items c.deref.result.now c.in_ok-numbers.numbers.kept.items c.deref-2.result.now
    c.in_ok-numbers.numbers.numbers.items c.deref-3.result.now c.nodes-count.ensures.valid c.in_ok-marks.ensures
    c.deref.ensures.value c.in_ok-numbers.ensures
    c.deref-2.ensures.value c.deref-3.ensures.value c.in_ok-nodes.ensures
    c.new.ensures.items

pub new-requires-2 : goal.new-requires-2
new-requires-2 c =
    thinned_kernel c.args.kernel.now (made c) c.in_ok-marks.marks.items c.in_ok-numbers.numbers.kept.items c.in_ok-numbers.numbers.numbers.items (made_thinned c)

pub returns-clause-rewritten : goal.returns-clause-rewritten
returns-clause-rewritten c =
    let a = (goal.at.returns-clause-rewritten c).After-new in
    subst (λ (M : Kernel). IsRewritten c.args.kernel.now M) (sym c.new-2.ensures)
    (thinned_rewritten c.args.kernel.now (made a) c.in_ok-marks.marks.items c.in_ok-numbers.numbers.kept.items c.in_ok-numbers.numbers.numbers.items (made_thinned a))

pub returns-clause-unchanged : goal.returns-clause-unchanged
returns-clause-unchanged c = λ e.
    let a = (goal.at.returns-clause-unchanged c).After-new in
    let K = c.args.kernel.now in
    let given = length c.nodes-count.result.now in
    let left : given ≤ c.len.result =
    ⊎_elim (λ l. absurd (true≢false (sym (lt-ltb c.len.result given l) ∙ e))) (λ l. l) (cases_lt c.len.result given) in
    let few : size K ≤ size (made a) = omega (arith, left, c.len.ensures, c.in_ok-nodes.nodes.ok.0, ap (λ (xs : List Node). length xs) c.nodes-count.ensures.nodes) in
    ap (λ (M : Kernel). M.nodes) c.new-2.ensures
    ∙ same_nodes K (made a) c.in_ok-marks.marks.items c.in_ok-numbers.numbers.kept.items c.in_ok-numbers.numbers.numbers.items (made_thinned a) few
