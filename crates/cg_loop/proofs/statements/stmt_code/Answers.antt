use Rattle.std.proofs.Common.{ap, sym, subst, Result, Ok, Err, IfOk}
use Rattle.cg_loop_syntax.specs.Grouped.{expr_of, guard_of, stmt_of}
use Rattle.cg_loop.specs.Made.{Executes}
use Rattle.cg_loop.proofs.Computing.{executes_put}
use Rattle.cg_loop.proofs.statements.stmt_code.Goals as goal

both : {T E : Type 0} (r : Result T E) (P Q R : Type 0) → (P → Q → R) → IfOk r (λ _. P) → IfOk r (λ _. Q) → IfOk r (λ _. R)
both (Ok x) P Q R f p q = f p q
both (Err e) P Q R f p q = tt

pub returns-in_ok-guard_code-in-Put : goal.returns-in_ok-guard_code-in-Put
returns-in_ok-guard_code-in-Put c =
    subst (λ st. IfOk c.store_code.result (λ u. Executes c.args.scope.now c.args.code.now c.store_code.new.code st)) (sym (ap stmt_of c.in-Put.is))
    (both c.store_code.result _ _ _
    (executes_put c.args.scope.now c.args.code.now _ _ _ c.store_code.new.code c.in-Put.name (expr_of c.in-Put.index) (expr_of c.in-Put.value) (guard_of c.in-Put.guard) _ _ _ c.in_ok-expr_code-in-Put.ensures c.in_ok-expr_code-in-Put-2.ensures c.in_ok-guard_code-in-Put.ensures)
    c.store_code.ensures.nodes c.store_code.ensures.accesses)
