use Rattle.std.proofs.Common.{sym, ap, ◌∙◌, arith, rules, ◌+◌}
use Rattle.std.proofs.lemmas.Result.{err_from_is_err_and}
use Rattle.cg_c_syntax.specs.Written as written
use Rattle.cg_c_check.specs.Written as made
use Rattle.cg_c_check.specs.States.{state_of}
use Rattle.std.proofs.Common.{add-one, true}
use Rattle.std.proofs.lemmas.Bool.Decides.{nat_tests}
use Rattle.cg_c_syntax.specs.declared.statement.Loop.{out-Loop}
use Rattle.cg_c_syntax.specs.declared.statement.Nest.{out-Nest}
use Rattle.cg_c_check.specs.Statements.{stmts}
use Rattle.cg_c_check.specs.Check.{nest, looped}
use Rattle.cg_c_check.specs.Nests.{nested_of}
use Rattle.cg_c_check.proofs.Around.{head_of, loop_is, bare_is, holds_is, looped_deep, looped_fails_1, looped_fails_2, looped_fails_3, looped_goes, bare_fails, bare_goes, holds_fails_1, holds_fails_2, holds_fails_3, holds_goes}
use Rattle.cg_c_check.proofs.checker.Checker.+nest.Goals as goal

pub holds-returns-in_err-before-clause-err : goal.holds-returns-in_err-before-clause-err
holds-returns-in_err-before-clause-err t c =
    let p = err_from_is_err_and c.from_residual.result c.from_residual.ensures.1 in
    rw (p.1, p.2) (λ other. holds_fails_1 c.args.depth c.args.turns (written.stmts_of c.args.before.now) (written.loop_of c.args.inner.now) (written.stmts_of c.args.after.now) (state_of c.args.self.now) c.in_err-before.field-0.0 (c.in_err-before.ensures.err other))

pub holds-returns-in_err-range-clause-err : goal.holds-returns-in_err-range-clause-err
holds-returns-in_err-range-clause-err t c =
    let p = err_from_is_err_and c.from_residual-in_err-range.result c.from_residual-in_err-range.ensures.1 in
    rw (p.1, p.2) (λ other. holds_fails_2 c.args.depth c.args.turns (written.stmts_of c.args.before.now) (written.loop_of c.args.inner.now) (written.stmts_of c.args.after.now) (state_of c.args.self.now) (made.stmts_of c.in_ok-before.before.items) (state_of c.stmts.new.self) c.in_err-range.field-0.0 c.in_ok-before.ensures.ok (c.in_err-range.ensures.err other))

pub holds-returns-in_err-after-clause-err : goal.holds-returns-in_err-after-clause-err
holds-returns-in_err-after-clause-err t c =
    let p = err_from_is_err_and c.from_residual-in_err-after.result c.from_residual-in_err-after.ensures.1 in
    rw (p.1, p.2) (λ other. holds_fails_3 c.args.depth c.args.turns (written.stmts_of c.args.before.now) (written.loop_of c.args.inner.now) (written.stmts_of c.args.after.now) (state_of c.args.self.now) (made.stmts_of c.in_ok-before.before.items) (state_of c.stmts.new.self) (c.in_ok-range.range, nested_of c.in_ok-range.nested) (state_of c.looped.new.self) c.count-visible.result c.forget.new.self c.in_err-after.field-0.0 c.in_ok-before.ensures.ok c.in_ok-range.ensures.ok c.count-visible.ensures c.forget.ensures (c.in_err-after.ensures.err other))

pub holds-returns-clause-ok : goal.holds-returns-clause-ok
holds-returns-clause-ok t c = rw c.in_ok-insert.ensures.items (holds_goes c.args.depth c.args.turns (written.stmts_of c.args.before.now) (written.loop_of c.args.inner.now) (written.stmts_of c.args.after.now) (state_of c.args.self.now) (made.stmts_of c.in_ok-before.before.items) (state_of c.stmts.new.self) (c.in_ok-range.range, nested_of c.in_ok-range.nested) (state_of c.looped.new.self) c.count-visible.result c.forget.new.self (made.stmts_of c.in_ok-after.after.items) (state_of c.stmts-2.new.self) c.in_ok-before.ensures.ok c.in_ok-range.ensures.ok c.count-visible.ensures c.forget.ensures c.in_ok-after.ensures.ok)

pub looped-returns-then-depth-ge-MOST_LOOPS-clause-err : goal.looped-returns-then-depth-ge-MOST_LOOPS-clause-err
looped-returns-then-depth-ge-MOST_LOOPS-clause-err t c = λ _. ap (λ z. looped c.args.depth c.args.turns z (state_of c.args.self.now)) (loop_is c.args.tree.now) ∙ looped_deep c.args.depth c.args.turns (out-Loop c.args.tree.now).place (head_of c.args.tree.now) (written.nest_of (out-Loop c.args.tree.now).body) (state_of c.args.self.now) (grind (arith, nat_tests))

pub looped-returns-in_err-range-clause-err : goal.looped-returns-in_err-range-clause-err
looped-returns-in_err-range-clause-err t c =
    let p = err_from_is_err_and c.from_residual.result c.from_residual.ensures.1 in
    rw (p.1, p.2) (λ other. ap (λ z. looped c.args.depth c.args.turns z (state_of c.args.self.now)) (loop_is c.args.tree.now) ∙ looped_fails_1 c.args.depth c.args.turns (out-Loop c.args.tree.now).place (head_of c.args.tree.now) (written.nest_of (out-Loop c.args.tree.now).body) (state_of c.args.self.now) c.in_err-range.field-0.0 (grind (arith, nat_tests)) (sym c.in_err-range.ensures.value))

pub looped-returns-in_err-declare-clause-err : goal.looped-returns-in_err-declare-clause-err
looped-returns-in_err-declare-clause-err t c =
    let p = err_from_is_err_and c.from_residual-in_err-declare.result c.from_residual-in_err-declare.ensures.1 in
    rw (p.1, p.2) (λ other. ap (λ z. looped c.args.depth c.args.turns z (state_of c.args.self.now)) (loop_is c.args.tree.now) ∙ looped_fails_2 c.args.depth c.args.turns (out-Loop c.args.tree.now).place (head_of c.args.tree.now) (written.nest_of (out-Loop c.args.tree.now).body) (state_of c.args.self.now) c.in_ok-range.range c.in_err-declare.field-0.0 (grind (arith, nat_tests)) (sym c.in_ok-range.ensures.value) (c.in_err-declare.ensures.err other))

pub looped-returns-in_err-nested-clause-err : goal.looped-returns-in_err-nested-clause-err
looped-returns-in_err-nested-clause-err t c =
    let p = err_from_is_err_and c.from_residual-in_err-nested.result c.from_residual-in_err-nested.ensures.1 in
    rw (p.1, p.2) (λ other. ap (λ z. looped c.args.depth c.args.turns z (state_of c.args.self.now)) (loop_is c.args.tree.now) ∙ looped_fails_3 c.args.depth c.args.turns (out-Loop c.args.tree.now).place (head_of c.args.tree.now) (written.nest_of (out-Loop c.args.tree.now).body) (state_of c.args.self.now) c.in_ok-range.range c.declare.new.self (c.args.depth + 1) c.in_err-nested.field-0.0 (grind (arith, nat_tests)) (sym c.in_ok-range.ensures.value) c.in_ok-declare.ensures.ok (add-one c.args.depth) (c.in_err-nested.ensures.err other))

pub looped-returns-clause-ok : goal.looped-returns-clause-ok
looped-returns-clause-ok t c = ap (λ z. looped c.args.depth c.args.turns z (state_of c.args.self.now)) (loop_is c.args.tree.now) ∙ looped_goes c.args.depth c.args.turns (out-Loop c.args.tree.now).place (head_of c.args.tree.now) (written.nest_of (out-Loop c.args.tree.now).body) (state_of c.args.self.now) c.in_ok-range.range c.declare.new.self (c.args.depth + 1) (nested_of c.in_ok-nested.nested) (state_of c.nest.new.self) (grind (arith, nat_tests)) (sym c.in_ok-range.ensures.value) c.in_ok-declare.ensures.ok (add-one c.args.depth) c.in_ok-nested.ensures.ok

pub nest-returns-in_err-stmts-in-None-clause-err : goal.nest-returns-in_err-stmts-in-None-clause-err
nest-returns-in_err-stmts-in-None-clause-err t c =
    let p = err_from_is_err_and c.from_residual.result c.from_residual.ensures.1 in
    rw (p.1, p.2) (λ other. ap (λ z. nest c.args.depth c.args.turns z (state_of c.args.self.now)) (bare_is c.args.tree.now c.in-None.is) ∙ bare_fails c.args.depth c.args.turns (written.stmts_of (out-Nest c.args.tree.now).before.items) (state_of c.args.self.now) c.in_err-stmts-in-None.field-0.0 (ap (λ z. stmts true (written.stmts_of z) (state_of c.args.self.now)) (sym c.deref.ensures.value) ∙ c.in_err-stmts-in-None.ensures.err other))

pub nest-returns-in_ok-stmts-in-None-clause-ok : goal.nest-returns-in_ok-stmts-in-None-clause-ok
nest-returns-in_ok-stmts-in-None-clause-ok t c = rw c.new.ensures.items (ap (λ z. nest c.args.depth c.args.turns z (state_of c.args.self.now)) (bare_is c.args.tree.now c.in-None.is) ∙ bare_goes c.args.depth c.args.turns (written.stmts_of (out-Nest c.args.tree.now).before.items) (state_of c.args.self.now) (made.stmts_of c.in_ok-stmts-in-None.field-0.items) (state_of c.stmts.new.self) (ap (λ z. stmts true (written.stmts_of z) (state_of c.args.self.now)) (sym c.deref.ensures.value) ∙ c.in_ok-stmts-in-None.ensures.ok))

pub nest-returns-in-Some-clause-ok : goal.nest-returns-in-Some-clause-ok
nest-returns-in-Some-clause-ok t c = rw (holds_is c.args.tree.now c.in-Some.inner c.deref-in-Some.result.now c.in-Some.is (search rules), ← c.deref-in-Some-2.ensures.value, ← c.deref-in-Some-3.ensures.value) c.holds.ensures.ok

pub nest-returns-in-Some-clause-err : goal.nest-returns-in-Some-clause-err
nest-returns-in-Some-clause-err t c = rw (holds_is c.args.tree.now c.in-Some.inner c.deref-in-Some.result.now c.in-Some.is (search rules), ← c.deref-in-Some-2.ensures.value, ← c.deref-in-Some-3.ensures.value) c.holds.ensures.err
