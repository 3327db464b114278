use Rattle.std.proofs.Common.{map, Some, None, Ok, Err, Result, sym, ap, ◌∙◌, rules}
use Rattle.std.specs.Result.{OnOk}
use Rattle.cg_c_check.specs.declared.program.Stmt.{the_lemmas}
use Rattle.cg_c_check.specs.Written.{expr_of, initial_of, stmt_of, stmts_of, target_of}
use Rattle.cg_c_turn.specs.Draft.{draft_of}
use Rattle.cg_c_turn.proofs.Branching.{begun_formed, arms_are, arm_is, known_first, known_second, known_none}
use Rattle.cg_c_turn.proofs.Listed.{stmts_start, next_stmt, stmts_step, stmts_done}
use Rattle.cg_c_turn.proofs.Formed.{words_shape, block_shape, output_shape, assign_shape, lone_shape, else_shape, if_shape, held, else_known, lone_known, held_known, first_none, first_formed, first_arrays, second_formed, second_arrays, is_positive, zero_is, words_typed, words_apart, block_typed, block_apart, output_typed, output_apart, branch_typed, branch_apart, same_stands, words_stand, block_stands, output_stands, assign_stands, if_stands}
use Rattle.cg_c_turn.proofs.draft.Draft.+stmts.Goals as goal

on_ok : {A F : Type 0} (r : Result A F) (P Q : Type 0) → (P → Q) → OnOk r P → OnOk r Q
on_ok (Ok a) P Q f h = f h
on_ok (Err e) P Q f h = tt

pub stmt-declare-requires-clause-typed : goal.stmt-declare-requires-clause-typed
stmt-declare-requires-clause-typed t c =
    words_typed c.args.self.now.arrays.now (stmt_of c.args.stmt.now) _ (words_shape c.args.stmt.now c.deref.result.now c.in-Words.initials c.in-Words.is c.deref.ensures.value) c.requires.typed

pub stmt-declare-requires-clause-apart : goal.stmt-declare-requires-clause-apart
stmt-declare-requires-clause-apart t c =
    words_apart (stmt_of c.args.stmt.now) _ (words_shape c.args.stmt.now c.deref.result.now c.in-Words.initials c.in-Words.is c.deref.ensures.value) c.requires.apart

pub stmt-stmts-requires : goal.stmt-stmts-requires
stmt-stmts-requires t c =
    let e = block_shape c.args.stmt.now c.deref-in-Block.result.now c.in-Block.stmts c.in-Block.is c.deref-in-Block.ensures.value in (
      search (rules, the_lemmas),
      (
        c.requires.formed,
        (
          block_typed c.args.self.now.arrays.now (stmt_of c.args.stmt.now) _ e c.requires.typed,
          block_apart (stmt_of c.args.stmt.now) _ e c.requires.apart,
        ),
      ),
    )

pub stmt-expr-requires-clause-typed : goal.stmt-expr-requires-clause-typed
stmt-expr-requires-clause-typed t c = (held_known c.args.self.now.arrays.now c.args.stmt.now c.in-If.condition c.in-If.chosen c.in-If.other c.in-If.is c.requires.typed c.requires.apart).condition

pub stmt-expr-requires-clause-apart : goal.stmt-expr-requires-clause-apart
stmt-expr-requires-clause-apart t c = (held_known c.args.self.now.arrays.now c.args.stmt.now c.in-If.condition c.in-If.chosen c.in-If.other c.in-If.is c.requires.typed c.requires.apart).apart

pub stmt-stmt-requires : goal.stmt-stmt-requires
stmt-stmt-requires t c =
    let k = else_known c.args.self.now.arrays.now c.args.stmt.now c.in-If.condition c.in-If.chosen c.in-Some-eq0-Some.other c.in-If.other c.in-If.is c.in-Some-eq0-Some.is-1 c.requires.typed c.requires.apart in
    let u = c.in_ok-c-in-If.ensures.1 in (
      search (rules, the_lemmas),
      (
        u.formed,
        (
          branch_typed c.args.self.now.arrays.now c.expr.new.self.arrays.now c.in-Some-eq0-Some.other.value c.deref-in-Some-eq0-Some.result.now u.grows.arrays c.deref-in-Some-eq0-Some.ensures k.other_is,
          branch_apart c.in-Some-eq0-Some.other.value c.deref-in-Some-eq0-Some.result.now c.deref-in-Some-eq0-Some.ensures k.none.1,
        ),
      ),
    )

pub stmt-stmt-requires-in-Some-default : goal.stmt-stmt-requires-in-Some-default
stmt-stmt-requires-in-Some-default t c =
    let k = held_known c.args.self.now.arrays.now c.args.stmt.now c.in-If.condition c.in-If.chosen c.in-If.other c.in-If.is c.requires.typed c.requires.apart in
    let u = c.in_ok-c-in-If.ensures.1 in (
      search (rules, the_lemmas),
      (
        u.formed,
        (
          branch_typed c.args.self.now.arrays.now c.expr.new.self.arrays.now c.in-If.chosen.value c.deref-in-Some-default.result.now u.grows.arrays c.deref-in-Some-default.ensures k.chosen_is,
          branch_apart c.in-If.chosen.value c.deref-in-Some-default.result.now c.deref-in-Some-default.ensures (first_none (stmt_of c.in-If.chosen.value) (held c.in-If.other) k.none),
        ),
      ),
    )

pub stmt-stmt-requires-in-None-None : goal.stmt-stmt-requires-in-None-None
stmt-stmt-requires-in-None-None t c =
    let k = lone_known c.args.self.now.arrays.now c.args.stmt.now c.in-If.condition c.in-If.chosen c.in-If.other c.in-If.is c.in-None-None.is-1 c.requires.typed c.requires.apart in
    let u = c.in_ok-c-in-If.ensures.1 in
    let b = c.in_ok-arms-in-None-None.ensures in
    let d = draft_of c.expr.new.self in
    let d1 = draft_of c.begin_arms.new.self in
    let a = c.in_ok-arms-in-None-None.arms in
    let v = c.in_ok-c-in-If.c in (
      search (rules, the_lemmas),
      (
        first_formed d d1 v a.negation a.point.guard a.point.words.items u.formed b,
        (
          branch_typed c.args.self.now.arrays.now c.begin_arms.new.self.arrays.now c.in-If.chosen.value c.deref-in-None-None.result.now (first_arrays d d1 v a.negation a.point.guard a.point.words.items b ∙ u.grows.arrays) c.deref-in-None-None.ensures k.chosen_is,
          branch_apart c.in-If.chosen.value c.deref-in-None-None.result.now c.deref-in-None-None.ensures k.none,
        ),
      ),
    )

pub stmt-stmt-requires-in-None-Some : goal.stmt-stmt-requires-in-None-Some
stmt-stmt-requires-in-None-Some t c =
    let k = else_known c.args.self.now.arrays.now c.args.stmt.now c.in-If.condition c.in-If.chosen c.in-None-Some.other c.in-If.other c.in-If.is c.in-None-Some.is-1 c.requires.typed c.requires.apart in
    let u = c.in_ok-c-in-If.ensures.1 in
    let b = c.in_ok-arms-in-None-Some.ensures in
    let d = draft_of c.expr.new.self in
    let d1 = draft_of c.begin_arms-in-None-Some.new.self in
    let a = c.in_ok-arms-in-None-Some.arms in
    let v = c.in_ok-c-in-If.c in (
      search (rules, the_lemmas),
      (
        first_formed d d1 v a.negation a.point.guard a.point.words.items u.formed b,
        (
          branch_typed c.args.self.now.arrays.now c.begin_arms-in-None-Some.new.self.arrays.now c.in-If.chosen.value c.deref-in-None-Some.result.now (first_arrays d d1 v a.negation a.point.guard a.point.words.items b ∙ u.grows.arrays) c.deref-in-None-Some.ensures k.chosen_is,
          branch_apart c.in-If.chosen.value c.deref-in-None-Some.result.now c.deref-in-None-Some.ensures k.none.0,
        ),
      ),
    )

pub stmt-switch_arms-requires-clause-formed : goal.stmt-switch_arms-requires-clause-formed
stmt-switch_arms-requires-clause-formed t c =
    let u = c.in_ok-c-in-If.ensures.1 in
    let b = c.in_ok-arms-in-None-Some.ensures in
    let f = c.in_ok-stmt-in-None-Some.ensures in
    begun_formed u.formed b f.performs.grows.values f.performs.formed

pub stmt-stmt-requires-in-None-Some-2 : goal.stmt-stmt-requires-in-None-Some-2
stmt-stmt-requires-in-None-Some-2 t c =
    let k = else_known c.args.self.now.arrays.now c.args.stmt.now c.in-If.condition c.in-If.chosen c.in-None-Some.other c.in-If.other c.in-If.is c.in-None-Some.is-1 c.requires.typed c.requires.apart in
    let u = c.in_ok-c-in-If.ensures.1 in
    let b = c.in_ok-arms-in-None-Some.ensures in
    let d = draft_of c.expr.new.self in
    let d1 = draft_of c.begin_arms-in-None-Some.new.self in
    let a = c.in_ok-arms-in-None-Some.arms in
    let v = c.in_ok-c-in-If.c in
    let d2 = draft_of c.stmt-in-None-Some.new.self in
    let d4 = draft_of c.switch_arms.new.self in
    let f = c.in_ok-stmt-in-None-Some.ensures in
    let s = c.in_ok-switched-in-None-Some.ensures.switches in
    let w = c.in_ok-switched-in-None-Some.switched.point in (
      search (rules, the_lemmas),
      (
        second_formed d2 d4 a.negation a.point.guard w.guard a.point.words.items w.words.items (begun_formed u.formed b f.performs.grows.values f.performs.formed) s,
        (
          branch_typed c.args.self.now.arrays.now c.switch_arms.new.self.arrays.now c.in-None-Some.other.value c.deref-in-None-Some-2.result.now (second_arrays d2 d4 a.negation a.point.guard w.guard a.point.words.items w.words.items s ∙ f.performs.grows.arrays ∙ first_arrays d d1 v a.negation a.point.guard a.point.words.items b ∙ u.grows.arrays) c.deref-in-None-Some-2.ensures k.other_is,
          branch_apart c.in-None-Some.other.value c.deref-in-None-Some-2.result.now c.deref-in-None-Some-2.ensures k.none.1,
        ),
      ),
    )

pub stmt-send-requires-clause-typed : goal.stmt-send-requires-clause-typed
stmt-send-requires-clause-typed t c =
    output_typed c.args.self.now.arrays.now (stmt_of c.args.stmt.now) c.in-Output.port (expr_of c.in-Output.value) (output_shape c.args.stmt.now c.in-Output.port c.in-Output.value c.in-Output.is) c.requires.typed

pub stmt-send-requires-clause-apart : goal.stmt-send-requires-clause-apart
stmt-send-requires-clause-apart t c =
    output_apart (stmt_of c.args.stmt.now) c.in-Output.port (expr_of c.in-Output.value) (output_shape c.args.stmt.now c.in-Output.port c.in-Output.value c.in-Output.is) c.requires.apart

pub stmt-returns-in-Words : goal.stmt-returns-in-Words
stmt-returns-in-Words t c = on_ok c.declare.result _ _ (words_stand (stmt_of c.args.stmt.now) (map initial_of c.deref.result.now) (words_shape c.args.stmt.now c.deref.result.now c.in-Words.initials c.in-Words.is c.deref.ensures.value)) c.declare.ensures

pub stmt-returns-in-Block : goal.stmt-returns-in-Block
stmt-returns-in-Block t c = on_ok c.stmts.result _ _ (block_stands (stmt_of c.args.stmt.now) (stmts_of c.deref-in-Block.result.now) (block_shape c.args.stmt.now c.deref-in-Block.result.now c.in-Block.stmts c.in-Block.is c.deref-in-Block.ensures.value)) c.stmts.ensures

pub stmt-returns-in-Output : goal.stmt-returns-in-Output
stmt-returns-in-Output t c = on_ok c.send.result _ _ (output_stands (stmt_of c.args.stmt.now) c.in-Output.port (expr_of c.in-Output.value) (output_shape c.args.stmt.now c.in-Output.port c.in-Output.value c.in-Output.is)) c.send.ensures

pub stmt-returns-in-Assign : goal.stmt-returns-in-Assign
stmt-returns-in-Assign t c =
    on_ok c.assign.result _ _ (assign_stands (stmt_of c.args.stmt.now) (target_of c.in-Assign.target) c.in-Assign.op (expr_of c.in-Assign.value) (assign_shape c.args.stmt.now c.in-Assign.target c.in-Assign.op c.in-Assign.value c.in-Assign.is)) c.assign.ensures

pub stmt-returns-in-Some-eq0-None : goal.stmt-returns-in-Some-eq0-None
stmt-returns-in-Some-eq0-None t c =
    let k = lone_known c.args.self.now.arrays.now c.args.stmt.now c.in-If.condition c.in-If.chosen c.in-If.other c.in-If.is c.in-Some-eq0-None.is-1 c.requires.typed c.requires.apart in
    let u = c.in_ok-c-in-If.ensures.1 in
    let v = c.in_ok-c-in-If.c in
    if_stands (stmt_of c.args.stmt.now) (expr_of c.in-If.condition) (stmt_of c.in-If.chosen.value) None
    (lone_shape c.args.stmt.now c.in-If.condition c.in-If.chosen c.in-If.other c.in-If.is c.in-Some-eq0-None.is-1) k u
    (known_none v (stmt_of c.in-If.chosen.value) u.formed u.within (zero_is _ _ c.in-Some-eq0-None.ensures.is (search rules)))

pub stmt-returns-in-Some-eq0-Some : goal.stmt-returns-in-Some-eq0-Some
stmt-returns-in-Some-eq0-Some t c =
    let k = else_known c.args.self.now.arrays.now c.args.stmt.now c.in-If.condition c.in-If.chosen c.in-Some-eq0-Some.other c.in-If.other c.in-If.is c.in-Some-eq0-Some.is-1 c.requires.typed c.requires.apart in
    let u = c.in_ok-c-in-If.ensures.1 in
    let v = c.in_ok-c-in-If.c in
    on_ok c.stmt.result _ _ (λ h. if_stands (stmt_of c.args.stmt.now) (expr_of c.in-If.condition) (stmt_of c.in-If.chosen.value) (Some (stmt_of c.in-Some-eq0-Some.other.value))
    (else_shape c.args.stmt.now c.in-If.condition c.in-If.chosen c.in-Some-eq0-Some.other c.in-If.other c.in-If.is c.in-Some-eq0-Some.is-1) k u
    (known_second v (stmt_of c.in-If.chosen.value) (stmt_of c.in-Some-eq0-Some.other.value) u.within (zero_is _ _ c.in-Some-eq0-Some.ensures.is (search rules)) k.none.1 (same_stands (stmt_of c.in-Some-eq0-Some.other.value) (stmt_of c.deref-in-Some-eq0-Some.result.now) (sym (ap stmt_of c.deref-in-Some-eq0-Some.ensures)) h))) c.stmt.ensures

pub stmt-returns-in-Some-default : goal.stmt-returns-in-Some-default
stmt-returns-in-Some-default t c =
    let k = held_known c.args.self.now.arrays.now c.args.stmt.now c.in-If.condition c.in-If.chosen c.in-If.other c.in-If.is c.requires.typed c.requires.apart in
    let u = c.in_ok-c-in-If.ensures.1 in
    let v = c.in_ok-c-in-If.c in
    on_ok c.stmt-in-Some-default.result _ _ (λ h. if_stands (stmt_of c.args.stmt.now) (expr_of c.in-If.condition) (stmt_of c.in-If.chosen.value) (held c.in-If.other)
    (if_shape c.args.stmt.now c.in-If.condition c.in-If.chosen c.in-If.other c.in-If.is) k u
    (known_first v c.in-Some-default.field-0-0 (stmt_of c.in-If.chosen.value) (held c.in-If.other) u.within c.in-Some-default.ensures.is (is_positive c.in-Some-default.field-0-0 (search rules)) (first_none (stmt_of c.in-If.chosen.value) (held c.in-If.other) k.none) (same_stands (stmt_of c.in-If.chosen.value) (stmt_of c.deref-in-Some-default.result.now) (sym (ap stmt_of c.deref-in-Some-default.ensures)) h))) c.stmt-in-Some-default.ensures

pub stmt-returns-in_ok-stmt-in-None-None : goal.stmt-returns-in_ok-stmt-in-None-None
stmt-returns-in_ok-stmt-in-None-None t c =
    let k = lone_known c.args.self.now.arrays.now c.args.stmt.now c.in-If.condition c.in-If.chosen c.in-If.other c.in-If.is c.in-None-None.is-1 c.requires.typed c.requires.apart in
    let u = c.in_ok-c-in-If.ensures.1 in
    let v = c.in_ok-c-in-If.c in
    let b = c.in_ok-arms-in-None-None.ensures in
    on_ok c.end_arm.result _ _ (λ h. if_stands (stmt_of c.args.stmt.now) (expr_of c.in-If.condition) (stmt_of c.in-If.chosen.value) None
    (lone_shape c.args.stmt.now c.in-If.condition c.in-If.chosen c.in-If.other c.in-If.is c.in-None-None.is-1) k u
    (arm_is (stmt_of c.in-If.chosen.value) u.formed b (same_stands (stmt_of c.in-If.chosen.value) (stmt_of c.deref-in-None-None.result.now) (sym (ap stmt_of c.deref-in-None-None.ensures)) c.in_ok-stmt-in-None-None.ensures) k.none h)) c.end_arm.ensures

pub stmt-returns-in_ok-stmt-in-None-Some-2 : goal.stmt-returns-in_ok-stmt-in-None-Some-2
stmt-returns-in_ok-stmt-in-None-Some-2 t c =
    let k = else_known c.args.self.now.arrays.now c.args.stmt.now c.in-If.condition c.in-If.chosen c.in-None-Some.other c.in-If.other c.in-If.is c.in-None-Some.is-1 c.requires.typed c.requires.apart in
    let u = c.in_ok-c-in-If.ensures.1 in
    let v = c.in_ok-c-in-If.c in
    let b = c.in_ok-arms-in-None-Some.ensures in
    let s = c.in_ok-switched-in-None-Some.ensures in
    on_ok c.end_arms.result _ _ (λ h. if_stands (stmt_of c.args.stmt.now) (expr_of c.in-If.condition) (stmt_of c.in-If.chosen.value) (Some (stmt_of c.in-None-Some.other.value))
    (else_shape c.args.stmt.now c.in-If.condition c.in-If.chosen c.in-None-Some.other c.in-If.other c.in-If.is c.in-None-Some.is-1) k u
    (arms_are (stmt_of c.in-If.chosen.value) (stmt_of c.in-None-Some.other.value) u.formed b
    (same_stands (stmt_of c.in-If.chosen.value) (stmt_of c.deref-in-None-Some.result.now) (sym (ap stmt_of c.deref-in-None-Some.ensures)) c.in_ok-stmt-in-None-Some.ensures) k.none.0
    s.switches s.chosen
    (same_stands (stmt_of c.in-None-Some.other.value) (stmt_of c.deref-in-None-Some-2.result.now) (sym (ap stmt_of c.deref-in-None-Some-2.ensures)) c.in_ok-stmt-in-None-Some-2.ensures) k.none.1 h)) c.end_arms.ensures

pub stmts-stmt-requires : goal.stmts-stmt-requires
stmts-stmt-requires t c =
    let n = next_stmt c.args.stmts.now c.loop-s.s-index c.s-item.result c.loop-s-test.true c.s-item.is c.loop-s.invariant in
    (search (rules, the_lemmas), (n.formed, (n.typed, n.apart)))

pub stmts-loop-s-init : goal.stmts-loop-s-init
stmts-loop-s-init t c = stmts_start (draft_of c.args.self.now) c.args.stmts.now c.requires.formed c.requires.typed c.requires.apart

pub stmts-loop-s-preserved : goal.stmts-loop-s-preserved
stmts-loop-s-preserved t c = stmts_step c.args.stmts.now c.loop-s.s-index c.s-item.result c.loop-s-test.true c.s-item.is c.loop-s.invariant c.in_ok-stmt.ensures

pub stmts-returns : goal.stmts-returns
stmts-returns t c = stmts_done c.args.stmts.now c.loop-s.s-index c.loop-s-test.false c.loop-s.invariant
