use Rattle.std.proofs.Common.{ap, ◌∙◌, arith, rules, ◌+◌, drop}
use Rattle.std.proofs.lemmas.Result.{err_from_is_err_and}
use Rattle.cg_c_syntax.specs.Written.{rows_list}
use Rattle.cg_c_check.specs.Arrays.{tables_of}
use Rattle.cg_c_check.proofs.Words.{behind, behind_more, behind_none, behind_all, items_bad, items_go, inner_bad, inner_go, tables_stop, tables_go, tables_end}
use Rattle.cg_c_check.proofs.arrays.+rows.Goals as goal

pub table_of-returns-then-not-is_first-clause-err : goal.table_of-returns-then-not-is_first-clause-err
table_of-returns-then-not-is_first-clause-err t c = λ _. items_bad c.args.names.now c.args.dimensions.now c.args.rows.now c.in-Values.place c.len.result c.in-Values.values c.in-Values.is (search rules) (search rules)

pub table_of-returns-then-not-is_first-2-clause-err : goal.table_of-returns-then-not-is_first-2-clause-err
table_of-returns-then-not-is_first-2-clause-err t c = λ _. inner_bad c.args.names.now c.args.dimensions.now c.args.rows.now c.in-Rows.place c.len-in-Rows.result c.in-Rows.rows c.in-Rows.is (search rules) (search rules)

pub table_of-returns-else-not-is_first-clause-ok : goal.table_of-returns-else-not-is_first-clause-ok
table_of-returns-else-not-is_first-clause-ok t c =
    rw (items_go c.args.names.now c.args.dimensions.now c.args.rows.now c.in-Values.place c.len.result c.in-Values.values c.in-Values.is (search rules) (search rules), ← c.deref.ensures.value) c.values_of.ensures.ok

pub table_of-returns-else-not-is_first-clause-err : goal.table_of-returns-else-not-is_first-clause-err
table_of-returns-else-not-is_first-clause-err t c =
    rw (items_go c.args.names.now c.args.dimensions.now c.args.rows.now c.in-Values.place c.len.result c.in-Values.values c.in-Values.is (search rules) (search rules), ← c.deref.ensures.value) c.values_of.ensures.err

pub table_of-returns-else-not-is_first-2-clause-ok : goal.table_of-returns-else-not-is_first-2-clause-ok
table_of-returns-else-not-is_first-2-clause-ok t c =
    rw (inner_go c.args.names.now c.args.dimensions.now c.args.rows.now c.in-Rows.place c.len-in-Rows.result c.in-Rows.rows c.in-Rows.is (search rules) (search rules), ← c.deref-in-Rows.ensures.value, ← c.behind_first.ensures) c.tables_of.ensures.ok

pub table_of-returns-else-not-is_first-2-clause-err : goal.table_of-returns-else-not-is_first-2-clause-err
table_of-returns-else-not-is_first-2-clause-err t c =
    rw (inner_go c.args.names.now c.args.dimensions.now c.args.rows.now c.in-Rows.place c.len-in-Rows.result c.in-Rows.rows c.in-Rows.is (search rules) (search rules), ← c.deref-in-Rows.ensures.value, ← c.behind_first.ensures) c.tables_of.ensures.err

pub tables_of-loop-row-init : goal.tables_of-loop-row-init
tables_of-loop-row-init t c = rw c.new-words.ensures.items (behind_none (tables_of c.args.names.now c.args.dimensions.now (rows_list c.args.rows.now)))

pub tables_of-returns-in_err-more-clause-err : goal.tables_of-returns-in_err-more-clause-err
tables_of-returns-in_err-more-clause-err t c =
    let p = err_from_is_err_and c.from_residual.result c.from_residual.ensures.1 in
    rw (p.1, p.2) (λ other. c.loop-row.invariant
    ∙ ap (behind c.loop-row.words.items) (tables_stop c.args.names.now c.args.dimensions.now c.args.rows.now c.loop-row.row-index c.row-item.result c.in_err-more.field-0.0 (omega arith) c.row-item.is (c.in_err-more.ensures.err other)))

pub tables_of-loop-row-preserved : goal.tables_of-loop-row-preserved
tables_of-loop-row-preserved t c =
    rw (c.in_ok-extend_from_slice.ensures.items, c.deref.ensures.value) (c.loop-row.invariant
    ∙ ap (behind c.loop-row.words.items) (tables_go c.args.names.now c.args.dimensions.now c.args.rows.now c.loop-row.row-index c.row-item.result c.in_ok-more.more.items (omega arith) c.row-item.is c.in_ok-more.ensures.ok)
    ∙ behind_more c.loop-row.words.items c.in_ok-more.more.items (tables_of c.args.names.now c.args.dimensions.now (rows_list (drop (c.loop-row.row-index + 1) c.args.rows.now))))

pub tables_of-returns-clause-ok : goal.tables_of-returns-clause-ok
tables_of-returns-clause-ok t c =
    c.loop-row.invariant ∙ ap (behind c.loop-row.words.items) (tables_end c.args.names.now c.args.dimensions.now c.args.rows.now c.loop-row.row-index (omega arith)) ∙ behind_all c.loop-row.words.items
