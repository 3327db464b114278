use Rattle.std.proofs.Common.{ap, ◌∙◌, arith, rules, [], ◌∷◌, ◌+◌, drop}
use Rattle.std.proofs.lemmas.Result.{err_from_is_err_and}
use Rattle.cg_c_syntax.specs.Written.{exprs_of}
use Rattle.cg_c_check.specs.Arrays.{values_of}
use Rattle.cg_c_check.proofs.Words.{behind, behind_more, behind_none, behind_all, values_stop, values_go, values_end}
use Rattle.cg_c_check.proofs.arrays.values_of.Goals as goal

pub loop-value-init : goal.loop-value-init
loop-value-init c = rw c.new-words.ensures.items (behind_none (values_of c.args.names.now (exprs_of c.args.values.now)))

pub returns-in_err-constant-clause-err : goal.returns-in_err-constant-clause-err
returns-in_err-constant-clause-err c =
    let p = err_from_is_err_and c.from_residual.result c.from_residual.ensures.1 in
    rw (p.1, p.2) (λ _. c.loop-value.invariant
    ∙ ap (behind c.loop-value.words.items) (values_stop c.args.names.now c.args.values.now c.loop-value.value-index c.value-item.result c.in_err-constant.field-0.0 (omega arith) c.value-item.is (search rules)))

pub loop-value-preserved : goal.loop-value-preserved
loop-value-preserved c =
    let rest = values_of c.args.names.now (exprs_of (drop (c.loop-value.value-index + 1) c.args.values.now)) in
    rw c.in_ok-push.ensures.items (c.loop-value.invariant
    ∙ ap (behind c.loop-value.words.items) (values_go c.args.names.now c.args.values.now c.loop-value.value-index c.value-item.result c.in_ok-constant.constant (omega arith) c.value-item.is (search rules))
    ∙ behind_more c.loop-value.words.items (c.in_ok-constant.constant.word ∷ []) rest)

pub returns-clause-ok : goal.returns-clause-ok
returns-clause-ok c =
    c.loop-value.invariant ∙ ap (behind c.loop-value.words.items) (values_end c.args.names.now c.args.values.now c.loop-value.value-index (omega arith)) ∙ behind_all c.loop-value.words.items
