use Rattle.std.proofs.Common.{◌≡◌, true, false, refl, sym, ap, ◌∙◌, arith, rules, [], ◌∷◌, ◌++◌, ◌+◌, ◌*◌, drop}
use Rattle.std.proofs.lemmas.Result.{err_from_is_err_and}
use Rattle.cg_c_syntax.specs.Written.{exprs_of}
use Rattle.cg_c_check.specs.Arrays.{dimensions_of, has_room}
use Rattle.cg_c_check.proofs.Words.{behind, behind_more, behind_none, behind_all, dims_stop, dims_full, dims_go, dims_end, size_more, end_more, room_is_none, room_is_some, product_is}
use Rattle.cg_c_check.proofs.arrays.extent_of.Goals as goal

pub loop-expr-init : goal.loop-expr-init
loop-expr-init c = rw c.new-dimensions.ensures.items (record { whole = behind_none (dimensions_of c.args.names.now c.args.start 1 (exprs_of c.args.exprs.now)); product = refl; ends = refl })

pub returns-in_err-dimension-clause-err : goal.returns-in_err-dimension-clause-err
returns-in_err-dimension-clause-err c =
    let p = err_from_is_err_and c.from_residual.result c.from_residual.ensures.1 in
    rw (p.1, p.2) (λ _. c.loop-expr.invariant.whole
    ∙ ap (behind c.loop-expr.dimensions.items)
    (dims_stop c.args.names.now c.args.start c.loop-expr.size c.args.exprs.now c.loop-expr.expr-index c.expr-item.result c.in_err-dimension.field-0.0 (omega arith) c.expr-item.is (search rules)))

pub returns-in_default-clause-err : goal.returns-in_default-clause-err
returns-in_default-clause-err c =
    let full : has_room c.args.start c.loop-expr.size c.in_ok-dimension.field-0.word ≡ false = room_is_none _ _ c.enlarged.result c.enlarged.ensures.value (search rules) in
    rw c.place_of.ensures (λ _. c.loop-expr.invariant.whole
    ∙ ap (behind c.loop-expr.dimensions.items)
    (dims_full c.args.names.now c.args.start c.loop-expr.size c.args.exprs.now c.loop-expr.expr-index c.expr-item.result c.in_ok-dimension.field-0 (omega arith) c.expr-item.is (search rules) full))

pub loop-expr-preserved : goal.loop-expr-preserved
loop-expr-preserved c =
    let d = c.in_ok-dimension.field-0.word in
    let room : has_room c.args.start c.loop-expr.size d ≡ true = room_is_some _ _ c.enlarged.result c.in-Some.larger c.enlarged.ensures.value c.in-Some.is in
    let larger : c.in-Some.larger ≡ c.loop-expr.size * d = product_is _ _ c.enlarged.result c.in-Some.larger c.enlarged.ensures.value c.in-Some.is in
    let so_far = c.loop-expr.dimensions.items in
    rw c.in_ok-push.ensures.items (record {
      whole = c.loop-expr.invariant.whole
          ∙ ap (behind so_far)
          (dims_go c.args.names.now c.args.start c.loop-expr.size c.args.exprs.now c.loop-expr.expr-index c.expr-item.result c.in_ok-dimension.field-0 (omega arith) c.expr-item.is (search rules) room)
          ∙ behind_more so_far (d ∷ []) (dimensions_of c.args.names.now c.args.start (c.loop-expr.size * d) (exprs_of (drop (c.loop-expr.expr-index + 1) c.args.exprs.now)))
          ∙ ap (λ n. behind (so_far ++ d ∷ []) (dimensions_of c.args.names.now c.args.start n (exprs_of (drop (c.loop-expr.expr-index + 1) c.args.exprs.now)))) (sym larger);
      product = larger ∙ ap (λ n. n * d) c.loop-expr.invariant.product ∙ sym (size_more so_far d);
      ends = ap (λ n. c.args.start + n) (larger ∙ ap (λ n. n * d) c.loop-expr.invariant.product) ∙ sym (end_more c.args.start so_far d);
    })

pub returns-clause-ok : goal.returns-clause-ok
returns-clause-ok c =
    c.loop-expr.invariant.whole ∙ ap (behind c.loop-expr.dimensions.items) (dims_end c.args.names.now c.args.start c.loop-expr.size c.args.exprs.now c.loop-expr.expr-index (omega arith)) ∙ behind_all c.loop-expr.dimensions.items

pub returns-clause-end : goal.returns-clause-end
returns-clause-end c = c.loop-expr.invariant.ends
