use Rattle.std.proofs.Common.{◌≡◌, ◌≤◌, Some, ◌∙◌, ap, arith, IsUtf8}
use Rattle.std.proofs.lemmas.Result.{IfOk-weaker}
use Rattle.serde_json.specs.Data.{depth}
use Rattle.serde_json.specs.Read.{read, max_depth}
use Rattle.serde_json.specs.View.{view}
use Rattle.serde_json.specs.Written.{compact_text, has_float}
use Rattle.cg_kernel_text.specs.Printed.{data_of, kernel_data}
use Rattle.cg_kernel_text.proofs.Clear.{answer-back}
use Rattle.cg_kernel_text.proofs.Depths.{data_of-no_float, data_of-depth}
use Rattle.cg_json.proofs.Elements.{if_ok_both}
use Rattle.cg_kernel_text.proofs.print.print_kernel.Goals as goal

pub returns-clause-text : goal.returns-clause-text
unfolding data_of
returns-clause-text c =
    let same : view c.in_ok-kernel_value.field-0 ≡ data_of c.args.kernel.now =
    c.in_ok-kernel_value.ensures ∙ ap (λ nodes. kernel_data nodes c.order.result.now) c.nodes-nodes.ensures.nodes ∙ ap (kernel_data c.args.kernel.now.nodes) c.order.ensures.order in
    IfOk-weaker c.to_vec.result _ _ (λ bytes text. text (ap has_float same ∙ data_of-no_float c.args.kernel.now) ∙ ap compact_text same) c.to_vec.ensures.text

pub returns-clause-reads_back : goal.returns-clause-reads_back
unfolding data_of
returns-clause-reads_back c =
    let same : view c.in_ok-kernel_value.field-0 ≡ data_of c.args.kernel.now =
    c.in_ok-kernel_value.ensures ∙ ap (λ nodes. kernel_data nodes c.order.result.now) c.nodes-nodes.ensures.nodes ∙ ap (kernel_data c.args.kernel.now.nodes) c.order.ensures.order in
    let shallow : depth (view c.in_ok-kernel_value.field-0) ≤ max_depth = omega (arith, data_of-depth c.args.kernel.now, ap depth same) in
    IfOk-weaker c.to_vec.result (λ bytes. IsUtf8 bytes.items × (depth (view c.in_ok-kernel_value.field-0) ≤ max_depth → read bytes.items ≡ Some (view c.in_ok-kernel_value.field-0))) _
    (λ bytes both. answer-back c.args.kernel.now c.nodes-nodes.ensures.valid bytes.items both.0 (both.1 shallow ∙ ap Some same))
    (if_ok_both c.to_vec.result _ _ c.to_vec.ensures.utf8 c.to_vec.ensures.reads_back)
