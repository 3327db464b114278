use Rattle.std.proofs.Common.{◌≡◌, ◌≤◌, Some, ◌∙◌, ap, arith, IsUtf8}
use Rattle.std.proofs.lemmas.Result.{IfOk-weaker}
use Rattle.serde_json.specs.Data.{depth}
use Rattle.serde_json.specs.Read.{read, max_depth}
use Rattle.serde_json.specs.View.{view}
use Rattle.serde_json.specs.Written.{compact_text, has_float}
use Rattle.cg_json.proofs.Elements.{if_ok_both}
use Rattle.cg_mapping.specs.Printed.{data_of, mapping_data}
use Rattle.cg_mapping.proofs.Back.{answer-back}
use Rattle.cg_mapping.proofs.Depths.{data_of-no_float, data_of-depth}
use Rattle.cg_mapping.proofs.print.print_mapping.Goals as goal

pub returns-clause-text : goal.returns-clause-text
unfolding data_of
returns-clause-text c =
    let A = c.args.arch.now in let K = c.args.kernel.now in let M = c.args.mapping.now in
    let same : view c.in_ok-mapping_value.field-0 ≡ data_of A K M =
    c.in_ok-mapping_value.ensures ∙ ap (λ nodes. mapping_data nodes c.units.result.now c.resources.result.now M) c.nodes-nodes.ensures.nodes
    ∙ ap (λ units. mapping_data K.nodes units c.resources.result.now M) c.units.ensures.units ∙ ap (λ resources. mapping_data K.nodes A.units resources M) c.resources.ensures.resources in
    IfOk-weaker c.to_vec.result _ _ (λ bytes text. text (ap has_float same ∙ data_of-no_float A K M) ∙ ap compact_text same) c.to_vec.ensures.text

pub returns-clause-reads_back : goal.returns-clause-reads_back
unfolding data_of
returns-clause-reads_back c =
    let A = c.args.arch.now in let K = c.args.kernel.now in let M = c.args.mapping.now in
    let same : view c.in_ok-mapping_value.field-0 ≡ data_of A K M =
    c.in_ok-mapping_value.ensures ∙ ap (λ nodes. mapping_data nodes c.units.result.now c.resources.result.now M) c.nodes-nodes.ensures.nodes
    ∙ ap (λ units. mapping_data K.nodes units c.resources.result.now M) c.units.ensures.units ∙ ap (λ resources. mapping_data K.nodes A.units resources M) c.resources.ensures.resources in
    let shallow : depth (view c.in_ok-mapping_value.field-0) ≤ max_depth = omega (arith, data_of-depth A K M, ap depth same) in
    IfOk-weaker c.to_vec.result (λ bytes. IsUtf8 bytes.items × (depth (view c.in_ok-mapping_value.field-0) ≤ max_depth → read bytes.items ≡ Some (view c.in_ok-mapping_value.field-0))) _
    (λ bytes both limits. answer-back A K M
    (record { arch = c.units.ensures.valid; kernel = c.nodes-nodes.ensures.valid; shape = c.requires.shaped; parts = c.requires.named; limits = limits })
    bytes.items both.0 (both.1 shallow ∙ ap Some same))
    (if_ok_both c.to_vec.result _ _ c.to_vec.ensures.utf8 c.to_vec.ensures.reads_back)
