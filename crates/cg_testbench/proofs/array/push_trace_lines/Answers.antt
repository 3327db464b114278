use Rattle.std.proofs.Common.{◌≡◌, ◌∙◌, ap}
use Rattle.cg_model.specs.declared.array.Resource.{Resource}
use Rattle.cg_model.specs.Array.{resource}
use Rattle.cg_testbench.specs.Array.{trace_line_of, trace_line}
use Rattle.cg_testbench.proofs.Steps.{renamed, item_is, unbegun, grown}
use Rattle.cg_testbench.proofs.array.push_trace_lines.Goals as goal

pub loop-resource-init : goal.loop-resource-init
loop-resource-init c = unbegun _ _

pub loop-resource-preserved : goal.loop-resource-preserved
loop-resource-preserved c =
    let A = c.args.arch.now in
    let item : c.resource-item.result ≡ resource A c.loop-resource.resource-index =
    item_is _ A.resources _ _ _ c.resources-resource-items.ensures.resources c.loop-resource-test.true c.resource-item.is in
    grown (trace_line A) _ _ _ _ c.loop-resource.invariant
    (renamed _ _ _ (trace_line A c.loop-resource.resource-index) c.in_ok-push_trace_line.ensures (ap trace_line_of (c.as_str.ensures ∙ ap (λ (x : Resource). x.name) item)))
