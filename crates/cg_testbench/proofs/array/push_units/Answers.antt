use Rattle.std.proofs.Common.{◌≡◌, ◌∙◌, ap}
use Rattle.cg_model.specs.declared.array.Unit.{Unit as ArchUnit}
use Rattle.cg_model.specs.Array.{unit}
use Rattle.cg_testbench.specs.Array.{end_lines_of, end_lines}
use Rattle.cg_testbench.proofs.Steps.{renamed, item_is, unbegun, grown}
use Rattle.cg_testbench.proofs.array.push_units.Goals as goal

pub loop-unit-init : goal.loop-unit-init
loop-unit-init c = unbegun _ _

pub loop-unit-preserved : goal.loop-unit-preserved
loop-unit-preserved c =
    let A = c.args.arch.now in
    let item : c.unit-item.result ≡ unit A c.loop-unit.unit-index =
    item_is _ A.units _ _ _ c.units-unit-items.ensures.units c.loop-unit-test.true c.unit-item.is in
    grown (end_lines A) _ _ _ _ c.loop-unit.invariant
    (renamed _ _ _ (end_lines A c.loop-unit.unit-index) c.in_ok-push_end_lines.ensures (ap (λ z. end_lines_of z c.unit-item.result.ops) c.as_str.ensures ∙ ap (λ (x : ArchUnit). end_lines_of x.name x.ops) item))
