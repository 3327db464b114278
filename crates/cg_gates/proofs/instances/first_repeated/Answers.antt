use Rattle.std.proofs.Common.{ap, sym, ◌∙◌}
use Rattle.cg_model.specs.First.{is_before}
use Rattle.cg_reading.specs.Numbers.{found_in}
use Rattle.cg_gates.specs.Numbers.{is_repeated}
use Rattle.cg_gates.proofs.Places.{first_here, first_next}
use Rattle.cg_gates.proofs.instances.first_repeated.Goals as goal

pub returns-then-is_before : goal.returns-then-is_before
returns-then-is_before c =
    first_here (is_repeated c.args.cells.now) c.args.cells.now c.loop-number.number c.index-cells-number.result c.index-cells-number.is c.loop-number-test.true c.loop-number.invariant
    (sym (ap (λ o. is_before o c.loop-number.number) (c.number_in.ensures ∙ ap (found_in c.args.numbers.now) c.as_str.ensures ∙ c.requires.found c.index-cells-number.result.name)) ∙ sym c.is_before.ensures ∙ c.if-is_before.true)

pub loop-number-preserved : goal.loop-number-preserved
loop-number-preserved c =
    first_next (is_repeated c.args.cells.now) c.args.cells.now c.loop-number.number c.index-cells-number.result c.index-cells-number.is c.loop-number-test.true c.loop-number.invariant
    (sym (ap (λ o. is_before o c.loop-number.number) (c.number_in.ensures ∙ ap (found_in c.args.numbers.now) c.as_str.ensures ∙ c.requires.found c.index-cells-number.result.name)) ∙ sym c.is_before.ensures ∙ c.if-is_before.false)
