use Rattle.std.proofs.Common.{arith}
use Rattle.cg_gates.specs.Shape.{shape_of}
use Rattle.cg_gates.specs.Gates.{is_instance}
use Rattle.cg_gates.proofs.Places.{all_mapped, mapped_more}
use Rattle.cg_gates.proofs.firsts.unit_cells.Goals as goal

pub loop-number-preserved : goal.loop-number-preserved
loop-number-preserved c =
    mapped_more c.loop-number.numbers c.add_unit.new.numbers shape_of is_instance c.args.cells.now c.loop-number.number c.index-cells-number.result c.index-cells-number.is c.loop-number-test.true c.loop-number.invariant
    c.in_ok-add_unit.ensures

pub returns : goal.returns
returns c = all_mapped c.loop-number.numbers shape_of is_instance c.args.cells.now c.loop-number.number (omega arith) c.loop-number.invariant
