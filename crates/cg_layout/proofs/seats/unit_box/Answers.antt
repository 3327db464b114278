use Rattle.std.proofs.Common.{arith, rules}
use Rattle.std.proofs.lemmas.Grind.{common_steps}
use Rattle.cg_layout.specs.Layout.{box}
use Rattle.cg_layout.proofs.seats.unit_box.Goals as goal

pub returns-then-unit-unit_count : goal.returns-then-unit-unit_count
unfolding box
returns-then-unit-unit_count c = first_of (search rules, grind (arith, common_steps))

pub returns-else-unit-unit_count : goal.returns-else-unit-unit_count
unfolding box
returns-else-unit-unit_count c = first_of (search rules, grind (arith, common_steps))
