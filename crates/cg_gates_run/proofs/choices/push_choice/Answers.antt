use Rattle.cg_gates.specs.Shape.{shape_of}
use Rattle.cg_gates_run.proofs.Chosen.{few_pins}
use Rattle.cg_gates_run.proofs.choices.push_choice.Goals as goal

pub entry_of-entry-requires : goal.entry_of-entry-requires
entry_of-entry-requires c = few_pins c.args.nets.now c.requires.early c.requires.graph (shape_of c.args.cell.now) c.requires.there
