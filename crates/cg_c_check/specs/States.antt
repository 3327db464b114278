-- What a checker knows.
use Rattle.cg_c_check.specs.declared.checker.Checker.{Checker}
use Rattle.cg_c_check.specs.Walk.{State}

abbrev pub state_of : Checker → State
state_of c = record { names = c.names; arrays = c.arrays.items; free = c.free; words = c.words.items; inputs = c.inputs; outputs = c.outputs }
