-- The values of the code as a list.
use Rattle.std.specs.Prelude.{List}
use Rattle.cg_c_values.specs.Values.{Value}
use Rattle.cg_c_values.specs.declared.values.Values.{Values}

abbrev pub listed : Values → List Value
listed s = s.values.keys
