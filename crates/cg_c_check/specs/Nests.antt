-- The nests that values of the program denote.
use Rattle.std.specs.Prelude.{map}
use Rattle.cg_c_check.specs.declared.nests.Nested.{Nested as MadeNested}
use Rattle.cg_c_check.specs.Check.{Nested}
use Rattle.cg_c_check.specs.Written.{level_of, stmts_of}

abbrev pub nested_of : MadeNested → Nested
nested_of n = record { levels = map level_of n.levels.items; body = stmts_of n.body.items }
