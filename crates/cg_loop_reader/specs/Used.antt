-- The use that a `Use` of the program denotes.
use Rattle.cg_loop_syntax.specs.Uses as uses
use Rattle.cg_loop_reader.specs.declared.uses.Use.{Use}

abbrev pub use_of : Use → uses.Use
use_of u = record { role = u.role; name = u.name.now; place = u.place }
