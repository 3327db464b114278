use Rattle.std.proofs.Common.{map, take}
use Rattle.cg_loop_reader.specs.Used.{use_of}
use Rattle.cg_loop_reader.proofs.Named.{AreNumbered}
use Rattle.cg_loop_reader.proofs.naming.number_names.Given as goal

-- the uses so far are numbered
abbrev pub invariant-loop-used : goal.invariant-loop-used
invariant-loop-used l = AreNumbered l.names.keys (map use_of (take l.used-index l.uses)) l.numbered.items
