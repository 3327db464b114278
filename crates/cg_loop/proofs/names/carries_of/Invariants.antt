use Rattle.std.proofs.Common.{◌≡◌, take, map}
use Rattle.std.specs.List.{flat_map}
use Rattle.cg_loop.specs.Known.{decl_known, known_of}
use Rattle.cg_loop.proofs.names.carries_of.Given as goal

abbrev pub invariant-loop-decl : goal.invariant-loop-decl
invariant-loop-decl l = map known_of l.carries.items ≡ flat_map (decl_known (map known_of l.bindings)) (take l.decl-index l.decls)
