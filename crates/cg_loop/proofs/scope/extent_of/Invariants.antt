use Rattle.std.proofs.Common.{◌≡◌, drop}
use Rattle.cg_loop_syntax.specs.Loop.{extent}
use Rattle.cg_loop.proofs.scope.extent_of.Given as goal

abbrev pub invariant-loop-decl : goal.invariant-loop-decl
invariant-loop-decl l = extent l.decls l.name ≡ extent (drop l.decl-index l.decls) l.name
