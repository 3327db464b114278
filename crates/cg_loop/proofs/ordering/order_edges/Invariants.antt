use Rattle.std.proofs.Common.{◌≡◌, map, take}
use Rattle.std.specs.List.{flat_map}
use Rattle.cg_loop_laws.specs.Translate.{decl_edges}
use Rattle.cg_loop.specs.Made.{access_of}
use Rattle.cg_loop.proofs.ordering.order_edges.Given as goal

abbrev pub invariant-loop-decl : goal.invariant-loop-decl
invariant-loop-decl l = l.edges.items ≡ flat_map (decl_edges (map access_of l.accesses)) (take l.decl-index l.decls)
