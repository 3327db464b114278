use Rattle.std.proofs.Common.{◌≡◌, ◌++◌, map}
use Rattle.std.specs.Prelude.{take}
use Rattle.cg_mrrg.specs.Graph.{link_to}
use Rattle.cg_mrrg.proofs.graph.add_users.Given as goal

abbrev pub invariant-loop-user : goal.invariant-loop-user
invariant-loop-user l = (l.lists.links.items ≡ l.initial.lists.links.items ++ map (link_to l.arch l.slot l.interval) (take l.user-index l.users)) × (l.lists.starts.items ≡ l.initial.lists.starts.items)
