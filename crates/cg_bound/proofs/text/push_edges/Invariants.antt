use Rattle.std.proofs.Common.{◌≡◌, ◌++◌, take, flat_map}
use Rattle.cg_bound.specs.Text.{edge_word}
use Rattle.cg_bound.proofs.text.push_edges.Given as goal

abbrev pub invariant-loop-id : goal.invariant-loop-id
invariant-loop-id l = l.text.items ≡ l.fn.text.items ++ flat_map (edge_word l.kernel) (take l.id-index l.ids)
