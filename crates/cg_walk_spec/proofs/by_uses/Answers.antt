use Rattle.cg_walk_spec.proofs.Alike.{excess_same, aged_same, found_same, cost_by}
use Rattle.cg_walk_spec.proofs.by_uses.Goals as goal

pub returns : goal.returns
returns c = record { excess = excess_same; aged = aged_same; found = found_same; cost = cost_by }
