use Rattle.cg_walk_spec.proofs.Uses.{route_more, route_less, placed_alone}
use Rattle.cg_walk_spec.proofs.positions.Goals as goal

pub returns : goal.returns
returns c = record {
  more = λ A K ii S i path l none. route_more A K ii S i l path none;
  less = λ A K ii S i path l some. route_less A K ii S i l path some;
  placed = placed_alone;
}
