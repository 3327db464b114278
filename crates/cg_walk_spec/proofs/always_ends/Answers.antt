use Rattle.cg_walk_spec.proofs.Endings.{ended}
use Rattle.cg_walk_spec.proofs.always_ends.Goals as goal

pub returns : goal.returns
returns c = λ A K ii early moves seed arch kernel ready. ended A K ii arch kernel early ready moves seed
