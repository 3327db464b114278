use Rattle.cg_walk_spec.proofs.Once.{walked_once, end_once}
use Rattle.cg_walk_spec.proofs.one_walk.Goals as goal

pub returns : goal.returns
returns c = record {
  walk = λ A K ii early moves seed k g h S T a b. walked_once A K ii early moves seed a b;
  end = end_once;
}
