use Rattle.cg_walk_spec.proofs.Keeps.{walked_good}
use Rattle.cg_walk_spec.proofs.Rules.{legal_at_zero}
use Rattle.cg_walk_spec.proofs.legal.Goals as goal

pub returns : goal.returns
returns c = record {
  at_zero = legal_at_zero;
  good = λ A K ii early moves seed k g S ready w. walked_good A K ii early ready moves seed w;
  found = λ A K ii early moves seed k g S arch kernel ready w zero. legal_at_zero A K ii S arch kernel (walked_good A K ii early ready moves seed w) zero;
}
