use Rattle.std.proofs.Common.{refl}
use Rattle.cg_word.specs.Sets.{ops_with}
use Rattle.cg_word.proofs.set.OpSet.empty.Goals as goal

pub returns : goal.returns
unfolding ops_with
returns c = refl
