-- The operations that units offer.
use Rattle.std.proofs.Common.{◌≡◌, [], fold, refl}
use Rattle.cg_word.specs.Sets.{with_op}
use Rattle.cg_trial.specs.Trial.{unit_ops}

-- added one after another they are the whole set
pub all_added : fold with_op [] unit_ops ≡ unit_ops
all_added = refl
