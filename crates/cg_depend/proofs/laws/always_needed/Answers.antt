use Rattle.cg_depend.proofs.Unique.{one_list}
use Rattle.cg_depend.proofs.Always.{some_list}
use Rattle.cg_depend.proofs.laws.always_needed.Goals as goal

pub returns : goal.returns
returns c = record { one = one_list; some = some_list }
