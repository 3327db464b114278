use Rattle.std.proofs.Common.{sym, ◌∙◌}
use Rattle.cg_c_values.proofs.Known.{const_means}
use Rattle.cg_c_values.proofs.values.Values.number.Goals as goal

pub returns-in-Const-clause-means : goal.returns-in-Const-clause-means
returns-in-Const-clause-means c = const_means _ _ _ c.requires.within (sym c.value.ensures.value ∙ c.in-Const.is)
