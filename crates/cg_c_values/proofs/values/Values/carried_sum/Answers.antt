use Rattle.std.proofs.Common.{ap, sym, ◌∙◌}
use Rattle.cg_word.specs.declared.op.Op.TheVariants as ops
use Rattle.cg_c_values.specs.Values.{Two}
use Rattle.cg_c_values.proofs.Known.{two_means}
use Rattle.cg_c_values.proofs.values.Values.carried_sum.Goals as goal

pub returns-in-Two-Add-default-default-clause-means : goal.returns-in-Two-Add-default-default-clause-means
returns-in-Two-Add-default-default-clause-means c =
    two_means c.args.self.now.values.keys c.args.v ops.Add c.in-Two-Add-default-default.first c.in-Two-Add-default-default.second c.requires (sym c.value.ensures.value ∙ c.in-Two-Add-default-default.is ∙ ap (λ o. Two o c.in-Two-Add-default-default.first c.in-Two-Add-default-default.second) c.in-Two-Add-default-default.op-is)
