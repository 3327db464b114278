use Rattle.std.proofs.Common.{ap, sym, ◌∙◌}
use Rattle.cg_c_values.specs.Values.{Two}
use Rattle.cg_c_values.proofs.Known.{negative_means}
use Rattle.cg_c_values.proofs.values.Values.negative.Goals as goal

pub returns-in-Two-Sub-default-default-clause-means : goal.returns-in-Two-Sub-default-default-clause-means
returns-in-Two-Sub-default-default-clause-means c =
    negative_means c.args.self.now.values.keys c.args.v c.in-Two-Sub-default-default.first c.in-Two-Sub-default-default.second c.requires (sym c.value.ensures.value ∙ c.in-Two-Sub-default-default.is ∙ ap (λ o. Two o c.in-Two-Sub-default-default.first c.in-Two-Sub-default-default.second) c.in-Two-Sub-default-default.op-is) (c.is_number.ensures c.if-is_number.true)
