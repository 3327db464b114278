use Rattle.std.proofs.Common.{ap, sym, refl, ◌∙◌}
use Rattle.cg_word.specs.declared.op.Op.TheVariants as ops
use Rattle.cg_c_values.specs.Values.{Two}
use Rattle.cg_c_values.proofs.Comparing.{lts_order, ltu_order, not_eq, not_ne}
use Rattle.cg_c_values.proofs.Known.{two_means}
use Rattle.cg_c_values.proofs.Planning.{negated_gives}
use Rattle.cg_c_values.proofs.values.Values.plan_negated.Goals as goal

pub returns-in-Eq : goal.returns-in-Eq
returns-in-Eq c =
    let stands = c.in-Two.ensures.may_stand in
    negated_gives c.args.self.now.values.keys c.args.v ops.Eq ops.Ne c.in-Two.first c.in-Two.second c.again.result refl c.requires stands.1 stands.2 (sym c.value.ensures.value ∙ c.in-Two.is ∙ ap (λ o. Two o c.in-Two.first c.in-Two.second) c.in-Eq.is) not_eq c.again.ensures

pub returns-in-Ne : goal.returns-in-Ne
returns-in-Ne c =
    let stands = c.in-Two.ensures.may_stand in
    negated_gives c.args.self.now.values.keys c.args.v ops.Ne ops.Eq c.in-Two.first c.in-Two.second c.again-in-Ne.result refl c.requires stands.1 stands.2 (sym c.value.ensures.value ∙ c.in-Two.is ∙ ap (λ o. Two o c.in-Two.first c.in-Two.second) c.in-Ne.is) not_ne c.again-in-Ne.ensures

pub plan_not_below-requires-clause-order : goal.plan_not_below-requires-clause-order
plan_not_below-requires-clause-order c = lts_order

pub plan_not_below-requires-clause-means : goal.plan_not_below-requires-clause-means
plan_not_below-requires-clause-means c = two_means c.args.self.now.values.keys c.args.v ops.Lts c.in-Two.first c.in-Two.second c.requires (sym c.value.ensures.value ∙ c.in-Two.is ∙ ap (λ o. Two o c.in-Two.first c.in-Two.second) c.in-Lts.is)

pub plan_not_below-requires-in-Ltu-clause-order : goal.plan_not_below-requires-in-Ltu-clause-order
plan_not_below-requires-in-Ltu-clause-order c = ltu_order

pub plan_not_below-requires-in-Ltu-clause-means : goal.plan_not_below-requires-in-Ltu-clause-means
plan_not_below-requires-in-Ltu-clause-means c = two_means c.args.self.now.values.keys c.args.v ops.Ltu c.in-Two.first c.in-Two.second c.requires (sym c.value.ensures.value ∙ c.in-Two.is ∙ ap (λ o. Two o c.in-Two.first c.in-Two.second) c.in-Ltu.is)
