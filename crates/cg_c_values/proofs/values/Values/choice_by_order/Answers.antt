use Rattle.std.proofs.Common.{ap, sym, ◌∙◌}
use Rattle.cg_c_values.specs.Values.{Two}
use Rattle.cg_c_values.proofs.Deciding.{is_maxs, is_mins}
use Rattle.cg_c_values.proofs.values.Values.choice_by_order.Goals as goal

pub returns-then-second-other : goal.returns-then-second-other
returns-then-second-other c = is_mins c.args.self.now.values.keys c.args.condition c.args.chosen c.args.other c.requires.condition c.requires.chosen c.requires.other c.extreme.result c.in-Two-Lts-default-default.first c.in-Two-Lts-default-default.second c.extreme.ensures (sym c.value.ensures.value ∙ c.in-Two-Lts-default-default.is ∙ ap (λ o. Two o c.in-Two-Lts-default-default.first c.in-Two-Lts-default-default.second) c.in-Two-Lts-default-default.op-is) c.if-first-chosen.true c.if-second-other.true

pub returns-then-second-chosen : goal.returns-then-second-chosen
returns-then-second-chosen c = is_maxs c.args.self.now.values.keys c.args.condition c.args.chosen c.args.other c.requires.condition c.requires.chosen c.requires.other c.extreme-then-second-chosen.result c.in-Two-Lts-default-default.first c.in-Two-Lts-default-default.second c.extreme-then-second-chosen.ensures (sym c.value.ensures.value ∙ c.in-Two-Lts-default-default.is ∙ ap (λ o. Two o c.in-Two-Lts-default-default.first c.in-Two-Lts-default-default.second) c.in-Two-Lts-default-default.op-is) c.if-first-other.true c.if-second-chosen.true
