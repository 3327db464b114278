use Rattle.std.proofs.Common.{sym, ◌∙◌}
use Rattle.cg_gates.specs.Numbers.{by_name}
use Rattle.cg_gates.proofs.Places.{some_place, no_place}
use Rattle.cg_gates.proofs.numbers.number_or_all.Goals as goal

pub returns-in-Some : goal.returns-in-Some
returns-in-Some g c = some_place (by_name g.T.HasName.own c.args.name.now) c.args.items.now c.in-Some.number (sym c.in-Some.is ∙ c.number_in.ensures ∙ c.requires.found c.args.name.now)

pub returns-in-None : goal.returns-in-None
returns-in-None g c = no_place (by_name g.T.HasName.own c.args.name.now) c.args.items.now (sym c.in-None.is ∙ c.number_in.ensures ∙ c.requires.found c.args.name.now)
