use Rattle.std.proofs.Common.{sym, ◌∙◌, arith}
use Rattle.cg_gates.specs.Numbers.{by_name}
use Rattle.cg_gates.proofs.Places.{place_within, found_at, found_nowhere}
use Rattle.cg_gates.proofs.numbers.named.Goals as goal

pub prove-unreachable-requires : goal.prove-unreachable-requires
prove-unreachable-requires g c =
    let within = place_within (by_name g.T.HasName.own c.args.name.now) c.args.items.now c.in-Some.number (sym c.in-Some.is ∙ c.number_in.ensures ∙ c.requires.found c.args.name.now) in
    omega (arith, within)

pub returns-in-Some : goal.returns-in-Some
returns-in-Some g c = found_at (by_name g.T.HasName.own c.args.name.now) c.args.items.now c.in-Some.number c.index-items-number.result (sym c.in-Some.is ∙ c.number_in.ensures ∙ c.requires.found c.args.name.now) c.index-items-number.is

pub returns-in-None : goal.returns-in-None
returns-in-None g c = found_nowhere (by_name g.T.HasName.own c.args.name.now) c.args.items.now (sym c.in-None.is ∙ c.number_in.ensures ∙ c.requires.found c.args.name.now)
