use Rattle.std.proofs.Common.{◌∙◌, sym, arith}
use Rattle.cg_model.proofs.Positions.{position_from-within}
use Rattle.cg_parts.specs.Numbers.{is_named}
use Rattle.cg_validate.proofs.build.number_of.Goals as goal

pub prove-unreachable-requires : goal.prove-unreachable-requires
prove-unreachable-requires c =
    let within = position_from-within (is_named c.args.name.now) 0 c.args.resources.now c.in-Some.number (sym (c.requires.numbers.found c.args.name.now) ∙ sym c.in-Some.ensures) in
    omega (arith, within)
