use Rattle.std.proofs.Common.{rules, ◌≡◌, true, false, codes}
use Rattle.std.specs.Prelude.{bytes_eq}
use Rattle.cg_command.specs.Words as spec
use Rattle.cg_command.proofs.words.command_of.Goals as goal

pub returns-in_default-clause-plan : goal.returns-in_default-clause-plan
returns-in_default-clause-plan c =
    let simplify : bytes_eq c.args.name.now (codes "simplify") ≡ false = search rules in
    let none : spec.is_empty (spec.heard c.args.said.now).flags ≡ true = search rules in
    rw (simplify, none) (search rules)
