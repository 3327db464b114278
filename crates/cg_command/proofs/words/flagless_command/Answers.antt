use Rattle.std.proofs.Common.{rules, ◌≡◌, true, false, codes}
use Rattle.std.specs.Prelude.{bytes_eq}
use Rattle.cg_command.specs.Words as spec
use Rattle.cg_command.proofs.words.flagless_command.Goals as goal

pub returns-in_default-clause-plan : goal.returns-in_default-clause-plan
returns-in_default-clause-plan c =
    let run : bytes_eq c.args.name.now (codes "run") ≡ false = search rules in
    let map : bytes_eq c.args.name.now (codes "map") ≡ false = search rules in
    let search_is : bytes_eq c.args.name.now (codes "search") ≡ false = search rules in
    let plain : spec.is_empty (spec.heard c.args.said.now).options ≡ true = search rules in
    rw (run, map, search_is, plain) (search rules)
