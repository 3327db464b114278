use Rattle.std.proofs.Common.{◌≡◌, ◌++◌, OnOk, None, ap, subst, sym, map, ◌∙◌}
use Rattle.std.proofs.lemmas.List.{append-nil}
use Rattle.clap.specs.Words.{found_of}
use Rattle.cg_command.specs.Words.{given_values, heard_option}
use Rattle.cg_command.proofs.Walk.{texts-raw}
use Rattle.cg_command.proofs.arguments.add_option.Goals as goal

pub returns-in-Some : goal.returns-in-Some
returns-in-Some c =
    subst (λ ts. OnOk c.add_values.result (map heard_option c.add_values.new.options.items ≡ map heard_option c.args.options.now.items ++ given_values c.args.name.now ts))
    (texts-raw (found_of c.args.matches.now) c.args.name.now _ c.in-Some.ensures) c.add_values.ensures

pub returns-in-None : goal.returns-in-None
returns-in-None c =
    sym (append-nil (map heard_option c.args.options.now.items))
    ∙ ap (λ ts. map heard_option c.args.options.now.items ++ given_values c.args.name.now ts) (texts-raw (found_of c.args.matches.now) c.args.name.now None c.in-None.ensures)
