use Rattle.std.proofs.Common.{None, length, ap, sym, ◌∙◌}
use Rattle.std.proofs.lemmas.List.{length-map}
use Rattle.clap.specs.Words.{found_of}
use Rattle.cg_command.proofs.Walk.{texts-raw}
use Rattle.cg_command.proofs.arguments.times_in.Goals as goal

pub returns-in-Some : goal.returns-in-Some
returns-in-Some c =
    sym (length-map _ (λ s. s.now)) ∙ ap length (texts-raw (found_of c.args.matches.now) c.args.name.now _ c.in-Some.ensures)

pub returns-in-None : goal.returns-in-None
returns-in-None c = ap length (texts-raw (found_of c.args.matches.now) c.args.name.now None c.in-None.ensures)
