use Rattle.std.proofs.Common.{None, ap, map, ◌∙◌}
use Rattle.std.proofs.lemmas.Result.{IfOk-weaker}
use Rattle.clap.specs.Words.{found_of}
use Rattle.cg_command.proofs.Walk.{texts-raw}
use Rattle.cg_command.proofs.arguments.texts_of.Goals as goal

pub returns-in-Some : goal.returns-in-Some
returns-in-Some c =
    IfOk-weaker c.from_slice.result _ _ (λ v is. ap (map (λ s. s.now)) is ∙ texts-raw (found_of c.args.matches.now) c.args.id.now _ c.in-Some.ensures) c.from_slice.ensures.items

pub returns-in-None : goal.returns-in-None
returns-in-None c = ap (map (λ s. s.now)) c.new.ensures.items ∙ texts-raw (found_of c.args.matches.now) c.args.id.now None c.in-None.ensures
