use Rattle.std.proofs.Common.{sym, ap, ◌∙◌, arith}
use Rattle.std.specs.Option.{unwrap_or}
use Rattle.cg_config.proofs.ByCase.{argument_is, few_arguments}
use Rattle.cg_datapath.specs.Terminals.{on_ports}
use Rattle.cg_datapath.proofs.units.argument_word.Goals as goal

pub word_on_port-requires-clause-place : goal.word_on_port-requires-clause-place
word_on_port-requires-clause-place g c =
    let few = few_arguments c.args.unit.now.op in
    let place = c.requires.argument in
    omega arith

pub returns-in-Some : goal.returns-in-Some
returns-in-Some g c =
    let word = on_ports c.args.ports c.args.words.now c.args.place in
    sym (argument_is c.args.unit.now c.args.place c.args.turn word ∙ ap (λ o. unwrap_or o word) (sym c.told.ensures ∙ c.in-Some.is))

pub returns-in-None : goal.returns-in-None
returns-in-None g c =
    let word = on_ports c.args.ports c.args.words.now c.args.place in
    c.word_on_port.ensures ∙ sym (argument_is c.args.unit.now c.args.place c.args.turn word ∙ ap (λ o. unwrap_or o word) (sym c.told.ensures ∙ c.in-None.is))
