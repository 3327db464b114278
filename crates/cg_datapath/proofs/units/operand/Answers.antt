use Rattle.std.proofs.Common.{◌∙◌, sym}
use Rattle.cg_datapath.specs.Terminals.{on_ports}
use Rattle.cg_datapath.proofs.Arguments.{argument_at, argument_past}
use Rattle.cg_datapath.proofs.units.operand.Goals as goal

pub returns-then-place-count : goal.returns-then-place-count
returns-then-place-count g c =
    c.argument_word.ensures ∙ sym (argument_at c.args.unit.now c.args.turn (on_ports c.args.ports c.args.words.now) c.args.count c.args.place c.if-place-count.true)

pub returns-else-place-count : goal.returns-else-place-count
returns-else-place-count g c =
    sym (argument_past c.args.unit.now c.args.turn (on_ports c.args.ports c.args.words.now) c.args.count c.args.place c.if-place-count.false)
