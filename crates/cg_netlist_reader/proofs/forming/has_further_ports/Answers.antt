use Rattle.std.proofs.Common.{◌≡◌, true, false, rules}
use Rattle.std.proofs.lemmas.Bool.{not-true, not-false}
use Rattle.cg_verilog.specs.Module as texts
use Rattle.cg_verilog.specs.Read as modules
use Rattle.cg_netlist.specs.Forms.{form_ports}
use Rattle.cg_netlist_reader.proofs.Found.{mapped_at}
use Rattle.cg_netlist_reader.proofs.Compared.{item_differs, item_same}
use Rattle.cg_netlist_reader.proofs.forming.has_further_ports.Goals as goal

pub text_of-requires : goal.text_of-requires
text_of-requires c = (mapped_at texts.IsPin modules.pin_of c.args.pins.now c.loop-place.place _ c.requires.pins c.loop-place-test.true).port

pub returns-then-not-is_called : goal.returns-then-not-is_called
returns-then-not-is_called c =
    let none : c.is_called.result ≡ false = search (rules, not-true) in
    item_differs c.args.pins.now (form_ports c.args.form) c.loop-place.place _ c.text_of.result.now _ c.is_called.result c.loop-place-test.true c.text_of.ensures c.port_at.ensures c.is_called.ensures none

pub loop-place-preserved : goal.loop-place-preserved
loop-place-preserved c =
    let found : c.is_called.result ≡ true = search (rules, not-false) in
    item_same c.args.pins.now (form_ports c.args.form) c.loop-place.place _ c.text_of.result.now _ c.is_called.result c.requires.many c.loop-place-test.true c.text_of.ensures c.port_at.ensures c.is_called.ensures found
    c.loop-place.invariant
