use Rattle.std.proofs.Common.{◌≡◌, ◌<◌, List, length, drop, true, arith, rules, subst}
use Rattle.std.specs.Prelude.{IsTrue, ◌↔◌}
use Rattle.std.proofs.lemmas.Bool.{not-false}
use Rattle.cg_verilog.specs.declared.module.Pin.{Pin as PinLent}
use Rattle.cg_netlist.specs.Forms.{form_ports}
use Rattle.cg_netlist_reader.specs.Ported.{lent_ports}
use Rattle.cg_netlist_reader.proofs.Compared.{ports_found}
use Rattle.cg_netlist_reader.proofs.forming.has_ports.Goals as goal

pub returns : goal.returns
returns c =
    let found : c.is_called.result ≡ true = search (rules, not-false) in
    let P : List PinLent → Type 0 = λ ps. IsTrue c.has_further_ports.result ↔ (lent_ports ps ≡ drop 1 (form_ports c.args.form)) in
    let some : 0 < length (form_ports c.args.form) = let count = c.port_count.ensures.count in let positive = c.port_count.ensures.some in omega (arith, count, positive) in
    ports_found c.args.cell.now.first c.args.cell.now.rest.items (form_ports c.args.form) c.text_of.result.now _ c.is_called.result c.has_further_ports.result
    some c.text_of.ensures c.port_at.ensures c.is_called.ensures found (subst P c.deref.ensures.value c.has_further_ports.ensures)
