use Rattle.cg_netlist.proofs.Lines.{whole}
use Rattle.cg_netlist.proofs.print.module_text.Goals as goal

pub returns : goal.returns
returns c =
    whole (record { nets = c.args.nets.now; cells = c.args.cells.now }) c.in_ok-text.text.items c.push_nets.new.text.items c.push_cells.new.text.items c.extend_from_slice.new.self.items
    c.in_ok-text.ensures c.in_ok-push_nets.ensures c.in_ok-push_cells.ensures c.in_ok-extend_from_slice.ensures.items
