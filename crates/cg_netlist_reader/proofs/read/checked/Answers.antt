use Rattle.cg_netlist_reader.proofs.Checked.{graph_is}
use Rattle.cg_netlist_reader.proofs.read.checked.Goals as goal

pub new-requires : goal.new-requires
new-requires c =
    graph_is c.args.nets.items c.deref.result.now c.args.cells.items c.deref-2.result.now c.requires.text c.deref.ensures.value c.deref-2.ensures.value c.requires.formed c.in_default.ensures.ok
