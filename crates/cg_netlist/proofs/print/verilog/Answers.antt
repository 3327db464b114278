use Rattle.std.proofs.Common.{subst, sym}
use Rattle.std.specs.Prelude.{All}
use Rattle.cg_netlist.specs.Built.{HasBits, HasPins}
use Rattle.cg_netlist.proofs.Printable.{is_module, all_bits, all_pins}
use Rattle.cg_netlist.proofs.print.verilog.Goals as goal

pub module_text-requires : goal.module_text-requires
module_text-requires c = record {
  bits = subst (All HasBits) (sym c.nets-nets.ensures.nets) (all_bits c.args.netlist.now c.nets-nets.ensures.valid);
  pins = subst (All HasPins) (sym c.cells-cells.ensures.cells) (all_pins c.args.netlist.now c.nets-nets.ensures.valid);
}

pub returns-clause-valid : goal.returns-clause-valid
returns-clause-valid c = is_module c.args.netlist.now c.nets-nets.ensures.valid
