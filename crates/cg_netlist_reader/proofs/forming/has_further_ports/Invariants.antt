use Rattle.std.proofs.Common.{◌≡◌, take, drop}
use Rattle.cg_netlist.specs.Forms.{form_ports}
use Rattle.cg_netlist_reader.specs.Ported.{lent_ports}
use Rattle.cg_netlist_reader.proofs.forming.has_further_ports.Given as goal

abbrev pub invariant-loop-place : goal.invariant-loop-place
invariant-loop-place l = take l.place (lent_ports l.pins) ≡ take l.place (drop 1 (form_ports l.form))
