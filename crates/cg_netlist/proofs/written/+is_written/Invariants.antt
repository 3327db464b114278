use Rattle.cg_netlist.proofs.written.+is_written.Given as goal

abbrev pub decreases-is_written : goal.decreases-is_written
decreases-is_written l = l.number
