use Rattle.std.proofs.Common.{length}
use Rattle.cg_datapath.specs.Reserved.{AreMarked}
use Rattle.cg_datapath.proofs.streams.used_ports.Given as goal

abbrev pub invariant-loop-slot : goal.invariant-loop-slot
invariant-loop-slot g l = AreMarked (g.C.Contexts.config l.contexts) (length l.arch.units) l.slot l.used
