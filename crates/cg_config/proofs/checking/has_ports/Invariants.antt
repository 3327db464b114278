use Rattle.std.proofs.Common.{ℕ, ◌<◌}
use Rattle.cg_config.specs.Parts.{HasPorts, Notes, given_before}
use Rattle.cg_config.proofs.checking.has_ports.Given as goal

abbrev pub invariant-loop-slot : goal.invariant-loop-slot
invariant-loop-slot l = record {
  noted : Notes l.taken (given_before l.arch l.config l.slot);
  free : (s : ℕ) → s < l.slot → HasPorts l.arch l.config s;
}
