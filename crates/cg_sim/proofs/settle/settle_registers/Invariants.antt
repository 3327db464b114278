use Rattle.std.proofs.Common.{ℕ}
use Rattle.cg_datapath.specs.Course.{Keeps}
use Rattle.cg_sim.specs.Settle.{AreRight, GiveRegisters}
use Rattle.cg_sim.proofs.settle.settle_registers.Given as goal

abbrev pub invariant-loop-j : goal.invariant-loop-j
invariant-loop-j g l = record {
  kept : (f : ℕ → ℕ) → GiveRegisters (g.C.Contexts.config l.contexts) l.slot l.registers l.before f → Keeps f l.initial.words l.words;
  right : (f : ℕ → ℕ) → GiveRegisters (g.C.Contexts.config l.contexts) l.slot l.registers l.before f → AreRight l.registers l.j l.words f;
}
