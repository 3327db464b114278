use Rattle.std.proofs.Common.{ℕ}
use Rattle.cg_datapath.specs.Course.{Keeps}
use Rattle.cg_gates_run.specs.Settle.{GiveRegisters, AreRight}
use Rattle.cg_gates_run.proofs.settle.settle_registers.Given as goal

abbrev pub invariant-loop-j : goal.invariant-loop-j
invariant-loop-j l = record {
  kept : (f : ℕ → ℕ) → GiveRegisters l.registers l.before f → Keeps f l.initial.words l.words;
  right : (f : ℕ → ℕ) → GiveRegisters l.registers l.before f → AreRight l.registers l.j l.words f;
}
