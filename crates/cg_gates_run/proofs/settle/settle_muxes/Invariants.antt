use Rattle.std.proofs.Common.{ℕ}
use Rattle.cg_datapath.specs.Course.{Keeps}
use Rattle.cg_gates_run.specs.Settle.{GiveMuxes, AreRight}
use Rattle.cg_gates_run.proofs.settle.settle_muxes.Given as goal

abbrev pub invariant-loop-j : goal.invariant-loop-j
invariant-loop-j l = record {
  kept : (f : ℕ → ℕ) → GiveMuxes l.muxes l.initial.words f → Keeps f l.initial.words l.words;
  right : (f : ℕ → ℕ) → GiveMuxes l.muxes l.initial.words f → AreRight l.muxes l.j l.words f;
}
