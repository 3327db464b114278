use Rattle.std.proofs.Common.{ℕ}
use Rattle.cg_datapath.specs.Course.{Keeps}
use Rattle.cg_gates_run.specs.Settle.{GiveSelects, AreSelectsRight}
use Rattle.cg_gates_run.proofs.settle.give_selects.Given as goal

abbrev pub invariant-loop-j : goal.invariant-loop-j
invariant-loop-j g l = record {
  kept : (f : ℕ → ℕ) → GiveSelects (g.C.Contexts.config l.contexts) l.slot l.cells f → Keeps f l.initial.words l.words;
  right : (f : ℕ → ℕ) → GiveSelects (g.C.Contexts.config l.contexts) l.slot l.cells f → AreSelectsRight l.cells l.j l.words f;
}
