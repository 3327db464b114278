use Rattle.std.proofs.Common.{ℕ}
use Rattle.cg_datapath.specs.Course.{Keeps}
use Rattle.cg_sim.specs.Settle.{AreRight, GiveNets}
use Rattle.cg_sim.proofs.settle.settle_nets.Given as goal

abbrev pub invariant-loop-j : goal.invariant-loop-j
invariant-loop-j g l = record {
  kept : (f : ℕ → ℕ) → GiveNets (g.C.Contexts.config l.contexts) l.slot l.nets l.initial.words f → Keeps f l.initial.words l.words;
  right : (f : ℕ → ℕ) → GiveNets (g.C.Contexts.config l.contexts) l.slot l.nets l.initial.words f → AreRight l.nets l.j l.words f;
}
