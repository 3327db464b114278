use Rattle.std.proofs.Common.{◌≡◌, drop}
use Rattle.cg_datapath.specs.Effects.{applied}
use Rattle.cg_datapath.proofs.effects.store_all.Given as goal

abbrev pub invariant-loop-store : goal.invariant-loop-store
invariant-loop-store l = applied l.memory (drop l.store-index l.pending) ≡ applied l.initial.memory l.pending
