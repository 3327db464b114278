use Rattle.cg_sim.specs.Plan.{is_register, is_net, AreListed, AreRising}
use Rattle.cg_sim.proofs.plan.plan_of.Given as goal

abbrev pub invariant-loop-place : goal.invariant-loop-place
invariant-loop-place l = record {
  registers : AreListed l.arch is_register l.order l.place l.registers.entries.items l.registers.drivers.items;
  nets : AreListed l.arch is_net l.order l.place l.nets.entries.items l.nets.drivers.items;
  rising : AreRising l.arch l.nets.entries.items;
}
