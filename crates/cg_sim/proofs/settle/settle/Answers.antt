use Rattle.std.proofs.Common.{◌<◌, ℕ, length}
use Rattle.cg_datapath.specs.Course.{Keeps}
use Rattle.cg_sim.specs.Settle.{Follows, AreRight}
use Rattle.cg_sim.proofs.settle.settle.Goals as goal

pub returns : goal.returns
returns g c = λ f s.
    let p = c.args.plan.now in
    let C = g.C.Contexts.config c.args.contexts.now in
    let after_registers = c.settle_registers.new.words in
    let after_nets = c.settle_nets.new.words in
    let kept_registers : Keeps f c.args.words.now after_registers = c.settle_registers.ensures.kept f s.registers in
    let registers_right : AreRight p.registers (length p.registers.entries.items) after_registers f = c.settle_registers.ensures.right f s.registers in
    let follows : (j : ℕ) → j < length p.nets.entries.items → Follows C c.args.slot p.nets after_registers f j =
    λ j l words kept before. s.nets j l words (λ r e. kept r (kept_registers r e)) (λ i li. kept _ (registers_right i li)) before in
    let kept_nets : Keeps f after_registers after_nets = c.settle_nets.ensures.kept f follows in
    record {
      kept = λ r e. kept_nets r (kept_registers r e);
      registers = λ j l. kept_nets _ (registers_right j l);
      nets = c.settle_nets.ensures.right f follows;
    }
