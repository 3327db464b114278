use Rattle.std.proofs.Common.{arith, refl}
use Rattle.std.specs.Prelude.{slice_index}
use Rattle.cg_gates.specs.Shape.{shapes}
use Rattle.cg_gates.specs.Gates.{driving}
use Rattle.cg_gates.specs.Accepts.{net_name}
use Rattle.cg_gates_run.proofs.Muxes.{mux_step, all_muxes}
use Rattle.cg_gates_run.proofs.choices.muxes_of.Goals as goal

pub loop-number-preserved : goal.loop-number-preserved
loop-number-preserved c =
    let N = c.args.nets.now in
    let order = c.args.order.now in
    let n = c.loop-number.number-index in
    mux_step N c.requires.early c.requires.graph order c.requires.order n (omega arith) (driving (net_name N (slice_index order n)) (shapes N)) c.loop-number.choices c.push_mux.new.choices refl c.in_ok-push_mux.ensures c.loop-number.invariant

pub returns-clause-all : goal.returns-clause-all
returns-clause-all c = all_muxes c.args.nets.now c.requires.early c.requires.graph c.args.order.now c.requires.order c.loop-number.number-index c.loop-number.choices (omega arith) c.loop-number.invariant
