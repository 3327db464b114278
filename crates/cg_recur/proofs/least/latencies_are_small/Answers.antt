use Rattle.cg_recur.proofs.Latencies.{latency_small}
use Rattle.cg_recur.proofs.least.latencies_are_small.Goals as goal

pub returns : goal.returns
returns c = λ op. latency_small c.args.arch.now op c.units-units.ensures.valid
