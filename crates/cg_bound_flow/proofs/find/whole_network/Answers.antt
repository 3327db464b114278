use Rattle.std.proofs.Common.{◌≡◌, ◌≤◌, get_or, ap, arith, ◌+◌, ◌*◌}
use Rattle.std.proofs.lemmas.List.{get_or_default}
use Rattle.cg_model.specs.declared.array.Unit.{Unit}
use Rattle.cg_model.specs.Array.{unit}
use Rattle.cg_bound_registers.specs.Sums.{table}
use Rattle.cg_bound_flow.proofs.Finished.{graph, spans, most_small}
use Rattle.cg_bound_flow.proofs.find.whole_network.Goals as goal

pub returns-clause-graph : goal.returns-clause-graph
returns-clause-graph c =
    graph c.args.instance.arch.now c.args.instance.kernel.now (table c.args.instance.hops.now) c.args.instance.ii c.nodes-nodes.ensures.valid c.in_ok-links.links.items c.in_ok-links.ensures c.latencies_are_small.ensures
    (λ op. most_small op c.args.instance.arch.now.units (λ x d l. let h = (c.units-units.ensures.valid.latencies x l).1 in let e : (get_or c.args.instance.arch.now.units x d).latency ≡ (unit c.args.instance.arch.now x).latency = ap (λ (u : Unit). u.latency) (get_or_default c.args.instance.arch.now.units x d _ l) in omega arith))
    (λ v p. let h = c.hops_are_words.ensures (3 * v + p) in omega arith) c.requires

pub returns-clause-spans : goal.returns-clause-spans
returns-clause-spans c = spans c.args.instance.arch.now c.args.instance.kernel.now (table c.args.instance.hops.now) c.args.instance.ii c.nodes-nodes.ensures.valid c.in_ok-links.links.items c.in_ok-links.ensures
