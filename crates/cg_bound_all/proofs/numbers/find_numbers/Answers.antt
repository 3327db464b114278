use Rattle.cg_bound_all.proofs.Reasons.{tables, missing_of, few}
use Rattle.cg_bound_all.proofs.numbers.find_numbers.Goals as goal

pub returns : goal.returns
returns c =
    let A = c.args.arch.now in
    let K = c.args.kernel.now in
    let rows = c.in_ok-ways.ways in
    record {
      tables = tables A K c.args.ii rows c.in_ok-hops.hops.items c.nodes-nodes.ensures.valid c.in_ok-ways.ensures.ways c.in_ok-hops.ensures.numbers;
      missing = missing_of A K c.args.ii rows c.first_without_way-missing.result c.in_ok-ways.ensures.ways c.first_without_way-missing.ensures.some c.first_without_way-missing.ensures.none;
      small = c.in_ok-hops.ensures.small 4096 (few A K rows c.resources-resources.ensures.valid c.in_ok-ways.ensures.small);
    }
