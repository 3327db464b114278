use Rattle.std.proofs.Common.{◌≡◌, rules, arith}
use Rattle.std.specs.Prelude.{count_by}
use Rattle.cg_walk_spec.specs.State.{is_missing}
use Rattle.cg_anneal.proofs.Keeping as keeping
use Rattle.cg_anneal.proofs.walk.Walk.missing_anew.Goals as goal

pub returns-clause-few : goal.returns-clause-few
returns-clause-few c =
    let g = c.self.inside in
    let count : c.count.result ≡ count_by is_missing g.routes.items = search rules in
    let few = keeping.few_missing _ g.graph.now g.edges.items g.placement g.usage g.missing c.self.invariant in
    let is = c.self.invariant.missing in
    omega (arith, count, few, is)
