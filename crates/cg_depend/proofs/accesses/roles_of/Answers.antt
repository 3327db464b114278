use Rattle.std.proofs.Common.{List, length, ap, sym, ◌∙◌, arith}
use Rattle.std.proofs.lemmas.List.{length_push}
use Rattle.cg_model.specs.declared.kernel.Node.{Node}
use Rattle.cg_depend.specs.Gathered.{role_of}
use Rattle.cg_depend.proofs.Answered.{role_added}
use Rattle.cg_depend.proofs.PairTable.{node_at}
use Rattle.cg_depend.proofs.accesses.roles_of.Goals as goal

pub loop-number-preserved : goal.loop-number-preserved
loop-number-preserved c = record {
  long = ap (λ xs. length xs) c.in_ok-push.ensures.items ∙ length_push c.loop-number.roles.items c.role_of.result ∙ omega (arith, c.loop-number.invariant.long);
  each = role_added c.args.kernel.now c.loop-number.roles.items c.push.new.self.items c.loop-number.number c.role_of.result c.loop-number.invariant.long c.loop-number.invariant.each c.in_ok-push.ensures.items (c.role_of.ensures ∙ ap (λ (N : Node). role_of N.op) (sym c.index-nodes-number.is ∙ node_at c.args.kernel.now c.loop-number.number c.index-nodes-number.result c.nodes-nodes.result.now c.nodes-nodes.ensures.nodes (let n = ap (λ (xs : List Node). length xs) c.nodes-nodes.ensures.nodes in omega arith) c.index-nodes-number.is));
}
