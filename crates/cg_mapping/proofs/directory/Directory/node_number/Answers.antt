use Rattle.std.proofs.Common.{◌∙◌, ap, sym, arith, length, Some}
use Rattle.cg_mapping.proofs.Numbered.{numbered_within}
use Rattle.cg_mapping.proofs.directory.Directory.node_number.Goals as goal

pub prove-unreachable-requires : goal.prove-unreachable-requires
prove-unreachable-requires c =
    let within = numbered_within _ (λ x. Some x.name) _ c.args.name.now c.in-Some.number c.self.invariant.of_nodes (sym c.number_in.ensures ∙ c.in-Some.is) in
    let same = ap length c.nodes-nodes.ensures.nodes in
    omega (arith, within, same)
