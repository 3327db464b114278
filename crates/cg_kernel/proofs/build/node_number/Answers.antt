use Rattle.std.proofs.Common.{◌∙◌, ap, sym, arith, length, bytes_eq}
use Rattle.cg_model.proofs.Positions.{position_from-within}
use Rattle.cg_kernel.proofs.build.node_number.Goals as goal

pub prove-unreachable-requires : goal.prove-unreachable-requires
prove-unreachable-requires c =
    let within = position_from-within (λ n. bytes_eq n.name c.args.name.now) 0 c.args.written.now.nodes c.in-Some.number (sym (c.requires.index.found c.args.name.now) ∙ sym c.in-Some.ensures) in
    let same = ap length c.as_slice.ensures in
    omega (arith, within, same)
