use Rattle.std.proofs.Common.{◌≡◌, length, arith, rules}
use Rattle.std.proofs.lemmas.Grind.{common_steps}
use Rattle.cg_show_table.specs.Columns.{node_text}
use Rattle.cg_show_table.proofs.Widths.{width_few}
use Rattle.cg_show_table.proofs.columns.node_width.Goals as goal

pub returns-clause-small : goal.returns-clause-small
returns-clause-small c =
    let width : c.len.result ≡ length (node_text c.args.marks.now c.args.node) = first_of (search rules, grind (arith, common_steps)) in
    width_few c.args.marks.now c.args.node c.kernel.result.now c.len.result width c.kernel.ensures.kernel c.nodes-nodes.ensures.valid c.kernel.ensures.legal c.requires
