use Rattle.std.proofs.Common.{map}
use Rattle.std.specs.Prelude.{string_bytes}
use Rattle.cg_show_table.specs.Columns.{block_lines}
use Rattle.cg_list_laws.proofs.Grown.{grown, unbegun}
use Rattle.cg_show_table.proofs.columns.push_grid.Goals as goal

pub loop-block-init : goal.loop-block-init
loop-block-init c = unbegun (block_lines c.args.marks.now c.in_ok-grid.grid) (map string_bytes c.args.lines.now.items)

pub loop-block-preserved : goal.loop-block-preserved
loop-block-preserved c =
    grown (block_lines c.args.marks.now c.in_ok-grid.grid) c.loop-block.block (map string_bytes c.args.lines.now.items) (map string_bytes c.loop-block.lines.items) (map string_bytes c.push_block.new.lines.items) c.loop-block.invariant c.in_ok-push_block.ensures
