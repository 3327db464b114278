use Rattle.cg_bound_text.proofs.Shown.{short_bounds}
use Rattle.cg_bound_text.proofs.report.why_report.Goals as goal

pub push_lines-requires : goal.push_lines-requires
push_lines-requires c = record { short = short_bounds c.args.arch.now c.args.kernel.now c.args.why.now.tables 4 c.args.why.now.bounds.items c.deref.result.now c.deref.ensures.value c.requires.bounds }
