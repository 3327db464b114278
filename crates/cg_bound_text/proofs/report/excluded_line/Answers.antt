use Rattle.cg_bound_registers.specs.Sums.{table}
use Rattle.cg_bound_all.specs.Why.{hops_at}
use Rattle.cg_bound_text.proofs.Shown.{short_lists}
use Rattle.cg_bound_text.proofs.report.excluded_line.Goals as goal

pub push_reason-requires : goal.push_reason-requires
push_reason-requires c = record { short = short_lists c.args.arch.now c.args.kernel.now c.args.tables.now (hops_at c.args.tables.now c.args.ii) c.args.ii c.args.reason.now c.requires }
