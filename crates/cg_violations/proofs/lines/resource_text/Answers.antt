use Rattle.cg_violations.proofs.lines.resource_text.Goals as goal

pub returns-in-Way : goal.returns-in-Way
returns-in-Way c = rw c.in-Way.is (c.way_text.ensures c.args.mapped.kernel.now)
