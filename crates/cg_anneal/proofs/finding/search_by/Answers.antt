use Rattle.cg_anneal.proofs.finding.search_by.Goals as goal

pub returns : goal.returns
returns g c = (c.args.task.now.early, c.holds.ensures.times, c.in_ok-found.ensures)
