use Rattle.cg_anneal.proofs.Loops.{routed_idle}
use Rattle.cg_anneal.proofs.walk.Walk.route.Goals as goal

pub returns-in-None : goal.returns-in-None
returns-in-None c = routed_idle c.args.self.now c.args.i c.requires.none (rw c.in-None.is at c.in_ok-find.ensures.found)
