use Rattle.std.proofs.Common.{subst}
use Rattle.std.specs.Prelude.{MatchOption}
use Rattle.cg_class.specs.Class.{IsOverfull, AreOfNodes}
use Rattle.cg_bound.specs.Bound.{HasNoOverfull}
use Rattle.cg_bound.proofs.Halving.{open_found}
use Rattle.cg_bound.proofs.halves.least_open.Goals as goal

pub returns-in-None : goal.returns-in-None
returns-in-None c =
    let A = c.args.arch.now in
    let K = c.args.kernel.now in
    let found = c.in_ok-free.free in
    let answer = subst (λ o. MatchOption o (HasNoOverfull A K found.interval) (λ set. IsOverfull A K found.interval set × AreOfNodes K set)) c.in-None.is c.in_ok-overfull_at.ensures in
    open_found A K c.requires found c.in_ok-free.ensures answer
