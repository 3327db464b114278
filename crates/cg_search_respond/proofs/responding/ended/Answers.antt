use Rattle.std.proofs.Common.{◌<◌, sym, subst}
use Rattle.cg_search_respond.specs.Responded.{IsJudged}
use Rattle.cg_search_respond.proofs.responding.ended.Goals as goal

pub mapping_faults-requires : goal.mapping_faults-requires
mapping_faults-requires c =
    let T = c.args.task.now in
    let missed = subst (IsJudged T.arch T.kernel T.ii) c.in-Illegal.is c.in_ok-legal.ensures in
    subst (λ n. 0 < n) (sym missed.interval) c.holds.ensures.some
