use Rattle.std.proofs.Common.{◌<◌, sym, subst}
use Rattle.cg_model.specs.Array.{Arch}
use Rattle.cg_datapath.specs.declared.fault.SimFault.TheVariants.{TooManyTurns, ImageTooLarge}
use Rattle.cg_datapath.proofs.Carried.{carried}
use Rattle.cg_gates_run.proofs.run.GateRun.new.Goals as goal

pub returns-in-Err-clause-many : goal.returns-in-Err-clause-many
returns-in-Err-clause-many g c = λ t. carried _ c.in-Err.fault (TooManyTurns t) _ (c.in-Err.ensures.many t)

pub returns-in-Err-clause-large : goal.returns-in-Err-clause-large
returns-in-Err-clause-large g c = λ w.
    let both = carried _ c.in-Err.fault (ImageTooLarge w) _ (c.in-Err.ensures.large w) in
    let arch = c.arch.ensures.arch in (
      λ e. let p = both.0 e in (p.0, p.1, subst (λ (X : Arch). X.memory < w) arch p.2),
      λ q. both.1 (q.0, q.1, subst (λ (X : Arch). X.memory < w) (sym arch) q.2),
    )
