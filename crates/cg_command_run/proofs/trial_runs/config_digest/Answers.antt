use Rattle.std.proofs.Common.{◌≡◌, ◌<◌, IfOk, Err, string_bytes, ap, arith, subst}
use Rattle.cg_model.specs.Work.{Image, Left}
use Rattle.cg_command_run.specs.Report as spec
use Rattle.cg_command_run.proofs.trial_runs.config_digest.Goals as goal

pub returns-in-Ok : goal.returns-in-Ok
returns-in-Ok c =
    subst (λ (i : Image). IfOk c.image_digest.result (λ s. string_bytes s ≡ spec.image_digest i)) (ap (λ (l : Left). l.image) c.in-Ok.ensures.left) c.image_digest.ensures

pub want_of_run-requires-clause-many : goal.want_of_run-requires-clause-many
want_of_run-requires-clause-many c = λ t is.
    let many : 1000000 < 1000 = ((c.in-Err.ensures.many t).0 (ap Err is)).1 in
    absurd (omega arith)

pub want_of_run-requires-clause-large : goal.want_of_run-requires-clause-large
want_of_run-requires-clause-large c = λ w is.
    let large = (c.in-Err.ensures.large w).0 (ap Err is) in
    absurd (let a = large.0 in let b = large.2 in let f = c.requires.fits in omega (arith, a, b, f))
