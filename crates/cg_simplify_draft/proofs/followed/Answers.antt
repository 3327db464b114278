use Rattle.cg_simplify_draft.proofs.Stands.{follows_itself}
use Rattle.cg_simplify_draft.proofs.Turns.{runs_alike}
use Rattle.cg_simplify_draft.proofs.followed.Goals as goal

pub returns : goal.returns
returns c = record { alike = runs_alike; itself = follows_itself }
