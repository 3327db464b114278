use Rattle.cg_simplify_draft.proofs.Twice.{rewritten_twice, rewritten_itself}
use Rattle.cg_simplify_draft.proofs.composed.Goals as goal

pub returns : goal.returns
returns c = record { composed = rewritten_twice; itself = rewritten_itself }
