use Rattle.cg_simplify_draft.proofs.restated.Goals as goal
use Rattle.cg_simplify_draft.proofs.Restating as laws

pub returns : goal.returns
returns c = laws.restated
