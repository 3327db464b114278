use Rattle.cg_anneal.proofs.One as one
use Rattle.cg_anneal.proofs.laws.legal_end.Goals as goal

pub returns : goal.returns
returns c = one.legal_end
