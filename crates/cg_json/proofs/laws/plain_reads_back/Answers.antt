use Rattle.cg_json.proofs.Back.{reads_back}
use Rattle.cg_json.proofs.laws.plain_reads_back.Goals as goal

pub returns : goal.returns
returns c = reads_back
