use Rattle.cg_map.proofs.Alike.{by_hub}
use Rattle.cg_map.proofs.laws.complete_by_hub.Goals as goal

pub returns : goal.returns
returns c = λ A K asked seed moves a arch kernel is enough p. by_hub A K arch kernel asked seed moves is enough a p
