use Rattle.cg_config.proofs.Ports.{ports_free}
use Rattle.cg_config.proofs.config.Config.leaves_ports_free.Goals as goal

pub returns : goal.returns
returns c = λ A right. ports_free A c.args.self.now c.args.fields.now c.clashes.result right c.clashes.ensures.some c.clashes.ensures.none
