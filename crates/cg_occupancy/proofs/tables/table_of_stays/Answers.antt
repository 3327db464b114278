use Rattle.std.proofs.Common.{arith}
use Rattle.std.proofs.lemmas.Grind.{common_steps}
use Rattle.cg_occupancy.proofs.Noted.{stays_made}
use Rattle.cg_occupancy.proofs.tables.table_of_stays.Goals as goal

pub returns : goal.returns
returns c = stays_made c.args.legal.now _ c.mapping.ensures.legal.interval (grind (arith, common_steps))
