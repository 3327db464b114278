use Rattle.std.proofs.Common.{arith}
use Rattle.std.proofs.lemmas.Grind.{common_steps}
use Rattle.cg_occupancy.proofs.Noted.{starts_made}
use Rattle.cg_occupancy.proofs.tables.table_of_starts.Goals as goal

pub returns : goal.returns
returns c = starts_made c.args.legal.now _ c.mapping.ensures.legal.interval (grind (arith, common_steps))
