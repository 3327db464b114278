use Rattle.cg_image_text.proofs.Storable.{read_storable}
use Rattle.cg_image_text.proofs.reading.read_text.Goals as goal

pub returns-clause-storable : goal.returns-clause-storable
returns-clause-storable c = read_storable c.args.bytes.now c.spelled.result c.spelled.ensures
