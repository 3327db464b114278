use Rattle.cg_c_values.proofs.Found.{found}
use Rattle.cg_c_values.proofs.values.Values.find.Goals as goal

pub returns : goal.returns
returns c = found c.args.self.now.values.keys c.args.value c.get_index_of.result c.get_index_of.ensures.index c.get_index_of.ensures.found
