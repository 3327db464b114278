use Rattle.cg_c_values.proofs.Found.{new_truth}
use Rattle.cg_c_values.proofs.Known.{inserts_keep}
use Rattle.cg_c_values.proofs.values.Values.add.Goals as goal

pub note_truth-requires : goal.note_truth-requires
note_truth-requires c = new_truth c.args.self.now.values.keys c.insert.new.self.values.keys c.in_ok-v.v c.args.value (inserts_keep c.in_ok-v.ensures.kept) c.in_ok-v.ensures.within c.in_ok-v.ensures.added (c.gives_truth-truth.ensures c.if-truth.true)
