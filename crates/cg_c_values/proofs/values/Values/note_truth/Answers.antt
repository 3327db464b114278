use Rattle.cg_c_values.proofs.Found.{one_more_truth}
use Rattle.cg_c_values.proofs.values.Values.note_truth.Goals as goal

pub invariant_of-self : goal.invariant_of-self
invariant_of-self c =
    record {
      stand = c.args.self.now.stand;
      are_truths = one_more_truth c.args.self.now.values.keys c.args.self.now.truths c.insert.new.self c.args.v c.insert.result c.insert.ensures.updates c.insert.ensures.err c.requires c.args.self.now.are_truths;
    }
