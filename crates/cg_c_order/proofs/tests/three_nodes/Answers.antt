use Rattle.std.proofs.Common.{◌≡◌, rules}
use Rattle.cg_c_order.proofs.Worked.{three, valid_from}
use Rattle.cg_c_order.proofs.tests.three_nodes.Goals as goal

pub returns-clause-valid : goal.returns-clause-valid
returns-clause-valid c =
    let e : c.push-3.new.self.items ≡ three = search rules in
    valid_from c.push-3.new.self.items e
