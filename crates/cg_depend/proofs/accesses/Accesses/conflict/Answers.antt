use Rattle.std.proofs.Common.{◌∙◌}
use Rattle.cg_depend.proofs.Answered.{roles_conflict}
use Rattle.cg_depend.proofs.accesses.Accesses.conflict.Goals as goal

pub returns : goal.returns
returns c = c.meet.ensures ∙ roles_conflict c.self.inside.addresses c.args.self.now c.self.inside.roles.items c.args.u c.args.v
    c.index.result.now c.index-2.result.now c.index.result.now c.index-2.result.now c.self.invariant.0 c.self.view_is c.requires.u c.requires.v c.index.ensures c.index-2.ensures
