use Rattle.std.proofs.Common.{refl}
use Rattle.cg_depend.specs.Gathered.{ask}
use Rattle.cg_depend.proofs.Answered.{address_of}
use Rattle.cg_depend.proofs.addresses.Addresses.gap.Goals as goal

pub returns : goal.returns
returns c =
    let K = c.args.self.now in
    c.gap_between.ensures K (ask c.args.from c.args.to c.args.least)
    (address_of c.self.inside.kernel.now K c.self.inside.addresses.items c.args.from _ _ c.self.invariant c.self.view_is c.requires.from c.index-source.ensures)
    (address_of c.self.inside.kernel.now K c.self.inside.addresses.items c.args.to _ _ c.self.invariant c.self.view_is c.requires.to c.index-target.ensures)
    refl
