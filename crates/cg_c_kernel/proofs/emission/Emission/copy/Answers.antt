use Rattle.cg_c_kernel.proofs.Placing.{copied}
use Rattle.cg_c_kernel.proofs.emission.Emission.copy.Goals as goal

pub returns-clause-adds : goal.returns-clause-adds
returns-clause-adds c =
    copied _ _ _ _ _ c.args.number c.requires.stands c.requires.live c.in_ok-m.ensures.0 c.meet.ensures.same.0 c.meet.ensures.same.1 c.in_ok-meet.ensures.met
