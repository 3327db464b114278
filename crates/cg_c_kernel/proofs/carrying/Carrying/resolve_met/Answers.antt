use Rattle.cg_c_kernel.proofs.Making.{adds_twice}
use Rattle.cg_c_kernel.proofs.carrying.Carrying.resolve_met.Goals as goal

pub loop-i-preserved : goal.loop-i-preserved
loop-i-preserved c =
    record { adds = adds_twice _ _ _ _ _ c.loop-i.invariant.adds c.in_ok-resolve_at.ensures.adds; edges = c.in_ok-resolve_at.ensures.edges; same = cc }
