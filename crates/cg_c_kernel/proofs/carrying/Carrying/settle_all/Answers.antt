use Rattle.std.proofs.Common.{below_more}
use Rattle.cg_c_kernel.proofs.Carried.{settled_kept}
use Rattle.cg_c_kernel.proofs.Making.{adds_twice}
use Rattle.cg_c_kernel.proofs.carrying.Carrying.settle_all.Goals as goal

pub loop-v-preserved : goal.loop-v-preserved
loop-v-preserved c =
    record {
      adds = adds_twice _ _ _ _ _ c.loop-v.invariant.adds c.in_ok-settle_value.ensures.adds;
      edges = c.in_ok-settle_value.ensures.edges;
      same = cc;
      all =
          below_more _ _ (λ v l. settled_kept _ _ _ _ v c.in_ok-settle_value.ensures.kept (c.loop-v.invariant.all v l))
          c.in_ok-settle_value.ensures.there;
    }
