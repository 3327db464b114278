use Rattle.std.proofs.lemmas.Result.{IfOk-weaker}
use Rattle.cg_c_kernel.proofs.Carried.{more_edges}
use Rattle.cg_c_kernel.proofs.carrying.Carrying.settle.Goals as goal

pub returns-clause-edges : goal.returns-clause-edges
returns-clause-edges c =
    IfOk-weaker c.set.result _ _
    (λ u h. more_edges _ _ _ _ _ _ _ c.args.number c.in_ok-edge.edge c.requires.edges c.in_ok-edge.ensures.adds.grows (record { none = cc; set = h }) c.in_ok-edge.ensures.edge) c.set.ensures
