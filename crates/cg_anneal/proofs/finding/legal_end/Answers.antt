use Rattle.std.proofs.Common.{sym, subst}
use Rattle.cg_model.specs.Array.{Arch}
use Rattle.cg_model.specs.Kernel.{Kernel}
use Rattle.cg_model.specs.Mapping.{Mapping, IsLegal}
use Rattle.cg_walk_spec.proofs.Rules.{legal_at_zero}
use Rattle.cg_anneal.proofs.finding.legal_end.Goals as goal

pub new-requires : goal.new-requires
new-requires c =
    let W = c.args.walk.now in
    let h = c.holds.ensures in
    let m = c.in_ok-mapping.mapping in
    let legal = legal_at_zero W.arch W.kernel W.ii W.state h.arch h.kernel h.good c.requires.zero in
    subst (λ (A : Arch). IsLegal A c.kernel-kernel.result.now m) (sym c.arch-arch.ensures)
    (subst (λ (K : Kernel). IsLegal W.arch K m) (sym c.kernel-kernel.ensures) (subst (λ (x : Mapping). IsLegal W.arch W.kernel x) (sym c.in_ok-mapping.ensures) legal))
