use Rattle.std.proofs.Common.{subst, sym}
use Rattle.cg_model.specs.Array.{IsArch}
use Rattle.cg_model.specs.Kernel.{IsKernel}
use Rattle.cg_mapping.specs.Sound.{NamesParts}
use Rattle.cg_command_map.proofs.Named.{names_parts}
use Rattle.cg_command_map.proofs.writing.mapping_text.Goals as goal

pub print_mapping-requires-clause-named : goal.print_mapping-requires-clause-named
print_mapping-requires-clause-named c =
    let m = c.args.mapping.now in
    let valid : IsArch m.arch = subst IsArch c.arch-arch.ensures c.units-valid_arch.ensures.valid in
    let good : IsKernel m.kernel = subst IsKernel c.kernel-kernel.ensures c.nodes-valid_kernel.ensures.valid in
    let named : NamesParts m.arch m.mapping = names_parts m.arch m.kernel m.mapping valid good c.mapping.ensures.legal in
    subst (λ M. NamesParts c.arch-arch.result.now M) (sym c.mapping.ensures.mapping) (subst (λ A. NamesParts A m.mapping) (sym c.arch-arch.ensures) named)
