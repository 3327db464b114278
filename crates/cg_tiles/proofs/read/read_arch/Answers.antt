use Rattle.std.proofs.Common.{◌≡◌, ◌∙◌, sym}
use Rattle.cg_parts.specs.declared.fault.ArchFault.TheVariants as arch
use Rattle.cg_grid.specs.declared.fault.TilesFault.TheVariants as fault
use Rattle.cg_tiles.proofs.Never.{never_memory}
use Rattle.cg_tiles.proofs.read.read_arch.Goals as goal

pub returns-clause-no_memory : goal.returns-clause-no_memory
returns-clause-no_memory c =
    λ e.
    let same : c.in-Err.fault ≡ fault.Parts arch.Memory = cc in
    never_memory c.args.bytes.now c.in-Err.fault (c.in-Err.ensures.refused (λ m. let bad : fault.Memory ≡ fault.Parts arch.Memory = sym m ∙ same in cc)) same

pub returns-in-Ok-validate-clause-answer : goal.returns-in-Ok-validate-clause-answer
returns-in-Ok-validate-clause-answer c =
    let spelled = c.in-Ok.ensures.spelled in
    record { parts = spelled.0; spelled = spelled.1; valid = spelled.2.valid c.in-Ok-validate.arch c.in-Ok-validate.ensures.answer }
