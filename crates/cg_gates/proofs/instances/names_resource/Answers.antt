use Rattle.std.proofs.Common.{ap, sym, ◌∙◌, bytes_eq}
use Rattle.std.specs.Prelude.{find}
use Rattle.std.specs.Option.{option_copied}
use Rattle.cg_model.specs.declared.array.Resource.{Resource}
use Rattle.cg_gates.proofs.Drivers.{few_drivers}
use Rattle.cg_gates.proofs.instances.names_resource.Goals as goal

pub gives_select-requires : goal.gives_select-requires
gives_select-requires c =
    few_drivers c.args.arch.now (λ (r : Resource). bytes_eq r.name c.in-Some.stem.now) c.in-Some-named.resource.now c.resources.ensures.valid
    (ap option_copied (sym c.in-Some-named.is) ∙ c.named.ensures ∙ ap (find (λ (r : Resource). bytes_eq r.name c.in-Some.stem.now)) c.resources.ensures.resources)
