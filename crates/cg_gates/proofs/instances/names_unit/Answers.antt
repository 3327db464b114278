use Rattle.std.proofs.Common.{ap, sym, ◌∙◌, bytes_eq}
use Rattle.std.specs.Prelude.{find}
use Rattle.std.specs.Option.{option_copied}
use Rattle.cg_model.specs.declared.array.Unit.{Unit}
use Rattle.cg_gates.proofs.Stems.{unit_named_by}
use Rattle.cg_gates.proofs.instances.names_unit.Goals as goal

pub returns-in-Some-named : goal.returns-in-Some-named
returns-in-Some-named c =
    unit_named_by c.args.arch.now c.args.ports c.args.latency c.args.operations c.args.name.now c.in-Some.stem.now c.in-Some-named.unit.now c.is_unit_of.result
    (ap option_copied (sym c.in-Some.is) ∙ c.after_front.ensures)
    (ap option_copied (sym c.in-Some-named.is) ∙ c.named.ensures ∙ ap (find (λ (u : Unit). bytes_eq u.name c.in-Some.stem.now)) c.units.ensures.units)
    c.is_unit_of.ensures
