use Rattle.std.proofs.Common.{◌/◌, ◌^◌, sym, ap, ◌∙◌}
use Rattle.cg_bits.specs.Numbers.{bits_of_bytes}
use Rattle.cg_bits.specs.Format.{cgb2, op_of}
use Rattle.cg_bits.specs.Reading.{unit_in}
use Rattle.cg_view.proofs.Sparse.{off_is, op_there}
use Rattle.cg_view.proofs.Heads.{op_head}
use Rattle.cg_view.proofs.unit_view.unit_fields.Goals as goal

pub returns-in-None : goal.returns-in-None
returns-in-None c =
    let n = c.args.ports in
    let bits = bits_of_bytes c.args.body.now in
    sym (off_is (unit_in cgb2 n bits c.args.at) c.requires.fields (op_there n bits c.args.at ∙ ap (op_of cgb2) (sym (ap (λ z. z / 2 ^ 20) c.number_at-head.ensures ∙ op_head c.args.body.now c.args.at n c.requires)) ∙ sym c.op_of.ensures ∙ c.in-None.is))

pub fields_of-requires : goal.fields_of-requires
fields_of-requires c =
    let n = c.args.ports in
    let bits = bits_of_bytes c.args.body.now in
    record { held = c.requires; head = c.number_at-head.ensures; op = op_there n bits c.args.at ∙ ap (op_of cgb2) (sym (ap (λ z. z / 2 ^ 20) c.number_at-head.ensures ∙ op_head c.args.body.now c.args.at n c.requires)) ∙ sym c.op_of.ensures ∙ c.in-Some.is }
