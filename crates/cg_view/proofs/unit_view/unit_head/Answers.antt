use Rattle.std.proofs.Common.{◌≡◌, ◌/◌, ◌%◌, ◌^◌, sym, ap, ◌∙◌, arith}
use Rattle.cg_config.specs.Told.{head_of}
use Rattle.cg_config.proofs.ByCase.{head_same}
use Rattle.cg_bits.specs.Numbers.{bits_of_bytes, number_at}
use Rattle.cg_bits.specs.Format.{cgb2, op_of}
use Rattle.cg_bits.specs.Reading.{unit_in}
use Rattle.cg_view.proofs.Sparse.{op_there, stage_there, port_there}
use Rattle.cg_view.proofs.Heads.{op_head, stage_head, port_head}
use Rattle.cg_view.proofs.unit_view.unit_head.Goals as goal

pub returns : goal.returns
returns c =
    let n = c.args.ports in
    let at = c.args.at in
    let body = c.args.body.now in
    let bits = bits_of_bytes body in
    let f = unit_in cgb2 n bits at in
    let op = c.op_of.ensures ∙ ap (op_of cgb2) (ap (λ z. z / 2 ^ 20) c.number_at-head.ensures ∙ op_head body at n c.requires) ∙ sym (op_there n bits at) in
    let stage = ap (λ z. z / 2 ^ 4 % 65536) c.number_at-head.ensures ∙ stage_head body at n c.requires ∙ sym (stage_there n bits at) in
    let port : c.number_at-head.result % 16 ≡ f.port = ap (λ z. z % 16) c.number_at-head.ensures ∙ port_head body at n c.requires ∙ ap (λ z. number_at bits z 4) (omega arith) ∙ sym (port_there n bits at) in
    head_same _ (head_of f) op stage port
