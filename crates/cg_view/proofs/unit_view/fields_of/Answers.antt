use Rattle.std.proofs.Common.{◌≡◌, ◌+◌, ◌/◌, ◌%◌, ◌^◌, ◌||◌, List, cond, get_or, sym, ap, ◌∙◌, arith}
use Rattle.cg_word.specs.Word.{has_port}
use Rattle.cg_model.specs.declared.config.ArgFields.{ArgFields}
use Rattle.cg_model.specs.Config.{no_arg}
use Rattle.cg_bits.specs.Numbers.{bits_of_bytes, number_at}
use Rattle.cg_bits.specs.Format.{cgb2}
use Rattle.cg_bits.specs.Reading.{unit_in}
use Rattle.cg_bits.proofs.Units.{unit_same}
use Rattle.cg_view.proofs.Sparse.{port_zero, immediate_zero, stage_there, port_there, immediate_there}
use Rattle.cg_view.proofs.Heads.{stage_head, port_head}
use Rattle.cg_view.proofs.unit_view.fields_of.Goals as goal

pub returns : goal.returns
returns c =
    let n = c.args.ports in
    let at = c.args.at in
    let bits = bits_of_bytes c.args.body.now in
    let f = unit_in cgb2 n bits at in
    let are = c.requires.held.fields in
    let fixed = c.any_fixed-fixed.ensures ∙ ap (λ (xs : List ArgFields). (get_or xs 0 no_arg).fixed || ((get_or xs 1 no_arg).fixed || (get_or xs 2 no_arg).fixed)) c.args_of-args.ensures in
    let held = c.requires.held in
    let port_at : c.args.head % 16 ≡ f.port = ap (λ z. z % 16) c.requires.head ∙ port_head c.args.body.now at n held ∙ ap (λ z. number_at bits z 4) (omega arith) ∙ sym (port_there n bits at) in
    let stage = ap (λ z. z / 2 ^ 4 % 65536) c.requires.head ∙ stage_head c.args.body.now at n held ∙ sym (stage_there n bits at) in
    let immediate_at : number_at bits (at + 26) 32 ≡ f.immediate = ap (λ z. number_at bits z 32) (omega arith) ∙ sym (immediate_there n bits at) in
    let port = c.port_of.ensures ∙ ap (λ z. cond (has_port c.args.op) z 0) port_at ∙ sym (port_zero f c.args.op are c.requires.op) in
    let immediate = c.immediate_if.ensures ∙ ap (λ z. cond c.any_fixed-fixed.result z 0) immediate_at ∙ sym (immediate_zero f c.any_fixed-fixed.result are fixed) in
    unit_same _ f (sym c.requires.op) stage port immediate c.args_of-args.ensures
