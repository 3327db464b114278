use Rattle.std.proofs.Common.{◌<◌, ◌*◌, ◌^◌, drop, sym, ap, subst, ◌∙◌}
use Rattle.cg_model.specs.Config.{Config}
use Rattle.cg_bits.specs.Numbers.{bits_of_bytes}
use Rattle.cg_bits.specs.Format.{cgb2, slot_len}
use Rattle.cg_bits.specs.Reading.{config_in, ii_in, body_bits}
use Rattle.cg_view.specs.Slot.{slot_of, slot_in}
use Rattle.cg_view.specs.Held.{HoldsSlot}
use Rattle.cg_view.proofs.Located.{body_is, slot_is, slot_held}
use Rattle.cg_view.proofs.config_view.ConfigView.context.Goals as goal

pub new-requires : goal.new-requires
unfolding config_in
new-requires c =
    let A = c.self.inside.arch.now in
    let bytes = c.self.inside.bytes.now in
    let in_time : c.args.slot < ii_in bytes = subst (λ (z : Config). c.args.slot < z.ii) (sym c.self.view_is) c.requires in
    let slot_is_long = c.self.invariant.slot in
    let short : slot_len cgb2 A < 2 ^ 32 = subst (λ z. z < 2 ^ 32) slot_is_long c.self.invariant.short in
    subst (λ b. HoldsSlot A b (c.args.slot * c.self.inside.slot_bits)) (sym (body_is bytes))
    (subst (λ z. HoldsSlot A (drop 40 bytes) (c.args.slot * z)) (sym slot_is_long) (slot_held A bytes c.args.slot c.self.invariant.held in_time short))

pub returns : goal.returns
unfolding config_in
returns c =
    let A = c.self.inside.arch.now in
    let bytes = c.self.inside.bytes.now in
    let in_time : c.args.slot < ii_in bytes = subst (λ (z : Config). c.args.slot < z.ii) (sym c.self.view_is) c.requires in
    c.new.ensures ∙ ap (λ b. slot_in A (bits_of_bytes b) (c.args.slot * c.self.inside.slot_bits)) (body_is bytes) ∙ ap (λ z. slot_in A (body_bits bytes) (c.args.slot * z)) c.self.invariant.slot
    ∙ slot_is A bytes c.args.slot in_time ∙ ap (λ (z : Config). slot_of z c.args.slot) c.self.view_is
