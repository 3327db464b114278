use Rattle.std.proofs.Common.{◌≡◌, ℕ, ◌++◌, ◌<◌, [], length, replicate, false, refl, ap, subst, ◌∙◌, append_assoc, arith}
use Rattle.std.specs.Prelude.{IfOk}
use Rattle.cg_model.specs.Config.{select, fields}
use Rattle.cg_flat.specs.Slots.{select_bits}
use Rattle.cg_bits.specs.Numbers.{bits_of, bits_of_bytes}
use Rattle.cg_bits.specs.Parts.{joined}
use Rattle.cg_bits.specs.Format.{cgb2, ports}
use Rattle.cg_bits.specs.Spelling.{unit_bits, slot_bits, slots}
use Rattle.cg_bits.proofs.Parts.{started, grown}
use Rattle.cg_bits.proofs.writing.body_of.Goals as goal

pub loop-slot-init : goal.loop-slot-init
loop-slot-init c = c.new-writer.ensures ∙ ap bits_of_bytes c.new.ensures.items ∙ started [] (slot_bits cgb2 c.args.arch.now c.args.config.now)

pub loop-slot-preserved : goal.loop-slot-preserved
unfolding slot_bits
loop-slot-preserved c =
    let A = c.args.arch.now in
    let C = c.args.config.now in
    let slot = c.loop-slot.slot in
    let selects = joined (λ r. bits_of (select_bits A r) (select C r slot)) (length A.resources) in
    let units = joined (λ x. unit_bits cgb2 (ports A x) (fields C x slot)) (length A.units) in
    c.in_ok-push_fields.ensures ∙ ap (λ z. z ++ units) c.in_ok-push_selects.ensures ∙ append_assoc c.loop-slot.writer selects units
    ∙ grown c.loop-slot.writer [] (slot_bits cgb2 A C) slot (selects ++ units) c.loop-slot.invariant refl

pub returns : goal.returns
returns c =
    let A = c.args.arch.now in
    let C = c.args.config.now in
    let last : c.loop-slot.slot ≡ C.ii = omega arith in
    let e : c.loop-slot.writer ≡ slots cgb2 A C = c.loop-slot.invariant ∙ ap (joined (slot_bits cgb2 A C)) last in
    subst (λ w. IfOk c.finish.result (λ v. (padding : ℕ) × (padding < 8) × (bits_of_bytes v.items ≡ w ++ replicate padding false))) e c.finish.ensures
