use Rattle.std.proofs.Common.{◌≡◌, length, ap, ◌∙◌, arith}
use Rattle.cg_model.specs.Canonical.{stage_of, greatest_of}
use Rattle.cg_bits.specs.Numbers.{bits_of_bytes}
use Rattle.cg_bits.specs.Checks.{fields_there}
use Rattle.cg_bits.proofs.Places.{greatest_none, greatest_more}
use Rattle.cg_bits.proofs.all_slots.Slots.last_stage_in.Goals as goal

pub loop-x-init : goal.loop-x-init
loop-x-init c = greatest_none _

pub loop-x-preserved : goal.loop-x-preserved
loop-x-preserved c =
    let s = c.args.self.now in
    c.greater-last.ensures ∙ greatest_more (λ x. stage_of (fields_there s.format s.arch.now (bits_of_bytes s.body.now) c.args.slot x)) c.loop-x.x c.loop-x.last c.stage.result c.loop-x.invariant c.stage.ensures

pub returns : goal.returns
returns c =
    let s = c.args.self.now in
    let last : c.loop-x.x ≡ length s.arch.now.units = omega (arith, ap length c.units-x-end.ensures.units) in
    c.loop-x.invariant ∙ ap (greatest_of (λ x. stage_of (fields_there s.format s.arch.now (bits_of_bytes s.body.now) c.args.slot x))) last
