use Rattle.std.proofs.Common.{◌*◌, ◌≤◌, ◌||◌, false, length, get_or, sym, ap, subst, ◌∙◌, arith}
use Rattle.std.proofs.lemmas.List.{get_or-replicate}
use Rattle.cg_bits.specs.Numbers.{bits_of_bytes}
use Rattle.cg_bits.specs.Faults.{first}
use Rattle.cg_bits.specs.Checks.{fields_there, port_at, port_faults, used_before, uses}
use Rattle.cg_bits.proofs.First.{first_joined, first_none, joined_none_zero, joined_none_more}
use Rattle.cg_bits.proofs.Bytes.{length-bits_of_bytes}
use Rattle.cg_bits.proofs.Outputs.{port_below, any_none, any_more, port_faults_same}
use Rattle.cg_bits.proofs.ports.repeated_port.Goals as goal

pub loop-slot-init : goal.loop-slot-init
loop-slot-init c =
    record {
      noted = λ q lt. get_or-replicate 16 q false false lt ∙ sym (any_none _);
      none = joined_none_zero _;
    }

pub returns-in-Some : goal.returns-in-Some
returns-in-Some c =
    let s = c.args.slots.now in
    let A = s.arch.now in
    let bits = bits_of_bytes s.body.now in
    let slot = c.loop-slot.slot in
    let long = subst (λ z. s.ii * z ≤ length bits) s.fit.len_is (omega (arith, s.fit.whole, length-bits_of_bytes s.body.now)) in
    let same = port_faults_same (λ q. get_or c.loop-slot.used q false) (used_before s.format A bits slot) (fields_there s.format A bits slot) (port_at s.format A bits slot) (length A.units) c.loop-slot.invariant.noted
    (λ x lt. port_below s.format A bits slot s.ii x lt c.loop-slot-test.true long) in
    sym (first_joined (λ z. port_faults s.format A bits (used_before s.format A bits z) z) s.ii slot c.in-Some.place c.loop-slot.invariant.none c.loop-slot-test.true
    (sym (ap first same) ∙ sym c.repeated_port_in.ensures.first ∙ c.in-Some.is))

pub loop-slot-preserved : goal.loop-slot-preserved
loop-slot-preserved c =
    let s = c.args.slots.now in
    let A = s.arch.now in
    let bits = bits_of_bytes s.body.now in
    let slot = c.loop-slot.slot in
    let long = subst (λ z. s.ii * z ≤ length bits) s.fit.len_is (omega (arith, s.fit.whole, length-bits_of_bytes s.body.now)) in
    let same = port_faults_same (λ q. get_or c.loop-slot.used q false) (used_before s.format A bits slot) (fields_there s.format A bits slot) (port_at s.format A bits slot) (length A.units) c.loop-slot.invariant.noted
    (λ x lt. port_below s.format A bits slot s.ii x lt c.loop-slot-test.true long) in
    record {
      noted = λ q lt. c.in_default.ensures.noted q lt ∙ ap (λ z. z || uses (fields_there s.format A bits slot) (length A.units) q) (c.loop-slot.invariant.noted q lt) ∙ sym (any_more (λ z. uses (fields_there s.format A bits z) (length A.units) q) slot);
      none = joined_none_more (λ z. port_faults s.format A bits (used_before s.format A bits z) z) slot c.loop-slot.invariant.none (sym same ∙ first_none _ (sym c.in_default.is ∙ c.repeated_port_in.ensures.first));
    }
