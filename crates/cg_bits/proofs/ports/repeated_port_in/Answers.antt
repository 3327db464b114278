use Rattle.std.proofs.Common.{◌≡◌, ◌+◌, ◌*◌, ◌<◌, ◌≤◌, ◌||◌, false, length, get_or, Some, sym, ap, subst, ◌∙◌, arith}
use Rattle.cg_bits.specs.Numbers.{number_at, bits_of_bytes}
use Rattle.cg_bits.specs.Format.{op_of, ports}
use Rattle.cg_bits.specs.Reading.{unit_place}
use Rattle.cg_bits.specs.Checks.{fields_there, port_at, port_fault, uses}
use Rattle.cg_bits.proofs.First.{first_joined, first_unless, joined_none_zero, joined_none_more}
use Rattle.cg_bits.proofs.None.{unless_none}
use Rattle.cg_bits.proofs.Bytes.{length-bits_of_bytes}
use Rattle.cg_bits.proofs.Outputs.{fields_op, fields_port, port_below, any_none, noted_more, free_is}
use Rattle.cg_bits.proofs.ports.repeated_port_in.Goals as goal
use Rattle.cg_model.proofs.Bools.{or_false}
use Rattle.cg_bits.proofs.Fields.{number_at_below}

pub loop-x-init : goal.loop-x-init
loop-x-init c =
    record {
      noted = λ q lt. sym (ap (λ z. get_or c.args.used.now q false || z) (any_none _) ∙ or_false (get_or c.args.used.now q false));
      none = joined_none_zero _;
    }

pub take_port-requires : goal.take_port-requires
take_port-requires c =
    let s = c.args.slots.now in
    let inside = c.unit_place-at.ensures.inside in
    let whole = s.fit.whole in
    rw c.number_at-in-loop-x.ensures (number_at_below (bits_of_bytes s.body.now) (c.unit_place-at.result + s.format.op_bits + 16) 4 (omega (arith, length-bits_of_bytes s.body.now)))

pub returns-then-not-take_port-clause-first : goal.returns-then-not-take_port-clause-first
returns-then-not-take_port-clause-first c =
    let s = c.args.slots.now in
    let F = s.format in
    let A = s.arch.now in
    let bits = bits_of_bytes s.body.now in
    let x = c.loop-x.x in
    let n = ports A x in
    let at = unit_place F A x c.args.slot in
    let f = fields_there F A bits c.args.slot in
    let many = ap length c.units-x-end.ensures.units in
    let there = c.unit_place-at.ensures.place in
    let op : c.op_of-op.result ≡ (f x).op = c.op_of-op.ensures ∙ ap (op_of F) (c.number_at.ensures ∙ ap (λ z. number_at bits z F.op_bits) there) ∙ sym (fields_op F n bits at) in
    let port : c.number_at-in-loop-x.result ≡ (f x).port = c.number_at-in-loop-x.ensures ∙ ap (λ z. number_at bits (z + F.op_bits + 16) 4) there ∙ sym (fields_port F n bits at) in
    let small : (f x).port < 16 = port_below F A bits c.args.slot s.ii x (omega arith) c.requires (subst (λ z. s.ii * z ≤ length bits) s.fit.len_is (omega (arith, s.fit.whole, length-bits_of_bytes s.body.now))) in
    let now : get_or c.loop-x.used c.number_at-in-loop-x.result false ≡ (get_or c.args.used.now (f x).port false || uses f x (f x).port) =
    ap (λ z. get_or c.loop-x.used z false) port ∙ c.loop-x.invariant.noted (f x).port small in
    let free = free_is (λ q. get_or c.args.used.now q false) f x _ c.take_port.result c.op_of-op.result c.number_at-in-loop-x.result now c.take_port.ensures.free op in
    sym (first_joined (port_fault (λ q. get_or c.args.used.now q false) f (port_at F A bits c.args.slot)) (length A.units) x _ c.loop-x.invariant.none (omega arith)
    (first_unless _ _ (sym free ∙ c.if-not-take_port.true) ∙ ap (λ z. Some (320 + (z + F.op_bits + 16))) (sym there)))

pub loop-x-preserved : goal.loop-x-preserved
loop-x-preserved c =
    let s = c.args.slots.now in
    let F = s.format in
    let A = s.arch.now in
    let bits = bits_of_bytes s.body.now in
    let x = c.loop-x.x in
    let n = ports A x in
    let at = unit_place F A x c.args.slot in
    let f = fields_there F A bits c.args.slot in
    let many = ap length c.units-x-end.ensures.units in
    let there = c.unit_place-at.ensures.place in
    let op : c.op_of-op.result ≡ (f x).op = c.op_of-op.ensures ∙ ap (op_of F) (c.number_at.ensures ∙ ap (λ z. number_at bits z F.op_bits) there) ∙ sym (fields_op F n bits at) in
    let port : c.number_at-in-loop-x.result ≡ (f x).port = c.number_at-in-loop-x.ensures ∙ ap (λ z. number_at bits (z + F.op_bits + 16) 4) there ∙ sym (fields_port F n bits at) in
    let small : (f x).port < 16 = port_below F A bits c.args.slot s.ii x (omega arith) c.requires (subst (λ z. s.ii * z ≤ length bits) s.fit.len_is (omega (arith, s.fit.whole, length-bits_of_bytes s.body.now))) in
    let now : get_or c.loop-x.used c.number_at-in-loop-x.result false ≡ (get_or c.args.used.now (f x).port false || uses f x (f x).port) =
    ap (λ z. get_or c.loop-x.used z false) port ∙ c.loop-x.invariant.noted (f x).port small in
    let free = free_is (λ q. get_or c.args.used.now q false) f x _ c.take_port.result c.op_of-op.result c.number_at-in-loop-x.result now c.take_port.ensures.free op in
    record {
      noted = λ q lt. noted_more (get_or c.args.used.now q false) f x q (get_or c.loop-x.used q false) _ c.op_of-op.result c.number_at-in-loop-x.result (c.loop-x.invariant.noted q lt) (c.take_port.ensures.noted q lt) op port;
      none = joined_none_more (port_fault (λ q. get_or c.args.used.now q false) f (port_at F A bits c.args.slot)) x c.loop-x.invariant.none (unless_none _ _ (sym free ∙ c.if-not-take_port.false));
    }
