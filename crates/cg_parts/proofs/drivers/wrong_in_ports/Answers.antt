use Rattle.std.proofs.Common.{◌∙◌, ◌+◌, ap, sym, drop, flat_map}
use Rattle.std.specs.Option.{option_or, option_copied}
use Rattle.cg_model.specs.First.{first_such}
use Rattle.cg_parts.specs.Rules.{is_wrong}
use Rattle.cg_parts.proofs.Lists.{first_such-at}
use Rattle.cg_parts.proofs.drivers.wrong_in_ports.Goals as goal

pub returns-in-Some : goal.returns-in-Some
returns-in-Some c =
    let t = is_wrong c.args.rule c.args.resources.now in
    let rest = first_such t (flat_map (λ xs. xs) (drop (c.loop-drivers.drivers-index + 1) c.args.ports.now)) in
    let found = sym (ap option_copied c.in-Some.is) ∙ c.wrong_in.ensures ∙ ap (first_such t) (c.as_slice.ensures ∙ c.drivers-item.is) in
    ap (λ o. option_or o rest) found
    ∙ sym (first_such-at t c.args.ports.now c.loop-drivers.drivers-index c.drivers-item.result c.loop-drivers-test.true)
    ∙ c.loop-drivers.invariant

pub loop-drivers-preserved : goal.loop-drivers-preserved
loop-drivers-preserved c =
    let t = is_wrong c.args.rule c.args.resources.now in
    let rest = first_such t (flat_map (λ xs. xs) (drop (c.loop-drivers.drivers-index + 1) c.args.ports.now)) in
    let found = sym (ap option_copied c.in_default.is) ∙ c.wrong_in.ensures ∙ ap (first_such t) (c.as_slice.ensures ∙ c.drivers-item.is) in
    ap (λ o. option_or o rest) found
    ∙ sym (first_such-at t c.args.ports.now c.loop-drivers.drivers-index c.drivers-item.result c.loop-drivers-test.true)
    ∙ c.loop-drivers.invariant
