use Rattle.std.proofs.Common.{◌+◌, ◌∙◌, ap, sym, drop, flat_map}
use Rattle.std.specs.Option.{option_or}
use Rattle.cg_validate.specs.Hub.{first_missing}
use Rattle.cg_validate.proofs.Missing.{missing-at}
use Rattle.cg_validate.proofs.hub.missing_into_ports.Goals as goal

pub returns-in-Some : goal.returns-in-Some
returns-in-Some c =
    let A = c.args.flat.now in
    let rest = first_missing A A.hub (flat_map (λ u. u.ports) (drop (c.loop-unit.unit-index + 1) c.args.units.now)) in
    let found = sym c.in-Some.is ∙ c.in_ok-place.ensures ∙ ap (λ hub. first_missing A hub c.as_slice.result.now) c.hub.ensures ∙ ap (first_missing A A.hub) (c.as_slice.ensures ∙ ap (λ u. u.ports) c.unit-item.is) in
    ap (λ o. option_or o rest) found ∙ sym (missing-at A A.hub c.args.units.now c.loop-unit.unit-index c.unit-item.result c.loop-unit-test.true) ∙ c.loop-unit.invariant

pub loop-unit-preserved : goal.loop-unit-preserved
loop-unit-preserved c =
    let A = c.args.flat.now in
    let rest = first_missing A A.hub (flat_map (λ u. u.ports) (drop (c.loop-unit.unit-index + 1) c.args.units.now)) in
    let found = sym c.in_default.is ∙ c.in_ok-place.ensures ∙ ap (λ hub. first_missing A hub c.as_slice.result.now) c.hub.ensures ∙ ap (first_missing A A.hub) (c.as_slice.ensures ∙ ap (λ u. u.ports) c.unit-item.is) in
    ap (λ o. option_or o rest) found ∙ sym (missing-at A A.hub c.args.units.now c.loop-unit.unit-index c.unit-item.result c.loop-unit-test.true) ∙ c.loop-unit.invariant
