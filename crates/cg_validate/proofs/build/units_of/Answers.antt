use Rattle.std.proofs.Common.{◌+◌, ap, arith, length, drop, flat_map, get_or, length-append}
use Rattle.cg_parts.specs.Parts.{entries, entries_of}
use Rattle.cg_parts.proofs.Lists.{rest_at}
use Rattle.cg_validate.proofs.build.units_of.Goals as goal

pub add_unit-requires : goal.add_unit-requires
unfolding entries
add_unit-requires c =
    let es = c.args.elements.now in
    let k = c.loop-element.element-index in
    let item = c.element-item.result in
    let whole = c.loop-element.invariant.1 in
    let few = c.requires in
    let split = ap (λ xs. length (flat_map entries_of xs)) (rest_at es k item c.loop-element-test.true) in
    let both = length-append (entries_of (get_or es k item)) (flat_map entries_of (drop (k + 1) es)) in
    let same = ap (λ e. length (entries_of e)) c.element-item.is in
    omega (arith, whole, few, split, both, same)
