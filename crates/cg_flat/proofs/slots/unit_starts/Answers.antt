use Rattle.std.proofs.Common.{◌≡◌, ◌+◌, ◌*◌, ◌∙◌, ◌∷◌, ◌++◌, [], length, map, ap, sym, arith}
use Rattle.std.specs.List.{range_with_len}
use Rattle.cg_model.specs.declared.array.Unit.{Unit}
use Rattle.cg_flat.specs.Slots.{total, unit_at, unit_bits, all_unit_at}
use Rattle.cg_flat.proofs.Lists.{total-more, starts-more, item_at}
use Rattle.cg_flat.proofs.slots.unit_starts.Goals as goal

abbrev no_unit : Unit
no_unit = record { name = []; ops = []; latency = 1; ports = []; out = 0 }

pub loop-unit-init : goal.loop-unit-init
unfolding total
loop-unit-init c = let first = c.requires.first in (omega (arith, first), c.requires.few, c.new-starts.ensures.items)

pub unit_bits-start-requires : goal.unit_bits-start-requires
unit_bits-start-requires c =
    let A = c.args.flat.now in
    let item = item_at c.units-unit-items.result.now A.units c.loop-unit.unit-index c.unit-item.result no_unit c.unit-item.is c.units-unit-items.ensures c.loop-unit-test.true in
    let long = ap length (c.as_slice.ensures ∙ ap (λ u. u.ports) item) in
    let same = ap length c.units-unit-items.ensures in
    let inside = c.loop-unit-test.true in
    let few = c.requires.valid.few_ports c.loop-unit.unit-index (omega (arith, same, inside)) in
    omega (arith, long, few)

pub overflow_add-start : goal.overflow_add-start
overflow_add-start c =
    let same = ap length c.units-unit-items.ensures in
    let inside = c.loop-unit-test.true in
    let all = c.requires.valid.small.units in
    let low = c.loop-unit.invariant.1 in
    let few = c.unit_bits-start.ensures.small in
    omega (arith, same, inside, all, low, few)

pub loop-unit-preserved : goal.loop-unit-preserved
loop-unit-preserved c =
    let A = c.args.flat.now in
    let n = c.loop-unit.unit-index in
    let item = item_at c.units-unit-items.result.now A.units n c.unit-item.result no_unit c.unit-item.is c.units-unit-items.ensures c.loop-unit-test.true in
    let bits : c.unit_bits-start.result ≡ unit_bits A n = c.unit_bits-start.ensures.value ∙ ap (λ ps. 58 + length ps * 132) (c.as_slice.ensures ∙ ap (λ u. u.ports) item) in
    let low = c.loop-unit.invariant.1 in
    let few = c.unit_bits-start.ensures.small in
    let start = c.loop-unit.invariant.0 in
    let more = total-more (unit_bits A) n in (
      omega (arith, start, bits, more),
      omega (arith, low, few),
      c.in_ok-push.ensures.items ∙ ap (λ xs. xs ++ c.loop-unit.start ∷ []) c.loop-unit.invariant.2 ∙ ap (λ s. map (unit_at A) (range_with_len 0 n) ++ s ∷ []) c.loop-unit.invariant.0 ∙ sym (starts-more (unit_at A) n),
    )

pub returns : goal.returns
unfolding all_unit_at
returns c =
    let A = c.args.flat.now in
    let n = c.loop-unit.unit-index in
    let past = c.loop-unit-test.false in
    let most = c.loop-unit.auto.unit-index-end in
    let same = ap length c.units-unit-items.ensures in
    let whole : n ≡ length A.units = omega (arith, past, most, same) in
    c.new.ensures ∙ c.in_ok-push-2.ensures.items ∙ ap (λ xs. xs ++ c.loop-unit.start ∷ []) c.loop-unit.invariant.2 ∙ ap (λ s. map (unit_at A) (range_with_len 0 n) ++ s ∷ []) c.loop-unit.invariant.0 ∙ sym (starts-more (unit_at A) n)
    ∙ ap (λ k. map (unit_at A) (range_with_len 0 (k + 1))) whole
