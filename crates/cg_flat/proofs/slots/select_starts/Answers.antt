use Rattle.std.proofs.Common.{◌≡◌, ◌+◌, ◌∙◌, ◌∷◌, ◌++◌, [], length, map, ap, sym, refl, arith}
use Rattle.std.specs.List.{range_with_len}
use Rattle.cg_model.specs.declared.array.Kind.TheVariants.{Wire}
use Rattle.cg_flat.specs.Slots.{width, total, select_at, select_bits, all_select_at}
use Rattle.cg_flat.proofs.Lists.{total-more, starts-more, links_of, item_at}
use Rattle.cg_flat.proofs.slots.select_starts.Goals as goal

pub loop-resource-init : goal.loop-resource-init
unfolding total
loop-resource-init c = (refl, omega arith, c.new-starts.ensures.items)

pub select_bits-start-requires : goal.select_bits-start-requires
select_bits-start-requires c =
    let A = c.args.flat.now in
    let item = item_at c.resources-resource-items.result.now A.resources c.loop-resource.resource-index c.resource-item.result (record { name = []; kind = Wire; drivers = [] }) c.resource-item.is c.resources-resource-items.ensures c.loop-resource-test.true in
    let long = ap length (c.as_slice.ensures ∙ ap (λ r. r.drivers) item) in
    let same = ap length c.resources-resource-items.ensures in
    let inside = c.loop-resource-test.true in
    let few = links_of A.resources c.loop-resource.resource-index (record { name = []; kind = Wire; drivers = [] }) (omega (arith, same, inside)) in
    let all = c.requires.links in
    omega (arith, long, few, all)

pub loop-resource-preserved : goal.loop-resource-preserved
loop-resource-preserved c =
    let A = c.args.flat.now in
    let n = c.loop-resource.resource-index in
    let item = item_at c.resources-resource-items.result.now A.resources n c.resource-item.result (record { name = []; kind = Wire; drivers = [] }) c.resource-item.is c.resources-resource-items.ensures c.loop-resource-test.true in
    let bits : c.select_bits-start.result ≡ select_bits A n = c.select_bits-start.ensures.value ∙ ap width (ap length (c.as_slice.ensures ∙ ap (λ r. r.drivers) item)) in
    let low = c.loop-resource.invariant.1 in
    let few = c.select_bits-start.ensures.small in (
      ap (λ s. s + c.select_bits-start.result) c.loop-resource.invariant.0 ∙ ap (λ b. select_at A n + b) bits ∙ sym (total-more (select_bits A) n),
      omega (arith, low, few),
      c.in_ok-push.ensures.items ∙ ap (λ xs. xs ++ c.loop-resource.start ∷ []) c.loop-resource.invariant.2 ∙ ap (λ s. map (select_at A) (range_with_len 0 n) ++ s ∷ []) c.loop-resource.invariant.0 ∙ sym (starts-more (select_at A) n),
    )

pub returns-clause-starts : goal.returns-clause-starts
unfolding all_select_at
returns-clause-starts c =
    let A = c.args.flat.now in
    let n = c.loop-resource.resource-index in
    let past = c.loop-resource-test.false in
    let most = c.loop-resource.auto.resource-index-end in
    let same = ap length c.resources-resource-items.ensures in
    let whole : n ≡ length A.resources = omega (arith, past, most, same) in
    c.new.ensures ∙ c.in_ok-push-2.ensures.items ∙ ap (λ xs. xs ++ c.loop-resource.start ∷ []) c.loop-resource.invariant.2 ∙ ap (λ s. map (select_at A) (range_with_len 0 n) ++ s ∷ []) c.loop-resource.invariant.0 ∙ sym (starts-more (select_at A) n)
    ∙ ap (λ k. map (select_at A) (range_with_len 0 (k + 1))) whole
