use Rattle.std.proofs.Common.{◌∙◌, ap, arith, length, get_or}
use Rattle.cg_flat.specs.Slots.{all_select_at}
use Rattle.cg_arch.proofs.Starts.{select_long, select_get}
use Rattle.cg_arch.proofs.kept.keep.Goals as goal

pub bounds-as_slice-resources : goal.bounds-as_slice-resources
bounds-as_slice-resources c =
    let same = ap length (c.as_slice.ensures ∙ c.in_ok-selects.ensures.starts) in
    let long = select_long c.args.flat in
    let resources = ap length c.resources.ensures in
    omega (arith, same, long, resources)

pub unit_starts-requires-clause-first : goal.unit_starts-requires-clause-first
unit_starts-requires-clause-first c =
    let A = c.args.flat in
    ap (λ xs. get_or xs (length c.resources.result.now) 0) (c.as_slice.ensures ∙ c.in_ok-selects.ensures.starts)
    ∙ ap (λ n. get_or (all_select_at A) n 0) (ap length c.resources.ensures)
    ∙ select_get A (length A.resources) (omega arith)

pub unit_starts-requires-clause-few : goal.unit_starts-requires-clause-few
unit_starts-requires-clause-few c =
    let A = c.args.flat in
    let is = ap (λ xs. get_or xs (length c.resources.result.now) 0) (c.as_slice.ensures ∙ c.in_ok-selects.ensures.starts)
    ∙ ap (λ n. get_or (all_select_at A) n 0) (ap length c.resources.ensures)
    ∙ select_get A (length A.resources) (omega arith) in
    let few = c.in_ok-selects.ensures.few in
    omega (arith, is, few)
