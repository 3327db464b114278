use Rattle.std.proofs.Common.{◌≡◌, ℕ, length, List, sym, ap, subst, arith}
use Rattle.std.specs.Prelude.{flat_map}
use Rattle.std.specs.List.{range_with_len}
use Rattle.cg_model.specs.Kernel.{Kernel, size}
use Rattle.cg_model.specs.declared.kernel.OrderEdge.{OrderEdge}
use Rattle.cg_depend.specs.Depend.{Ask, asks_of}
use Rattle.cg_depend.specs.Gathered.{IsGathered, Answers}
use Rattle.cg_depend.proofs.Asked.{gathered_start, gathered_then, row_more}
use Rattle.cg_depend.proofs.gather.needed_edges.Goals as goal

pub loop-u-init : goal.loop-u-init
loop-u-init c =
    let long : length c.order.result.now ≡ length c.args.kernel.now.order = ap (λ (es : List OrderEdge). length es) c.order.ensures.order in
    record {
      gathered = gathered_start c.args.kernel.now _ long c.new.ensures.items;
      few = let most = c.order.ensures.valid.order.few in omega (arith, long, most);
    }

pub loop-u-preserved : goal.loop-u-preserved
loop-u-preserved c =
    let K = c.args.kernel.now in
    let row : ℕ → List Ask = λ u. flat_map (asks_of K u) (range_with_len 0 (size K)) in
    let u = c.loop-u.u in
    let answers : Answers K (row u) c.loop-u.needed c.add_row.new.needed =
    subst (λ (z : Kernel). Answers z (flat_map (asks_of z u) (range_with_len 0 (size z))) c.loop-u.needed c.add_row.new.needed) c.in_ok-accesses.ensures c.in_ok-add_row.ensures.answers in
    record {
      gathered = subst (λ qs. IsGathered K qs c.add_row.new.needed) (sym (row_more row u))
          (gathered_then K (flat_map row (range_with_len 0 u)) (row u) c.loop-u.needed c.add_row.new.needed c.loop-u.invariant.gathered answers);
      few = omega (arith, c.loop-u.invariant.few, c.in_ok-add_row.ensures.few);
    }
