use Rattle.std.proofs.Common.{[], length, subst, sym}
use Rattle.std.proofs.lemmas.List.{take_all}
use Rattle.cg_c_order.specs.Marks.{IsSquare, IsTable}
use Rattle.cg_c_order.specs.Chains.{LeadsOver}
use Rattle.cg_c_order.proofs.Joining.{next_none, next_step, square_step}
use Rattle.cg_c_order.proofs.chains.next_rows.Goals as goal

pub loop-place-init : goal.loop-place-init
loop-place-init c =
    let n = length c.args.near.now in
    record {
      square = subst (IsSquare n) (sym c.in_ok-next.ensures) c.requires.near;
      table = λ es t. subst (IsTable n (LeadsOver es [])) (sym c.in_ok-next.ensures) (next_none n es c.args.near.now t);
    }

pub loop-place-preserved : goal.loop-place-preserved
loop-place-preserved c =
    let n = length c.args.near.now in
    record {
      square =
          square_step c.args.edges.now c.loop-place.place (record { from = 0; to = 0; distance = 0 }) c.loop-place-test.true c.loop-place.next.len c.loop-place.next.items c.deref_mut.result.now c.add_next.new.next
          c.deref_mut.ensures.value c.loop-place.next.ok.0 c.add_next.auto.next n c.in_ok-add_next.ensures.square;
      table = λ es t.
          next_step c.args.edges.now c.loop-place.place (record { from = 0; to = 0; distance = 0 }) c.loop-place-test.true c.loop-place.next.len c.loop-place.next.items c.deref_mut.result.now c.add_next.new.next
          c.deref_mut.ensures.value c.loop-place.next.ok.0 c.add_next.auto.next n es (c.loop-place.invariant.table es t) (λ turning. c.in_ok-add_next.ensures.table es turning t);
    }

pub returns : goal.returns
returns c = λ es t. subst (λ z. IsTable (length c.args.near.now) (LeadsOver es z) c.loop-place.next.items) (take_all c.loop-place.place c.args.edges.now c.loop-place-test.false) (c.loop-place.invariant.table es t)
