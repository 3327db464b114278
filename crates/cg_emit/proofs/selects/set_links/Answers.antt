use Rattle.std.proofs.Common.{◌+◌, ◌%◌, drop, get_or, refl, sym, ap, subst, ◌∙◌, arith}
use Rattle.cg_emit.specs.Building.{GoesInTime}
use Rattle.cg_emit.proofs.Paths.{HasLink, next_link, next_set}
use Rattle.cg_emit.proofs.selects.set_links.Goals as goal

pub delay_into-time-requires : goal.delay_into-time-requires
delay_into-time-requires c =
    HasLink.known (next_link c.args.arch.now c.loop-number.from c.loop-number.time c.args.path.now c.loop-number.number-index c.loop-number-test.true c.loop-number.invariant.path)

pub overflow_add-time : goal.overflow_add-time
overflow_add-time c =
    let link = next_link c.args.arch.now c.loop-number.from c.loop-number.time c.args.path.now c.loop-number.number-index c.loop-number-test.true c.loop-number.invariant.path in
    let fits = link.fits in
    omega arith

pub select_of-select-requires : goal.select_of-select-requires
select_of-select-requires c =
    let link = next_link c.args.arch.now c.loop-number.from c.loop-number.time c.args.path.now c.loop-number.number-index c.loop-number-test.true c.loop-number.invariant.path in
    link.driver

pub loop-number-preserved : goal.loop-number-preserved
loop-number-preserved c =
    let A = c.args.arch.now in
    let link = next_link A c.loop-number.from c.loop-number.time c.args.path.now c.loop-number.number-index c.loop-number-test.true c.loop-number.invariant.path in
    let x = get_or c.args.path.now c.loop-number.number-index 0 in
    record {
      canonical = c.set_select.ensures.canonical;
      path = subst (λ d. GoesInTime A x (c.loop-number.time + d) (drop (c.loop-number.number-index + 1) c.args.path.now)) (sym c.delay_into-time.ensures) link.path;
      set = λ u.
          next_set A u c.loop-number.from c.loop-number.time c.args.path.now c.loop-number.number-index c.loop-number.config c.set_select.new.self x c.delay_into-time.result
          ((c.loop-number.time + c.delay_into-time.result) % c.ii.result) c.select_of-select.result c.loop-number-test.true refl c.delay_into-time.ensures
          (ap (λ z. (c.loop-number.time + c.delay_into-time.result) % z) c.ii.ensures) c.select_of-select.ensures.select c.set_select.ensures.set
          ∙ c.loop-number.invariant.set u;
    }
