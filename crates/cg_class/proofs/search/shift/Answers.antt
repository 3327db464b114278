use Rattle.std.proofs.Common.{◌+◌, length, sym, ap, ◌∙◌, subst, arith, length-set}
use Rattle.std.proofs.lemmas.List.{length_push}
use Rattle.cg_class.specs.Search.{IsPlaced, move}
use Rattle.cg_class.proofs.Shifts.{shift_more, shift_over}
use Rattle.cg_class.proofs.search.shift.Goals as goal

pub loop-at-preserved : goal.loop-at-preserved
loop-at-preserved c =
    let log = c.args.log.now in
    let m = move log c.loop-at.at in (
      shift_more c.args.nodes.now c.args.units.now c.args.ii log c.loop-at.places.items c.loop-at.at c.loop-at.invariant.0 c.loop-at-test.true,
      length-set c.loop-at.places.items m.node m.unit ∙ c.loop-at.invariant.1,
    )

pub returns : goal.returns
returns c =
    let e = c.in_ok-push.ensures.items in
    let i = c.loop-at.invariant in
    let n = c.requires.next in (
      subst (IsPlaced c.args.nodes.now c.args.units.now c.args.ii) (sym e) (shift_over c.args.nodes.now c.args.units.now c.args.ii c.args.log.now c.loop-at.places.items c.loop-at.at i.0 (let a = i.1 in omega arith) c.loop-at-test.false),
      ap length e ∙ length_push c.loop-at.places.items _ ∙ ap (λ z. z + 1) i.1,
    )
