use Rattle.std.proofs.Common.{◌≡◌, ◌∙◌, sym, ap, true, false, arith}
use Rattle.std.specs.Prelude.{is_some}
use Rattle.cg_list_laws.specs.Below.{sum_below}
use Rattle.cg_list_laws.proofs.Below.{sum_below-none}
use Rattle.cg_occupancy.proofs.Counted.{added, passed_by, start_in, start_counted, all_starts}
use Rattle.cg_occupancy.proofs.marks.Marks.starts_of.Goals as goal
use Rattle.cg_occupancy.proofs.marks.Marks.starts_of.Goals.{then-is_some, else-is_some}

pub loop-slot-init : goal.loop-slot-init
loop-slot-init c = (sym (sum_below-none (start_in c.args.self.now c.args.unit)), omega arith)

pub loop-slot-preserved : goal.loop-slot-preserved
loop-slot-preserved c =
    let m = c.args.self.now in
    let f = start_in m c.args.unit in
    let n = c.loop-slot.slot in
    let is = c.is_some.ensures ∙ ap is_some c.start.ensures in
    let least = c.loop-slot.invariant.1 in
    elim c.if-is_some.branch [
      | then-is_some w ↦
          (added f n c.loop-slot.count 1 _ c.loop-slot.invariant.0 (start_counted m c.args.unit n true (sym w.if-is_some.true ∙ is)) w.count-is, omega (arith, least))
      | else-is_some w ↦
          (passed_by f n c.loop-slot.count _ c.loop-slot.invariant.0 (start_counted m c.args.unit n false (sym w.if-is_some.false ∙ is)) w.count-is, omega (arith, least))
    ]

pub returns-clause-value : goal.returns-clause-value
returns-clause-value c =
    let m = c.args.self.now in
    let ii = c.ii-slot-end.ensures ∙ ap (λ z. z.ii) c.mapping.ensures.mapping in
    let last : c.loop-slot.slot ≡ m.mapping.ii = omega (arith, ii) in
    c.loop-slot.invariant.0 ∙ ap (sum_below (start_in m c.args.unit)) last ∙ all_starts m c.args.unit

pub returns-clause-few : goal.returns-clause-few
returns-clause-few c =
    let ii = c.ii-slot-end.ensures ∙ ap (λ z. z.ii) c.mapping.ensures.mapping in
    let least = c.loop-slot.invariant.1 in
    omega (arith, ii, least)
