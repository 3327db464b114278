use Rattle.std.proofs.Common.{◌≡◌, ◌+◌, ◌*◌, ◌++◌, true, false, ◌∙◌, sym, ap, length, arith}
use Rattle.std.specs.Prelude.{nat_lt}
use Rattle.std.proofs.lemmas.Bool.{lt-ltb, le-ltb}
use Rattle.cg_occupancy.specs.Counts.{starts_of}
use Rattle.cg_show.specs.Schedule.{row_top, row_by, bars_text}
use Rattle.cg_show.proofs.Steps.{unbegun, grown, ended, unchanged}
use Rattle.cg_show.proofs.Rows.{row_shown, row_hidden, row_first, row_after, row_same}
use Rattle.cg_show.proofs.schedule.push_bars.Goals as goal
use Rattle.cg_show.proofs.schedule.push_bars.Goals.{then-starts_of-gt0+in_ok-push_unit_row, else-starts_of-gt0}

pub loop-unit-init : goal.loop-unit-init
loop-unit-init c = (unbegun (row_by c.args.marks.now) c.args.text.now.items, row_first c.args.marks.now, omega arith)

pub loop-unit-preserved : goal.loop-unit-preserved
loop-unit-preserved c =
    let m = c.args.marks.now in
    let x = c.loop-unit.unit in
    let row = c.loop-unit.row in
    let base = c.args.text.now.items in
    let old = c.loop-unit.text.items in
    let is = ap (nat_lt 0) c.starts_of.ensures.value in
    let least = c.loop-unit.invariant.2 in
    elim c.if-starts_of-gt0.branch [
      | then-starts_of-gt0+in_ok-push_unit_row w ↦
          (let some : true ≡ nat_lt 0 (starts_of m x) = sym (lt-ltb 0 c.starts_of.result w.if-starts_of-gt0.true) ∙ is in
          let top : 46 + 28 * w.from.result ≡ row_top row = ap row_top w.from.ensures in (
            grown (row_by m) x base old _ c.loop-unit.invariant.0
                (ap (λ z. z.items) w.text-is ∙ w.in_ok-push_unit_row.ensures ∙ ap (λ z. old ++ z) (row_shown m x row _ some c.loop-unit.invariant.1 top)),
            row_after m x row _ c.loop-unit.invariant.1 some w.row-is,
            omega (arith, least, w.row-is),
          ))
      | else-starts_of-gt0 w ↦
          (let none : false ≡ nat_lt 0 (starts_of m x) = sym (le-ltb 0 c.starts_of.result w.if-starts_of-gt0.false) ∙ is in (
            unchanged (row_by m) x base old _ c.loop-unit.invariant.0 (row_hidden m x none) (ap (λ z. z.items) w.text-is),
            row_same m x row _ c.loop-unit.invariant.1 none w.row-is,
            omega (arith, least, w.row-is),
          ))
    ]

pub returns : goal.returns
unfolding bars_text
returns c =
    let m = c.args.marks.now in
    let units = ap length (c.units-unit-end.ensures.units ∙ ap (λ z. z.units) c.arch.ensures.arch) in
    let last : c.loop-unit.unit ≡ length m.arch.units = omega (arith, units) in
    ended (row_by m) _ (length m.arch.units) _ _ c.loop-unit.invariant.0 last
