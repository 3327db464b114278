use Rattle.std.proofs.Common.{◌≡◌, ◌∙◌, sym, ap, true, false, length, arith}
use Rattle.std.specs.Prelude.{nat_lt}
use Rattle.std.proofs.lemmas.Bool.{lt-ltb, le-ltb}
use Rattle.cg_list_laws.specs.Below.{sum_below}
use Rattle.cg_list_laws.proofs.Below.{sum_below-none}
use Rattle.cg_occupancy.proofs.Counted.{added, passed_by, busy, busy_counted, all_busy}
use Rattle.cg_occupancy.proofs.marks.Marks.busy_units.Goals as goal
use Rattle.cg_occupancy.proofs.marks.Marks.busy_units.Goals.{then-starts_of-gt0, else-starts_of-gt0}

pub loop-unit-init : goal.loop-unit-init
loop-unit-init c = (sym (sum_below-none (busy c.args.self.now)), omega arith)

pub loop-unit-preserved : goal.loop-unit-preserved
loop-unit-preserved c =
    let m = c.args.self.now in
    let x = c.loop-unit.unit in
    let is = ap (nat_lt 0) c.starts_of.ensures.value in
    let least = c.loop-unit.invariant.1 in
    elim c.if-starts_of-gt0.branch [
      | then-starts_of-gt0 w ↦ (added (busy m) x c.loop-unit.count 1 _ c.loop-unit.invariant.0 (busy_counted m x true (sym (lt-ltb 0 c.starts_of.result w.if-starts_of-gt0.true) ∙ is)) w.count-is, omega (arith, least))
      | else-starts_of-gt0 w ↦ (passed_by (busy m) x c.loop-unit.count _ c.loop-unit.invariant.0 (busy_counted m x false (sym (le-ltb 0 c.starts_of.result w.if-starts_of-gt0.false) ∙ is)) w.count-is, omega (arith, least))
    ]

pub returns : goal.returns
returns c =
    let m = c.args.self.now in
    let units = ap length (c.units-unit-end.ensures.units ∙ ap (λ z. z.units) c.arch.ensures.arch) in
    let last : c.loop-unit.unit ≡ length m.arch.units = omega (arith, units) in
    c.loop-unit.invariant.0 ∙ ap (sum_below (busy m)) last ∙ all_busy m
