use Rattle.std.proofs.Common.{◌≡◌, ◌∙◌, sym, ap, arith}
use Rattle.cg_list_laws.specs.Below.{count_below}
use Rattle.cg_layout.specs.Layout.{is_beside, rank}
use Rattle.cg_list_laws.proofs.Gathered.{none_counted, passed, failed}
use Rattle.cg_layout.proofs.tiled.Tiled.rank.Goals as goal
use Rattle.cg_layout.proofs.tiled.Tiled.rank.Goals.{then-is_beside, else-is_beside}

pub loop-other-init : goal.loop-other-init
loop-other-init c = (none_counted (is_beside c.args.self.now c.args.resource), omega arith)

pub loop-other-preserved : goal.loop-other-preserved
loop-other-preserved c =
    let t = is_beside c.args.self.now c.args.resource in
    let few = c.loop-other.invariant.1 in
    elim c.if-is_beside.branch [
      | then-is_beside w ↦ (passed t c.loop-other.other c.loop-other.count _ c.loop-other.invariant.0 (sym c.is_beside.ensures ∙ w.if-is_beside.true) w.count-is, omega (arith, few))
      | else-is_beside w ↦ (failed t c.loop-other.other c.loop-other.count _ c.loop-other.invariant.0 (sym c.is_beside.ensures ∙ w.if-is_beside.false) w.count-is, omega (arith, few))
    ]

pub returns-clause-value : goal.returns-clause-value
unfolding rank
returns-clause-value c =
    let last : c.loop-other.other ≡ c.args.resource = omega arith in
    c.loop-other.invariant.0 ∙ ap (count_below (is_beside c.args.self.now c.args.resource)) last
