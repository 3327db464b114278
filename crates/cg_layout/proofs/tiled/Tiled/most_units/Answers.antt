use Rattle.std.proofs.Common.{◌≡◌, ◌∙◌, ◌+◌, max, ap, length, arith}
use Rattle.cg_list_laws.specs.Below.{greatest_below}
use Rattle.cg_layout.specs.Layout.{unit_rank}
use Rattle.cg_list_laws.proofs.Gathered.{none_great, greater, larger}
use Rattle.cg_layout.proofs.tiled.Tiled.most_units.Goals as goal

pub loop-unit-init : goal.loop-unit-init
loop-unit-init c = (none_great (λ x. unit_rank c.args.self.now x + 1), omega arith)

pub loop-unit-preserved : goal.loop-unit-preserved
loop-unit-preserved c =
    let most = c.loop-unit.invariant.1 in
    let is : c.max-most.result ≡ max c.loop-unit.most (c.unit_rank.result + 1) = c.max-most.ensures ∙ larger c.loop-unit.most (c.unit_rank.result + 1) in
    let here = c.unit_rank.ensures.few in
    (greater (λ x. unit_rank c.args.self.now x + 1) c.loop-unit.unit c.loop-unit.most _ _ c.loop-unit.invariant.0 (ap (λ k. k + 1) c.unit_rank.ensures.value) is, omega (arith, most, here, is, c.unit_count-unit-end.ensures.few))

pub returns-clause-value : goal.returns-clause-value
returns-clause-value c =
    let last : c.loop-unit.unit ≡ length c.args.self.now.units = omega (arith, c.unit_count-unit-end.ensures.value) in
    c.loop-unit.invariant.0 ∙ ap (greatest_below (λ x. unit_rank c.args.self.now x + 1)) last
