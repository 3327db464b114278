use Rattle.std.proofs.Common.{ℕ, ◌≡◌, ◌∙◌, sym, ap, arith, eqb}
use Rattle.std.proofs.lemmas.Bool.{eq-eqb, ne_eqb}
use Rattle.cg_list_laws.specs.Below.{count_below}
use Rattle.cg_layout.specs.Tiles.{unit_tile}
use Rattle.cg_layout.specs.Layout.{unit_rank}
use Rattle.cg_list_laws.proofs.Gathered.{none_counted, passed, failed}
use Rattle.cg_layout.proofs.tiled.Tiled.unit_rank.Goals as goal
use Rattle.cg_layout.proofs.tiled.Tiled.unit_rank.Goals.{then-unit_tile-tile, else-unit_tile-tile}

pub loop-other-init : goal.loop-other-init
loop-other-init c = (none_counted (λ y. eqb (unit_tile c.args.self.now y) (unit_tile c.args.self.now c.args.unit)), omega arith)

pub loop-other-preserved : goal.loop-other-preserved
loop-other-preserved c =
    let t = λ (y : ℕ). eqb (unit_tile c.args.self.now y) (unit_tile c.args.self.now c.args.unit) in
    let few = c.loop-other.invariant.1 in
    let is = ap (λ z. eqb z (unit_tile c.args.self.now c.args.unit)) (sym c.unit_tile.ensures.value) ∙ ap (eqb c.unit_tile.result) (sym c.unit_tile-tile.ensures.value) in
    elim c.if-unit_tile-tile.branch [
      | then-unit_tile-tile w ↦ (passed t c.loop-other.other c.loop-other.count _ c.loop-other.invariant.0 (is ∙ eq-eqb _ _ w.if-unit_tile-tile.true) w.count-is, omega (arith, few))
      | else-unit_tile-tile w ↦ (failed t c.loop-other.other c.loop-other.count _ c.loop-other.invariant.0 (is ∙ ne_eqb _ _ w.if-unit_tile-tile.false) w.count-is, omega (arith, few))
    ]

pub returns-clause-value : goal.returns-clause-value
unfolding unit_rank
returns-clause-value c =
    let last : c.loop-other.other ≡ c.args.unit = omega arith in
    c.loop-other.invariant.0 ∙ ap (count_below (λ y. eqb (unit_tile c.args.self.now y) (unit_tile c.args.self.now c.args.unit))) last
