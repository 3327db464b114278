use Rattle.std.proofs.Common.{◌∙◌, ap, sym}
use Rattle.cg_model.specs.First.{first_from}
use Rattle.cg_grid.specs.Rules.{applies}
use Rattle.cg_grid.proofs.Places.{first_part-found}
use Rattle.cg_grid.proofs.rules.first_part.Goals as goal

pub returns-in-Some : goal.returns-in-Some
returns-in-Some c =
    let found = ap (first_from (λ n p. applies c.args.rule p) 0) (sym c.as_slice.ensures) ∙ sym c.first_in.ensures ∙ c.in-Some.is in
    sym (first_part-found (applies c.args.rule) c.args.tiles.now c.loop-tile.tile-index c.in-Some.part c.tile-item.result c.loop-tile-test.true c.tile-item.is found)
    ∙ c.loop-tile.invariant
