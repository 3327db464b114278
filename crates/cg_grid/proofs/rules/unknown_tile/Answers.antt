use Rattle.std.proofs.Common.{◌∙◌, ◌+◌, ap, sym, drop}
use Rattle.std.specs.Prelude.{option_map}
use Rattle.std.specs.Option.{option_or}
use Rattle.cg_model.specs.First.{first_from}
use Rattle.cg_grid.specs.Rules.{is_unknown, unknown_tile}
use Rattle.cg_grid.proofs.Places.{unknown_tile-at}
use Rattle.cg_grid.proofs.rules.unknown_tile.Goals as goal

pub returns-in-Some : goal.returns-in-Some
returns-in-Some c =
    let rest = unknown_tile c.args.tiles.now (c.loop-row.row + 1) (drop (c.loop-row.row + 1) c.args.grid.now) in
    let found = sym c.in-Some.is ∙ c.unknown_in.ensures ∙ ap (first_from (λ n cell. is_unknown c.args.tiles.now cell) 0) (c.as_bytes.ensures.value ∙ c.as_str.ensures) in
    ap (λ o. option_or (option_map (λ n. record { row = c.loop-row.row; column = n }) o) rest) found
    ∙ sym (unknown_tile-at c.args.tiles.now c.args.grid.now c.loop-row.row c.index-grid-row.result c.loop-row-test.true c.index-grid-row.is)
    ∙ c.loop-row.invariant

pub loop-row-preserved : goal.loop-row-preserved
loop-row-preserved c =
    let rest = unknown_tile c.args.tiles.now (c.loop-row.row + 1) (drop (c.loop-row.row + 1) c.args.grid.now) in
    let found = sym c.in_default.is ∙ c.unknown_in.ensures ∙ ap (first_from (λ n cell. is_unknown c.args.tiles.now cell) 0) (c.as_bytes.ensures.value ∙ c.as_str.ensures) in
    ap (λ o. option_or (option_map (λ n. record { row = c.loop-row.row; column = n }) o) rest) found
    ∙ sym (unknown_tile-at c.args.tiles.now c.args.grid.now c.loop-row.row c.index-grid-row.result c.loop-row-test.true c.index-grid-row.is)
    ∙ c.loop-row.invariant
