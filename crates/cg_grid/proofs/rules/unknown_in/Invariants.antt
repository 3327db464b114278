use Rattle.std.proofs.Common.{◌≡◌, drop}
use Rattle.cg_model.specs.First.{first_from}
use Rattle.cg_grid.specs.Rules.{is_unknown}
use Rattle.cg_grid.proofs.rules.unknown_in.Given as goal

abbrev pub invariant-loop-column : goal.invariant-loop-column
invariant-loop-column l = first_from (λ c cell. is_unknown l.tiles cell) l.column (drop l.column l.cells) ≡ first_from (λ c cell. is_unknown l.tiles cell) 0 l.cells
