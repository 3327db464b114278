use Rattle.std.proofs.Common.{◌≡◌, drop}
use Rattle.cg_model.specs.First.{first_from}
use Rattle.cg_grid.specs.Rules.{is_ragged}
use Rattle.cg_grid.proofs.rules.first_ragged.Given as goal

abbrev pub invariant-loop-row : goal.invariant-loop-row
invariant-loop-row l = first_from (λ r row. is_ragged l.most row) l.row (drop l.row l.grid) ≡ first_from (λ r row. is_ragged l.most row) 0 l.grid
