use Rattle.std.proofs.Common.{rules, subst}
use Rattle.cg_model.specs.Kernel.{Kernel, IsWired}
use Rattle.cg_depend.proofs.Pairs.{some_value}
use Rattle.cg_depend.proofs.table.AffineTable.get.Goals as goal

pub returns-clause-value : goal.returns-clause-value
returns-clause-value c = λ image i. some_value c.args.self.now image c.args.node i c.pair_at.result (subst (λ (z : Kernel). IsWired z) c.self.view_is c.self.invariant.0) (search rules)
