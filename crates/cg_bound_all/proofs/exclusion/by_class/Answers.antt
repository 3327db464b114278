use Rattle.std.proofs.Common.{IfOk, sym, subst}
use Rattle.cg_bound_registers.specs.Sums.{table}
use Rattle.cg_bound_all.specs.declared.reason.Kind.TheVariants as kinds
use Rattle.cg_bound_all.specs.Scan.{IsFound}
use Rattle.cg_bound_all.proofs.Reasons.{class_found, no_class}
use Rattle.cg_bound_all.proofs.exclusion.by_class.Goals as goal
use Rattle.cg_bound_all.proofs.exclusion.by_class.Goals.{in-Overfull, in-Units}

pub returns : goal.returns
returns c =
    elim c.match-branch-2.branch [
      | in-Overfull w ↦
          subst (λ r. IfOk r (IsFound c.args.arch.now c.args.kernel.now (table c.args.numbers.now.hops.items) c.args.ii kinds.Class)) (sym w.result-is)
          (class_found c.args.arch.now c.args.kernel.now (table c.args.numbers.now.hops.items) c.args.ii c.in_ok-set.field-0 _ w.in-Overfull.is c.in_ok-set.ensures)
      | in-Units w ↦
          subst (λ r. IfOk r (IsFound c.args.arch.now c.args.kernel.now (table c.args.numbers.now.hops.items) c.args.ii kinds.Class)) (sym w.result-is)
          (no_class c.args.arch.now c.args.kernel.now (table c.args.numbers.now.hops.items) c.args.ii c.in_ok-set.field-0 _ w.in-Units.is c.in_ok-set.ensures)
    ]
