use Rattle.std.proofs.Common.{List, Contains, sym, subst}
use Rattle.cg_bound_all.specs.declared.bounds.Bound.{Bound}
use Rattle.cg_bound_all.specs.Why.{IsBound}
use Rattle.cg_bound_all.proofs.why.explain.Goals as goal

pub find_least-requires-clause-bounds : goal.find_least-requires-clause-bounds
find_least-requires-clause-bounds c =
    subst (λ (z : List Bound). (bound : Bound) → Contains z bound → IsBound c.args.arch.now c.args.kernel.now c.in_ok-tables.tables bound) (sym c.deref.ensures.value) c.in_ok-bounds.ensures.right
