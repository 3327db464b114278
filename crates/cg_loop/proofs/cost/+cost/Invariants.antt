use Rattle.std.proofs.Common.{◌≡◌, get_or, take}
use Rattle.cg_loop_syntax.specs.declared.syntax.Atom.{Atom}
use Rattle.cg_loop_syntax.specs.declared.syntax.Sum.{out-Sum}
use Rattle.cg_loop_syntax.specs.Grouped.{atom_of, factors, terms, whole_prod}
use Rattle.cg_loop_laws.specs.Translate.{cost}
use Rattle.cg_loop.proofs.cost.+cost.Given as goal

abbrev pub invariant-prod_cost-loop-atom : goal.invariant-prod_cost-loop-atom
invariant-prod_cost-loop-atom l = (a : Atom) → a ≡ get_or l.prod.atoms.items 0 a → l.cost ≡ cost (factors (atom_of a) (take l.atom-index l.rest))

abbrev pub invariant-sum_cost-loop-term : goal.invariant-sum_cost-loop-term
invariant-sum_cost-loop-term l = l.cost ≡ cost (terms (whole_prod (out-Sum l.sum).first) (take l.term-index l.term-items))
