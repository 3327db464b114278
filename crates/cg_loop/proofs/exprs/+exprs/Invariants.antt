use Rattle.std.proofs.Common.{get_or, ◌≡◌, take}
use Rattle.cg_loop_syntax.specs.declared.syntax.Atom.{Atom}
use Rattle.cg_loop_syntax.specs.declared.syntax.Sum.{out-Sum}
use Rattle.cg_loop_syntax.specs.Grouped.{atom_of, factors, terms, whole_prod}
use Rattle.cg_loop.specs.Made.{Computes}
use Rattle.cg_loop.proofs.exprs.+exprs.Given as goal

abbrev pub invariant-prod_code-loop-atom : goal.invariant-prod_code-loop-atom
invariant-prod_code-loop-atom l = (a : Atom) → a ≡ get_or l.prod.atoms.items 0 a → Computes l.scope l.fn.code l.code (factors (atom_of a) (take l.atom-index l.rest)) l.value

abbrev pub invariant-sum_code-loop-term : goal.invariant-sum_code-loop-term
invariant-sum_code-loop-term l = Computes l.scope l.fn.code l.code (terms (whole_prod (out-Sum l.sum).first) (take l.term-index l.term-items)) l.value
