use Rattle.cg_bound_flow.specs.Chains.{IsChain, begin_of, end_of}
use Rattle.cg_bound_flow.proofs.chains.incidence_of.Given as goal

abbrev pub invariant-loop-k : goal.invariant-loop-k
invariant-loop-k l = record {
  begins : IsChain (begin_of l.links) l.n l.k l.begins;
  ends : IsChain (end_of l.links) l.n l.k l.ends;
}
