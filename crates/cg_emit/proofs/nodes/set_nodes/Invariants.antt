use Rattle.std.proofs.Common.{◌≡◌}
use Rattle.cg_model.specs.Canonical.{IsCanonical}
use Rattle.cg_emit.specs.Building.{HasNodes}
use Rattle.cg_emit.proofs.nodes.set_nodes.Given as goal

abbrev pub invariant-loop-node : goal.invariant-loop-node
invariant-loop-node l = record {
  canonical : IsCanonical l.legal.arch l.config;
  nodes : HasNodes l.legal.arch l.legal.kernel l.legal.mapping l.config l.node;
  selects : l.config.selects ≡ l.initial.config.selects;
}
