use Rattle.std.proofs.Common.{◌≡◌, [], false}
use Rattle.cg_simplify.specs.Restating.{IsFrom}
use Rattle.cg_simplify.proofs.restating.texts.Given as goal

abbrev pub invariant-loop-number : goal.invariant-loop-number
invariant-loop-number l = record {
  from : IsFrom l.kernel l.rewriting;
  unchanged : l.rewriting.changed ≡ false → l.rewriting.draft ≡ record { nodes = l.kernel.nodes; order = [] };
}
