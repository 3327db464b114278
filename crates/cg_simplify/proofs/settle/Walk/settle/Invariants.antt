use Rattle.cg_simplify.specs.Settling.{Keeps, SameIfUnchanged}
use Rattle.cg_simplify.proofs.settle.Walk.settle.Given as goal

abbrev pub invariant-loop : goal.invariant-loop
invariant-loop l = record {
  kept : Keeps l.fn.self l.self;
  unchanged : SameIfUnchanged l.fn.self l.self;
}
