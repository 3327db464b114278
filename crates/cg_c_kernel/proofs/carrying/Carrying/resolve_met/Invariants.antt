use Rattle.std.proofs.Common.{◌≡◌}
use Rattle.cg_c_values.specs.Listed.{listed}
use Rattle.cg_c_kernel.specs.Edges.{AreEdges}
use Rattle.cg_c_kernel.specs.Made.{AddsQuiet, made_of}
use Rattle.cg_c_kernel.proofs.carrying.Carrying.resolve_met.Given as goal

abbrev pub invariant-loop-i : goal.invariant-loop-i
invariant-loop-i l =
    record {
      adds : AddsQuiet (listed l.live.values.now) l.live.marks.items (made_of l.fn.emission) (made_of l.emission);
      edges : AreEdges (listed l.live.values.now) l.live.finals.now l.self.initial.now (made_of l.emission) l.self.edges.edges.items;
      same : l.self.initial.now ≡ l.fn.self.initial.now;
    }
