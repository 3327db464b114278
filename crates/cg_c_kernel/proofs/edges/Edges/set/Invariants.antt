use Rattle.std.proofs.Common.{◌≡◌, ℕ, ◌+◌, ◌-◌, length, None, slice_index_or}
use Rattle.cg_c_kernel.proofs.edges.Edges.set.Given as goal

abbrev pub invariant-loop-self : goal.invariant-loop-self
invariant-loop-self l =
    record {
      words : (n : ℕ) → slice_index_or l.self.edges.items n None ≡ slice_index_or l.fn.self.edges.items n None;
      number : l.number ≡ l.fn.number;
      edge : l.edge ≡ l.fn.edge;
    }

abbrev pub decreases-loop-self : goal.decreases-loop-self
decreases-loop-self l = l.number + 1 - length l.self.edges.items
