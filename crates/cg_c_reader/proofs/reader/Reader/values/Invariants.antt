use Rattle.std.proofs.Common.{◌≡◌, [], ◌∷◌, length}
use Rattle.cg_c_syntax.specs.Tree.{Items}
use Rattle.cg_c_syntax.specs.Written.{exprs_before}
use Rattle.cg_c_syntax.specs.Symbols.{Braced, MoreValues}
use Rattle.cg_c_reader.specs.Left.{left, all, Leads}
use Rattle.cg_c_reader.proofs.reader.Reader.values.Given as goal

-- these are read, and others may follow
abbrev pub invariant-loop-alloc : goal.invariant-loop-alloc
invariant-loop-alloc l = record {
  leads : Leads (Braced 0) (MoreValues ∷ []) (λ vs. Items l.fn.self.token.place (exprs_before l.values.items vs.0)) (left l.fn.self) (left l.self);
  same : l.self.bytes ≡ l.fn.self.bytes;
}

abbrev pub decreases-loop-alloc : goal.decreases-loop-alloc
decreases-loop-alloc l = length (all (left l.self))
