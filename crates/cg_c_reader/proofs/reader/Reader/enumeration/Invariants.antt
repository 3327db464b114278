use Rattle.std.proofs.Common.{◌≡◌, [], ◌∷◌, ◌++◌, length}
use Rattle.std.specs.Prelude.{map}
use Rattle.cg_c_syntax.specs.Tree.{Enumeration}
use Rattle.cg_c_syntax.specs.Written.{constant_of}
use Rattle.cg_c_syntax.specs.Symbols.{Declaration, MoreEnumerators}
use Rattle.cg_c_reader.specs.Left.{left, all, Leads}
use Rattle.cg_c_reader.proofs.reader.Reader.enumeration.Given as goal

-- these are read, and others may follow
abbrev pub invariant-loop-alloc : goal.invariant-loop-alloc
invariant-loop-alloc l = record {
  leads : Leads Declaration (MoreEnumerators ∷ []) (λ vs. Enumeration (map constant_of l.constants.items ++ vs.0)) (left l.fn.self) (left l.self);
  same : l.self.bytes ≡ l.fn.self.bytes;
}

abbrev pub decreases-loop-alloc : goal.decreases-loop-alloc
decreases-loop-alloc l = length (all (left l.self))
