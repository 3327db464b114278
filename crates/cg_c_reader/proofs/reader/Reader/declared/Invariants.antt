use Rattle.std.proofs.Common.{◌≡◌, [], ◌∷◌, ◌++◌, length}
use Rattle.std.specs.Prelude.{map}
use Rattle.cg_c_syntax.specs.Tree.{Words}
use Rattle.cg_c_syntax.specs.Written.{word_of}
use Rattle.cg_c_syntax.specs.Symbols.{Statement, MoreDeclared}
use Rattle.cg_c_reader.specs.Left.{left, all, Leads}
use Rattle.cg_c_reader.proofs.reader.Reader.declared.Given as goal

-- these words are read, and others may follow
abbrev pub invariant-loop-alloc : goal.invariant-loop-alloc
invariant-loop-alloc l = record {
  leads : Leads (Statement l.fn.depth) (MoreDeclared l.fn.depth ∷ []) (λ vs. Words l.fn.signedness (map word_of l.words.items ++ vs.0)) (left l.fn.self) (left l.self);
  same : l.self.bytes ≡ l.fn.self.bytes;
}

abbrev pub decreases-loop-alloc : goal.decreases-loop-alloc
decreases-loop-alloc l = length (all (left l.self))
