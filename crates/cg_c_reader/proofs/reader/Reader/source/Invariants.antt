use Rattle.std.proofs.Common.{◌≡◌, [], ◌∷◌, length}
use Rattle.cg_c_syntax.specs.Symbols.{File, Declarations}
use Rattle.cg_c_reader.specs.Parts.{with_globals}
use Rattle.cg_c_reader.specs.Left.{left, all, Leads}
use Rattle.cg_c_reader.proofs.reader.Reader.source.Given as goal

-- these are read, and others may follow
abbrev pub invariant-loop-globals : goal.invariant-loop-globals
invariant-loop-globals l = record {
  leads : Leads File (Declarations ∷ []) (λ vs. with_globals l.globals.items vs.0) (left l.fn.self) (left l.self);
  same : l.self.bytes ≡ l.fn.self.bytes;
}

abbrev pub decreases-loop-globals : goal.decreases-loop-globals
decreases-loop-globals l = length (all (left l.self))
