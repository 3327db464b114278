use Rattle.std.proofs.Common.{◌≡◌, ◌+◌, ◌-◌, ◌*◌, ◌∷◌, [], length}
use Rattle.cg_c_syntax.specs.Symbols.{Statements}
use Rattle.cg_c_syntax.specs.Written.{before}
use Rattle.cg_c_reader.specs.Left.{left, all, Leads}
use Rattle.cg_c_reader.proofs.reader.Reader.+statement.Given as goal

-- what is open lessens what may be opened; where that is the same, from statements down to a block or an if
abbrev pub decreases-statements : goal.decreases-statements
decreases-statements l = 8 * (60 - l.depth) + 3

abbrev pub decreases-statement : goal.decreases-statement
decreases-statement l = 8 * (60 - l.depth) + 2

abbrev pub decreases-otherwise : goal.decreases-otherwise
decreases-otherwise l = 8 * (60 - l.depth) + 2

abbrev pub decreases-plain : goal.decreases-plain
decreases-plain l = 8 * (60 - l.depth) + 1

abbrev pub decreases-block : goal.decreases-block
decreases-block l = 8 * (60 - l.depth)

abbrev pub decreases-branched : goal.decreases-branched
decreases-branched l = 8 * (60 - l.depth)

-- these statements are read, and others may follow
abbrev pub invariant-statements-loop-alloc : goal.invariant-statements-loop-alloc
invariant-statements-loop-alloc l = record {
  leads : Leads (Statements l.fn.depth) (Statements l.fn.depth ∷ []) (λ vs. before l.stmts.items vs.0) (left l.fn.self) (left l.self);
  same : l.self.bytes ≡ l.fn.self.bytes;
}

abbrev pub decreases-statements-loop-alloc : goal.decreases-statements-loop-alloc
decreases-statements-loop-alloc l = length (all (left l.self))
