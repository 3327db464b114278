use Rattle.std.proofs.Common.{◌≡◌, length}
use Rattle.cg_loop_reader.specs.Left.{left}
use Rattle.cg_loop_reader.specs.Lines.{FindsDecls}
use Rattle.cg_loop_reader.proofs.reader.Reader.decls.Given as goal

-- these are read, and the others are left
abbrev pub invariant-loop-token : goal.invariant-loop-token
invariant-loop-token l = record {
  found : FindsDecls l.decls.items l.fn.self l.self;
  same : l.self.bytes ≡ l.fn.self.bytes;
}

abbrev pub decreases-loop-token : goal.decreases-loop-token
decreases-loop-token l = length (left l.self)
