use Rattle.std.proofs.Common.{◌≡◌, [], ◌∷◌, length}
use Rattle.cg_c_syntax.specs.Symbols.{Body}
use Rattle.cg_c_syntax.specs.Written.{before}
use Rattle.cg_c_reader.specs.Left.{left, all, Leads}
use Rattle.cg_c_reader.proofs.reader.Reader.body.Given as goal

-- these are read, and others may follow
abbrev pub invariant-loop-before : goal.invariant-loop-before
invariant-loop-before l = record {
  leads : Leads Body (Body ∷ []) (λ vs. record { before = before l.before.items vs.0.before; outer = vs.0.outer; after = vs.0.after }) (left l.fn.self) (left l.self);
  same : l.self.bytes ≡ l.fn.self.bytes;
}

abbrev pub decreases-loop-before : goal.decreases-loop-before
decreases-loop-before l = length (all (left l.self))
