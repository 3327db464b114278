use Rattle.std.proofs.Common.{◌≡◌, [], ◌∷◌, length}
use Rattle.cg_c_syntax.specs.Written.{exprs_before}
use Rattle.cg_c_syntax.specs.Symbols.{Tabled, MoreTable}
use Rattle.cg_c_reader.specs.Left.{left, all, Leads}
use Rattle.cg_c_reader.proofs.reader.Reader.table.Given as goal

-- these are read, and others may follow
abbrev pub invariant-loop-self : goal.invariant-loop-self
invariant-loop-self l = record {
  leads : Leads Tabled (MoreTable l.more ∷ []) (λ vs. record { signedness = l.signedness; array = record { name = l.name; dimensions = exprs_before l.dimensions.items vs.0.dimensions }; rows = vs.0.rows }) (left l.fn.self) (left l.self);
  same : l.self.bytes ≡ l.fn.self.bytes;
}

abbrev pub decreases-loop-self : goal.decreases-loop-self
decreases-loop-self l = length (all (left l.self))
