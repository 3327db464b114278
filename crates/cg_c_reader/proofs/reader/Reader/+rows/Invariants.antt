use Rattle.std.proofs.Common.{◌≡◌, ◌+◌, ◌*◌, ◌-◌, [], ◌∷◌, length}
use Rattle.cg_c_syntax.specs.Tree.{Inner}
use Rattle.cg_c_syntax.specs.Written.{rows_before}
use Rattle.cg_c_syntax.specs.Symbols.{Braced, MoreRows}
use Rattle.cg_c_reader.specs.Left.{left, all, Leads}
use Rattle.cg_c_reader.proofs.reader.Reader.+rows.Given as goal

abbrev pub decreases-rows : goal.decreases-rows
decreases-rows l = 2 * l.more + 1

abbrev pub decreases-inner_rows : goal.decreases-inner_rows
decreases-inner_rows l = 2 * l.more

-- these are read, and others may follow
abbrev pub invariant-inner_rows-loop-alloc : goal.invariant-inner_rows-loop-alloc
invariant-inner_rows-loop-alloc l = record {
  leads : Leads (Braced l.fn.more) (MoreRows (l.fn.more - 1) ∷ []) (λ vs. Inner l.fn.self.token.place (rows_before l.rows.items vs.0)) (left l.fn.self) (left l.self);
  same : l.self.bytes ≡ l.fn.self.bytes;
}

abbrev pub decreases-inner_rows-loop-alloc : goal.decreases-inner_rows-loop-alloc
decreases-inner_rows-loop-alloc l = length (all (left l.self))
