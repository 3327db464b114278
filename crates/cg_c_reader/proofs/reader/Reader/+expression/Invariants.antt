use Rattle.std.proofs.Common.{◌≡◌, ◌+◌, ◌-◌, ◌*◌, ◌∷◌, [], length}
use Rattle.cg_c_syntax.specs.Symbols.{Further, Indices}
use Rattle.cg_c_syntax.specs.Written.{linked}
use Rattle.cg_c_reader.specs.Left.{left, all, Leads}
use Rattle.cg_c_reader.proofs.Built.{before}
use Rattle.cg_c_reader.proofs.reader.Reader.+expression.Given as goal

-- the constructs that may still be opened, and where they are as many, the symbol; of operators the level counts too
abbrev pub decreases-expression : goal.decreases-expression
decreases-expression l = 64 * (60 - l.depth)

abbrev pub decreases-chosen : goal.decreases-chosen
decreases-chosen l = 64 * (60 - l.depth) + 1

abbrev pub decreases-indices : goal.decreases-indices
decreases-indices l = 64 * (60 - l.depth) + 1

abbrev pub decreases-cast_operand : goal.decreases-cast_operand
decreases-cast_operand l = 64 * (60 - l.depth) + 1

abbrev pub decreases-bracketed : goal.decreases-bracketed
decreases-bracketed l = 64 * (60 - l.depth) + 2

abbrev pub decreases-opened : goal.decreases-opened
decreases-opened l = 64 * (60 - l.depth) + 3

abbrev pub decreases-accessed : goal.decreases-accessed
decreases-accessed l = 64 * (60 - l.depth) + 3

abbrev pub decreases-input : goal.decreases-input
decreases-input l = 64 * (60 - l.depth) + 3

abbrev pub decreases-picked : goal.decreases-picked
decreases-picked l = 64 * (60 - l.depth) + 3

abbrev pub decreases-signed : goal.decreases-signed
decreases-signed l = 64 * (60 - l.depth) + 3

abbrev pub decreases-operand : goal.decreases-operand
decreases-operand l = 64 * (60 - l.depth) + 5

abbrev pub decreases-further : goal.decreases-further
decreases-further l = 64 * (60 - l.depth) + 10 + 2 * l.level

abbrev pub decreases-operators : goal.decreases-operators
decreases-operators l = 64 * (60 - l.depth) + 11 + 2 * l.level

-- the operators so far are read, and further ones are left
abbrev pub invariant-further-loop-op : goal.invariant-further-loop-op
invariant-further-loop-op l = record {
  leads : Leads (Further l.level l.depth) (Further l.level l.depth ∷ []) (λ v. λ operand. v.0 (linked operand l.rest.items)) (left l.fn.self) (left l.self);
  kept : l.first ≡ l.fn.first;
  same : l.self.bytes ≡ l.fn.self.bytes;
}

abbrev pub decreases-further-loop-op : goal.decreases-further-loop-op
decreases-further-loop-op l = length (all (left l.self))

-- the indices so far are read, and others are left
abbrev pub invariant-indices-loop-room : goal.invariant-indices-loop-room
invariant-indices-loop-room l = record {
  leads : Leads (Indices l.most l.depth) (Indices l.room l.depth ∷ []) (λ v. before l.indices.items v.0) (left l.fn.self) (left l.self);
  same : l.self.bytes ≡ l.fn.self.bytes;
}

abbrev pub decreases-indices-loop-room : goal.decreases-indices-loop-room
decreases-indices-loop-room l = l.room
