use Rattle.std.proofs.Common.{◌≡◌, ◌+◌, ◌-◌, ◌*◌, ◌∷◌, [], length}
use Rattle.cg_c_syntax.specs.Symbols.{Nested}
use Rattle.cg_c_reader.specs.Left.{left, all, Leads}
use Rattle.cg_c_reader.specs.Parts.{preceding}
use Rattle.cg_c_reader.proofs.reader.Reader.+nest.Given as goal

-- what is open lessens what may be opened; where that is the same, from a counter down to a loop
abbrev pub decreases-counted : goal.decreases-counted
decreases-counted l = 8 * (60 - l.depth) + 3

abbrev pub decreases-inside : goal.decreases-inside
decreases-inside l = 8 * (60 - l.depth) + 2

abbrev pub decreases-nested : goal.decreases-nested
decreases-nested l = 8 * (60 - l.depth) + 1

abbrev pub decreases-looped : goal.decreases-looped
decreases-looped l = 8 * (60 - l.depth)

-- these statements are read, and others or a loop may follow
abbrev pub invariant-nested-loop-self : goal.invariant-nested-loop-self
invariant-nested-loop-self l = record {
  leads : Leads (Nested l.fn.depth) (Nested l.fn.depth ∷ []) (λ vs. preceding l.before.items vs.0) (left l.fn.self) (left l.self);
  same : l.self.bytes ≡ l.fn.self.bytes;
}

abbrev pub decreases-nested-loop-self : goal.decreases-nested-loop-self
decreases-nested-loop-self l = length (all (left l.self))
