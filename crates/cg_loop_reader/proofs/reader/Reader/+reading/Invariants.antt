use Rattle.std.proofs.Common.{◌≡◌, ◌+◌, ◌*◌, length, codes, false}
use Rattle.cg_loop_text_spec.specs.Read.{begins_with}
use Rattle.cg_loop_reader.specs.Left.{left}
use Rattle.cg_loop_reader.specs.Found.{FindsProduct, FindsTerms}
use Rattle.cg_loop_reader.proofs.reader.Reader.+reading.Given as goal

-- each bracket lessens the room, and where the room is the same an atom is least
abbrev pub decreases-item : goal.decreases-item
decreases-item l = 32 * l.room

abbrev pub decreases-bracket : goal.decreases-bracket
decreases-bracket l = 32 * l.room

abbrev pub decreases-apply : goal.decreases-apply
decreases-apply l = 32 * l.room

abbrev pub decreases-index : goal.decreases-index
decreases-index l = 32 * l.room + 1

abbrev pub decreases-opened : goal.decreases-opened
decreases-opened l = 32 * l.room + 1

abbrev pub decreases-named : goal.decreases-named
decreases-named l = 32 * l.room + 2

abbrev pub decreases-atom : goal.decreases-atom
decreases-atom l = 32 * l.room + 3

abbrev pub decreases-prod : goal.decreases-prod
decreases-prod l = 32 * l.room + 4

abbrev pub decreases-sum : goal.decreases-sum
decreases-sum l = 32 * l.room + 5

abbrev pub decreases-expr : goal.decreases-expr
decreases-expr l = 32 * l.room + 6

abbrev pub decreases-operands : goal.decreases-operands
decreases-operands l = 32 * l.room + 7 + l.count

-- the atoms so far are a product, and what it goes on with is left
abbrev pub invariant-prod-loop-alloc : goal.invariant-prod-loop-alloc
invariant-prod-loop-alloc l = record {
  found : FindsProduct l.room l.atoms.items l.fn.self l.self;
  same : l.self.bytes ≡ l.fn.self.bytes;
}

abbrev pub decreases-prod-loop-alloc : goal.decreases-prod-loop-alloc
decreases-prod-loop-alloc l = length (left l.self)

-- the products so far are a sum, and what it goes on with is left
abbrev pub invariant-sum-loop-op : goal.invariant-sum-loop-op
invariant-sum-loop-op l = record {
  found : FindsTerms l.room l.first l.rest.items l.fn.self l.self;
  ends : begins_with (codes "*") (left l.self) ≡ false;
  same : l.self.bytes ≡ l.fn.self.bytes;
}

abbrev pub decreases-sum-loop-op : goal.decreases-sum-loop-op
decreases-sum-loop-op l = length (left l.self)
