use Rattle.std.proofs.Common.{◌≡◌, ◌-◌, drop, length}
use Rattle.cg_c_check.proofs.names.Names.forget.Given as goal

-- the names that stay are the same
abbrev pub invariant-loop-self : goal.invariant-loop-self
invariant-loop-self l = drop (length l.fn.self - l.count) l.fn.self ≡ drop (length l.self - l.count) l.self

abbrev pub decreases-loop-self : goal.decreases-loop-self
decreases-loop-self l = length l.self
