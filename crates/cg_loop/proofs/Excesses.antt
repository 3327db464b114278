-- When a kernel is too large.
use Rattle.std.proofs.Common.{◌≡◌, ◌<◌, ◌≤◌, Some, None, length}
use Rattle.std.proofs.lemmas.Bool.{lt-ltb, le-ltb}
use Rattle.cg_model.specs.Kernel.{Kernel, size}
use Rattle.cg_loop_syntax.specs.declared.fault.Excess.{Excess}
use Rattle.cg_loop_syntax.specs.declared.fault.Excess.TheVariants.{Nodes, Order}
use Rattle.cg_loop.specs.Excess.{excess_of}

pub excess_nodes : (K : Kernel) → 1024 < size K → excess_of K ≡ Some (Nodes (size K))
excess_nodes K h = rw (lt-ltb 1024 (size K) h)

pub excess_order : (K : Kernel) → size K ≤ 1024 → 4096 < length K.order → excess_of K ≡ Some (Order (length K.order))
excess_order K l h = rw (le-ltb 1024 (size K) l, lt-ltb 4096 (length K.order) h)

pub excess_none : (K : Kernel) → size K ≤ 1024 → length K.order ≤ 4096 → excess_of K ≡ None
excess_none K l h = rw (le-ltb 1024 (size K) l, le-ltb 4096 (length K.order) h)

-- an excess that is known is the only one
pub excess_exact : (K : Kernel) (x y : Excess) → excess_of K ≡ Some y → excess_of K ≡ Some x → x ≡ y
excess_exact K x y e f = cc

pub excess_absurd : (K : Kernel) (x : Excess) → size K ≤ 1024 → length K.order ≤ 4096 → excess_of K ≡ Some x → ⊥
excess_absurd K x s o e = let n = excess_none K s o in cc
