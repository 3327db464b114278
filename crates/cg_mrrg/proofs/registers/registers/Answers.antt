use Rattle.std.proofs.Common.{ℕ, ◌<◌, length, sym, subst, arith}
use Rattle.std.specs.Prelude.{All}
use Rattle.cg_mrrg.proofs.Drivers.{listed_users, below}
use Rattle.cg_mrrg.proofs.registers.registers.Goals as goal

pub registers_among-requires : goal.registers_among-requires
registers_among-requires c =
    let A = c.args.arch.now in
    let r : ℕ = c.loop-resource.resource in
    let each = c.in_ok-users.ensures.each in
    let within : r < length A.resources = omega arith in
    let listed = listed_users A c.in_ok-users.users.items c.as_slice.result.now c.index.result.now r within c.in_ok-users.ensures c.index.ensures c.as_slice.ensures in
    record { known = subst (All (λ z. z < length A.resources)) (sym listed) (below A r (length A.resources) (omega arith)) }
