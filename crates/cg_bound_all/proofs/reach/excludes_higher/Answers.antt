use Rattle.std.proofs.Common.{arith}
use Rattle.cg_bound_all.proofs.Fades.{registers_between}
use Rattle.cg_bound_all.proofs.reach.excludes_higher.Goals as goal

pub returns-in-Registers : goal.returns-in-Registers
returns-in-Registers c = λ ok i l m.
    let t = c.if-ii-gt1.true in
    let e = c.contexts.ensures.contexts in
    registers_between c.args.arch.now c.args.kernel.now c.args.tables.now c.args.reason.now c.in-Registers.pressure c.deref.result.now c.args.ii i c.in-Registers.is c.deref.ensures.value (omega arith) c.requires c.contexts.result (c.check_pressure.ensures.0 ok) l (omega arith)
