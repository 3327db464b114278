use Rattle.std.proofs.Common.{◌≡◌, true, false}
use Rattle.std.specs.Prelude.{IsTrue}
use Rattle.cg_bound_all.proofs.Fades.{others_below, registers_below, registers_above}
use Rattle.cg_bound_all.proofs.reach.excludes_lower.Goals as goal

pub returns-in-Registers-clause-lower : goal.returns-in-Registers-clause-lower
returns-in-Registers-clause-lower c = λ ok i l m.
    registers_below c.args.arch.now c.args.kernel.now c.args.tables.now c.args.reason.now c.in-Registers.pressure c.deref.result.now c.args.ii i c.in-Registers.is c.deref.ensures.value c.requires.some c.requires.reason (c.check_pressure.ensures.0 ok) l m

pub returns-in-Registers-clause-higher : goal.returns-in-Registers-clause-higher
returns-in-Registers-clause-higher c = λ (no : c.check_pressure.result ≡ false) i l.
    registers_above c.args.arch.now c.args.kernel.now c.args.tables.now c.args.reason.now c.in-Registers.pressure c.deref.result.now c.args.ii i c.in-Registers.is c.deref.ensures.value c.requires.some c.requires.reason (λ h. absurd (let ok : IsTrue c.check_pressure.result = c.check_pressure.ensures.1 h in cc)) l

pub returns-in_default : goal.returns-in_default
returns-in_default c =
    record {
      lower = λ ok i l m. others_below c.args.arch.now c.args.kernel.now c.args.tables.now c.args.reason.now c.args.ii i c.in_default.not-Registers c.requires.numbers l m c.requires.reason;
      higher = λ (no : true ≡ false) i l. absurd (cc);
    }
