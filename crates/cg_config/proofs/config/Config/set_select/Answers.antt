use Rattle.std.proofs.Common.{sym, subst, arith}
use Rattle.cg_model.specs.Canonical.{IsCanonical}
use Rattle.cg_config.proofs.Changed.{select_canonical}
use Rattle.cg_config.proofs.config.Config.set_select.Goals as goal

pub put_select-requires : goal.put_select-requires
put_select-requires c =
    let right = c.requires.canonical in
    let slots = right.slots.0 in
    let row = (right.rows c.args.slot c.requires.slot).0 in
    let slot = c.requires.slot in
    let known = c.requires.resource in
    record { slot = omega arith; resource = omega arith }

pub returns-clause-canonical : goal.returns-clause-canonical
returns-clause-canonical c =
    subst (IsCanonical c.args.arch.now) (sym c.put_select.ensures)
    (select_canonical c.args.arch.now c.args.self.now c.requires.canonical c.args.resource c.args.slot c.args.value c.requires.resource c.requires.slot c.requires.value)
