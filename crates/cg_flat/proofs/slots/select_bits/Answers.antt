use Rattle.std.proofs.Common.{length, subst, sym}
use Rattle.cg_flat.specs.Slots.{IsWidth}
use Rattle.cg_flat.proofs.Widths.{width_is, is_width}
use Rattle.cg_flat.proofs.slots.select_bits.Goals as goal

pub returns-clause-value : goal.returns-clause-value
returns-clause-value c = width_is (length c.args.drivers.now) c.requires

pub returns-clause-least : goal.returns-clause-least
returns-clause-least c = subst (IsWidth (length c.args.drivers.now)) (sym (width_is (length c.args.drivers.now) c.requires)) (is_width (length c.args.drivers.now))
