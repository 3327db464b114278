use Rattle.std.proofs.Common.{◌-◌, ◌∙◌, ap}
use Rattle.cg_flat.proofs.Widths.{width_is}
use Rattle.cg_testbench.proofs.pieces.top_bit.Goals as goal

pub returns : goal.returns
returns c = c.saturating_sub.ensures ∙ ap (λ w. w - 1) (width_is c.args.drivers c.ranges.drivers.fits)
