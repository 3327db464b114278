use Rattle.std.proofs.Common.{◌%◌, sym, ap, ◌∙◌}
use Rattle.std.proofs.Math.Nat.{mod-zero}
use Rattle.cg_violations.proofs.sharing.slot_of.Goals as goal

pub returns-then-ii-eq0 : goal.returns-then-ii-eq0
returns-then-ii-eq0 c = sym (ap (λ z. c.args.time % z) c.if-ii-eq0.true ∙ mod-zero c.args.time)
