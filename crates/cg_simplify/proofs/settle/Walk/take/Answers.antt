use Rattle.std.proofs.Common.{sym, subst}
use Rattle.cg_simplify_draft.specs.Restates.{Restates}
use Rattle.cg_simplify.specs.Operands.{MayReplace}
use Rattle.cg_simplify.specs.Settling.{IsNext}
use Rattle.cg_simplify.proofs.Drafted.{set_keeps}
use Rattle.cg_simplify.proofs.settle.Walk.take.Goals as goal

pub returns-in_err-push-in-Exchange-clause-kept : goal.returns-in_err-push-in-Exchange-clause-kept
returns-in_err-push-in-Exchange-clause-kept c =
    let may : MayReplace c.args.self.now.tops.items c.args.self.now.draft c.args.frame.node c.args.frame.place c.in-Exchange.operand =
    subst (IsNext c.args.self.now.tops.items c.args.self.now.draft c.args.frame.node c.args.frame.place) c.in-Exchange.is c.requires in
    λ K good x. record { tops = x.tops; restates = subst (Restates K) (sym c.set_operand.ensures) (set_keeps c.args.self.now.tops.items c.args.self.now.draft c.args.frame.node c.args.frame.place c.in-Exchange.operand may K good x.tops x.restates) }

pub returns-in_ok-push-in-Exchange-clause-kept : goal.returns-in_ok-push-in-Exchange-clause-kept
returns-in_ok-push-in-Exchange-clause-kept c =
    let may : MayReplace c.args.self.now.tops.items c.args.self.now.draft c.args.frame.node c.args.frame.place c.in-Exchange.operand =
    subst (IsNext c.args.self.now.tops.items c.args.self.now.draft c.args.frame.node c.args.frame.place) c.in-Exchange.is c.requires in
    λ K good x. record { tops = x.tops; restates = subst (Restates K) (sym c.set_operand.ensures) (set_keeps c.args.self.now.tops.items c.args.self.now.draft c.args.frame.node c.args.frame.place c.in-Exchange.operand may K good x.tops x.restates) }
