use Rattle.std.proofs.Common.{◌≡◌, ◌∙◌, sym, arith}
use Rattle.cg_model.specs.declared.array.Kind.TheVariants.{Register, Out}
use Rattle.cg_origins.proofs.WalkSlots.{before_at}
use Rattle.cg_origins.proofs.Walk.{none_leads, register_leads}
use Rattle.cg_origins.proofs.linking.register_step.Goals as goal

pub returns-in_default : goal.returns-in_default
returns-in_default g c = λ slot r reached.
    none_leads c.args.arch.now (g.C.Contexts.config c.args.contexts.now) c.driver_at.ensures.valid slot r c.args.here reached
    (λ e. let h : Register ≡ Out = sym c.requires.register ∙ e in absurd (cc)) (sym c.driver_at.ensures.driver ∙ c.in_default.is)

pub returns : goal.returns
returns g c = λ slot r reached.
    let at = c.slot_before.result in
    register_leads c.args.arch.now (g.C.Contexts.config c.args.contexts.now) c.driver_at.ensures.valid slot r c.args.here reached
    c.in-Some.driver at c.requires.register c.in-Some.ensures.driver (omega arith)
    (let h = c.slot_before.ensures.within in let e = c.ii.ensures in omega arith)
    (before_at c.ii.result _ c.args.here.slot 1 at c.ii.ensures c.slot_before.ensures.before)
