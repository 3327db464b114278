use Rattle.std.proofs.Common.{◌∙◌, sym}
use Rattle.cg_origins.proofs.Walk.{none_leads, net_leads}
use Rattle.cg_origins.proofs.linking.net_step.Goals as goal

pub returns-in_default : goal.returns-in_default
returns-in_default g c = λ slot r reached.
    none_leads c.args.arch.now (g.C.Contexts.config c.args.contexts.now) c.driver_at.ensures.valid slot r c.args.here reached
    c.requires.not_out (sym c.driver_at.ensures.driver ∙ c.in_default.is)

pub returns : goal.returns
returns g c = λ slot r reached.
    net_leads c.args.arch.now (g.C.Contexts.config c.args.contexts.now) c.driver_at.ensures.valid slot r c.args.here reached
    c.in-Some.driver c.requires.not_out c.requires.not_register c.in-Some.ensures.driver
