use Rattle.std.proofs.Common.{List, sym, subst}
use Rattle.cg_datapath.specs.declared.terminals.Terminals.{Terminals}
use Rattle.cg_datapath.specs.Course.{Course, GiveOuts, AreOutsRight}
use Rattle.cg_datapath.proofs.Given.{given_by}
use Rattle.cg_datapath.proofs.course.Course.give_outs.Goals as goal

pub returns-clause-kept : goal.returns-clause-kept
returns-clause-kept g c = λ f h.
    let v = c.self.inside in
    let inv = c.self.invariant in
    c.set_outs.ensures.kept f
    (given_by v.done v.moment.row inv.moment_is.row v.terminals.items c.deref.result.now c.deref.ensures.value v.history.items c.deref-2.result.now c.deref-2.ensures.value f inv.latencies
    (subst (λ (k : Course). GiveOuts k f) (sym c.self.view_is) h))

pub returns-clause-right : goal.returns-clause-right
returns-clause-right g c = λ f h.
    let v = c.self.inside in
    let inv = c.self.invariant in
    subst (λ (k : Course). AreOutsRight k.terminals c.set_outs.new.words f) c.self.view_is
    (subst (λ (us : List Terminals). AreOutsRight us c.set_outs.new.words f) c.deref.ensures.value
    (c.set_outs.ensures.right f
    (given_by v.done v.moment.row inv.moment_is.row v.terminals.items c.deref.result.now c.deref.ensures.value v.history.items c.deref-2.result.now c.deref-2.ensures.value f inv.latencies
    (subst (λ (k : Course). GiveOuts k f) (sym c.self.view_is) h))))
