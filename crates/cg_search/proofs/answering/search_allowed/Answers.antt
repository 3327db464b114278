use Rattle.std.proofs.Common.{◌+◌, refl, subst}
use Rattle.std.proofs.lemmas.Result.{IfOk-weaker}
use Rattle.cg_intervals.specs.Intervals.{last_tried}
use Rattle.cg_search.specs.Begin.{Begins}
use Rattle.cg_search.proofs.Answers.{answered}
use Rattle.cg_search.proofs.answering.search_allowed.Goals as goal

pub search_from-requires-clause-posed : goal.search_from-requires-clause-posed
search_from-requires-clause-posed g c =
    let begins = subst (Begins c.args.arch.now c.args.kernel.now c.args.request.ii) c.in-At.is c.in_ok-first.ensures in
    record { within = c.requires.within; free = c.requires.free; begin = begins.0; some = begins.1 }

pub returns-in_ok-wiring-in-At : goal.returns-in_ok-wiring-in-At
returns-in_ok-wiring-in-At g c =
    let A = c.args.arch.now in
    let K = c.args.kernel.now in
    let asked = c.args.request.ii in
    let begins = subst (Begins A K asked) c.in-At.is c.in_ok-first.ensures in
    IfOk-weaker c.search_from.result _ _ (λ a tried. answered A K asked c.args.request.moves c.in-At.first a c.requires.free begins.0 tried) c.search_from.ensures

pub returns-in-Nowhere : goal.returns-in-Nowhere
returns-in-Nowhere g c =
    let A = c.args.arch.now in
    let K = c.args.kernel.now in
    let asked = c.args.request.ii in
    let begins = subst (Begins A K asked) c.in-Nowhere.is c.in_ok-first.ensures in
    record { free = c.requires.free; first = last_tried A asked + 1; is_first = begins.0; tried = (refl, begins.1) }
