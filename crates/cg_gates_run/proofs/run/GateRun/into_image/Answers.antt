use Rattle.std.proofs.Common.{◌≡◌, sym, ap, subst, ◌∙◌}
use Rattle.cg_model.specs.Machine.{cycles}
use Rattle.cg_gates.specs.Gates.{gates_left}
use Rattle.cg_gates_run.specs.Run.{Run, all_cycles}
use Rattle.cg_gates_run.proofs.Running.{left_is}
use Rattle.cg_gates_run.proofs.run.GateRun.into_image.Goals as goal

pub returns-clause-image : goal.returns-clause-image
returns-clause-image g c =
    let v = c.self.inside in
    let k = v.course in
    let G = v.gates.now in
    let C = g.C.Contexts.config v.contexts.now in
    let last : k.done ≡ cycles C k.n = subst (λ (X : Run). X.done ≡ all_cycles X) (sym c.self.view_is) c.requires in
    c.into_image.ensures.image
    ∙ left_is G.arch G.netlist C k.n k.image k.done k v.words.items c.self.invariant.state_is last
    ∙ ap (λ (X : Run). (gates_left X.arch X.netlist X.config X.n X.image).image) c.self.view_is
