use Rattle.std.proofs.Common.{◌≡◌, sym, ap, subst, ◌∙◌}
use Rattle.cg_model.specs.Machine.{cycles, machine_left}
use Rattle.cg_sim.specs.Run.{Run, all_cycles}
use Rattle.cg_sim.proofs.Left.{left_is}
use Rattle.cg_sim.proofs.sim.Sim.into_image.Goals as goal

pub returns-clause-image : goal.returns-clause-image
returns-clause-image g c =
    let v = c.self.inside in
    let k = v.course in
    let last : k.done ≡ cycles k.config k.n = subst (λ (X : Run). X.done ≡ all_cycles X) (sym c.self.view_is) c.requires in
    c.into_image.ensures.image
    ∙ left_is k.arch k.config k.n k.image k.done v.words.items v.before.items k c.self.invariant.state_is last
    ∙ ap (λ (X : Run). (machine_left X.arch X.config X.n X.image).image) c.self.view_is
