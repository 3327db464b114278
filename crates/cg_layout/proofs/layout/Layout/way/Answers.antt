use Rattle.std.proofs.Common.{◌≡◌, ◌∙◌, ap, subst, refl, eqb, List, ℕ}
use Rattle.std.specs.Prelude.{IfOk, string_bytes}
use Rattle.cg_layout.specs.Layout.{frame_of}
use Rattle.cg_layout.proofs.Way.{way_found}
use Rattle.cg_layout.proofs.layout.Layout.way.Goals as goal

pub returns : goal.returns
returns c =
    let A = c.args.self.now in
    let frame : c.self.inside.frame ≡ frame_of A = c.self.invariant.frame ∙ ap frame_of c.self.view_is in
    subst (λ (w : List ℕ). IfOk c.way.result (λ text. string_bytes text ≡ w))
    (way_found A (frame_of A) c.self.inside.frame c.args.node c.args.from c.args.to (eqb c.args.from c.args.to) c.lane_of.result c.chip-first.result c.chip-last.result frame refl c.lane_of.ensures.value c.chip-first.ensures.value c.chip-last.ensures.value)
    c.way.ensures
