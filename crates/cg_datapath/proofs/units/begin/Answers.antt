use Rattle.std.proofs.Common.{◌≡◌, ◌<◌, ◌≤◌, ◌-◌, ◌+◌, ◌⊎◌, inl, inr, None, ℕ, Option, Some, sym, ap, subst, ◌∙◌}
use Rattle.std.specs.Prelude.{slice_index}
use Rattle.cg_model.specs.Work.{Work}
use Rattle.cg_model.specs.Machine.{arguments, begun}
use Rattle.cg_datapath.specs.Terminals.{on_ports}
use Rattle.cg_datapath.specs.Effects.{Begins}
use Rattle.cg_datapath.proofs.Begun.{work_by, begun_is, not_begun, begins_by, begins_nothing, begins_three}
use Rattle.cg_datapath.proofs.units.begin.Goals.{then-round-head-via-then-round-head, then-round-head-via-else-round-head+then-round-head-2}
use Rattle.cg_datapath.proofs.units.begin.Goals as goal

pub returns-clause-work : goal.returns-clause-work
returns-clause-work g c =
    let f = c.args.unit.now in
    let e = c.args.effects.now in
    let op = c.in-Some.op in
    let h = c.head-head.result in
    let turn = c.args.round - h.stage in
    let on_port : ℕ → ℕ = on_ports c.args.ports c.args.words.now in
    let w : Work = work_by h f c.args.round on_port op in
    let is : begun f c.args.n c.args.round on_port ≡ Some w = begun_is f c.args.n c.args.round on_port op h c.head-head.ensures c.in-Some.is c.if-round-head.false c.if-round-head-2.false in
    let at : (k : ℕ) → slice_index (arguments f turn on_port c.arity-count.result) k ≡ slice_index w.args k = λ k. ap (λ (m : ℕ). slice_index (arguments f turn on_port m) k) c.arity-count.ensures.count in
    begins_by c.args.image.now _ (Some w) e c.begin_work.new.effects c.begin_work.result is
    (begins_three op h.port turn w.args c.operand-a.result c.operand-b.result c.operand-c.result (c.operand-a.ensures ∙ at 0) (c.operand-b.ensures ∙ at 1) (c.operand-c.ensures ∙ at 2)
    c.args.image.now e c.begin_work.new.effects c.begin_work.result c.begin_work.ensures.work)

pub returns-then-round-head-clause-work : goal.returns-then-round-head-clause-work
returns-then-round-head-clause-work g c =
    let f = c.args.unit.now in
    let h = c.head-head.result in
    let e = c.args.effects.now in
    let on_port : ℕ → ℕ = on_ports c.args.ports c.args.words.now in
    let idle : (c.args.round < h.stage) ⊎ (h.stage + c.args.n ≤ c.args.round) =
    elim c.then-round-head.branch [ then-round-head-via-then-round-head w ↦ inl w.if-round-head.true | then-round-head-via-else-round-head+then-round-head-2 w ↦ inr w.if-round-head-2.true ] in
    let none : begun f c.args.n c.args.round on_port ≡ None = not_begun f c.args.n c.args.round on_port c.in-Some.op h c.head-head.ensures c.in-Some.is idle in
    subst (λ (o : Option Work). Begins c.args.image.now o e e 0) (sym none) (begins_nothing c.args.image.now e)
