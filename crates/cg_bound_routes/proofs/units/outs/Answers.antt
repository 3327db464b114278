use Rattle.std.proofs.Common.{◌≡◌, ◌+◌, ◌<◌, length, sym, ap, ◌∙◌, subst, arith}
use Rattle.std.proofs.lemmas.Bool.{false≢true}
use Rattle.cg_word.specs.Sets.{among}
use Rattle.cg_model.specs.Array.{Arch}
use Rattle.cg_bound_routes.specs.Question.{AreOuts}
use Rattle.cg_bound_routes.proofs.Offering.{unit_read, offered, not_offered, outs_with, outs_without, outs_below}
use Rattle.cg_bound_routes.proofs.units.outs.Goals as goal
use Rattle.cg_bound_routes.proofs.units.outs.Goals.{then-has+then-fit+in_ok-push, else-has, else-has-via-then-has+else-fit, else-has-via-else-has}

pub loop-source-preserved : goal.loop-source-preserved
loop-source-preserved c =
    let A : Arch = c.args.arch.now in
    let x = c.loop-source.source in
    let op = c.args.op in
    let ends = c.args.ends in
    let y = c.args.place in
    let list = c.loop-source.outs.items in
    let e = c.units-units.ensures.units in
    let long : length c.units-units.result.now ≡ length A.units = ap length e in
    let within : x < length A.units = omega arith in
    let read = unit_read A c.units-units.result.now x c.index-units-source.result e within c.index-units-source.is in
    let has = c.has.ensures ∙ ap (λ z. among z.ops op) (sym c.index-units-source.is) in
    elim c.if-has.branch [
      | then-has+then-fit+in_ok-push w ↦
          let again = unit_read A c.units-units.result.now x w.index-units-source-then-fit.result e within w.index-units-source-then-fit.is in
          subst (AreOuts A op ends y (x + 1)) (sym (ap (λ z. z.items) w.outs-is ∙ w.in_ok-push.ensures.items))
          (outs_with A op ends y x list c.loop-source.invariant _ (offered A x c.index-units-source.result op c.has.result read has w.if-has.true) (w.fit.ensures.0 w.if-fit.true) (ap (λ z. z.out) (sym w.index-units-source-then-fit.is ∙ again)))
      | else-has w ↦
          subst (λ z. AreOuts A op ends y (x + 1) z.items) (sym w.outs-is)
          (outs_without A op ends y x list c.loop-source.invariant (λ there fit.
          elim w.else-has.branch [
            | else-has-via-then-has+else-fit v ↦ false≢true (sym v.if-fit.false ∙ v.fit.ensures.1 fit)
            | else-has-via-else-has v ↦ not_offered A x c.index-units-source.result op c.has.result read has v.if-has.false there
          ]))
    ]

pub returns-clause-exact : goal.returns-clause-exact
returns-clause-exact c =
    let A : Arch = c.args.arch.now in
    let long : length c.units-units.result.now ≡ length A.units = ap length c.units-units.ensures.units in
    let over : c.loop-source.source ≡ length A.units = omega arith in
    subst (λ z. AreOuts A c.args.op c.args.ends c.args.place z c.loop-source.outs.items) over c.loop-source.invariant

pub returns-clause-known : goal.returns-clause-known
returns-clause-known c =
    let A : Arch = c.args.arch.now in
    let long : length c.units-units.result.now ≡ length A.units = ap length c.units-units.ensures.units in
    let over : c.loop-source.source ≡ length A.units = omega arith in
    outs_below A c.units-units.ensures.valid c.args.op c.args.ends c.args.place c.loop-source.outs.items
    (subst (λ z. AreOuts A c.args.op c.args.ends c.args.place z c.loop-source.outs.items) over c.loop-source.invariant)
