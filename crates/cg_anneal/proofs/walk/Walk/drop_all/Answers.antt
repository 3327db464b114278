use Rattle.std.proofs.Common.{◌∙◌, ◌<◌, length, get_or, sym, ap, subst}
use Rattle.std.proofs.lemmas.List.{take_all}
use Rattle.cg_walk_spec.specs.State.{edges}
use Rattle.cg_walk_spec.specs.Walk.{unrouted}
use Rattle.cg_anneal.specs.Walking.{Walking, at_state}
use Rattle.cg_anneal.proofs.Loops.{taken_more}
use Rattle.cg_anneal.proofs.walk.Walk.drop_all.Goals as goal

pub take-requires : goal.take-requires
take-requires c =
    let k = c.loop-i.i-index in
    record { known = subst (λ (X : Walking). get_or c.args.list.now k 0 < length (edges X.kernel)) (sym c.loop-i.invariant) (c.requires.known k 0 c.loop-i-test.true) }

pub loop-i-preserved : goal.loop-i-preserved
loop-i-preserved c = taken_more c.args.self.now c.loop-i.self c.take.new.self c.args.list.now c.loop-i.i-index c.loop-i-test.true c.loop-i.invariant c.take.ensures.new

pub returns : goal.returns
returns c =
    let W = c.args.self.now in
    c.loop-i.invariant ∙ ap (λ xs. at_state W (unrouted xs W.state)) (take_all c.loop-i.i-index c.args.list.now c.loop-i-test.false)
